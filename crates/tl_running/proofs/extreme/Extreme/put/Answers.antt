use Rattle.std.proofs.Common.{ap, subst, refl, ◌∙◌, ◌≡◌, rules, w64, SFits, to_z, of_z}
use Rattle.std.proofs.lemmas.Int.{to_z-of_z}
use Rattle.tl_running.specs.Lasting.{ExtremeOf, ordered, Comes}
use Rattle.tl_running.proofs.LastingLemmas.{comes_put}
use Rattle.tl_running.proofs.extreme.Extreme.put.Goals as goal

pub returns : goal.returns
returns c =
    let fits : SFits w64 c.ordered-value.result = search rules in
    let value : to_z w64 (of_z w64 c.ordered-value.result) ≡ ordered c.self.inside.kind c.args.number =
    to_z-of_z w64 c.ordered-value.result fits ∙ c.ordered-value.ensures ∙ ap (ordered c.self.inside.kind) (to_z-of_z w64 c.args.number c.ranges.number) in
    let end : to_z w64 (of_z w64 c.args.end) ≡ c.args.end = to_z-of_z w64 c.args.end c.ranges.end in
    let new : ExtremeOf = record { kind = c.self.inside.kind; kept = c.put.new.self } in
    subst (λ (e : ExtremeOf). Comes e new c.args.number c.args.end) c.self.view_is
    (comes_put (record { kind = c.self.inside.kind; kept = c.self.inside.kept }) new c.args.number (to_z w64 (of_z w64 c.ordered-value.result)) c.args.end (to_z w64 (of_z w64 c.args.end)) refl value end c.in_ok-put.ensures)

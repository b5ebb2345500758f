use Rattle.std.proofs.Common.{ap, sym, subst, ◌∙◌, ◌≤ℤ◌, ◌≡◌, ℤ, rules, w64, SFits, to_z, of_z}
use Rattle.std.proofs.lemmas.Int.{to_z-of_z}
use Rattle.tl_running.specs.Lasting.{ExtremeOf, ordered, Comes}
use Rattle.tl_running.proofs.LastingLemmas.{comes_covered}
use Rattle.tl_running.proofs.extreme.Extreme.covers.Goals as goal

pub returns : goal.returns
returns c =
    let fits : SFits w64 c.ordered-value.result = search rules in
    let value : to_z w64 (of_z w64 c.ordered-value.result) ≡ ordered c.self.inside.kind c.args.number =
    to_z-of_z w64 c.ordered-value.result fits ∙ c.ordered-value.ensures ∙ ap (ordered c.self.inside.kind) (to_z-of_z w64 c.args.number c.ranges.number) in
    let end : to_z w64 (of_z w64 c.args.end) ≡ c.args.end = to_z-of_z w64 c.args.end c.ranges.end in
    λ yes sooner l. subst (λ (e : ExtremeOf). Comes e e c.args.number sooner) c.self.view_is
    (comes_covered (record { kind = c.self.inside.kind; kept = c.self.inside.kept }) c.args.number (to_z w64 (of_z w64 c.ordered-value.result)) (to_z w64 (of_z w64 c.args.end)) sooner value (sym c.covers.ensures ∙ yes) (subst (λ (n : ℤ). sooner ≤ℤ n) (sym end) l))

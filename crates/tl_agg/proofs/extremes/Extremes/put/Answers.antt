use Rattle.std.proofs.Common.{rules, refl, subst, ◌∙◌, ◌≡◌, pos, w64, SFits, to_z, of_z}
use Rattle.std.proofs.lemmas.Int.{to_z-of_z}
use Rattle.tl_running.specs.Lasting.{Comes}
use Rattle.tl_agg.specs.Extremes.{ExtremeState, ExtremePuts}
use Rattle.tl_agg.proofs.extremes.Extremes.put.Goals as goal

pub returns : goal.returns
returns c =
    let fits : SFits w64 c.from.result = search rules in
    let end : to_z w64 (of_z w64 c.from.result) ≡ pos c.args.end = to_z-of_z w64 c.from.result fits ∙ c.from.ensures in
    let numbered = subst (λ n. Comes c.self.inside.extreme c.put.new.self n (to_z w64 (of_z w64 c.from.result))) (to_z-of_z w64 c.args.number c.ranges.number) c.in_ok-put.ensures in
    let new : ExtremeState = record { extreme = c.put.new.self; since = c.self.inside.since; runs = c.self.inside.runs.items } in
    subst (λ (s : ExtremeState). ExtremePuts s new c.args.number (pos c.args.end)) c.self.view_is
    (record { comes = subst (λ n. Comes c.self.inside.extreme c.put.new.self c.args.number n) end numbered; since = refl; runs = refl })

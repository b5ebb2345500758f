use Rattle.std.proofs.Common.{rules, refl, subst, sym, ap, ◌∙◌, ◌≡◌, ◌<◌, pos, w64, SFits, to_z, of_z}
use Rattle.std.proofs.lemmas.Int.{to_z-of_z}
use Rattle.tl_types.specs.Runs.{add_stretch}
use Rattle.tl_agg.specs.Extremes.{ExtremeState, ExtremeAdvances}
use Rattle.tl_agg.proofs.ExtremeLemmas.{extreme_closed}
use Rattle.tl_agg.proofs.extremes.Extremes.close.Goals as goal

pub returns : goal.returns
returns c =
    let old : ExtremeState = record { extreme = c.self.inside.extreme; since = c.self.inside.since; runs = c.self.inside.runs.items } in
    let new : ExtremeState = record { extreme = c.value-value.new.self; since = c.args.to; runs = c.add_stretch.new.runs.items } in
    let fits : SFits w64 c.from.result = search rules in
    let since : to_z w64 (of_z w64 c.from.result) ≡ pos c.self.inside.since = to_z-of_z w64 c.from.result fits ∙ c.from.ensures in
    let kept = rw since at c.value-value.ensures.kept in
    let tells = rw since at c.value-value.ensures.tells in
    subst (λ (s : ExtremeState). ExtremeAdvances s new c.args.to) c.self.view_is
    (extreme_closed old new c.args.to c.value-value.result (subst (λ (s : ExtremeState). s.since < c.args.to) (sym c.self.view_is) c.requires) c.value-value.ensures.kind kept tells refl
    (c.in_ok-add_stretch.ensures ∙ ap (λ rs. add_stretch rs c.stretch_of-stretch.result) c.in_ok-make_room.ensures ∙ ap (add_stretch c.self.inside.runs.items) c.stretch_of-stretch.ensures))

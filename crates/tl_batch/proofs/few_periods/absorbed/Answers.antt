use Rattle.std.proofs.Common.{rules, ◌||◌, ap, ◌∙◌, w64, FitsSigned, of_z, to_z}
use Rattle.std.specs.Int.{int_min, int_max}
use Rattle.std.proofs.lemmas.Int.{to_z-of_z}
use Rattle.tl_batch.specs.Covers.{is_between, is_covered}
use Rattle.tl_batch.proofs.FewPeriodsLemmas.{take_more}
use Rattle.tl_batch.proofs.few_periods.absorbed.Goals as goal

pub absorbing-preserved : goal.absorbing-preserved
absorbing-preserved c =
    let h : FitsSigned w64 c.min-from.result = search rules in
    let k : FitsSigned w64 c.max-to.result = search rules in
    let f : FitsSigned w64 c.start_of.result = search rules in
    let g : FitsSigned w64 c.end_of.result = search rules in
    let m = take_more (to_z w64 c.absorbing.from-bits) (to_z w64 c.absorbing.to-bits) (to_z w64 (of_z w64 c.min-from.result)) (to_z w64 (of_z w64 c.max-to.result)) c.in-Some.at c.remove-taken.result c.absorbing.stretches.items c.remove-taken.new.self.items
    (λ t. is_covered t c.args.stretches.now.items || is_between t c.args.period.from c.args.period.to)
    (rw c.as_slice.ensures at c.in-Some.ensures.some) (rw c.as_slice.ensures at c.in-Some.ensures.within) c.remove-taken.ensures.value c.remove-taken.ensures.items
    (to_z-of_z w64 c.min-from.result h ∙ (c.min-from.ensures.value ∙ ap (int_min (to_z w64 c.absorbing.from-bits)) (to_z-of_z w64 c.start_of.result f ∙ c.start_of.ensures)))
    (to_z-of_z w64 c.max-to.result k ∙ (c.max-to.ensures.value ∙ ap (int_max (to_z w64 c.absorbing.to-bits)) (to_z-of_z w64 c.end_of.result g ∙ c.end_of.ensures)))
    c.absorbing.invariant.beyond c.absorbing.invariant.order c.absorbing.invariant.covers in
    record { beyond = m.0; order = m.1; covers = m.2 }

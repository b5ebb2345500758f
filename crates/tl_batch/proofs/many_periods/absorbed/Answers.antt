use Rattle.std.proofs.Common.{◌||◌, sym, ap, ◌∙◌, w64, rules, FitsSigned, of_z, to_z}
use Rattle.std.specs.Int.{int_min, int_max}
use Rattle.std.proofs.lemmas.Int.{to_z-of_z}
use Rattle.tl_batch.specs.Covers.{is_between, is_covered}
use Rattle.tl_batch.proofs.PeriodSetLemmas.{swallow_fewer, swallow_more}
use Rattle.tl_batch.proofs.many_periods.absorbed.Goals as goal

pub absorbing-smaller : goal.absorbing-smaller
absorbing-smaller c =
    let f : FitsSigned w64 c.in-Some.end = search rules in
    swallow_fewer (to_z w64 c.absorbing.from-bits) (to_z w64 c.absorbing.to-bits) c.in-Some.end c.in-Some.start (to_z w64 (of_z w64 c.in-Some.end)) c.absorbing.stretches.entries c.remove.new.self.entries (sym c.joining.ensures ∙ c.in-Some.is) (to_z-of_z w64 c.in-Some.end f) c.remove.ensures.entries

pub absorbing-preserved : goal.absorbing-preserved
absorbing-preserved c =
    let f : FitsSigned w64 c.in-Some.end = search rules in
    let g : FitsSigned w64 c.in-Some.start = search rules in
    let h : FitsSigned w64 c.min-from.result = search rules in
    let k : FitsSigned w64 c.max-to.result = search rules in
    let m = swallow_more (to_z w64 c.absorbing.from-bits) (to_z w64 c.absorbing.to-bits) c.in-Some.end c.in-Some.start (to_z w64 (of_z w64 c.min-from.result)) (to_z w64 (of_z w64 c.max-to.result)) (to_z w64 (of_z w64 c.in-Some.end)) c.absorbing.stretches.entries c.remove.new.self.entries
    (λ t. is_covered t c.args.stretches.now.entries || is_between t c.args.period.from c.args.period.to) (sym c.joining.ensures ∙ c.in-Some.is) (to_z-of_z w64 c.in-Some.end f) c.remove.ensures.entries
    (to_z-of_z w64 c.min-from.result h ∙ (c.min-from.ensures.value ∙ ap (int_min (to_z w64 c.absorbing.from-bits)) (to_z-of_z w64 c.in-Some.start g)))
    (to_z-of_z w64 c.max-to.result k ∙ (c.max-to.ensures.value ∙ ap (int_max (to_z w64 c.absorbing.to-bits)) (to_z-of_z w64 c.in-Some.end f)))
    c.absorbing.invariant.beyond c.absorbing.invariant.order c.absorbing.invariant.covers in
    record { beyond = m.0; order = m.1; covers = m.2 }

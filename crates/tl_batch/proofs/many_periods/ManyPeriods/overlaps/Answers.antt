use Rattle.std.proofs.Common.{◌∙◌, ap, int_lt, w64, rules, FitsSigned, of_z, to_z}
use Rattle.std.proofs.lemmas.Int.{to_z-of_z}
use Rattle.tl_batch.proofs.OverlapLemmas.{meets_first, meets_none}
use Rattle.tl_batch.proofs.many_periods.ManyPeriods.overlaps.Goals as goal

pub returns-in-Some : goal.returns-in-Some
returns-in-Some c = λ lines full same.
    let f : FitsSigned w64 c.from.result = search rules in
    let g : FitsSigned w64 c.to.result = search rules in
    let k = to_z-of_z w64 c.moment.result (record { sfits = c.moment.type_inv }) in
    meets_first lines c.args.period (int_lt (to_z w64 (of_z w64 c.moment.result)) (to_z w64 (of_z w64 c.to.result))) c.in-Some.field-0-0.now c.in-Some.start.now (to_z w64 (of_z w64 c.from.result)) c.range.result c.next.new.self c.self.inside.stretches.entries c.args.self.now
    (c.range.ensures.between tt) c.in-Some.ensures.steps (to_z-of_z w64 c.from.result f ∙ c.from.ensures.value) (ap (λ z. int_lt z (to_z w64 (of_z w64 c.to.result))) (k ∙ c.moment.ensures) ∙ ap (int_lt c.in-Some.start.now) (to_z-of_z w64 c.to.result g ∙ c.to.ensures.value))
    c.from.ensures.some c.self.invariant c.self.view_is full same

pub returns-in-None : goal.returns-in-None
returns-in-None c = λ lines full same.
    let f : FitsSigned w64 c.from.result = search rules in
    meets_none lines c.args.period (to_z w64 (of_z w64 c.from.result)) c.range.result c.self.inside.stretches.entries c.args.self.now
    (c.range.ensures.between tt) c.in-None.ensures.steps.0 (to_z-of_z w64 c.from.result f ∙ c.from.ensures.value) c.from.ensures.some c.self.invariant c.self.view_is full same

use Rattle.std.proofs.Common.{◌∙◌, refl, rules, w64, FitsSigned, of_z, to_z}
use Rattle.std.proofs.lemmas.Int.{to_z-of_z}
use Rattle.tl_batch.proofs.OverlapLemmas.{meets_few}
use Rattle.tl_batch.proofs.few_periods.overlap.Goals as goal

pub returns : goal.returns
returns c = λ lines full same.
    let f : FitsSigned w64 c.from.result = search rules in
    let g : FitsSigned w64 c.to.result = search rules in
    meets_few lines c.args.period c.first_begins.result (to_z w64 (of_z w64 c.from.result)) (to_z w64 (of_z w64 c.to.result)) c.args.stretches.now c.args.stretches.now c.args.stretches.now c.first_begins.ensures
    (to_z-of_z w64 c.from.result f ∙ c.from.ensures.value) (to_z-of_z w64 c.to.result g ∙ c.to.ensures.value) refl c.from.ensures.some c.requires refl full same

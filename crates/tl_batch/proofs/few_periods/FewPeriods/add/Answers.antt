use Rattle.std.proofs.Common.{rules, refl, ◌||◌, ap, ◌∙◌, w64, FitsSigned}
use Rattle.std.proofs.lemmas.Int.{to_z-of_z}
use Rattle.tl_batch.specs.Covers.{is_between, is_covered}
use Rattle.tl_batch.proofs.PeriodSetLemmas.{after_all, put_beyond, put_covers}
use Rattle.tl_batch.proofs.FewPeriodsLemmas.{put_in}
use Rattle.tl_batch.proofs.few_periods.FewPeriods.add.Goals as goal

pub invariant_of-self-2 : goal.invariant_of-self-2
invariant_of-self-2 c =
    let f : FitsSigned w64 c.absorbed-from.result.0 = search rules in
    let g : FitsSigned w64 c.absorbed-from.result.1 = search rules in
    let made = put_in c.absorbed-from.result.0 c.absorbed-from.result.1 c.ended-at.result c.absorbed-from.new.stretches.items c.insert.new.self.items c.absorbed-from.ensures.alone c.absorbed-from.ensures.order c.absorbed-from.ensures.beyond (rw (to_z-of_z w64 c.absorbed-from.result.0 f, c.as_slice.ensures) at c.ended-at.ensures.number) (rw (to_z-of_z w64 c.absorbed-from.result.0 f, to_z-of_z w64 c.absorbed-from.result.1 g) at c.in_ok-insert.ensures.ok) in
    put_beyond c.absorbed-from.result.0 c.absorbed-from.result.1 c.absorbed-from.result.0 c.absorbed-from.result.1 c.absorbed-from.new.stretches.items c.insert.new.self.items
    c.absorbed-from.ensures.alone (after_all c.absorbed-from.result.0 f) c.absorbed-from.ensures.order c.absorbed-from.ensures.beyond refl refl made

pub returns : goal.returns
returns c = λ t.
    let f : FitsSigned w64 c.absorbed-from.result.0 = search rules in
    let g : FitsSigned w64 c.absorbed-from.result.1 = search rules in
    let made = put_in c.absorbed-from.result.0 c.absorbed-from.result.1 c.ended-at.result c.absorbed-from.new.stretches.items c.insert.new.self.items c.absorbed-from.ensures.alone c.absorbed-from.ensures.order c.absorbed-from.ensures.beyond (rw (to_z-of_z w64 c.absorbed-from.result.0 f, c.as_slice.ensures) at c.ended-at.ensures.number) (rw (to_z-of_z w64 c.absorbed-from.result.0 f, to_z-of_z w64 c.absorbed-from.result.1 g) at c.in_ok-insert.ensures.ok) in
    put_covers t c.absorbed-from.result.0 c.absorbed-from.result.1 c.absorbed-from.result.0 c.absorbed-from.result.1 c.absorbed-from.new.stretches.items c.insert.new.self.items
    c.absorbed-from.ensures.alone c.absorbed-from.ensures.order c.absorbed-from.ensures.beyond refl refl made
    ∙ (c.absorbed-from.ensures.covers t ∙ ap (λ ss. is_between t c.args.period.from c.args.period.to || is_covered t ss) c.self.view_is)

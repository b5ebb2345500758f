use Rattle.std.proofs.Common.{sym, ◌∙◌, w64, arith, rules, FitsSigned, of_z, to_z}
use Rattle.std.proofs.lemmas.Int.{to_z-of_z, ints}
use Rattle.tl_batch.specs.Covers.{walk}
use Rattle.tl_batch.proofs.PeriodSetLemmas.{range_gaps, gaps_stop, gaps_next, gaps_past, left_by_lines}
use Rattle.tl_batch.proofs.many_periods.ManyPeriods.gaps.Goals as goal

pub returns-then-start-to-clause-value : goal.returns-then-start-to-clause-value
returns-then-start-to-clause-value c =
    let f : FitsSigned w64 c.from-from.result = search rules in
    let g : FitsSigned w64 c.to-to.result = search rules in
    let k = to_z-of_z w64 c.moment-start.result (record { sfits = c.moment-start.type_inv }) in
    let s = c.moment-start.ensures in
    gaps_stop (to_z w64 (of_z w64 c.to-to.result)) (to_z w64 c.loop-end.from-bits) c.in-Some.end.now c.in-Some.start.now c.loop-end.left.items c.push_part.new.parts.items (walk c.args.period.from (to_z w64 (of_z w64 c.to-to.result)) c.into_iter-end-iterator.result) c.loop-end.end-iterator c.next.new.self
    c.in-Some.ensures.steps (let h = c.if-start-to.true in omega (arith, ints)) c.in_ok-push_part.ensures c.loop-end.invariant
    ∙ range_gaps c.args.period.from c.args.period.to (to_z w64 (of_z w64 c.from-from.result)) (to_z w64 (of_z w64 c.to-to.result)) c.range-end-items.result c.into_iter-end-iterator.result c.self.inside.stretches.entries c.args.self.now
    c.into_iter-end-iterator.ensures.into_iter_gives (c.range-end-items.ensures.between tt) (to_z-of_z w64 c.from-from.result f ∙ c.from-from.ensures.value) (to_z-of_z w64 c.to-to.result g ∙ c.to-to.ensures.value) c.self.invariant c.self.view_is

pub loop-end-preserved : goal.loop-end-preserved
loop-end-preserved c =
    let k = to_z-of_z w64 c.moment-start.result (record { sfits = c.moment-start.type_inv }) in
    let s = c.moment-start.ensures in
    gaps_next (to_z w64 (of_z w64 c.to-to.result)) (to_z w64 c.loop-end.from-bits) (to_z w64 (of_z w64 c.moment-from.result)) c.in-Some.end.now c.in-Some.start.now c.loop-end.left.items c.push_part-in-loop-end.new.parts.items (walk c.args.period.from (to_z w64 (of_z w64 c.to-to.result)) c.into_iter-end-iterator.result) c.loop-end.end-iterator c.next.new.self
    c.in-Some.ensures.steps (let h = c.if-start-to.false in omega (arith, ints)) (to_z-of_z w64 c.moment-from.result (record { sfits = c.moment-from.type_inv }) ∙ c.moment-from.ensures) (rw (sym s, sym k) c.in_ok-push_part-2.ensures) c.loop-end.invariant

pub returns-clause-value : goal.returns-clause-value
returns-clause-value c =
    let f : FitsSigned w64 c.from-from.result = search rules in
    let g : FitsSigned w64 c.to-to.result = search rules in
    gaps_past (to_z w64 (of_z w64 c.to-to.result)) (to_z w64 c.loop-end.from-bits) c.loop-end.left.items c.push_part-2.new.parts.items (walk c.args.period.from (to_z w64 (of_z w64 c.to-to.result)) c.into_iter-end-iterator.result) c.loop-end.end-iterator
    c.in-None.ensures.steps.0 c.in_ok-push_part-3.ensures c.loop-end.invariant
    ∙ range_gaps c.args.period.from c.args.period.to (to_z w64 (of_z w64 c.from-from.result)) (to_z w64 (of_z w64 c.to-to.result)) c.range-end-items.result c.into_iter-end-iterator.result c.self.inside.stretches.entries c.args.self.now
    c.into_iter-end-iterator.ensures.into_iter_gives (c.range-end-items.ensures.between tt) (to_z-of_z w64 c.from-from.result f ∙ c.from-from.ensures.value) (to_z-of_z w64 c.to-to.result g ∙ c.to-to.ensures.value) c.self.invariant c.self.view_is

pub returns-then-start-to-clause-lines : goal.returns-then-start-to-clause-lines
returns-then-start-to-clause-lines c = λ lines full same. left_by_lines lines c.push_part.new.parts.items c.args.period c.self.inside.stretches.entries c.args.self.now (returns-then-start-to-clause-value c) c.self.view_is c.self.invariant c.to-to.ensures.some full same

pub returns-clause-lines : goal.returns-clause-lines
returns-clause-lines c = λ lines full same. left_by_lines lines c.push_part-2.new.parts.items c.args.period c.self.inside.stretches.entries c.args.self.now (returns-clause-value c) c.self.view_is c.self.invariant c.to-to.ensures.some full same

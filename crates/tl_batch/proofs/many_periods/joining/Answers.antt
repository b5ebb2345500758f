use Rattle.std.proofs.Common.{w64, arith}
use Rattle.std.proofs.lemmas.Int.{to_z-of_z, ints}
use Rattle.tl_batch.proofs.PeriodSetLemmas.{near_none, near_some, near_past}
use Rattle.tl_batch.proofs.many_periods.joining.Goals as goal

pub returns-then-start-to : goal.returns-then-start-to
returns-then-start-to c =
    let b = rw (to_z-of_z w64 c.args.from c.ranges.from) at (c.range.ensures.between tt) in
    let e = to_z-of_z w64 c.moment.result (record { sfits = c.moment.type_inv }) in
    let f = to_z-of_z w64 c.moment-start.result (record { sfits = c.moment-start.type_inv }) in
    let g = to_z-of_z w64 c.args.to c.ranges.to in
    rw (e, f) (near_some c.args.from c.args.to c.args.stretches.now.entries c.range.result c.next.new.self c.moment.result c.moment-start.result c.in-Some.end.now c.in-Some.start.now b c.in-Some.ensures.steps c.moment.ensures c.moment-start.ensures (let h = c.if-start-to.true in omega (arith, ints)))

pub returns-else-start-to : goal.returns-else-start-to
returns-else-start-to c =
    let b = rw (to_z-of_z w64 c.args.from c.ranges.from) at (c.range.ensures.between tt) in
    let f = to_z-of_z w64 c.moment-start.result (record { sfits = c.moment-start.type_inv }) in
    let g = to_z-of_z w64 c.args.to c.ranges.to in
    near_past c.args.from c.args.to c.args.stretches.now.entries c.range.result c.next.new.self c.moment-start.result c.in-Some.end.now c.in-Some.start.now b c.in-Some.ensures.steps c.moment-start.ensures (let h = c.if-start-to.false in omega (arith, ints))

pub returns-in-None : goal.returns-in-None
returns-in-None c =
    let b = rw (to_z-of_z w64 c.args.from c.ranges.from) at (c.range.ensures.between tt) in
    near_none c.args.from c.args.to c.args.stretches.now.entries c.range.result b c.in-None.ensures.steps.0

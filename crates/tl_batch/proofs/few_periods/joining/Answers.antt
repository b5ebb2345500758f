use Rattle.std.proofs.Common.{arith, pos, w64}
use Rattle.std.proofs.lemmas.Int.{ints, to_z-of_z}
use Rattle.tl_batch.proofs.FewPeriodsLemmas.{joins, joins_late, joins_none}
use Rattle.tl_batch.proofs.few_periods.joining.Goals as goal

pub returns-then-start_of-to-clause-some : goal.returns-then-start_of-to-clause-some
returns-then-start_of-to-clause-some c = joins c.args.from c.args.to c.start_of.result c.ended-at.result c.args.stretches.now (pos 0, pos 0) (rw (to_z-of_z w64 c.args.from c.ranges.from) at c.ended-at.ensures.number) (let h = c.if-at-stretches.false in omega arith) c.start_of.ensures (let h = c.if-start_of-to.true in omega (arith, ints))

pub returns-clause-none : goal.returns-clause-none
returns-clause-none c = joins_late c.args.from c.args.to c.start_of.result c.ended-at.result c.args.stretches.now (pos 0, pos 0) (rw (to_z-of_z w64 c.args.from c.ranges.from) at c.ended-at.ensures.number) (let h = c.if-at-stretches.false in omega arith) c.start_of.ensures (let h = c.if-start_of-to.false in omega (arith, ints))

pub returns-then-at-stretches-clause-none : goal.returns-then-at-stretches-clause-none
returns-then-at-stretches-clause-none c = joins_none c.args.from c.args.to c.ended-at.result c.args.stretches.now (rw (to_z-of_z w64 c.args.from c.ranges.from) at c.ended-at.ensures.number) (let h = c.if-at-stretches.true in omega arith)

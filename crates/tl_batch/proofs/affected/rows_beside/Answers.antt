use Rattle.std.proofs.Common.{arith}
use Rattle.tl_batch.proofs.AffectLemmas.{apart_here, apart_next, apart_end}
use Rattle.tl_batch.proofs.affected.rows_beside.Goals as goal

pub period-whole-requires-clause-row : goal.period-whole-requires-clause-row
period-whole-requires-clause-row g c = c.requires.rows c.loop-i.i 0 (omega arith)

pub returns-then-met : goal.returns-then-met
returns-then-met g c = λ lines full same. apart_here lines c.args.table.now.rows c.args.rows.now c.loop-i.i c.affects-met.result c.period-whole.result (omega arith) c.period-whole.ensures (c.affects-met.ensures lines full same) c.if-met.true (c.loop-i.invariant lines full same)

pub loop-i-preserved : goal.loop-i-preserved
loop-i-preserved g c = λ lines full same. apart_next lines c.args.table.now.rows c.args.rows.now c.loop-i.i c.affects-met.result c.period-whole.result (omega arith) c.period-whole.ensures (c.affects-met.ensures lines full same) c.if-met.false (c.loop-i.invariant lines full same)

pub returns : goal.returns
returns g c = λ lines full same. apart_end lines c.args.table.now.rows c.args.rows.now c.loop-i.i (omega arith) (omega arith) (c.loop-i.invariant lines full same)

use Rattle.std.proofs.Common.{arith, get_or, refl}
use Rattle.tl_batch.proofs.RemovalLemmas.{at_all, at_more, full_more}
use Rattle.tl_batch.proofs.faults.periods_of_rows.Goals as goal

pub loop-row-preserved : goal.loop-row-preserved
loop-row-preserved g c = record {
  held = at_more c.args.table.now.schema.key c.args.table.now.rows c.args.rows.now c.loop-row.row-index (get_or c.args.rows.now c.loop-row.row-index 0) c.in_ok-key.key c.period-whole.result c.loop-row.periods c.add.new.self (omega arith) refl c.in_ok-key.ensures c.period-whole.ensures c.loop-row.invariant.held c.in_ok-add.ensures.held;
  full = full_more c.args.table.now.rows c.args.rows.now c.loop-row.row-index (get_or c.args.rows.now c.loop-row.row-index 0) c.period-whole.result (omega arith) refl c.period-whole.ensures c.loop-row.invariant.full c.in_ok-add.ensures.full;
}

pub returns-clause-held : goal.returns-clause-held
returns-clause-held g c = at_all c.args.table.now.schema.key c.args.table.now.rows c.args.rows.now c.loop-row.row-index c.loop-row.periods (omega arith) c.loop-row.invariant.held

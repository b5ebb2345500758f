use Rattle.std.proofs.Common.{◌+◌, true, false, None, Some, refl, arith}
use Rattle.tl_types.specs.declared.batches.BatchFault.TheVariants as fault
use Rattle.tl_batch.proofs.HoldLemmas.{line_held}
use Rattle.tl_batch.proofs.LineFaultLemmas.{fault_here, fault_later}
use Rattle.tl_batch.specs.Lines.{lines_of}
use Rattle.tl_batch.specs.Pieces.{affected_ids}
use Rattle.tl_batch.proofs.RowChangesLemmas.{affected_has, closes_within}
use Rattle.tl_batch.proofs.RemovalLemmas.{row_affected_fault, rows_held, told}
use Rattle.tl_batch.proofs.faults.first_fault.Goals as goal

pub returns-then-not-affected : goal.returns-then-not-affected
returns-then-not-affected g c = fault_here c.args.table.now.schema true c.args.table.now.rows c.args.lines.now c.loop-i.i c.index-lines-i.result (fault.NoRow (c.loop-i.i + 2)) (Some (fault.NoRow (c.loop-i.i + 2))) _ (omega arith) c.index-lines-i.is
    (told c.in_ok-affected.affected false None (Some (fault.NoRow (c.loop-i.i + 2))) _ (row_affected_fault c.args.table.now.schema c.args.table.now.rows c.args.lines.now c.loop-i.i (c.loop-i.i + 2) c.index-lines-i.result c.in_ok-affected.affected c.loop-i.earlier c.in_ok-rows.rows c.requires.valid (omega arith) c.index-lines-i.is (rows_held c.args.table.now.schema (lines_of c.args.lines.now) c.args.table.now.rows c.args.affected.now c.in_ok-rows.rows c.requires.valid c.requires.affected c.in_ok-rows.ensures.held c.in_ok-rows.ensures.full) c.loop-i.invariant.held c.in_ok-affected.ensures) c.if-not-affected.true)
    refl c.loop-i.invariant.none

pub loop-i-preserved : goal.loop-i-preserved
loop-i-preserved g c = record {
  held = line_held c.loop-i.earlier c.add.new.self c.args.lines.now c.loop-i.i c.index-lines-i.result (omega arith) c.index-lines-i.is c.loop-i.invariant.held c.in_ok-add.ensures.held c.in_ok-add.ensures.full;
  none = fault_later c.args.table.now.schema true c.args.table.now.rows c.args.lines.now c.loop-i.i c.index-lines-i.result None _ (omega arith) c.index-lines-i.is
      (told c.in_ok-affected.affected true None (Some (fault.NoRow (c.loop-i.i + 2))) _ (row_affected_fault c.args.table.now.schema c.args.table.now.rows c.args.lines.now c.loop-i.i (c.loop-i.i + 2) c.index-lines-i.result c.in_ok-affected.affected c.loop-i.earlier c.in_ok-rows.rows c.requires.valid (omega arith) c.index-lines-i.is (rows_held c.args.table.now.schema (lines_of c.args.lines.now) c.args.table.now.rows c.args.affected.now c.in_ok-rows.rows c.requires.valid c.requires.affected c.in_ok-rows.ensures.held c.in_ok-rows.ensures.full) c.loop-i.invariant.held c.in_ok-affected.ensures) c.if-not-affected.false)
      refl c.loop-i.invariant.none;
}

pub periods_of_rows-requires-clause-rows : goal.periods_of_rows-requires-clause-rows
periods_of_rows-requires-clause-rows g c = closes_within c.args.table.now.schema (lines_of c.args.lines.now) c.args.table.now.rows (affected_ids c.args.table.now.schema (lines_of c.args.lines.now) 0 c.args.table.now.rows) c.args.affected.now c.requires.affected (affected_has c.args.table.now.schema (lines_of c.args.lines.now) c.args.table.now.rows)

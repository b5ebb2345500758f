use Rattle.std.proofs.Common.{◌≡◌, ◌+◌, [], true, take, drop}
use Rattle.tl_batch.specs.Covers.{HoldLines}
use Rattle.tl_batch.specs.Faults.{fault_from}
use Rattle.tl_batch.specs.Lines.{lines_of}
use Rattle.tl_batch.proofs.faults.first_fault.Given as goal

abbrev pub invariant-loop-i : goal.invariant-loop-i
invariant-loop-i g l = record {
  held : HoldLines l.earlier (lines_of (take l.i l.lines));
  none : fault_from l.table.schema true l.table.rows 2 [] (lines_of l.lines) ≡ fault_from l.table.schema true l.table.rows (l.i + 2) (lines_of (take l.i l.lines)) (lines_of (drop l.i l.lines));
}

use Rattle.std.proofs.Common.{◌≡◌, ◌≤◌, length}
use Rattle.tl_csv.specs.Faults.{each_from}
use Rattle.tl_csv.specs.Block.{line_of}
use Rattle.tl_csv.specs.BlockRecords.{block_left, KeepsBlock}
use Rattle.tl_csv.proofs.FaultLemmas.{behind}
use Rattle.tl_csv.proofs.batches.lines_of.Given as goal

abbrev pub invariant-records : goal.invariant-records
invariant-records l = record {
  rows : behind l.lines.rows.items (each_from (line_of l.limits l.layout) (length l.lines.rows.items) (block_left l.records)) ≡ each_from (line_of l.limits l.layout) 0 (block_left l.fn.records);
  few : length l.lines.rows.items ≤ l.limits.batch;
  kept : KeepsBlock l.fn.records l.records;
}

abbrev pub decreases-records : goal.decreases-records
decreases-records l = length (block_left l.records)

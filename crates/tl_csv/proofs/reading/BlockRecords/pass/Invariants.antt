use Rattle.std.proofs.Common.{length}
use Rattle.tl_csv.specs.BlockRecords.{block_left, KeepsBlock}
use Rattle.tl_csv.proofs.reading.BlockRecords.pass.Given as goal

abbrev pub invariant-records : goal.invariant-records
invariant-records l = KeepsBlock l.fn.self l.self

abbrev pub decreases-records : goal.decreases-records
decreases-records l = length (block_left l.self)

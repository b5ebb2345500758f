use Rattle.std.proofs.Common.{drop}
use Rattle.tl_csv.specs.BlockRecords.{IsBefore}
use Rattle.tl_csv.specs.LentBlocks.{plain_of}
use Rattle.tl_csv.proofs.block_readers.records_at.Given as goal

abbrev pub invariant-loop-at : goal.invariant-loop-at
invariant-loop-at l = IsBefore l.records (plain_of (drop l.at l.blocks))

use Rattle.std.proofs.Common.{length}
use Rattle.tl_record.proofs.lengths.+cells_len.Given as goal

abbrev pub decreases-cells_len : goal.decreases-cells_len
decreases-cells_len l = length l.cells.now

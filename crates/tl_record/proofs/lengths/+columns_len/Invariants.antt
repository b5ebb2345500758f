use Rattle.std.proofs.Common.{length}
use Rattle.tl_record.proofs.lengths.+columns_len.Given as goal

abbrev pub decreases-columns_len : goal.decreases-columns_len
decreases-columns_len l = length l.columns.now

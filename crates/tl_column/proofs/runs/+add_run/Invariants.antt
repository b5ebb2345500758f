use Rattle.std.proofs.Common.{vec_len}
use Rattle.tl_column.proofs.runs.+add_run.Given as goal

abbrev pub decreases-add_run : goal.decreases-add_run
decreases-add_run l = vec_len l.runs.now

use Rattle.std.proofs.Common.{length}
use Rattle.tl_column.proofs.runs.+code_in_run.Given as goal

abbrev pub decreases-code_in_run : goal.decreases-code_in_run
decreases-code_in_run l = length l.run.now

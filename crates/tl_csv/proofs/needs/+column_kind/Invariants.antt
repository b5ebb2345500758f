use Rattle.std.proofs.Common.{length}
use Rattle.tl_csv.proofs.needs.+column_kind.Given as goal

abbrev pub decreases-column_kind : goal.decreases-column_kind
decreases-column_kind l = length l.columns.now

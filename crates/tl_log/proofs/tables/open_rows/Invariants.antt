use Rattle.tl_types.specs.History.{database_of, rows_of}
use Rattle.tl_log.proofs.TableLemmas.{Counts}
use Rattle.tl_log.proofs.tables.open_rows.Given as goal

abbrev pub invariant-loop-row : goal.invariant-loop-row
invariant-loop-row g l = Counts (rows_of (database_of l.store) l.table) l.row l.count

use Rattle.std.proofs.Common.{◌≡◌, length, take}
use Rattle.std.specs.List.{filter}
use Rattle.tl_types.specs.History.{database_of, is_open, rows_of}
use Rattle.tl_batch.proofs.making.open_rows_from.Given as goal

abbrev pub invariant-loop-row : goal.invariant-loop-row
invariant-loop-row g l = l.count ≡ length (filter is_open (take l.row (rows_of (database_of l.store) l.number)))

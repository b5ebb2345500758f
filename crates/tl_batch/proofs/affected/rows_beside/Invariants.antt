use Rattle.std.proofs.Common.{◌≡◌, ◌+◌, ℤ, List, Option, drop}
use Rattle.std.specs.List.{list_any}
use Rattle.tl_types.specs.Plain as plain
use Rattle.tl_types.specs.History.{is_within}
use Rattle.tl_batch.specs.Covers.{Full, is_covered}
use Rattle.tl_batch.specs.Pieces.{apart_from}
use Rattle.tl_batch.proofs.affected.rows_beside.Given as goal

abbrev pub invariant-loop-i : goal.invariant-loop-i
invariant-loop-i g l = (lines : List (Option plain.Period)) → Full lines → ((t : ℤ) → is_covered t l.cover ≡ list_any (is_within t) lines) → l.i + apart_from lines l.table.rows (drop l.i l.rows) ≡ apart_from lines l.table.rows l.rows

use Rattle.std.proofs.Common.{◌≡◌, ◌<◌, ℕ, ℤ, List, Option, true, ◌&&◌, ◌||◌, length, slice_get}
use Rattle.std.specs.List.{All, list_any}
use Rattle.tl_types.specs.Plain as plain
use Rattle.tl_types.specs.History.{has_id, is_within}
use Rattle.tl_batch.specs.Covers.{Full, is_covered}
use Rattle.tl_batch.specs.Pieces.{affected_by, apart_from}
use Rattle.tl_batch.specs.Standing.{is_open_with}
use Rattle.tl_batch.proofs.affected.add_rows.Given as goal

abbrev pub invariant-rows : goal.invariant-rows
invariant-rows g l = record {
  within : All (λ row. row < length l.table.rows) l.rest;
  apart : (lines : List (Option plain.Period)) → Full lines → ((t : ℤ) → is_covered t l.moments ≡ list_any (is_within t) lines) → l.apart ≡ apart_from lines l.table.rows l.rest;
  affected : (lines : List (Option plain.Period)) → Full lines → ((t : ℤ) → is_covered t l.moments ≡ list_any (is_within t) lines) → (n : ℕ) → ((has_id l.rest n && affected_by true lines (slice_get l.table.rows n)) || has_id l.affected n) ≡ ((is_open_with l.table.schema.key l.key (slice_get l.table.rows n) && affected_by true lines (slice_get l.table.rows n)) || has_id l.fn.affected n);
}

abbrev pub decreases-rows : goal.decreases-rows
decreases-rows g l = length l.rest

-- The first fault of the lines of a batch, read off the rows of the table.
use Rattle.std.specs.Prelude.{◌≡◌, ℤ, ℕ, ◌+◌, Bool, true, false, ◌&&◌, not, List, [], ◌∷◌, ◌++◌, Option, Some, None, if◌then◌else◌, slice_get}
use Rattle.std.specs.List.{list_any}
use Rattle.tl_types.specs.declared.cells.Cell.{Cell}
use Rattle.tl_types.specs.declared.batches.BatchFault.{BatchFault}
use Rattle.tl_types.specs.declared.batches.BatchFault.TheVariants as fault
use Rattle.tl_types.specs.Plain as plain
use Rattle.tl_types.specs.History.{is_open, is_within}
use Rattle.tl_types.specs.Resolving.{BatchLine, same_key}
use Rattle.tl_batch.specs.Covers.{Full, cover_at, is_covered, is_said}
use Rattle.tl_batch.specs.Pieces.{affects_period, cuts, periods_with}

-- the row is current, and the line affects a part that the earlier lines left of it
abbrev pub is_row_affected : plain.Schema → List BatchLine → BatchLine → plain.Row → Bool
is_row_affected schema earlier said row =
    is_open row && (same_key (slice_get row.cells schema.key) said.key
    && list_any (λ p. affects_period schema.valid said.period p)
    (cuts schema.valid (periods_with (slice_get row.cells schema.key) earlier) row.period))

-- the first fault of lines from a record number on, after the earlier ones: a key that an earlier
-- line has, in a table without valid time, then, where the lines remove, a line that affects no row
abbrev pub fault_from : plain.Schema → Bool → List plain.Row → ℕ → List BatchLine → List BatchLine
    → Option BatchFault
fault_from schema removes rows rec earlier [] = None
fault_from schema removes rows rec earlier (said ∷ lines) =
    if not schema.valid && list_any (λ e. same_key e.key said.key) earlier
    then Some (fault.KeyTwice rec)
    else (if removes && not (list_any (is_row_affected schema earlier said) rows) then Some
    (fault.NoRow rec)
    else fault_from schema removes rows (rec + 1) (earlier ++ said ∷ []) lines)

-- the fault of one line with a record number, behind the earlier ones
abbrev pub fault_of : plain.Schema → Bool → List plain.Row → List BatchLine → BatchLine → ℕ
    → Option BatchFault
fault_of schema removes rows earlier said rec =
    if not schema.valid && list_any (λ e. same_key e.key said.key) earlier
    then Some (fault.KeyTwice rec)
    else (if removes && not (list_any (is_row_affected schema earlier said) rows) then Some
    (fault.NoRow rec) else None)

-- the period of the row, where it is there
abbrev pub period_of : Option plain.Row → Option plain.Period
period_of None = None
period_of (Some row) = row.period

-- the periods of the current rows of a key, which is the cell at a place
abbrev pub open_periods : ℕ → Cell → List plain.Row → List (Option plain.Period)
open_periods place x [] = []
open_periods place x (row ∷ rows) =
    if is_open row
    && same_key (slice_get row.cells place) (Some x) then row.period ∷ open_periods place x rows
    else open_periods place x rows

-- the row is there, has the key, which is the cell at a place, and its period has the moment
abbrev pub is_at : ℕ → Cell → ℤ → Option plain.Row → Bool
is_at place x t None = false
is_at place x t (Some row) =
    same_key (slice_get row.cells place) (Some x) && is_within t row.period

-- of some periods those that a line affects
abbrev pub affected_periods : List (Option plain.Period) → List (Option plain.Period)
    → List (Option plain.Period)
affected_periods lines [] = []
affected_periods lines (p ∷ ps) =
    if list_any (λ line. affects_period true line p) lines then p ∷ affected_periods lines ps
    else affected_periods lines ps

-- the periods of the current rows of a key that a line of the key affects
abbrev pub met_periods : ℕ → List BatchLine → Cell → List plain.Row → List (Option plain.Period)
met_periods place lines x rows =
    affected_periods (periods_with (Some x) lines) (open_periods place x rows)

-- for the keys of the first of the lines, the covers have the moments of the current rows that a
-- line affects and no others, and each such row has a moment
pub record HoldRows (place : ℕ) (covers : List (Cell × List (ℤ × ℤ)))
    (first lines : List BatchLine) (rows : List plain.Row) : Type 0 where
  pub full : (x : Cell) → is_said (Some x) first ≡ true → Full (met_periods place lines x rows)
  pub same : (x : Cell) (t : ℤ)
      → is_covered t (cover_at x covers)
      ≡ (is_said (Some x) first && list_any (is_within t) (met_periods place lines x rows))

-- What lines that say all of a table make of its rows, one row after the other.
use Rattle.std.specs.Prelude.{◌≡◌, ℕ, ◌<◌, ℤ, pos, Bool, ◌&&◌, false, List, [], ◌∷◌, length, Option, Some, None, Result, Ok, Err, if◌then◌else◌, slice_get}
use Rattle.std.specs.List.{flat_map}
use Rattle.std.specs.Map.{lookup}
use Rattle.std.specs.Ordering.{int_eq}
use Rattle.tl_types.specs.declared.cells.Cell.{Cell}
use Rattle.tl_types.specs.declared.batches.BatchFault.{BatchFault}
use Rattle.tl_types.specs.Plain as plain
use Rattle.tl_types.specs.History.{same_cell}
use Rattle.tl_types.specs.Resolving.{WorkingRow, same_key, same_row, conflict_fault, sync_change}
use Rattle.tl_batch.specs.Made.{unless_fault}
use Rattle.tl_batch.specs.declared.changing.RowChanges.{RowChanges}
use Rattle.tl_batch.specs.declared.line_places.LineStart.{LineStart}

-- a row of a table, without its versions
abbrev pub as_opened : plain.Row → plain.Opened
as_opened row = record { cells = row.cells; period = row.period }

-- the row with an id as one of the working list, where it is there
abbrev pub working_row : ℕ → Option plain.Row → List WorkingRow
working_row id None = []
working_row id (Some row) = record { id = Some id; row = as_opened row } ∷ []

-- the rows with these ids
abbrev pub working_rows : List plain.Row → List ℕ → List WorkingRow
working_rows rows ids = flat_map (λ id. working_row id (slice_get rows id)) ids

-- the lines without the first one that is the same as a row, where there is one
abbrev pub without_line : plain.Opened → List plain.Opened → List plain.Opened
without_line row [] = []
without_line row (line ∷ lines) =
    if same_row row line then lines else line ∷ without_line row lines

-- the lines that have no mark
abbrev pub unmarked_lines : List plain.Opened → List Bool → List plain.Opened
unmarked_lines [] marks = []
unmarked_lines (line ∷ lines) [] = line ∷ lines
unmarked_lines (line ∷ lines) (mark ∷ marks) =
    if mark then unmarked_lines lines marks else line ∷ unmarked_lines lines marks

-- the moment at which a period begins, 0 where there is none
abbrev pub start_of : Option plain.Period → ℤ
start_of None = pos 0
start_of (Some period) = period.from

-- two lines have one key, which is the cell at a place, and their periods begin at one moment
abbrev pub same_start : ℕ → plain.Opened → plain.Opened → Bool
same_start place o p =
    same_key (slice_get o.cells place) (slice_get p.cells place)
    && int_eq (start_of o.period) (start_of p.period)

-- no line has the key and the start of an earlier one
abbrev pub HaveOwnStarts : ℕ → List plain.Opened → Type 0
HaveOwnStarts place lines =
    (i j : ℕ) (o p : plain.Opened) → i < j → slice_get lines i ≡ Some o → slice_get lines j ≡ Some p
    → same_start place o p ≡ false

-- the place that stands at a key and a start
abbrev pub place_at : Cell → ℤ → List (LineStart × ℕ) → Option ℕ
place_at key from places = lookup (λ s. same_cell key s.key && int_eq from s.from) places

-- the place of each line stands at its key and its start
abbrev pub ArePlaced : ℕ → List plain.Opened → List (LineStart × ℕ) → Type 0
ArePlaced place lines places =
    (i : ℕ) (o : plain.Opened) (key : Cell) → slice_get lines i ≡ Some o
    → slice_get o.cells place ≡ Some key → place_at key (start_of o.period) places ≡ Some i

-- the place of the key among the cells, and the lines that no row is matched with
pub record UnmatchedLines : Type 0 where
  pub key : ℕ
  pub lines : List plain.Opened

-- each line has its place and a mark
pub record AreMarked (place : ℕ) (lines : List plain.Opened) (places : List (LineStart × ℕ))
    (marks : List Bool) : Type 0 where
  pub placed : ArePlaced place lines places
  pub number : length marks ≡ length lines

-- what was made of lines that say all of a table: their first fault, or the rows that they close
-- and open
abbrev pub IsSynced : plain.Table → List plain.Opened → Result RowChanges BatchFault → Type 0
IsSynced table lines (Err f) = conflict_fault table.schema 2 [] lines ≡ Some f
IsSynced table lines (Ok c) =
    (conflict_fault table.schema 2 [] lines ≡ None)
    × (c.closes ≡ (sync_change 0 table lines).closes)
    × (c.opens.items ≡ (sync_change 0 table lines).opens)

-- the change of lines that say all of the table with a number, or the first fault
abbrev pub synced_by : ℕ → ℕ → plain.Table → List plain.Opened → Result plain.Change BatchFault
synced_by limit number table lines =
    unless_fault limit (length table.rows) (sync_change number table lines)
    (conflict_fault table.schema 2 [] lines)

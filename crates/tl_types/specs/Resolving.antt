-- The commit that a batch becomes, or the first reason why it becomes none.
use Rattle.std.specs.Prelude.{ℕ, ◌+◌, ℤ, pos, nat_abs, Bool, true, false, ◌&&◌, ◌||◌, not, nat_le, nat_lt, int_lt, List, [], ◌∷◌, ◌++◌, length, map, Option, Some, None, is_some, Result, Ok, Err, if◌then◌else◌, slice_get}
use Rattle.std.specs.List.{list_any, filter, fold, flat_map, filter_map}
use Rattle.std.specs.Cmp.Lexicographic.{pointwise}
use Rattle.std.specs.Ordering.{int_eq}
use Rattle.tl_types.specs.declared.cells.Cell.{Cell}
use Rattle.tl_types.specs.declared.commits.Commit.{Commit}
use Rattle.tl_types.specs.declared.commits.Body.TheVariants as body
use Rattle.tl_types.specs.declared.batches.KeyLine.{KeyLine}
use Rattle.tl_types.specs.declared.batches.Batch.{Batch}
use Rattle.tl_types.specs.declared.batches.Batch.TheVariants as batch
use Rattle.tl_types.specs.declared.batches.BatchFault.{BatchFault}
use Rattle.tl_types.specs.declared.batches.BatchFault.TheVariants as fault
use Rattle.tl_types.specs.declared.limits.Limits.{Limits}
use Rattle.tl_types.specs.Plain as plain
use Rattle.tl_types.specs.History.{is_open, with_ids, has_id, has_name, same_cell, last_moment}

-- a row of the working list: the id that it has in the table, or none where the batch opens it
pub record WorkingRow : Type 0 where
  pub id : Option ℕ
  pub row : plain.Opened

-- a line of a batch: its key, its period, and the row that it puts, if it puts one
pub record BatchLine : Type 0 where
  pub key : Option Cell
  pub period : Option plain.Period
  pub puts : Option plain.Opened

-- the rows are of one key
abbrev pub same_key : Option Cell → Option Cell → Bool
same_key None y = false
same_key (Some x) None = false
same_key (Some x) (Some y) = same_cell x y

-- two periods overlap: there is a moment in both
abbrev pub overlap : Option plain.Period → Option plain.Period → Bool
overlap None q = false
overlap (Some p) None = false
overlap (Some p) (Some q) = int_lt p.from q.to && int_lt q.from p.to

-- the line affects the row: the row has the line's key, and in a table with valid time their
-- periods overlap
abbrev pub affects : plain.Schema → BatchLine → WorkingRow → Bool
affects schema line working =
    same_key (slice_get working.row.cells schema.key) line.key
    && (not schema.valid || overlap working.row.period line.period)

-- old cells over a period, as a row of the working list that has no id yet
abbrev pub over_period : List Cell → plain.Period → WorkingRow
over_period cells period =
    record { id = None; row = record { cells = cells; period = Some period } }

-- the old cells over a part of the old period, where that part is not empty
abbrev pub remainder : List Cell → ℤ → ℤ → List WorkingRow
remainder cells from to =
    if int_lt from to then over_period cells (record { from = from; to = to }) ∷ [] else []

-- what is left of an affected row: the part before the line's period and the part after it
abbrev pub remainders : BatchLine → WorkingRow → List WorkingRow
remainders line working = left_of line.period working.row.period where
  left_of : Option plain.Period → Option plain.Period → List WorkingRow
  left_of None q = []
  left_of (Some p) None = []
  left_of (Some p) (Some q) =
      remainder working.row.cells q.from p.from ++ remainder working.row.cells p.to q.to

-- the row that a line puts, at the end of the list
abbrev pub put_row : BatchLine → List WorkingRow
put_row line = put line.puts where
  put : Option plain.Opened → List WorkingRow
  put None = []
  put (Some row) = record { id = None; row = row } ∷ []

-- the working list after a line: each affected row is replaced in its place by its remainders, and
-- the row that the line puts comes last
abbrev pub after_line : plain.Schema → List WorkingRow → BatchLine → List WorkingRow
after_line schema list line =
    flat_map (λ w. if affects schema line w then remainders line w else w ∷ []) list ++ put_row line

-- the working list at the start: the open rows of the table, in order of id
abbrev pub open_rows : plain.Table → List WorkingRow
open_rows table =
    map (λ r. record { id = Some r.0; row = record { cells = r.1.cells; period = r.1.period } })
    (filter (λ r. is_open r.1) (with_ids table.rows))

-- the working list at the end
abbrev pub working_list : plain.Table → List BatchLine → List WorkingRow
working_list table lines = fold (after_line table.schema) (open_rows table) lines

-- the ids that rows of the list have in the table
abbrev pub ids_of : List WorkingRow → List ℕ
ids_of list = filter_map (λ w. w.id) list

-- the rows of the list that have no id yet
abbrev pub new_rows : List WorkingRow → List plain.Opened
new_rows list = filter_map (λ w. if is_some w.id then None else Some w.row) list

-- the change that the lines make: it closes the old ids that are no longer in the working list, and
-- opens the rows of the list that have no id yet
abbrev pub change_of : ℕ → plain.Table → List BatchLine → plain.Change
change_of number table lines = record {
  table = number;
  closes =
      filter (λ id. not (has_id (ids_of (working_list table lines)) id)) (ids_of (open_rows table));
  opens = new_rows (working_list table lines);
}

-- the lines of a batch of rows
abbrev pub put_lines : plain.Schema → List plain.Opened → List BatchLine
put_lines schema lines =
    map (λ o. record { key = slice_get o.cells schema.key; period = o.period; puts = Some o }) lines

-- the lines of a removal
abbrev pub removal_lines : List KeyLine → List BatchLine
removal_lines lines = map (λ k. record { key = Some k.key; period = k.period; puts = None }) lines

-- the first fault of the lines from a record number on, over the earlier lines and the working list
-- so far: a key that stands twice in a table without valid time, then a removal that affects no row
abbrev pub line_fault : plain.Schema → ℕ → List BatchLine → List WorkingRow → List BatchLine
    → Option BatchFault
line_fault schema rec earlier list [] = None
line_fault schema rec earlier list (line ∷ lines) =
    if not schema.valid && list_any (λ e. same_key e.key line.key) earlier
    then Some (fault.KeyTwice rec)
    else (if not (is_some line.puts) && not (list_any (affects schema line) list)
    then Some (fault.NoRow rec)
    else line_fault schema (rec + 1) (line ∷ earlier) (after_line schema list line) lines)

-- the number and the table of a name, counted from a number
abbrev pub find_from : ℕ → List ℕ → List plain.Table → Option (ℕ × plain.Table)
find_from n name [] = None
find_from n name (t ∷ ts) = if has_name name t then Some (n, t) else find_from (n + 1) name ts

-- the number and the table of a name
abbrev pub find_table : List ℕ → List plain.Table → Option (ℕ × plain.Table)
find_table name tables = find_from 0 name tables

-- the commit of a change, or its fault: no version is left, then the first fault of a line, then
-- too many rows
abbrev pub resolved_change : Limits → plain.Database → ℕ → Option (ℕ × plain.Table)
    → (plain.Schema → List BatchLine) → Result Commit BatchFault
resolved_change limits db author None lines = Err fault.UnknownTable
resolved_change limits db author (Some (number, table)) lines =
    if nat_le limits.versions db.version then Err fault.VersionsFull
    else after_lines (line_fault table.schema 2 [] (open_rows table) (lines table.schema)) where
      after_lines : Option BatchFault → Result Commit BatchFault
      after_lines (Some e) = Err e
      after_lines None =
          if nat_lt limits.rows
          (length table.rows + length (change_of number table (lines table.schema)).opens)
          then Err fault.RowsFull
          else Ok (record {
            author = author;
            body = body.Change (change_of number table (lines table.schema));
          })

-- two periods are the same, or neither row has one
abbrev pub same_period : Option plain.Period → Option plain.Period → Bool
same_period None None = true
same_period None (Some q) = false
same_period (Some p) None = false
same_period (Some p) (Some q) = int_eq p.from q.from && int_eq p.to q.to

-- two rows have the same cells and the same period
abbrev pub same_row : plain.Opened → plain.Opened → Bool
same_row o p = pointwise same_cell o.cells p.cells && same_period o.period p.period

-- the list without the first of its rows that is the same as a line, where there is one
abbrev pub without_row : plain.Opened → List WorkingRow → List WorkingRow
without_row line [] = []
without_row line (w ∷ list) = if same_row w.row line then list else w ∷ without_row line list

-- the rows of the list that no line is matched with: each line, one after the other, is matched
-- with the first row that is the same and that no line before it is matched with
abbrev pub unmatched_rows : List WorkingRow → List plain.Opened → List WorkingRow
unmatched_rows list [] = list
unmatched_rows list (line ∷ lines) = unmatched_rows (without_row line list) lines

-- the lines that are matched with no row of the list
abbrev pub unmatched_lines : List WorkingRow → List plain.Opened → List plain.Opened
unmatched_lines list [] = []
unmatched_lines list (line ∷ lines) =
    if list_any (λ w. same_row w.row line) list then unmatched_lines (without_row line list) lines
    else line ∷ unmatched_lines list lines

-- the change that makes lines all the open rows of the table: it closes the open rows that no line
-- is matched with, and opens the lines that no row is matched with
abbrev pub sync_change : ℕ → plain.Table → List plain.Opened → plain.Change
sync_change number table lines = record {
  table = number;
  closes = ids_of (unmatched_rows (open_rows table) lines);
  opens = unmatched_lines (open_rows table) lines;
}

-- two lines say what one row has to say: they have one key, and in a table with valid time their
-- periods overlap
abbrev pub conflict : plain.Schema → plain.Opened → plain.Opened → Bool
conflict schema earlier line =
    same_key (slice_get earlier.cells schema.key) (slice_get line.cells schema.key)
    && (not schema.valid || overlap earlier.period line.period)

-- the first fault of the lines from a record number on, after the earlier lines: a line that
-- conflicts with an earlier one
abbrev pub conflict_fault : plain.Schema → ℕ → List plain.Opened → List plain.Opened
    → Option BatchFault
conflict_fault schema rec earlier [] = None
conflict_fault schema rec earlier (line ∷ lines) =
    if list_any (λ e. conflict schema e line) earlier then Some (fault.KeyTwice rec)
    else conflict_fault schema (rec + 1) (line ∷ earlier) lines

-- the commit that makes lines all the open rows of a table, or its fault: no version is left, then
-- the first fault of a line, then too many rows
abbrev pub resolved_sync : Limits → plain.Database → ℕ → List plain.Opened
    → Option (ℕ × plain.Table) → Result Commit BatchFault
resolved_sync limits db author lines None = Err fault.UnknownTable
resolved_sync limits db author lines (Some (number, table)) =
    if nat_le limits.versions db.version then Err fault.VersionsFull
    else after_lines (conflict_fault table.schema 2 [] lines) where
      after_lines : Option BatchFault → Result Commit BatchFault
      after_lines (Some e) = Err e
      after_lines None =
          if nat_lt limits.rows
          (length table.rows + length (sync_change number table lines).opens)
          then Err fault.RowsFull
          else Ok (record {
            author = author;
            body = body.Change (sync_change number table lines);
          })

-- the commit that states a moment, or its fault: no version is left, then a last moment that is not
-- less
abbrev pub resolved_moment : Limits → plain.Database → ℕ → ℤ → Option ℤ → Result Commit BatchFault
resolved_moment limits db author moment last =
    if nat_le limits.versions db.version then Err fault.VersionsFull else after_last last where
      after_last : Option ℤ → Result Commit BatchFault
      after_last None = Ok (record { author = author; body = body.Moment moment })
      after_last (Some now) =
          if int_lt now moment then Ok (record { author = author; body = body.Moment moment })
          else Err (fault.MomentFalls now)

-- the commit that sets a floor, or its fault: no version is left, then a floor past the last
-- version, then one that is not greater than that of its table
abbrev pub resolved_floor : Limits → plain.Database → ℕ → ℤ → Option (ℕ × plain.Table)
    → Result Commit BatchFault
resolved_floor limits db author floor None = Err fault.UnknownTable
resolved_floor limits db author floor (Some (number, table)) =
    if nat_le limits.versions db.version then Err fault.VersionsFull
    else (if int_lt (pos db.version) floor then Err (fault.FloorAhead db.version)
    else (if int_lt (pos table.floor) floor
    then Ok (record { author = author; body = body.Forget number (nat_abs floor) })
    else Err (fault.FloorFalls table.floor)))

-- the commit that a batch of this author becomes, or its first fault
abbrev pub resolved : Limits → plain.Database → ℕ → Batch → Result Commit BatchFault
resolved limits db author (batch.Create schema) =
    if list_any (has_name schema.name) db.tables then Err fault.TableExists
    else (if nat_le limits.tables (length db.tables) then Err fault.TablesFull
    else (if nat_le limits.versions db.version then Err fault.VersionsFull
    else Ok (record { author = author; body = body.Create schema })))
resolved limits db author (batch.Put name lines) =
    resolved_change limits db author (find_table name db.tables) (λ schema. put_lines schema lines)
resolved limits db author (batch.Remove name lines) =
    resolved_change limits db author (find_table name db.tables) (λ schema. removal_lines lines)
resolved limits db author (batch.Sync name lines) =
    resolved_sync limits db author lines (find_table name db.tables)
resolved limits db author (batch.Moment moment) =
    resolved_moment limits db author moment (last_moment db.stamps)
resolved limits db author (batch.Forget name floor) =
    resolved_floor limits db author floor (find_table name db.tables)

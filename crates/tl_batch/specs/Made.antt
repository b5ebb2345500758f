-- The commit of a batch, read off the rows of its table.
use Rattle.std.specs.Prelude.{◌≡◌, ℕ, ◌+◌, ◌≤◌, ℤ, pos, nat_abs, int_lt, Bool, true, nat_lt, List, [], ◌++◌, length, Option, Some, None, is_some, Result, Ok, Err, if◌then◌else◌}
use Rattle.std.specs.List.{list_all}
use Rattle.tl_types.specs.declared.commits.Commit.{Commit}
use Rattle.tl_types.specs.declared.commits.Body.TheVariants as body
use Rattle.tl_types.specs.declared.batches.Batch.{Batch}
use Rattle.tl_types.specs.declared.batches.Batch.TheVariants as batch
use Rattle.tl_types.specs.declared.batches.BatchFault.{BatchFault}
use Rattle.tl_types.specs.declared.batches.BatchFault.TheVariants as fault
use Rattle.tl_types.specs.declared.limits.Limits.{Limits}
use Rattle.tl_types.specs.Plain as plain
use Rattle.tl_types.specs.History.{matches}
use Rattle.tl_types.specs.Resolving.{BatchLine, find_table}
use Rattle.tl_batch.specs.Pieces.{affected_ids, old_pieces, put_pieces}
use Rattle.tl_batch.specs.Faults.{fault_from}
use Rattle.tl_batch.specs.declared.changing.RowChanges.{RowChanges}

-- a batch that puts, removes or syncs rows names a table that is there
abbrev pub names_table : plain.Database → Batch → Bool
names_table db (batch.Create schema) = true
names_table db (batch.Put name lines) = is_some (find_table name db.tables)
names_table db (batch.Remove name lines) = is_some (find_table name db.tables)
names_table db (batch.Sync name lines) = is_some (find_table name db.tables)
names_table db (batch.Moment moment) = true
names_table db (batch.Forget name floor) = true

-- the change that lines make in the table with a number, by its rows
abbrev pub change_by : ℕ → plain.Schema → List plain.Row → List BatchLine → plain.Change
change_by number schema rows lines =
    record {
      table = number;
      closes = affected_ids schema lines 0 rows;
      opens = old_pieces schema lines
          rows ++ put_pieces schema lines;
    }

-- the change of a table with so many rows, where no line has a fault and it leaves no more rows
-- than the limit
abbrev pub unless_fault : ℕ → ℕ → plain.Change → Option BatchFault → Result plain.Change BatchFault
unless_fault limit count change (Some f) = Err f
unless_fault limit count change None =
    if nat_lt limit (count + length change.opens) then Err fault.RowsFull else Ok change

-- the change that lines make in the table with a number, by its rows, or the first fault
abbrev pub made_by : ℕ → ℕ → Bool → plain.Schema → List plain.Row → List BatchLine
    → Result plain.Change BatchFault
made_by limit number removes schema rows lines =
    unless_fault limit (length rows) (change_by number schema rows lines)
    (fault_from schema removes rows 2 [] lines)

-- what was made of lines of a table: their first fault, or the rows that they close and open
abbrev pub IsMade : Bool → plain.Schema → List plain.Row → List BatchLine
    → Result RowChanges BatchFault → Type 0
IsMade removes schema rows lines (Err f) = fault_from schema removes rows 2 [] lines ≡ Some f
IsMade removes schema rows lines (Ok c) =
    (fault_from schema removes rows 2 [] lines ≡ None)
    × (c.closes ≡ affected_ids schema lines 0 rows)
    × (c.opens.items ≡ old_pieces schema lines rows ++ put_pieces schema lines)

-- the same of the rows that lines close alone
abbrev pub IsClosed : Bool → plain.Schema → List plain.Row → List BatchLine
    → Result (List ℕ) BatchFault → Type 0
IsClosed removes schema rows lines (Err f) = fault_from schema removes rows 2 [] lines ≡ Some f
IsClosed removes schema rows lines (Ok ids) =
    (fault_from schema removes rows 2 [] lines ≡ None) × (ids ≡ affected_ids schema lines 0 rows)

-- the change of what was made in a table with so many rows
abbrev pub change_made : ℕ → ℕ → ℕ → Result RowChanges BatchFault → Result plain.Change BatchFault
change_made limit number count (Err f) = Err f
change_made limit number count (Ok c) =
    unless_fault limit count (record { table = number; closes = c.closes; opens = c.opens.items })
    None

-- the author's commit of the change
abbrev pub committed : ℕ → Result plain.Change BatchFault → Result Commit BatchFault
committed author (Err f) = Err f
committed author (Ok change) = Ok (record { author = author; body = body.Change change })

-- the author's commit that sets the floor of the table with a number, at so many commits and where
-- this floor stands, or its fault
abbrev pub floor_set : ℕ → ℕ → ℕ → ℕ → ℤ → Result Commit BatchFault
floor_set author number now least floor =
    if int_lt (pos now) floor then Err (fault.FloorAhead now)
    else (if int_lt (pos least) floor
    then Ok (record { author = author; body = body.Forget number (nat_abs floor) })
    else Err (fault.FloorFalls least))

-- the rows match the schema of the table that was found, if one was
abbrev pub rows_fit_found : List plain.Opened → Option (ℕ × plain.Table) → Bool
rows_fit_found lines None = true
rows_fit_found lines (Some found) = list_all (matches found.1.schema) lines

-- the rows that the batch puts or syncs match the schema of its table, where there is one
abbrev pub batch_matches : plain.Database → Batch → Bool
batch_matches db (batch.Create schema) = true
batch_matches db (batch.Put name lines) = rows_fit_found lines (find_table name db.tables)
batch_matches db (batch.Remove name lines) = true
batch_matches db (batch.Sync name lines) = rows_fit_found lines (find_table name db.tables)
batch_matches db (batch.Moment moment) = true
batch_matches db (batch.Forget name floor) = true

-- of tables, rows and versions the others allow what these limits allow
pub record AreWithin (limits others : Limits) : Type 0 where
  pub tables : limits.tables ≤ others.tables
  pub rows : limits.rows ≤ others.rows
  pub versions : limits.versions ≤ others.versions

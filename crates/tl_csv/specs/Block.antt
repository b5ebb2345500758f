-- The batch of a block, or its first fault.
use Rattle.std.specs.Prelude.{ℕ, ◌≡◌, ◌≤◌, true, ◌+◌, ℤ, pos, Bool, ◌&&◌, nat_le, nat_lt, int_lt, ◌==◌, List, [], ◌∷◌, ◌++◌, length, map, take, drop, get_or, Option, Some, None, is_some, Result, Ok, Err, if◌then◌else◌}
use Rattle.std.specs.Bool.{beq}
use Rattle.std.specs.Str.{is_utf8}
use Rattle.std.specs.List.{list_all, zip}
use Rattle.std.specs.Option.{ok_or}
use Rattle.csv.specs.Reading.{default_config, records}
use Rattle.tl_types.specs.declared.cells.Cell.{Cell}
use Rattle.tl_types.specs.declared.cells.Cell.TheVariants as cell
use Rattle.tl_types.specs.declared.cells.ColumnKind.TheVariants.{IntKind, TextKind}
use Rattle.tl_types.specs.declared.limits.Limits.{Limits}
use Rattle.tl_types.specs.declared.batches.KeyLine.{KeyLine}
use Rattle.tl_types.specs.declared.batches.Batch.{Batch}
use Rattle.tl_types.specs.declared.batches.Batch.TheVariants as batch
use Rattle.tl_types.specs.Plain as plain
use Rattle.tl_types.specs.History.{matches, match_columns}
use Rattle.tl_csv.specs.declared.faults.CsvFault.{CsvFault}
use Rattle.tl_csv.specs.declared.faults.CsvFault.TheVariants as fault
use Rattle.tl_csv.specs.declared.needs.BatchKind.{BatchKind}
use Rattle.tl_csv.specs.declared.needs.BatchKind.TheVariants.{PutKind, RemoveKind, SyncKind}
use Rattle.tl_csv.specs.declared.needs.FieldKind.{FieldKind}
use Rattle.tl_csv.specs.declared.needs.FieldKind.TheVariants as kinds
use Rattle.tl_csv.specs.declared.layouts.PeriodPlaces.{PeriodPlaces}
use Rattle.tl_csv.specs.ByteOrderMarks.{past_byte_order_marks}
use Rattle.tl_csv.specs.Layouts.{Layout}
use Rattle.tl_csv.specs.Numbers.{integer_of, end_of}
use Rattle.tl_csv.specs.Faults.{◌>>=◌, each_from}
use Rattle.tl_csv.specs.Header.{columns_of, layout_of}

-- FIELDS

-- the cell of a number
abbrev pub int_cell : ℕ → ℕ → Option ℤ → Result Cell CsvFault
int_cell rec i number = ok_or number (fault.NotInt rec (i + 1)) >>= λ z. Ok (cell.Int z)

-- the cell of a text
abbrev pub text_cell : Limits → ℕ → ℕ → List ℕ → Result Cell CsvFault
text_cell limits rec i field =
    if nat_lt limits.text (length field) then Err (fault.TextTooLong rec (i + 1))
    else Ok (cell.Text field)

-- the cell of the i-th field of a record, which is of this kind; an end of a period is a number
abbrev pub cell_of : Limits → ℕ → ℕ → FieldKind → List ℕ → Result Cell CsvFault
cell_of limits rec i kind field =
    if is_utf8 field then of_kind kind else Err (fault.NotUtf8 rec (i + 1)) where
      of_kind : FieldKind → Result Cell CsvFault
      of_kind kinds.From = int_cell rec i (integer_of field)
      of_kind kinds.To = int_cell rec i (end_of field)
      of_kind (kinds.Cell IntKind) = int_cell rec i (integer_of field)
      of_kind (kinds.Cell TextKind) = text_cell limits rec i field

-- RECORDS

-- the cell of the i-th field of a record, which stands beside its kind
abbrev pub cell_at : Limits → ℕ → ℕ → FieldKind × List ℕ → Result Cell CsvFault
cell_at limits rec i beside = cell_of limits rec i beside.0 beside.1

-- the period between two moments, of which the first must be less than the second
abbrev pub period_between : ℕ → Cell → Cell → Result plain.Period CsvFault
period_between rec (cell.Int from) (cell.Int to) =
    if int_lt from to then Ok (record { from = from; to = to }) else Err (fault.EmptyPeriod rec)
period_between rec (cell.Int from) (cell.Text t) = Err (fault.EmptyPeriod rec)
period_between rec (cell.Text s) to = Err (fault.EmptyPeriod rec)

-- the cell at a place of a record, where each place of a layout is that of a field
abbrev pub cell_in : List Cell → ℕ → Cell
cell_in cells place = get_or cells place (cell.Int (pos 0))

-- the period of a record with these cells, where the table has valid time
abbrev pub period_of : ℕ → List Cell → Option PeriodPlaces → Result (Option plain.Period) CsvFault
period_of rec cells None = Ok None
period_of rec cells (Some places) =
    period_between rec (cell_in cells places.from) (cell_in cells places.to) >>= λ period.
    Ok (Some period)

-- the row of a record with these cells: those of the columns in the order of the table, and the
-- period
abbrev pub row_with : Layout → ℕ → List Cell → Result plain.Opened CsvFault
row_with layout rec cells =
    period_of rec cells layout.period >>= λ period.
    Ok (record { cells = map (cell_in cells) layout.columns; period = period })

-- the row of a record: it has as many fields as the header, each field gives a cell, and then the
-- period is not empty
abbrev pub row_of : Limits → Layout → ℕ → List (List ℕ) → Result plain.Opened CsvFault
row_of limits layout rec fields =
    if length fields == length layout.kinds
    then each_from (cell_at limits rec) 0 (zip layout.kinds fields) >>= row_with layout rec
    else Err (fault.FieldCount rec)

-- the same where the cells of the columns come first, in the order of the table
abbrev pub row_in_order : Limits → Layout → ℕ → List (List ℕ) → Result plain.Opened CsvFault
row_in_order limits layout rec fields =
    each_from (cell_at limits rec) 0 (zip (take (length layout.columns) layout.kinds) fields)
    >>= λ xs.
    each_from (cell_at limits rec) (length layout.columns)
    (zip (drop (length layout.columns) layout.kinds) (drop (length layout.columns) fields))
    >>= λ ys.
    period_of rec (xs ++ ys) layout.period >>= λ period.
    Ok (record { cells = xs; period = period })

-- the row of the i-th record behind the header, which is not past the limit of records
abbrev pub line_of : Limits → Layout → ℕ → List (List ℕ) → Result plain.Opened CsvFault
line_of limits layout i fields =
    if nat_le limits.batch i then Err (fault.BatchTooLong (i + 2))
    else row_of limits layout (i + 2) fields

-- BATCHES

-- the rows of the records, of which the first is the header; where there is none, the first column
-- is not named. Those of a removal have the key as their one cell
abbrev pub rows_of : Limits → plain.Schema → BatchKind → List (List (List ℕ))
    → Result (List plain.Opened) CsvFault
rows_of limits schema kind [] = Err (fault.HeaderMissing 1)
rows_of limits schema kind (header ∷ behind) =
    layout_of schema kind header >>= λ layout. each_from (line_of limits layout) 0 behind

-- the first cell; a row has one or more
abbrev pub first_cell : List Cell → Cell
first_cell [] = cell.Int (pos 0)
first_cell (x ∷ xs) = x

-- the line of a removal
abbrev pub key_line : plain.Opened → KeyLine
key_line row = record { key = first_cell row.cells; period = row.period }

-- the batch of these rows
abbrev pub batch_with : plain.Schema → BatchKind → List plain.Opened → Batch
batch_with schema PutKind rows = batch.Put schema.name rows
batch_with schema SyncKind rows = batch.Sync schema.name rows
batch_with schema RemoveKind rows = batch.Remove schema.name (map key_line rows)

-- the records of a block: those that csv's default reader gives for the block past its byte order
-- separators
abbrev pub records_of : List ℕ → List (List (List ℕ))
records_of block = records default_config (past_byte_order_marks block)

-- the batch of a block that is read as this kind, or its first fault
abbrev pub batch_of : Limits → plain.Schema → BatchKind → List ℕ → Result Batch CsvFault
batch_of limits schema kind block =
    rows_of limits schema kind (records_of block) >>= λ rows.
    Ok (batch_with schema kind rows)

-- WHAT A BATCH IS

-- what the rows of a batch are: rows of their table, and not too many
pub record AreRowsFor (limits : Limits) (schema : plain.Schema) (rows : List plain.Opened)
    : Type 0 where
  pub matching : list_all (matches schema) rows ≡ true
  pub few : length rows ≤ limits.batch

-- the key is what the key's column holds, and there is a period exactly where the table has valid
-- time
abbrev pub is_key_for : plain.Schema → KeyLine → Bool
is_key_for schema line =
    match_columns (columns_of schema RemoveKind) (line.key ∷ [])
    && beq schema.valid (is_some line.period)

-- what the lines of a removal are: keys of their table, and not too many
pub record AreKeysFor (limits : Limits) (schema : plain.Schema) (lines : List KeyLine)
    : Type 0 where
  pub matching : list_all (is_key_for schema) lines ≡ true
  pub few : length lines ≤ limits.batch

-- the batch is one of the kind for the table, and not too long
abbrev pub IsBatchFor : Limits → plain.Schema → BatchKind → Batch → Type 0
IsBatchFor limits schema kind (batch.Create s) = ⊥
IsBatchFor limits schema kind (batch.Put name rows) =
    (kind ≡ PutKind) × (name ≡ schema.name) × AreRowsFor limits schema rows
IsBatchFor limits schema kind (batch.Remove name lines) =
    (kind ≡ RemoveKind) × (name ≡ schema.name) × AreKeysFor limits schema lines
IsBatchFor limits schema kind (batch.Sync name rows) =
    (kind ≡ SyncKind) × (name ≡ schema.name) × AreRowsFor limits schema rows
IsBatchFor limits schema kind (batch.Moment moment) = ⊥
IsBatchFor limits schema kind (batch.Forget name floor) = ⊥

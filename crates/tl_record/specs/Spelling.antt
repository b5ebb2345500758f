-- The one spelling of each commit in the journal. Numbers have a fixed number of bytes, the most
-- significant first; signed numbers are two's complement.
use Rattle.std.specs.Prelude.{ℕ, ◌^◌, ◌<◌, ◌≤◌, ℤ, pos, negsuc, ◌≤ℤ◌, ◌<ℤ◌, Bool, true, false, IsTrue, List, [], ◌∷◌, ◌++◌, length, Option, Some, None, IsUtf8}
use Rattle.std.specs.List.{flat_map, AllByRecursion}
use Rattle.std.specs.Int.{w16, w32, w64, to_be_bytes, cast_unsigned}
use Rattle.tl_types.specs.declared.cells.Cell.{Cell}
use Rattle.tl_types.specs.declared.cells.Cell.TheVariants as cell
use Rattle.tl_types.specs.declared.cells.ColumnKind.{ColumnKind}
use Rattle.tl_types.specs.declared.cells.ColumnKind.TheVariants.{IntKind, TextKind}
use Rattle.tl_types.specs.declared.schemas.Column.{Column}
use Rattle.tl_types.specs.declared.commits.Commit.{Commit}
use Rattle.tl_types.specs.declared.commits.Body.{Body}
use Rattle.tl_types.specs.declared.commits.Body.TheVariants as body
use Rattle.tl_types.specs.Facts.{is_schema, IsChange, IsOpened}
use Rattle.tl_types.specs.Plain as plain

-- a number of 2 and of 4 bytes
abbrev pub short_number : ℕ → List ℕ
short_number n = to_be_bytes w16 n

abbrev pub number : ℕ → List ℕ
number n = to_be_bytes w32 n

-- a signed number of 8 bytes
abbrev pub signed_number : ℤ → List ℕ
signed_number i = to_be_bytes w64 (cast_unsigned w64 i)

-- a name: its length, and its bytes
abbrev pub name_bytes : List ℕ → List ℕ
name_bytes name = length name ∷ name

-- what a column holds: 1 for numbers, 2 for texts
abbrev pub kind_byte : ColumnKind → ℕ
kind_byte IntKind = 1
kind_byte TextKind = 2

-- a column: its name, and what it holds
abbrev pub column_bytes : Column → List ℕ
column_bytes column = name_bytes column.name ++ kind_byte column.kind ∷ []

-- 1 for yes, 0 for no
abbrev pub flag_byte : Bool → ℕ
flag_byte true = 1
flag_byte false = 0

-- a new table: its name, whether its rows have a valid period, its columns with their number, and
-- the place of the key among them
abbrev pub schema_bytes : plain.Schema → List ℕ
schema_bytes schema =
    name_bytes schema.name ++ flag_byte schema.valid ∷ length schema.columns ∷ []
    ++ flat_map column_bytes schema.columns ++ schema.key ∷ []

-- a cell: 1 and a number, or 2 and a text behind its length
abbrev pub cell_bytes : Cell → List ℕ
cell_bytes (cell.Int i) = 1 ∷ signed_number i
cell_bytes (cell.Text text) = 2 ∷ short_number (length text) ++ text

-- a period: 0 for none, or 1 and both its ends
abbrev pub period_bytes : Option plain.Period → List ℕ
period_bytes None = 0 ∷ []
period_bytes (Some p) = 1 ∷ signed_number p.from ++ signed_number p.to

-- an opened row: its cells with their number, and its period
abbrev pub row_bytes : plain.Opened → List ℕ
row_bytes row = length row.cells ∷ flat_map cell_bytes row.cells ++ period_bytes row.period

-- a change: its table, the closed ids with their number, and the opened rows with theirs
abbrev pub change_bytes : plain.Change → List ℕ
change_bytes change =
    short_number change.table ++ number (length change.closes) ++ flat_map number change.closes
    ++ number (length change.opens) ++ flat_map row_bytes change.opens

-- a floor: its table, and the least version that may be asked of it
abbrev pub floor_bytes : ℕ → ℕ → List ℕ
floor_bytes table floor = short_number table ++ number floor

-- what a commit does: 1 and a new table, 2 and a change, 4 and a moment, or 5 and a floor
abbrev pub body_bytes : Body → List ℕ
body_bytes (body.Create schema) = 1 ∷ schema_bytes schema
body_bytes (body.Change change) = 2 ∷ change_bytes change
body_bytes (body.Moment moment) = 4 ∷ signed_number moment
body_bytes (body.Forget table floor) = 5 ∷ floor_bytes table floor

-- the record of a commit: its author, and what it does
abbrev pub spelling : Commit → List ℕ
spelling commit = number commit.author ++ body_bytes commit.body

-- WHAT EVERY COMMIT KEEPS

-- a signed number of 64 bits
abbrev pub IsSigned : ℤ → Type 0
IsSigned i = (negsuc 9223372036854775807 ≤ℤ i) × (i ≤ℤ pos 9223372036854775807)

-- a number of 64 bits, or a text of at most 65,535 bytes
abbrev pub IsCell : Cell → Type 0
IsCell (cell.Int i) = IsSigned i
IsCell (cell.Text text) = IsUtf8 text × (length text ≤ 65535)

-- the period ends after it begins
abbrev pub IsPeriod : Option plain.Period → Type 0
IsPeriod None = Unit {0}
IsPeriod (Some p) = IsSigned p.from × IsSigned p.to × (p.from <ℤ p.to)

-- the row has 1 to 16 cells, and perhaps a period
abbrev pub IsRow : plain.Opened → Type 0
IsRow row = IsOpened row × AllByRecursion IsCell row.cells × IsPeriod row.period

-- a number of 32 bits
abbrev pub IsNumber : ℕ → Type 0
IsNumber n = n < 2 ^ 32

-- what a body keeps: a schema's facts, or a change's, or none, with numbers of their sizes
abbrev pub IsBody : Body → Type 0
IsBody (body.Create schema) = IsTrue (is_schema schema)
IsBody (body.Change change) =
    (change.table < 2 ^ 16) × IsChange change × AllByRecursion IsNumber change.closes
    × AllByRecursion IsRow change.opens
IsBody (body.Moment moment) = IsSigned moment
IsBody (body.Forget table floor) = (table < 2 ^ 16) × IsNumber floor

-- what every commit keeps
abbrev pub IsCommit : Commit → Type 0
IsCommit commit = IsNumber commit.author × IsBody commit.body

-- Reading a record from left to right. A reader gives the value that the bytes begin with and the
-- bytes behind it, or says at the first place where it is certain that they end too early or that
-- nothing can make a record of them.
use Rattle.std.specs.Prelude.{◌≡◌, ℕ, zero, suc, ◌+◌, ◌-◌, ◌*◌, ◌/◌, ◌≤◌, min, ℤ, pos, negsuc, ◌+ℤ◌, Bool, true, false, ◌&&◌, ◌||◌, not, nat_le, nat_lt, ◌==◌, List, [], ◌∷◌, ◌++◌, length, take, drop, replicate, Option, Some, None, Result, Ok, Err, if◌then◌else◌}
use Rattle.std.specs.List.{list_any}
use Rattle.std.specs.Str.{is_utf8}
use Rattle.tl_types.specs.declared.cells.Cell.{Cell}
use Rattle.tl_types.specs.declared.cells.Cell.TheVariants as cell
use Rattle.tl_types.specs.declared.cells.ColumnKind.{ColumnKind}
use Rattle.tl_types.specs.declared.cells.ColumnKind.TheVariants.{IntKind, TextKind}
use Rattle.tl_types.specs.declared.schemas.Column.{Column}
use Rattle.tl_types.specs.declared.commits.Commit.{Commit}
use Rattle.tl_types.specs.declared.commits.Body.{Body}
use Rattle.tl_types.specs.declared.commits.Body.TheVariants as body
use Rattle.tl_types.specs.Facts.{names_of}
use Rattle.tl_types.specs.Names.{same_bytes, is_word, is_name}
use Rattle.tl_types.specs.Plain as plain
use Rattle.tl_record.specs.declared.faults.Fault.{Fault}
use Rattle.tl_record.specs.declared.faults.Fault.TheVariants.{Short, Bad}
use Rattle.tl_record.specs.declared.faults.ReadError.{ReadError}
use Rattle.tl_record.specs.declared.faults.ReadError.TheVariants as errors

-- what a reader makes of bytes: a value and the bytes behind it, or a fault
abbrev pub Reader : Type 0 → Type 0
Reader A = List ℕ → Result (A × List ℕ) Fault

-- what a call returned, seen by a view, is what a reader gives, unless memory ran out
abbrev pub Fails : {Y : Type 0} → ReadError → Result Y Fault → Type 0
Fails errors.Memory read = Unit {0}
Fails (errors.Fault f) read = read ≡ Err f

abbrev pub Gives : {X Y : Type 0} → (X → Y) → Result X ReadError → Result Y Fault → Type 0
Gives view (Ok x) read = read ≡ Ok (view x)
Gives view (Err e) read = Fails e read

-- ONE AFTER ANOTHER

-- a first value, and the second that is read behind it
abbrev pub after : {A B : Type 0} → A → Result (B × List ℕ) Fault → Result ((A × B) × List ℕ) Fault
after x (Ok r) = Ok ((x, r.0), r.1)
after x (Err e) = Err e

-- the second is read behind what was read first
abbrev pub onward : {A B : Type 0} → (A → Reader B) → Result (A × List ℕ) Fault
    → Result ((A × B) × List ℕ) Fault
onward second (Ok r) = after r.0 (second r.0 r.1)
onward second (Err e) = Err e

-- two readers in turn, of which the second may depend on the first value
abbrev pub in_turn : {A B : Type 0} → Reader A → (A → Reader B) → Reader (A × B)
in_turn first second bytes = onward second (first bytes)

-- another value made of the one that was read
abbrev pub mapped : {A B : Type 0} → (A → B) → Result (A × List ℕ) Fault
    → Result (B × List ℕ) Fault
mapped f (Ok r) = Ok (f r.0, r.1)
mapped f (Err e) = Err e

-- a value behind a number that says what it is, or how long
abbrev pub behind : {A : Type 0} → Reader ℕ → (ℕ → Reader A) → Reader A
behind first second bytes = mapped (λ p. p.1) (in_turn first second bytes)

-- the first of a list, and the others
abbrev pub cons : {A : Type 0} → A × List A → List A
cons p = p.0 ∷ p.1

-- so many items in turn
unfoldable pub several : {A : Type 0} → Reader A → ℕ → Reader (List A)
several item zero bytes = Ok ([], bytes)
several item (suc n) bytes = mapped cons (in_turn item (λ x. several item n) bytes)

-- what was read before, and then this
abbrev pub prepended : {A : Type 0} → List A → Result (List A × List ℕ) Fault
    → Result (List A × List ℕ) Fault
prepended front read = mapped (λ xs. front ++ xs) read

-- NUMBERS

-- a number between two bounds
abbrev pub IsBetween : ℕ → ℕ → ℕ → Type 0
IsBetween lo hi n = (lo ≤ n) × (n ≤ hi)

-- the value where it passes, and else a fault
abbrev pub judged : {A : Type 0} → Bool → A → List ℕ → Result (A × List ℕ) Fault
judged true x rest = Ok (x, rest)
judged false x rest = Err Bad

-- one byte between two bounds
abbrev pub byte_between : ℕ → ℕ → Reader ℕ
byte_between lo hi [] = Err Short
byte_between lo hi (b ∷ rest) = judged (nat_le lo b && nat_le b hi) b rest

-- 256 to the power n
abbrev pub weight : ℕ → ℕ
weight zero = 1
weight (suc n) = weight n * 256

-- a byte and the number behind it, as one number
abbrev pub joined : ℕ → ℕ × ℕ → ℕ
joined n p = p.0 * weight n + p.1

-- a number of n bytes between two bounds: its first byte between what they allow, and the others
-- between what the first byte leaves of them
unfoldable pub between : ℕ → ℕ → ℕ → Reader ℕ
between zero lo hi bytes = Ok (0, bytes)
between (suc n) lo hi bytes =
    mapped (joined n)
    (in_turn (byte_between (lo / weight n) (hi / weight n))
    (λ b. between n (lo - b * weight n) (min (hi - b * weight n) (weight n - 1))) bytes)

-- the greatest numbers of 2, 4 and 8 bytes
abbrev pub max_2 : ℕ
max_2 = 65535

abbrev pub max_4 : ℕ
max_4 = 4294967295

-- any number of 2 and of 4 bytes
abbrev pub any_2 : Reader ℕ
any_2 bytes = between 2 0 max_2 bytes

abbrev pub any_4 : Reader ℕ
any_4 bytes = between 4 0 max_4 bytes

-- a byte with its highest bit turned
abbrev pub turned : ℕ → ℕ
turned b = if nat_lt b 128 then b + 128 else b - 128

-- the first byte of a signed number, between two bounds once its highest bit is turned: the order
-- of signed numbers is then that of numbers without sign
abbrev pub turned_byte : ℕ → ℕ → Reader ℕ
turned_byte lo hi [] = Err Short
turned_byte lo hi (b ∷ rest) =
    if nat_lt b 256 then byte_between lo hi (turned b ∷ rest) else Err Bad

-- a number of 8 bytes between two bounds, its highest bit turned
unfoldable pub turned_between : ℕ → ℕ → Reader ℕ
turned_between lo hi bytes =
    mapped (joined 7)
    (in_turn (turned_byte (lo / weight 7) (hi / weight 7))
    (λ b. between 7 (lo - b * weight 7) (min (hi - b * weight 7) (weight 7 - 1))) bytes)

-- a signed number as its distance from the least, and back
abbrev pub distance : ℤ → ℕ
distance (pos n) = n + 9223372036854775808
distance (negsuc n) = 9223372036854775807 - n

abbrev pub at_distance : ℕ → ℤ
at_distance d =
    if nat_lt d 9223372036854775808 then negsuc (9223372036854775807 - d)
    else pos (d - 9223372036854775808)

-- a signed number of 8 bytes between two bounds
unfoldable pub signed_between : ℤ → ℤ → Reader ℤ
signed_between lo hi bytes =
    mapped at_distance (turned_between (distance lo) (distance hi) bytes)

-- the least signed number, the greatest, and the one before it
abbrev pub least : ℤ
least = negsuc 9223372036854775807

abbrev pub greatest : ℤ
greatest = pos 9223372036854775807

abbrev pub before_greatest : ℤ
before_greatest = pos 9223372036854775806

-- closed ids, as many as are said, strictly ascending from a lowest one on; each leaves room for
-- those behind it
unfoldable pub ascending : ℕ → ℕ → Reader (List ℕ)
ascending zero low bytes = Ok ([], bytes)
ascending (suc n) low bytes =
    mapped cons (in_turn (between 4 low (max_4 - n)) (λ id. ascending n (id + 1)) bytes)

-- NAMES AND TEXTS

-- bytes that end too early, where they may go on, and else a fault
abbrev pub cut : {A : Type 0} → Bool → Result (A × List ℕ) Fault
cut true = Err Short
cut false = Err Bad

-- so many bytes that pass a test; where fewer are there, a second test says whether they may go on
abbrev pub block : (List ℕ → Bool) → (List ℕ → Bool) → ℕ → Reader (List ℕ)
block test begins n bytes =
    if nat_le n (length bytes) then judged (test (take n bytes)) (take n bytes) (drop n bytes)
    else cut (begins bytes)

-- a name that none of the columns has
unfoldable pub is_new_name : List Column → List ℕ → Bool
is_new_name columns name =
    is_name name && not (list_any (λ c. same_bytes c name) (names_of columns))

-- nothing, or a word
unfoldable pub begins_name : List ℕ → Bool
begins_name bytes = length bytes == 0 || is_word bytes

-- a name that none of the columns has, behind its length
unfoldable pub name_at : List Column → Reader (List ℕ)
name_at columns bytes =
    behind (byte_between 1 64) (block (is_new_name columns) begins_name) bytes

-- with so many bytes more the bytes are not longer than a text of n bytes, and they are a text
-- where these are the least or the greatest that may stand within a letter
abbrev pub goes_on_by : ℕ → List ℕ → ℕ → Bool
goes_on_by n bytes more =
    nat_le (length bytes + more) n
    && (is_utf8 (bytes ++ replicate more 128) || is_utf8 (bytes ++ replicate more 191))

-- the bytes go on to a text of n bytes: at most three complete the last letter
unfoldable pub begins_text : ℕ → List ℕ → Bool
begins_text n bytes =
    goes_on_by n bytes 0 || goes_on_by n bytes 1 || goes_on_by n bytes 2 || goes_on_by n bytes 3

-- a text of which the bytes end too early, where they may go on to one
abbrev pub cut_text : Bool → Result (List ℕ × List ℕ) Fault
cut_text goes_on = cut goes_on

-- a text of so many bytes
unfoldable pub text_of : ℕ → Reader (List ℕ)
text_of n bytes = block is_utf8 (begins_text n) n bytes

-- a text behind its length
unfoldable pub text_at : Reader (List ℕ)
text_at bytes = behind any_2 text_of bytes

-- ROWS

-- a cell of a kind
abbrev pub cell_of : ℕ → Reader Cell
cell_of kind bytes =
    if kind == 1 then mapped (λ i. cell.Int i) (signed_between least greatest bytes)
    else mapped (λ t. cell.Text t) (text_at bytes)

-- a cell
unfoldable pub cell_at : Reader Cell
cell_at bytes = behind (byte_between 1 2) cell_of bytes

-- both ends as a period
abbrev pub period_of : ℤ × ℤ → Option plain.Period
period_of p = Some (record { from = p.0; to = p.1 })

-- no period, or one of two ends
abbrev pub period_if : ℕ → Reader (Option plain.Period)
period_if flag bytes =
    if flag == 0 then Ok (None, bytes) else
    mapped period_of
    (in_turn (signed_between least before_greatest)
    (λ from. signed_between (from +ℤ pos 1) greatest) bytes)

-- a period, where there is one
unfoldable pub period_at : Reader (Option plain.Period)
period_at bytes = behind (byte_between 0 1) period_if bytes

-- cells and a period as a row
abbrev pub row_of : List Cell × Option plain.Period → plain.Opened
row_of p = record { cells = p.0; period = p.1 }

-- cells behind their number
unfoldable pub cells_at : Reader (List Cell)
cells_at bytes = behind (byte_between 1 16) (several cell_at) bytes

-- so many cells and a period as a row
unfoldable pub row_of_cells : ℕ → Reader plain.Opened
row_of_cells n bytes = mapped row_of (in_turn (several cell_at n) (λ cells. period_at) bytes)

-- an opened row
unfoldable pub row_at : Reader plain.Opened
row_at bytes =
    mapped row_of
    (in_turn cells_at (λ cells. period_at) bytes)

-- TABLES

-- what a column holds
abbrev pub kind_of : ℕ → ColumnKind
kind_of kind = if kind == 1 then IntKind else TextKind

-- a name and a kind as a column
abbrev pub column_of : List ℕ × ℕ → Column
column_of p = record { name = p.0; kind = kind_of p.1 }

-- a column behind others
unfoldable pub column_at : List Column → Reader Column
column_at columns bytes =
    mapped column_of (in_turn (name_at columns) (λ name. byte_between 1 2) bytes)

-- so many columns behind others
unfoldable pub columns_at : List Column → ℕ → Reader (List Column)
columns_at columns zero bytes = Ok ([], bytes)
columns_at columns (suc n) bytes =
    mapped cons (in_turn (column_at columns) (λ c. columns_at (columns ++ c ∷ []) n) bytes)

-- a table's parts as a schema
abbrev pub schema_from : List ℕ × (ℕ × (List Column × ℕ)) → plain.Schema
schema_from p = record {
  name = p.0;
  columns = p.1.1.0;
  key = p.1.1.1;
  valid = p.1.0 == 1;
}

-- columns behind their number
unfoldable pub all_columns : Reader (List Column)
all_columns bytes = behind (byte_between 1 16) (columns_at []) bytes

-- columns, and the place of the key among them
unfoldable pub columns_and_key : Reader (List Column × ℕ)
columns_and_key bytes =
    in_turn all_columns (λ columns. byte_between 0 (length columns - 1)) bytes

-- a new table
unfoldable pub schema_at : Reader plain.Schema
schema_at bytes =
    mapped schema_from
    (in_turn (name_at []) (λ name. in_turn (byte_between 0 1) (λ valid. columns_and_key)) bytes)

-- COMMITS

-- a change's parts as a change
abbrev pub change_from : ℕ × (List ℕ × List plain.Opened) → plain.Change
change_from p = record { table = p.0; closes = p.1.0; opens = p.1.1 }

-- so many ids from 0 on
abbrev pub ids_of : ℕ → Reader (List ℕ)
ids_of n bytes = ascending n 0 bytes

-- closed ids behind their number
unfoldable pub closes_at : Reader (List ℕ)
closes_at bytes = behind any_4 ids_of bytes

-- opened rows behind their number
unfoldable pub opens_at : Reader (List plain.Opened)
opens_at bytes = behind any_4 (several row_at) bytes

-- a change
unfoldable pub change_at : Reader plain.Change
change_at bytes =
    mapped change_from
    (in_turn any_2 (λ table. in_turn closes_at (λ closes. opens_at)) bytes)

-- a table and a floor as a body
abbrev pub floor_from : ℕ × ℕ → Body
floor_from p = body.Forget p.0 p.1

-- a floor
unfoldable pub floor_at : Reader Body
floor_at bytes = mapped floor_from (in_turn any_2 (λ table. any_4) bytes)

-- a moment or a floor
abbrev pub body_without_rows : ℕ → Reader Body
body_without_rows kind bytes =
    if kind == 4 then mapped (λ m. body.Moment m) (signed_between least greatest bytes)
    else floor_at bytes

-- a new table, a change, a moment or a floor
abbrev pub body_of : ℕ → Reader Body
body_of kind bytes =
    if kind == 1 then mapped (λ s. body.Create s) (schema_at bytes)
    else (if kind == 2 then mapped (λ c. body.Change c) (change_at bytes)
    else body_without_rows kind bytes)

-- the byte says what a commit does
abbrev pub is_kind : ℕ → Bool
is_kind b = (b == 1) || (b == 2) || (b == 4) || (b == 5)

-- a byte that says what a commit does
abbrev pub kind_at : Reader ℕ
kind_at [] = Err Short
kind_at (b ∷ rest) = judged (is_kind b) b rest

-- what a commit does, behind what says which
unfoldable pub body_at : Reader Body
body_at bytes = behind kind_at body_of bytes

-- an author and a body as a commit
abbrev pub commit_from : ℕ × Body → Commit
commit_from p = record { author = p.0; body = p.1 }

-- a commit
unfoldable pub commit_at : Reader Commit
commit_at bytes =
    mapped commit_from (in_turn any_4 (λ author. body_at) bytes)

-- A worked history: a table of employees, two rows, one of them changed, the other removed and put again.
use Rattle.std.proofs.Common.{◌≡◌, ℕ, ℤ, true, false, pos, negsuc, List, [], ◌∷◌, Some, None, refl, codes}
use Rattle.tl_types.specs.declared.cells.Cell.TheVariants as cell
use Rattle.tl_types.specs.declared.cells.ColumnKind.TheVariants.{IntKind, TextKind}
use Rattle.tl_types.specs.declared.commits.Commit.{Commit}
use Rattle.tl_types.specs.declared.commits.Body.TheVariants as body
use Rattle.tl_types.specs.declared.answers.Field.TheVariants as field
use Rattle.tl_types.specs.Plain as plain
use Rattle.tl_types.specs.History.{database_of, database_at, visible_rows, fits, open_end}
use Rattle.tl_types.specs.Limits.{standard_limits}
use Rattle.tl_query.specs.declared.typed_queries.Typed.{Typed}
use Rattle.tl_query.specs.declared.typed_queries.Typed.TheVariants as typed
use Rattle.tl_query.specs.declared.typed_queries.TypedItem.TheVariants as item
use Rattle.tl_query.specs.Answers.{answer_of}

abbrev schema : plain.Schema
schema = record {
  name = codes "emp";
  columns = record { name = codes "id"; kind = IntKind } ∷ record { name = codes "dept"; kind = TextKind } ∷ record { name = codes "pay"; kind = IntKind } ∷ [];
  key = 0;
  valid = false;
}

abbrev opened : ℕ → List ℕ → ℕ → plain.Opened
opened id dept pay = record { cells = cell.Int (pos id) ∷ cell.Text dept ∷ cell.Int (pos pay) ∷ []; period = None }

abbrev row : ℕ → List ℕ → ℕ → ℕ → ℕ → plain.Row
row id dept pay from to = record { cells = cell.Int (pos id) ∷ cell.Text dept ∷ cell.Int (pos pay) ∷ []; period = None; from = from; to = to }

abbrev change : List ℕ → List plain.Opened → Commit
change closes opens = record { author = 0; body = body.Change (record { table = 0; closes = closes; opens = opens }) }

abbrev first : Commit
first = record { author = 0; body = body.Create schema }

abbrev second : Commit
second = change [] (opened 1 (codes "ops") 100 ∷ opened 2 (codes "dev") 50 ∷ [])

abbrev third : Commit
third = change (0 ∷ []) (opened 1 (codes "ops") 150 ∷ [])

abbrev fourth : Commit
fourth = change (1 ∷ []) []

abbrev fifth : Commit
fifth = change [] (opened 2 (codes "dev") 50 ∷ [])

abbrev history : List Commit
history = first ∷ second ∷ third ∷ fourth ∷ fifth ∷ []

all_rows : (database_of history).tables ≡ record { schema = schema; floor = 0; rows = row 1 (codes "ops") 100 2 3 ∷ row 2 (codes "dev") 50 2 4 ∷ row 1 (codes "ops") 150 3 open_end ∷ row 2 (codes "dev") 50 5 open_end ∷ [] } ∷ []
all_rows = refl

visible_at_two : visible_rows (database_of history) 0 2 ≡ (0, row 1 (codes "ops") 100 2 3) ∷ (1, row 2 (codes "dev") 50 2 4) ∷ []
visible_at_two = refl

visible_at_four : visible_rows (database_of history) 0 4 ≡ (2, row 1 (codes "ops") 150 3 open_end) ∷ []
visible_at_four = refl

first_fits : fits standard_limits (database_at history 0) first ≡ true
first_fits = refl

second_fits : fits standard_limits (database_at history 1) second ≡ true
second_fits = refl

third_fits : fits standard_limits (database_at history 2) third ≡ true
third_fits = refl

fourth_fits : fits standard_limits (database_at history 3) fourth ≡ true
fourth_fits = refl

fifth_fits : fits standard_limits (database_at history 4) fifth ≡ true
fifth_fits = refl

third_twice : fits standard_limits (database_at history 3) third ≡ false
third_twice = refl

abbrev asked : ℕ → Typed
asked version = typed.Select 0 (item.Column 0 ∷ item.Column 2 ∷ []) (record { any = [] }) None version

answer_at_two : answer_of (database_of history) (asked 2) ≡ (field.Number (pos 1) ∷ field.Number (pos 100) ∷ []) ∷ (field.Number (pos 2) ∷ field.Number (pos 50) ∷ []) ∷ []
answer_at_two = refl

answer_at_four : answer_of (database_of history) (asked 4) ≡ (field.Number (pos 1) ∷ field.Number (pos 150) ∷ []) ∷ []
answer_at_four = refl

answer_at_none : answer_of (database_of history) (asked 0) ≡ []
answer_at_none = refl

-- the same table with valid periods, of which one has no end: the greatest number is FOREVER as an end alone
abbrev period : ℤ → ℤ → plain.Period
period from to = record { from = from; to = to }

abbrev valid_history : List Commit
valid_history =
    record { author = 0; body = body.Create (record { name = codes "emp"; columns = schema.columns; key = 0; valid = true }) }
    ∷ change [] (record { cells = cell.Int (pos 1) ∷ cell.Text (codes "ops") ∷ cell.Int plain.forever ∷ []; period = Some (period (pos 5) plain.forever) } ∷ record { cells = cell.Int (pos 2) ∷ cell.Text (codes "dev") ∷ cell.Int (pos 50) ∷ []; period = Some (period (negsuc 9) (pos 20)) } ∷ [])
    ∷ []

pay_and_ends : answer_of (database_of valid_history) (typed.Select 0 (item.Column 2 ∷ item.ValidFrom ∷ item.ValidTo ∷ []) (record { any = [] }) None 2) ≡ (field.Number (pos 9223372036854775807) ∷ field.Number (pos 5) ∷ field.Forever ∷ []) ∷ (field.Number (pos 50) ∷ field.Number (negsuc 9) ∷ field.Number (pos 20) ∷ []) ∷ []
pay_and_ends = refl

-- Records that compute as they stand in the journal.
use Rattle.std.specs.Prelude.{◌≡◌, ℕ, pos, List, [], ◌∷◌, ◌++◌, None, codes, refl, false}
use Rattle.tl_types.specs.declared.cells.Cell.TheVariants as cell
use Rattle.tl_types.specs.declared.cells.ColumnKind.TheVariants.{IntKind, TextKind}
use Rattle.tl_types.specs.declared.commits.Commit.{Commit}
use Rattle.tl_types.specs.declared.commits.Body.TheVariants as body
use Rattle.tl_types.specs.Plain as plain
use Rattle.tl_record.specs.Spelling.{spelling}

-- the table of employees
abbrev pub employees : plain.Schema
employees = record {
  name = codes "emp";
  columns =
      record { name = codes "id"; kind = IntKind } ∷ record { name = codes "dept"; kind = TextKind }
      ∷ record { name = codes "pay"; kind = IntKind } ∷ [];
  key = 0;
  valid = false;
}

-- a row of it
abbrev pub row : ℕ → List ℕ → ℕ → plain.Opened
row id dept pay = record {
  cells = cell.Int (pos id) ∷ cell.Text dept ∷ cell.Int (pos pay) ∷ [];
  period = None;
}

-- a change of it
abbrev pub change : List ℕ → List plain.Opened → Commit
change closes opens = record {
  author = 0;
  body = body.Change (record { table = 0; closes = closes; opens = opens });
}

created : spelling (record { author = 0; body = body.Create employees })
    ≡ 0 ∷ 0 ∷ 0 ∷ 0 ∷ 1 ∷ 3 ∷ 101 ∷ 109 ∷ 112 ∷ 0 ∷ 3 ∷ 2 ∷ 105 ∷ 100 ∷ 1 ∷ 4 ∷ 100 ∷ 101 ∷ 112
    ∷ 116 ∷ 2 ∷ 3 ∷ 112 ∷ 97 ∷ 121 ∷ 1 ∷ 0 ∷ []
created = refl

-- the rows of the examples
abbrev row_1 : List ℕ
row_1 = 3 ∷ 1 ∷ 0 ∷ 0 ∷ 0 ∷ 0 ∷ 0 ∷ 0 ∷ 0 ∷ 1 ∷ 2 ∷ 0 ∷ 3 ∷ 111 ∷ 112 ∷ 115 ∷ 1 ∷ 0 ∷ 0 ∷ 0 ∷ 0
    ∷ 0 ∷ 0 ∷ 0 ∷ 100 ∷ 0 ∷ []

abbrev row_2 : List ℕ
row_2 = 3 ∷ 1 ∷ 0 ∷ 0 ∷ 0 ∷ 0 ∷ 0 ∷ 0 ∷ 0 ∷ 2 ∷ 2 ∷ 0 ∷ 3 ∷ 100 ∷ 101 ∷ 118 ∷ 1 ∷ 0 ∷ 0 ∷ 0 ∷ 0
    ∷ 0 ∷ 0 ∷ 0 ∷ 50 ∷ 0 ∷ []

abbrev row_3 : List ℕ
row_3 = 3 ∷ 1 ∷ 0 ∷ 0 ∷ 0 ∷ 0 ∷ 0 ∷ 0 ∷ 0 ∷ 1 ∷ 2 ∷ 0 ∷ 3 ∷ 111 ∷ 112 ∷ 115 ∷ 1 ∷ 0 ∷ 0 ∷ 0 ∷ 0
    ∷ 0 ∷ 0 ∷ 0 ∷ 150 ∷ 0 ∷ []

opened : spelling (change [] (row 1 (codes "ops") 100 ∷ row 2 (codes "dev") 50 ∷ []))
    ≡ 0 ∷ 0 ∷ 0 ∷ 0 ∷ 2 ∷ 0 ∷ 0 ∷ 0 ∷ 0 ∷ 0 ∷ 0 ∷ 0 ∷ 0 ∷ 0 ∷ 2 ∷ row_1 ++ row_2
opened = refl

replaced : spelling (change (0 ∷ []) (row 1 (codes "ops") 150 ∷ []))
    ≡ 0 ∷ 0 ∷ 0 ∷ 0 ∷ 2 ∷ 0 ∷ 0 ∷ 0 ∷ 0 ∷ 0 ∷ 1 ∷ 0 ∷ 0 ∷ 0 ∷ 0 ∷ 0 ∷ 0 ∷ 0 ∷ 1 ∷ row_3
replaced = refl

closed : spelling (change (1 ∷ []) [])
    ≡ 0 ∷ 0 ∷ 0 ∷ 0 ∷ 2 ∷ 0 ∷ 0 ∷ 0 ∷ 0 ∷ 0 ∷ 1 ∷ 0 ∷ 0 ∷ 0 ∷ 1 ∷ 0 ∷ 0 ∷ 0 ∷ 0 ∷ []
closed = refl

opened_again : spelling (change [] (row 2 (codes "dev") 50 ∷ []))
    ≡ 0 ∷ 0 ∷ 0 ∷ 0 ∷ 2 ∷ 0 ∷ 0 ∷ 0 ∷ 0 ∷ 0 ∷ 0 ∷ 0 ∷ 0 ∷ 0 ∷ 1 ∷ row_2
opened_again = refl

-- a moment, and a floor
moment_stated : spelling (record { author = 0; body = body.Moment (pos 1000) })
    ≡ 0 ∷ 0 ∷ 0 ∷ 0 ∷ 4 ∷ 0 ∷ 0 ∷ 0 ∷ 0 ∷ 0 ∷ 0 ∷ 3 ∷ 232 ∷ []
moment_stated = refl

floor_set : spelling (record { author = 0; body = body.Forget 0 3 })
    ≡ 0 ∷ 0 ∷ 0 ∷ 0 ∷ 5 ∷ 0 ∷ 0 ∷ 0 ∷ 0 ∷ 0 ∷ 3 ∷ []
floor_set = refl

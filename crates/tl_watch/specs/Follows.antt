-- What is kept of a plan while rows of its table come and go.
use Rattle.std.specs.Prelude.{◌≡◌, ℕ, ◌+◌, ◌-◌, ◌^◌, ◌<◌, ◌≤◌, Bool, true, List, [], ◌∷◌, ◌++◌, length, map, take, Some, All}
use Rattle.std.specs.List.{filter, list_all}
use Rattle.tl_types.specs.Facts.{AscendFrom}
use Rattle.tl_types.specs.History.{rows_of, new_row, is_open_at}
use Rattle.tl_types.specs.Plain as plain
use Rattle.tl_query.specs.Passing.{passes}
use Rattle.tl_store.specs.Reading.{columns_of, IsIntColumn}
use Rattle.tl_running.specs.Standing.{Suits, Inserts}
use Rattle.tl_agg.specs.Kept.{picked, below}
use Rattle.tl_watch.specs.declared.plans.WatchPlan.{WatchPlan}
use Rattle.tl_watch.specs.Reading.{RowAt, IsRow, HaveColumns, IsWithin}
use Rattle.tl_watch.specs.Standings.{left_rows}
use Rattle.tl_watch.specs.States.{State, Stands}

-- ONE ROW

-- what is kept stood for rows, and one of them, which this one is, can go
pub record IsLeaving (plan : WatchPlan) (state : State) (at : RowAt) : Type 0 where
  pub row : plain.Row
  pub fewer : List plain.Row
  pub more : List plain.Row
  pub there : IsRow at row
  pub stands : Stands plan state more
  pub inserts : Inserts row fewer more
  pub few : length more < 2 ^ 32

-- where what is kept stood for rows and this row was one of them, it now stands for the others
abbrev pub LeavesRow : WatchPlan → State → State → RowAt → Type 0
LeavesRow plan old new at =
    (row : plain.Row) (fewer more : List plain.Row) → IsRow at row → Stands plan old more
    → Inserts row fewer more → Stands plan new fewer

-- what is kept stands for rows, and there is room for one more
pub record IsRoomy (plan : WatchPlan) (state : State) : Type 0 where
  pub rows : List plain.Row
  pub stands : Stands plan state rows
  pub few : length rows < 2 ^ 32 - 1

-- where what is kept stood for rows, it now stands for them and a row that a version opens behind
-- them
abbrev pub EntersRow : WatchPlan → State → State → plain.Opened → Type 0
EntersRow plan old new opened =
    (version : ℕ) (rows : List plain.Row)
    → Suits plan.kind plan.column (new_row version opened ∷ []) → Stands plan old rows
    → Stands plan new (rows ++ new_row version opened ∷ [])

-- what is kept stands for rows, there is room for one more, and this row is there
pub record IsTaking (plan : WatchPlan) (state : State) (at : RowAt) : Type 0 where
  pub row : plain.Row
  pub rows : List plain.Row
  pub there : IsRow at row
  pub stands : Stands plan state rows
  pub few : length rows < 2 ^ 32 - 1

-- where what is kept stood for rows, it now stands for them with this row among them
abbrev pub TakesRow : WatchPlan → State → State → RowAt → Type 0
TakesRow plan old new at =
    (row : plain.Row) (fewer more : List plain.Row) → IsRow at row
    → Suits plan.kind plan.column (row ∷ []) → Stands plan old fewer → Inserts row fewer more
    → Stands plan new more

-- A CHANGE OF THE TABLE

-- the plan is one for the table of a change that fits, and its columns are there and suit the rows
pub record IsReady (plan : WatchPlan) (db : plain.Database) (change : plain.Change) : Type 0 where
  pub table : change.table ≡ plan.table
  pub there : plan.table < length db.tables
  pub tests : All (λ tests. HaveColumns tests (length (columns_of db plan.table))) plan.pred.any
  pub column : IsWithin plan.column (length (columns_of db plan.table))
  pub by : IsWithin plan.by (length (columns_of db plan.table))
  pub suits : Suits plan.kind plan.column (rows_of db plan.table)
  pub opens_suit : Suits plan.kind plan.column (map (new_row (db.version + 1)) change.opens)
  pub opens_long : All
      (λ opened. length opened.cells ≡ length (columns_of db plan.table)) change.opens
  pub closes : list_all (is_open_at (rows_of db plan.table)) change.closes ≡ true
  pub ascends : AscendFrom 0 change.closes
  pub few : length (rows_of db plan.table) + length change.opens ≤ 16777216

-- the rows that stand and pass when so many of a change's rows are closed
abbrev pub rows_closing : WatchPlan → plain.Database → plain.Change → ℕ → List plain.Row
rows_closing plan db change i = left_rows plan.pred (take i change.closes) (rows_of db plan.table)

-- the rows that stand and pass when a change's rows are closed and so many are opened
abbrev pub rows_opening : WatchPlan → plain.Database → plain.Change → ℕ → List plain.Row
rows_opening plan db change i =
    left_rows plan.pred change.closes (rows_of db plan.table)
    ++ filter (passes plan.pred) (map (new_row (db.version + 1)) (take i change.opens))

-- THE BEGINNING

-- the plan is one for a table of a database with a set of its rows: its columns are there, each row
-- suits it, and there are few
pub record IsBeginning (plan : WatchPlan) (db : plain.Database) (set : List Bool) : Type 0 where
  pub there : plan.table < length db.tables
  pub column : IsWithin plan.column (length (columns_of db plan.table))
  pub ints : (c : ℕ) → plan.column ≡ Some c → IsIntColumn (columns_of db plan.table) c
  pub by : IsWithin plan.by (length (columns_of db plan.table))
  pub suits : Suits plan.kind plan.column (rows_of db plan.table)
  pub long : length set ≡ length (rows_of db plan.table)
  pub few : length (rows_of db plan.table) ≤ 16777216

-- the rows of the set whose ids are below this one
abbrev pub rows_begun : WatchPlan → plain.Database → List Bool → ℕ → List plain.Row
rows_begun plan db set id = picked (below id set) (rows_of db plan.table)

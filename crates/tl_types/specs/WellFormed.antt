-- What is so of every row that a history leaves, and of its stamps and floors.
use Rattle.std.specs.Prelude.{◌≡◌, ◌⊎◌, ℕ, ◌<◌, ◌≤◌, ◌<ℤ◌, List, [], ◌∷◌, Option, Some, None}
use Rattle.std.specs.List.{AllByRecursion}
use Rattle.tl_types.specs.Plain as plain
use Rattle.tl_types.specs.History.{open_end}

-- a row begins at version 1 or later and not after this version, ends after it begins, and has
-- ended by this version or is open
pub record IsWellFormed (version : ℕ) (row : plain.Row) : Type 0 where
  pub begins : 0 < row.from
  pub begun : row.from ≤ version
  pub lasts : row.from < row.to
  pub ended : (row.to ≤ version) ⊎ (row.to ≡ open_end)

-- each of the rows is so
abbrev pub AreWellFormed : ℕ → List plain.Row → Type 0
AreWellFormed version [] = Unit {0}
AreWellFormed version (row ∷ rows) = IsWellFormed version row × AreWellFormed version rows

-- each row of each table is so
abbrev pub HaveWellFormedRows : ℕ → List plain.Table → Type 0
HaveWellFormedRows version tables =
    AllByRecursion (λ table. AreWellFormed version table.rows) tables

-- no row begins before this version, nor before a row of a lesser id
abbrev pub BeginInOrder : ℕ → List plain.Row → Type 0
BeginInOrder low [] = Unit {0}
BeginInOrder low (row ∷ rows) = (low ≤ row.from) × BeginInOrder row.from rows

-- so the rows of each table begin
abbrev pub HaveRowsInOrder : List plain.Table → Type 0
HaveRowsInOrder tables = AllByRecursion (λ table. BeginInOrder 0 table.rows) tables

-- a stamp stands at version 1 or later, and its version and its moment are greater than those of
-- the one before it, where there is one
abbrev pub Follows : Option plain.Stamp → plain.Stamp → Type 0
Follows None stamp = 0 < stamp.version
Follows (Some last) stamp = (last.version < stamp.version) × (last.moment <ℤ stamp.moment)

-- each stamp follows the one before it, and the first follows this one
abbrev pub Rise : Option plain.Stamp → List plain.Stamp → Type 0
Rise last [] = Unit {0}
Rise last (stamp ∷ stamps) = Follows last stamp × Rise (Some stamp) stamps

-- no stamp has a version after this one
abbrev pub HaveReachedStamps : ℕ → List plain.Stamp → Type 0
HaveReachedStamps version stamps = AllByRecursion (λ stamp. stamp.version ≤ version) stamps

-- the floor of each table is no version after this one
abbrev pub HaveReachedFloors : ℕ → List plain.Table → Type 0
HaveReachedFloors version tables = AllByRecursion (λ table. table.floor ≤ version) tables

-- what is so of the stamps and the floors of a database: the stamps rise, and each stamp and each
-- floor is of a version that the database has
pub record HasTimes (db : plain.Database) : Type 0 where
  pub rise : Rise None db.stamps
  pub stamps : HaveReachedStamps db.version db.stamps
  pub floors : HaveReachedFloors db.version db.tables

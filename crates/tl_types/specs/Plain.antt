-- The values that contracts see of the types that keep a fact.
use Rattle.std.specs.Prelude.{ℕ, ℤ, pos, Bool, List, Option}
use Rattle.tl_types.specs.declared.cells.Cell.{Cell}
use Rattle.tl_types.specs.declared.schemas.Column.{Column}

-- the moments d with from ≤ d < to
pub record Period : Type 0 where
  pub from : ℤ
  pub to : ℤ

-- the end of a period that has none: the greatest signed number of 64 bits
abbrev pub forever : ℤ
forever = pos 9223372036854775807

-- a table's name, its columns, the place of its key among them, and whether its rows have a valid
-- period
pub record Schema : Type 0 where
  pub name : List ℕ
  pub columns : List Column
  pub key : ℕ
  pub valid : Bool

-- a row as a commit opens it
pub record Opened : Type 0 where
  pub cells : List Cell
  pub period : Option Period

-- a change of one table: the ids of the rows that it closes, and the rows that it opens
pub record Change : Type 0 where
  pub table : ℕ
  pub closes : List ℕ
  pub opens : List Opened

-- a row of a table: its cells, its valid period where the table has them, and the versions v with
-- from ≤ v < to at which it stands
pub record Row : Type 0 where
  pub cells : List Cell
  pub period : Option Period
  pub from : ℕ
  pub to : ℕ

-- a table: its schema, the least version that may be asked of it, and its rows; the i-th row,
-- counted from 0, has id i
pub record Table : Type 0 where
  pub schema : Schema
  pub floor : ℕ
  pub rows : List Row

-- a moment that was stated, and the version at which it was
pub record Stamp : Type 0 where
  pub version : ℕ
  pub moment : ℤ

-- the number of commits so far, the tables after them, and the moments that were stated
pub record Database : Type 0 where
  pub version : ℕ
  pub tables : List Table
  pub stamps : List Stamp

-- What a store keeps of a table.
use Rattle.std.specs.Prelude.{ℕ, List, [], ◌++◌, false}
use Rattle.tl_types.specs.History.{table_after}
use Rattle.tl_types.specs.Plain as plain

-- a table's schema, floor and rows, and the ids of closed rows in the order in which commits closed
-- them
pub record Kept : Type 0 where
  pub schema : plain.Schema
  pub floor : ℕ
  pub rows : List plain.Row
  pub closed : List ℕ

-- the table
abbrev pub table_of : Kept → plain.Table
table_of kept = record { schema = kept.schema; floor = kept.floor; rows = kept.rows }

-- what is kept of a table without rows
abbrev pub kept_new : plain.Schema → Kept
kept_new schema = record { schema = schema; floor = 0; rows = []; closed = [] }

-- what is kept after a change of a version
abbrev pub kept_after : ℕ → plain.Change → Kept → Kept
kept_after version change kept =
    record kept {
      rows = (table_after version change (table_of kept)).rows;
      closed
          = kept.closed ++ change.closes;
    }

-- what is kept with another floor
abbrev pub kept_floored : ℕ → Kept → Kept
kept_floored floor kept = record kept { floor = floor }

-- what is kept of no table
abbrev pub kept_none : Kept
kept_none = kept_new (record { name = []; columns = []; key = 0; valid = false })

-- Rows that are found by their cells in a column.
use Rattle.std.specs.Prelude.{◌≡◌, ℕ, Bool, List, map, Option}
use Rattle.std.specs.List.{filter, filter_map}
use Rattle.std.specs.List.Sorted.{IsSortedBy}
use Rattle.std.specs.Option.{option_map}
use Rattle.tl_types.specs.declared.cells.Cell.{Cell}
use Rattle.tl_types.specs.History.{with_ids, cell_at, same_cell}
use Rattle.tl_types.specs.Plain as plain
use Rattle.tl_query.specs.Ordered.{cell_before}
use Rattle.tl_plain.specs.declared.keyed_rows.KeyedRow.{KeyedRow}

-- a row with its id, behind its cell in the column
abbrev pub keyed : ℕ → ℕ × plain.Row → Option (Cell × (ℕ × plain.Row))
keyed column row = option_map (λ cell. (cell, row)) (cell_at row.1.cells column)

-- the rows that have a cell in the column, in order of id
abbrev pub keyed_rows : ℕ → List plain.Row → List (Cell × (ℕ × plain.Row))
keyed_rows column rows = filter_map (keyed column) (with_ids rows)

-- the row with its id
abbrev pub row_with_id : KeyedRow → ℕ × plain.Row
row_with_id row = (row.id, row.row.now)

-- the row with its id, behind its key
abbrev pub row_with_key : KeyedRow → Cell × (ℕ × plain.Row)
row_with_key row = (row.key.now, row_with_id row)

-- the first key comes before the second
abbrev pub key_before : KeyedRow → KeyedRow → Bool
key_before first second = cell_before first.key.now second.key.now

-- the row has the key
abbrev pub has_key : Cell → KeyedRow → Bool
has_key key row = same_cell key row.key.now

-- the rows in the order of their cells in a column: those that have a cell are found by it, in
-- order of id
pub record AreByKey (column : ℕ) (rows : List plain.Row) (by_key : List KeyedRow) : Type 0 where
  pub ascend : IsSortedBy key_before by_key
  pub found : (key : Cell) →
      map row_with_id (filter (has_key key) by_key) ≡
      map (λ k. k.1) (filter (λ k. same_cell key k.0) (keyed_rows column rows))

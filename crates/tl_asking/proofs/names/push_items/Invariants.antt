use Rattle.std.proofs.Common.{◌≡◌, ◌++◌, map, take}
use Rattle.tl_types.specs.declared.answers.Field.TheVariants as field
use Rattle.tl_asking.specs.Names.{item_name}
use Rattle.tl_asking.proofs.names.push_items.Given as goal

-- the names so far
abbrev pub invariant-loop-item : goal.invariant-loop-item
invariant-loop-item l = record {
  rows : l.row.rows ≡ l.fn.row.rows;
  row : l.row.row ≡ l.fn.row.row ++ map field.Text (map (item_name l.schema) (take l.item-index l.items));
}

use Rattle.std.proofs.Common.{◌≡◌, ◌+◌, ◌++◌, ◌≤◌, Some, map, take}
use Rattle.tl_types.specs.History.{database_of}
use Rattle.tl_types.specs.Plain as plain
use Rattle.tl_query.specs.Fields.{item_field}
use Rattle.tl_store.specs.Reading.{row_of}
use Rattle.tl_exec.proofs.fields.push_items.Given as goal

abbrev pub invariant-loop-item : goal.invariant-loop-item
invariant-loop-item g l = record {
  rows : l.rows.rows ≡ l.initial.rows.rows;
  value : (r : plain.Row) → row_of (database_of l.store) l.table l.row ≡ Some r → l.rows.row ≡ l.initial.rows.row ++ map (item_field r) (take l.item-index l.items);
  steps : l.steps ≤ l.initial.steps + l.item-index;
}

use Rattle.std.proofs.Common.{◌≡◌, ◌++◌, map, take}
use Rattle.tl_query.specs.Fields.{cell_field}
use Rattle.tl_plain.proofs.fields.add_cells.Given as goal

abbrev pub invariant-loop-cell : goal.invariant-loop-cell
invariant-loop-cell l = l.fields.items ≡ l.initial.fields.items ++ map cell_field (take l.cell-index l.cells)

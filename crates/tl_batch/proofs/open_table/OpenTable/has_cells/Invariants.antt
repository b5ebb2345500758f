use Rattle.std.proofs.Common.{◌≡◌, Some, drop, slice_get}
use Rattle.std.specs.Cmp.Lexicographic.{pointwise}
use Rattle.tl_types.specs.History.{same_cell}
use Rattle.tl_types.specs.Plain as plain
use Rattle.tl_batch.proofs.open_table.OpenTable.has_cells.Given as goal

abbrev pub invariant-loop-i : goal.invariant-loop-i
invariant-loop-i g l = (r : plain.Row) → slice_get l.self.rows l.row ≡ Some r → pointwise same_cell (drop l.i r.cells) (drop l.i l.cells) ≡ pointwise same_cell r.cells l.cells

use Rattle.std.proofs.Common.{◌≡◌, map, take}
use Rattle.std.specs.List.{filter_map}
use Rattle.tl_types.specs.History.{cell_at}
use Rattle.tl_types.specs.Plain as plain
use Rattle.tl_plain.proofs.values.cells_of.Given as goal

abbrev pub invariant-loop-row : goal.invariant-loop-row
invariant-loop-row l = map (λ c. c.now) l.cells.items ≡ filter_map (λ (row : plain.Row). cell_at row.cells l.column) (take l.row-index l.rows)

use Rattle.std.proofs.Common.{◌≡◌, ◌+◌, ◌++◌, length, take, drop}
use Rattle.std.specs.List.{flat_map}
use Rattle.tl_record.specs.Spelling.{cell_bytes}
use Rattle.tl_record.proofs.placing.place_cells.Given as goal

abbrev pub invariant-loop-cell : goal.invariant-loop-cell
invariant-loop-cell l =
    (take l.end l.room ++ flat_map cell_bytes (drop l.cell-index l.cells)
    ≡ take l.fn.at l.fn.room ++ flat_map cell_bytes l.cells)
    × (l.end + length (flat_map cell_bytes (drop l.cell-index l.cells))
    ≡ l.fn.at + length (flat_map cell_bytes l.cells))
    × (length l.room ≡ length l.fn.room)

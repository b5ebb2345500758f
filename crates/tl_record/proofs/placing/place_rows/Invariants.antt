use Rattle.std.proofs.Common.{◌≡◌, ◌+◌, ◌++◌, length, take, drop}
use Rattle.std.specs.List.{flat_map}
use Rattle.tl_record.specs.Spelling.{row_bytes}
use Rattle.tl_record.proofs.placing.place_rows.Given as goal

abbrev pub invariant-loop-row : goal.invariant-loop-row
invariant-loop-row l =
    (take l.end l.room ++ flat_map row_bytes (drop l.row-index l.rows)
    ≡ take l.fn.at l.fn.room ++ flat_map row_bytes l.rows)
    × (l.end + length (flat_map row_bytes (drop l.row-index l.rows))
    ≡ l.fn.at + length (flat_map row_bytes l.rows))
    × (length l.room ≡ length l.fn.room)

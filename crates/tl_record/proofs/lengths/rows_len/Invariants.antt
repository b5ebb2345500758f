use Rattle.std.proofs.Common.{◌≡◌, ◌≤◌, ◌*◌, length, take}
use Rattle.std.specs.List.{flat_map, AllByRecursion}
use Rattle.tl_record.specs.Spelling.{row_bytes, IsRow}
use Rattle.tl_record.proofs.lengths.rows_len.Given as goal

abbrev pub invariant-loop-row : goal.invariant-loop-row
invariant-loop-row l =
    (l.len ≡ length (flat_map row_bytes (take l.row-index l.rows)))
    × (l.len ≤ 1048626 * l.row-index) × AllByRecursion IsRow (take l.row-index l.rows)

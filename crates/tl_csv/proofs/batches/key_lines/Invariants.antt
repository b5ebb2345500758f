use Rattle.std.proofs.Common.{◌≡◌, map, take}
use Rattle.tl_csv.specs.Block.{key_line}
use Rattle.tl_csv.proofs.batches.key_lines.Given as goal

abbrev pub invariant-loop-row : goal.invariant-loop-row
invariant-loop-row l = l.lines.items ≡ map key_line (take l.row-index l.rows)

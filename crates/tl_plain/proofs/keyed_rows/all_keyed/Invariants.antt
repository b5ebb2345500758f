use Rattle.std.proofs.Common.{◌≡◌, map, take}
use Rattle.std.specs.List.{enumerate_from, filter_map}
use Rattle.tl_plain.specs.Keyed.{keyed, row_with_key}
use Rattle.tl_plain.proofs.keyed_rows.all_keyed.Given as goal

abbrev pub invariant-loop-id : goal.invariant-loop-id
invariant-loop-id l = map row_with_key l.all.items ≡ filter_map (keyed l.column) (enumerate_from 0 (take l.id l.rows))

use Rattle.std.proofs.Common.{◌≡◌, map, take}
use Rattle.tl_types.specs.History.{new_row}
use Rattle.tl_plain.proofs.rows.begin_all.Given as goal

abbrev pub invariant-loop-opened : goal.invariant-loop-opened
invariant-loop-opened l = l.rows.items ≡ map (new_row l.version) (take l.opened-index l.opens)

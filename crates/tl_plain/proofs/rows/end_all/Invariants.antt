use Rattle.std.proofs.Common.{◌≡◌, take}
use Rattle.tl_plain.proofs.Ending.{ends}
use Rattle.tl_plain.proofs.rows.end_all.Given as goal

abbrev pub invariant-loop-id : goal.invariant-loop-id
invariant-loop-id l = l.rows.items ≡ ends l.version (take l.id-index l.ids) 0 l.initial.rows.items

use Rattle.std.proofs.Common.{rules}
use Rattle.tl_head.proofs.StepLemmas.{joins, learns}
use Rattle.tl_head.proofs.door.Door.take_in.Goals as goal

pub join_seat-requires : goal.join_seat-requires
join_seat-requires g c = (search rules, search rules, search rules, search rules, joins g.V.Published.entries _ _ _ _ (search rules))

pub load-requires : goal.load-requires
load-requires g c = (search rules, search rules, learns g.V.Published.entries _ _ _)

use Rattle.std.proofs.Common.{rules}
use Rattle.tl_head.proofs.StepLemmas.{draws}
use Rattle.tl_head.proofs.door.Door.draw.Goals as goal

pub compare_exchange-found-requires : goal.compare_exchange-found-requires
compare_exchange-found-requires g c = (search rules, search rules, draws g.V.Published.entries _ _ _ _ (search rules) (search rules))

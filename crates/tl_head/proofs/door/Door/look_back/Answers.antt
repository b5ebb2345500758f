use Rattle.std.proofs.Common.{rules}
use Rattle.tl_head.proofs.StepLemmas.{sees}
use Rattle.tl_head.proofs.door.Door.look_back.Goals as goal

pub load-requires : goal.load-requires
load-requires g c = (search rules, search rules, sees g.V.Published.entries _ _ _ _ _ c.requires.turn.stage)

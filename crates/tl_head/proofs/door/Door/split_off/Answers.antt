use Rattle.std.proofs.Common.{rules}
use Rattle.tl_head.proofs.StepLemmas.{splits}
use Rattle.tl_head.proofs.door.Door.split_off.Goals as goal

pub split_seat-requires : goal.split_seat-requires
split_seat-requires g c = (search rules, search rules, splits g.V.Published.entries _ _)

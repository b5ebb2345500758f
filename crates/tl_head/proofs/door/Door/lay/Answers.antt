use Rattle.std.proofs.Common.{rules}
use Rattle.tl_head.proofs.StepLemmas.{passes_on}
use Rattle.tl_head.proofs.door.Door.lay.Goals as goal

pub fetch_add-requires : goal.fetch_add-requires
fetch_add-requires g c = (search rules, search rules, passes_on g.V.Published.entries _ _ c.args.held.ticket _ c.args.held.value (search rules) (search rules))

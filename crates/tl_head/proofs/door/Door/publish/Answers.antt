use Rattle.std.proofs.Common.{rules, Some}
use Rattle.tl_head.proofs.StepLemmas.{publishes}
use Rattle.tl_head.proofs.door.Door.publish.Goals as goal

pub fetch_add-requires : goal.fetch_add-requires
fetch_add-requires g c = (search rules, search rules, publishes g.V.Published.entries _ _ c.args.held.now.ticket _ (g.V.Published.entries c.args.held.now.value) c.args.next c.requires.one_more.0 (search rules) (search rules) (search rules) (search rules) (search rules))

pub exchange-requires : goal.exchange-requires
exchange-requires g c = (search rules, (Some c.args.next, search rules))

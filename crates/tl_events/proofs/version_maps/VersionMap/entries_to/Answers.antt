use Rattle.std.proofs.Common.{ap, length}
use Rattle.tl_events.proofs.SearchLemmas.{digits_more}
use Rattle.tl_events.proofs.version_maps.VersionMap.entries_to.Goals as goal

pub returns-clause-steps : goal.returns-clause-steps
returns-clause-steps g c = digits_more (length c.self.inside.entries) (length c.args.self.now) c.search.new.steps c.args.steps.now (ap length c.self.view_is) c.search.ensures.steps

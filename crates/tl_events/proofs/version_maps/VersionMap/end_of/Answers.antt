use Rattle.std.proofs.Common.{◌∙◌, ap, length}
use Rattle.tl_events.specs.Timeline.{end_of}
use Rattle.tl_events.proofs.SearchLemmas.{digits_more, place_is}
use Rattle.tl_events.proofs.version_maps.VersionMap.end_of.Goals as goal

pub returns-clause-history : goal.returns-clause-history
returns-clause-history g c rows last is within =
    c.search.ensures.end ∙ ap (λ entries. end_of entries c.args.version) c.self.view_is ∙ place_is rows last c.args.version c.args.self.now is within

pub returns-clause-steps : goal.returns-clause-steps
returns-clause-steps g c = digits_more (length c.self.inside.entries) (length c.args.self.now) c.search.new.steps c.args.steps.now (ap length c.self.view_is) c.search.ensures.steps

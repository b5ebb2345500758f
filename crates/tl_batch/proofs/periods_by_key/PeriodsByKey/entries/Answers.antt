use Rattle.std.proofs.Common.{subst}
use Rattle.tl_batch.specs.Covers.{StandIn}
use Rattle.tl_batch.proofs.HoldLemmas.{stands}
use Rattle.tl_batch.proofs.periods_by_key.PeriodsByKey.entries.Goals as goal

pub returns-clause-each : goal.returns-clause-each
returns-clause-each c = subst (λ es. StandIn es es) c.self.view_is (stands c.self.inside.covers.entries c.self.inside.covers.entries c.iter.ensures.found)

use Rattle.std.proofs.Common.{List, subst}
use Rattle.tl_types.specs.declared.commits.Commit.{Commit}
use Rattle.tl_types.specs.History.{database_of}
use Rattle.tl_types.specs.WellFormed.{HasTimes}
use Rattle.tl_types.proofs.TimeLemmas.{history_timed}
use Rattle.tl_store.specs.Log.{history_of}
use Rattle.tl_store.proofs.store.Store.versions.Goals as goal

pub returns-clause-times : goal.returns-clause-times
returns-clause-times c =
    subst (λ (cs : List Commit). HasTimes (database_of cs)) c.self.view_is (history_timed (history_of c.self.inside.tables.items c.self.inside.log) c.self.invariant.fitting)

use Rattle.std.proofs.Common.{◌∙◌, w64}
use Rattle.std.proofs.lemmas.Int.{to_z-of_z}
use Rattle.tl_types.specs.History.{database_of}
use Rattle.tl_app.specs.Scans.{plan_rows}
use Rattle.tl_app.proofs.RunsLemmas.{part_alternates, planned}
use Rattle.tl_app.proofs.aggregates.runs_of_all.Goals as goal

pub scanned_runs-requires-clause-events : goal.scanned_runs-requires-clause-events
scanned_runs-requires-clause-events g c = part_alternates (plan_rows c.args.scan.now.store.now c.args.scan.now.plan.now) c.args.scan.now.events.now c.requires.events

pub returns-clause-runs : goal.returns-clause-runs
returns-clause-runs g c = λ pred version keep keep_is events_are.
    (rw (to_z-of_z w64 c.args.from c.ranges.from, to_z-of_z w64 c.args.to c.ranges.to) at c.in_ok-runs.ensures.runs) ∙ planned (database_of c.args.scan.now.store.now) c.args.scan.now.plan.now pred version c.args.from c.args.to keep c.args.scan.now.events.now c.requires.together keep_is events_are

use Rattle.std.proofs.Common.{ap, subst, sym, ◌∙◌, w64}
use Rattle.std.proofs.lemmas.Int.{to_z-of_z}
use Rattle.tl_app.specs.Groups.{grouped_runs}
use Rattle.tl_app.specs.Opening.{Alternate}
use Rattle.tl_app.specs.Scans.{plan_rows}
use Rattle.tl_app.proofs.GroupLemmas.{runs_told}
use Rattle.tl_app.proofs.groups.runs_of_group.Goals as goal

pub scanned_runs-requires-clause-events : goal.scanned_runs-requires-clause-events
scanned_runs-requires-clause-events g c =
    subst (Alternate (plan_rows c.args.groups.now.store.now c.args.groups.now.plan.now)) (sym c.as_slice.ensures.value) c.requires.events

pub returns-clause-runs : goal.returns-clause-runs
returns-clause-runs g c =
    let rows = plan_rows c.args.groups.now.store.now c.args.groups.now.plan.now in
    runs_told rows c.args.groups.now.plan.now c.args.from c.args.to c.args.group.now.key c.as_slice.result.now c.in_ok-runs.runs.items (rw (to_z-of_z w64 c.args.from c.ranges.from, to_z-of_z w64 c.args.to c.ranges.to) at c.in_ok-runs.ensures.runs) c.in_ok-runs.ensures.tells
    ∙ ap (grouped_runs rows c.args.groups.now.plan.now c.args.from c.args.to c.args.group.now.key) c.as_slice.ensures.value

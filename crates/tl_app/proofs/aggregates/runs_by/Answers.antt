use Rattle.std.proofs.Common.{◌≤◌, length, subst, sym, arith, ◌∙◌, w64}
use Rattle.std.specs.List.{All}
use Rattle.std.proofs.lemmas.Int.{to_z-of_z}
use Rattle.tl_types.specs.History.{database_of}
use Rattle.tl_app.specs.declared.keyed.KeyGroup.{KeyGroup}
use Rattle.tl_app.specs.Groups.{event_count, AreGroupsOf}
use Rattle.tl_app.specs.Opening.{Alternate}
use Rattle.tl_app.specs.Scans.{plan_rows}
use Rattle.tl_app.proofs.GroupedLemmas.{all_alternate, groups_told, steps_few}
use Rattle.tl_app.proofs.RunsLemmas.{part_within, part_few}
use Rattle.tl_app.proofs.aggregates.runs_by.Goals as goal

pub groups_of-requires-clause-rows : goal.groups_of-requires-clause-rows
groups_of-requires-clause-rows g c = part_within (plan_rows c.args.scan.now.store.now c.args.scan.now.plan.now) c.args.scan.now.events.now c.requires.events

pub groups_of-requires-clause-few : goal.groups_of-requires-clause-few
groups_of-requires-clause-few g c =
    let few = part_few (plan_rows c.args.scan.now.store.now c.args.scan.now.plan.now) c.args.scan.now.events.now c.requires.events in
    let many = c.rows.ensures.number in
    let most = c.rows.ensures.few in
    omega arith

pub runs_of_groups-requires-clause-events : goal.runs_of_groups-requires-clause-events
runs_of_groups-requires-clause-events g c =
    let rows = plan_rows c.args.scan.now.store.now c.args.scan.now.plan.now in
    subst (All (λ (x : KeyGroup). Alternate rows x.events.items)) (sym c.as_slice.ensures.value) (all_alternate rows c.args.by c.args.scan.now.events.now c.in_ok-groups_of_events.groups_of_events.items c.requires.events c.in_ok-groups_of_events.ensures.groups)

pub returns-in_err-runs-clause-steps : goal.returns-in_err-runs-clause-steps
returns-in_err-runs-clause-steps g c =
    let few = subst (λ gs. event_count gs ≤ length c.args.scan.now.events.now) (sym c.as_slice.ensures.value) (steps_few (plan_rows c.args.scan.now.store.now c.args.scan.now.plan.now) c.args.by c.args.scan.now.events.now c.in_ok-groups_of_events.groups_of_events.items c.in_ok-groups_of_events.ensures.groups) in
    let s = c.groups_of.ensures.steps in
    let t = c.runs_of_groups.ensures.steps in
    omega arith

pub returns-clause-runs : goal.returns-clause-runs
returns-clause-runs g c = λ pred version keep keep_is events_are.
    let rows = plan_rows c.args.scan.now.store.now c.args.scan.now.plan.now in
    (rw (to_z-of_z w64 c.args.from c.ranges.from, to_z-of_z w64 c.args.to c.ranges.to) at c.in_ok-runs.ensures.runs)
    ∙ groups_told (database_of c.args.scan.now.store.now) c.args.scan.now.plan.now pred version c.args.by c.args.from c.args.to keep c.args.scan.now.events.now c.as_slice.result.now c.requires.by keep_is events_are
    (subst (AreGroupsOf rows c.args.by c.args.scan.now.events.now) (sym c.as_slice.ensures.value) c.in_ok-groups_of_events.ensures.groups)

pub returns-clause-steps : goal.returns-clause-steps
returns-clause-steps g c =
    let few = subst (λ gs. event_count gs ≤ length c.args.scan.now.events.now) (sym c.as_slice.ensures.value) (steps_few (plan_rows c.args.scan.now.store.now c.args.scan.now.plan.now) c.args.by c.args.scan.now.events.now c.in_ok-groups_of_events.groups_of_events.items c.in_ok-groups_of_events.ensures.groups) in
    let s = c.groups_of.ensures.steps in
    let t = c.runs_of_groups.ensures.steps in
    omega arith

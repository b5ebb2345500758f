use Rattle.std.proofs.Common.{◌+◌, sym, ap, ◌∙◌, subst, arith, w64, to_z, of_z}
use Rattle.std.proofs.lemmas.Int.{to_z-of_z}
use Rattle.std.proofs.lemmas.List.{take_all}
use Rattle.tl_app.specs.declared.keyed.KeyGroup.{KeyGroup}
use Rattle.tl_app.specs.Groups.{runs_with, runs_of_groups}
use Rattle.tl_app.specs.Opening.{Alternate}
use Rattle.tl_app.specs.Scans.{plan_rows}
use Rattle.tl_app.proofs.GroupLemmas.{groups_more, count_more, count_part}
use Rattle.tl_app.proofs.groups.runs_of_groups.Goals as goal

pub runs_of_group-requires-clause-events : goal.runs_of_group-requires-clause-events
runs_of_group-requires-clause-events g c =
    subst (λ (x : KeyGroup). Alternate (plan_rows c.args.groups.now.store.now c.args.groups.now.plan.now) x.events.items) (sym c.group-item.is) (c.requires.events c.loop-group.group-index c.group-item.result c.loop-group-test.true)

pub returns-in_err-more-clause-steps : goal.returns-in_err-more-clause-steps
returns-in_err-more-clause-steps g c =
    let groups = c.args.groups.now.groups.now in
    let i = c.loop-group.group-index in
    let more = count_more groups i c.group-item.result c.loop-group-test.true c.group-item.is in
    let part = count_part groups (i + 1) in
    let s = c.loop-group.invariant.steps in
    let t = c.runs_of_group.ensures.steps in
    omega arith

pub returns-in_err-add_runs-clause-steps : goal.returns-in_err-add_runs-clause-steps
returns-in_err-add_runs-clause-steps g c =
    let groups = c.args.groups.now.groups.now in
    let i = c.loop-group.group-index in
    let more = count_more groups i c.group-item.result c.loop-group-test.true c.group-item.is in
    let part = count_part groups (i + 1) in
    let s = c.loop-group.invariant.steps in
    let t = c.runs_of_group.ensures.steps in
    omega arith

pub loop-group-preserved : goal.loop-group-preserved
loop-group-preserved g c =
    let groups = c.args.groups.now.groups.now in
    let plan = c.args.groups.now.plan.now in
    let i = c.loop-group.group-index in
    let group = c.group-item.result in
    let more = count_more groups i group c.loop-group-test.true c.group-item.is in
    let s = c.loop-group.invariant.steps in
    let t = c.runs_of_group.ensures.steps in record {
      runs = groups_more (plan_rows c.args.groups.now.store.now plan) plan (to_z w64 (of_z w64 c.args.from)) (to_z w64 (of_z w64 c.args.to)) groups i group c.loop-group.runs.items (runs_with plan.kind group.key c.in_ok-more.more.items) c.add_runs.new.runs.items c.loop-group-test.true c.group-item.is
          c.loop-group.invariant.runs c.in_ok-more.ensures.runs c.in_ok-add_runs.ensures;
      steps = omega arith;
    }

pub returns-clause-runs : goal.returns-clause-runs
returns-clause-runs g c =
    let groups = c.args.groups.now.groups.now in
    let plan = c.args.groups.now.plan.now in
    (rw (to_z-of_z w64 c.args.from c.ranges.from, to_z-of_z w64 c.args.to c.ranges.to) at c.loop-group.invariant.runs)
    ∙ ap (runs_of_groups (plan_rows c.args.groups.now.store.now plan) plan c.args.from c.args.to) (take_all c.loop-group.group-index groups c.loop-group-test.false)

use Rattle.std.proofs.Common.{List, length, subst, sym, ap, ◌∙◌, arith, w64}
use Rattle.std.proofs.lemmas.Int.{to_z-of_z}
use Rattle.tl_types.specs.declared.events.ValidEvent.{ValidEvent}
use Rattle.tl_lanes.specs.Masks.{words_for}
use Rattle.tl_types.specs.declared.commits.Commit.{Commit}
use Rattle.tl_types.specs.Entries.{commits_of}
use Rattle.tl_types.specs.Checkpoints.{valid_events_in}
use Rattle.tl_types.specs.History.{database_of}
use Rattle.tl_bits.specs.Sets.{is_member}
use Rattle.tl_app.specs.Parts.{ArePlanned, IsPart}
use Rattle.tl_app.specs.Scans.{plan_rows}
use Rattle.tl_app.proofs.RunsLemmas.{kept_part_at, filter_few}
use Rattle.tl_app.proofs.aggregates.valid_runs_at.Goals as goal

pub runs_of_plan-requires-clause-events : goal.runs_of_plan-requires-clause-events
runs_of_plan-requires-clause-events g c =
    subst (λ s. IsPart (plan_rows s c.args.plan.now) c.as_slice.result.now) (sym c.store-store.ensures)
    (kept_part_at (plan_rows (commits_of c.args.snapshot.now) c.args.plan.now) c.args.keep.now c.args.version c.as_slice.result.now (c.as_slice.ensures.value ∙ c.in_ok-kept.ensures.list))

pub returns-in_err-runs-clause-steps : goal.returns-in_err-runs-clause-steps
returns-in_err-runs-clause-steps g c =
    let few = filter_few (λ (event : ValidEvent). is_member c.args.keep.now event.row) (valid_events_in (plan_rows (commits_of c.args.snapshot.now) c.args.plan.now) c.args.version) in
    let same = ap words_for c.requires.keep in
    let long = ap length (c.as_slice.ensures.value ∙ c.in_ok-kept.ensures.list) in
    let s = c.events_kept_at.ensures.steps in
    let t = c.runs_of_plan.ensures.steps in
    omega arith

pub returns-clause-runs : goal.returns-clause-runs
returns-clause-runs g c =
    let told = subst (λ (s : List Commit). ArePlanned (database_of s) c.args.plan.now c.as_slice.result.now c.args.from c.args.to c.in_ok-runs.runs.items) c.store-store.ensures (rw (to_z-of_z w64 c.args.from c.ranges.from, to_z-of_z w64 c.args.to c.ranges.to) at c.in_ok-runs.ensures.runs) in
    λ pred keep_is.
    c.from_vec.ensures ∙ told pred c.args.version c.args.keep.now keep_is (c.as_slice.ensures.value ∙ c.in_ok-kept.ensures.list)

pub returns-clause-steps : goal.returns-clause-steps
returns-clause-steps g c =
    let few = filter_few (λ (event : ValidEvent). is_member c.args.keep.now event.row) (valid_events_in (plan_rows (commits_of c.args.snapshot.now) c.args.plan.now) c.args.version) in
    let same = ap words_for c.requires.keep in
    let long = ap length (c.as_slice.ensures.value ∙ c.in_ok-kept.ensures.list) in
    let s = c.events_kept_at.ensures.steps in
    let t = c.runs_of_plan.ensures.steps in
    omega arith

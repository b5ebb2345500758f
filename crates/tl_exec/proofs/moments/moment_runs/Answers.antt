use Rattle.std.proofs.Common.{rules, SFits, w64, ◌-◌, ◌*◌, length, sym, refl}
use Rattle.std.proofs.lemmas.Int.{to_z-of_z}
use Rattle.std.proofs.lemmas.List.{length-drop}
use Rattle.tl_types.specs.Checkpoints.{valid_events_in}
use Rattle.tl_types.specs.Entries.{commits_of}
use Rattle.tl_types.specs.Events.{place_of, events_of}
use Rattle.tl_types.specs.History.{database_of, rows_of, visible_rows}
use Rattle.tl_index.specs.Snapshots.{mark_before}
use Rattle.tl_travel.specs.Bounds.{events_after_mark, begun_words, map_digits}
use Rattle.tl_filter.specs.Selecting.{tests_in}
use Rattle.tl_types.proofs.EventCounts.{events_few}
use Rattle.tl_exec.proofs.MomentLemmas.{moment_steps, same_moments}
use Rattle.tl_exec.proofs.moments.moment_runs.Goals as goal

pub returns-clause-steps : goal.returns-clause-steps
returns-clause-steps g c =
    let entries = c.args.snapshot.now in
    let db = database_of (commits_of entries) in
    let table = c.args.asked.plan.table in
    let version = c.args.asked.version in
    let rows = rows_of db table in
    let old = mark_before entries table version in
    moment_steps c.args.steps.now c.passing_rows.new.steps c.valid_runs_at.new.steps (tests_in c.args.asked.pred.now) (begun_words db table)
    (events_after_mark entries table version) (place_of rows version - place_of rows old) (map_digits db table) (map_digits db table) (begun_words db table)
    (2 * length (visible_rows db table version)) (length (valid_events_in rows version))
    c.passing_rows.ensures.steps c.valid_runs_at.ensures.steps
    (sym (length-drop (place_of rows old) (events_of rows version))) refl refl
    (events_few db table version)

pub returns-clause-runs : goal.returns-clause-runs
returns-clause-runs g c =
    let db = database_of (commits_of c.args.snapshot.now) in
    let first : SFits w64 c.args.asked.from = search rules in
    let last : SFits w64 c.args.asked.to = search rules in
    same_moments db c.args.asked.plan c.args.asked.pred.now c.args.asked.version c.valid_runs_at.result _ _ c.args.asked.from c.args.asked.to
    (to_z-of_z w64 c.args.asked.from first) (to_z-of_z w64 c.args.asked.to last)
    (c.valid_runs_at.ensures.runs c.args.asked.pred.now c.in_ok-keep.ensures.set)

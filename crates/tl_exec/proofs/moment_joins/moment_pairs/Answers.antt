use Rattle.std.proofs.Common.{◌-◌, ◌*◌, length, ap, sym, arith}
use Rattle.std.proofs.lemmas.List.{length-drop}
use Rattle.tl_types.specs.Entries.{commits_of}
use Rattle.tl_types.specs.Events.{place_of, events_of}
use Rattle.tl_types.specs.History.{database_of, rows_of, visible_rows}
use Rattle.tl_index.specs.Snapshots.{mark_before}
use Rattle.tl_travel.specs.Bounds.{events_after_mark, begun_words, map_digits}
use Rattle.tl_filter.specs.Selecting.{tests_in}
use Rattle.tl_types.proofs.EventCounts.{events_few}
use Rattle.tl_exec.proofs.MomentLemmas.{pair_steps}
use Rattle.tl_exec.proofs.moment_joins.moment_pairs.Goals as goal

pub returns-clause-steps : goal.returns-clause-steps
returns-clause-steps g c =
    let entries = c.args.snapshot.now in
    let db = database_of (commits_of entries) in
    let plan = c.args.joined.plan in
    let version = c.args.joined.version in
    let lefts = rows_of db plan.left in
    let rights = rows_of db plan.right in
    let left_mark = mark_before entries plan.left version in
    let right_mark = mark_before entries plan.right version in
    let left_few = events_few db plan.left version in
    let right_few = events_few db plan.right version in
    let left_is = ap length c.in_ok-lefts.ensures.events in
    let right_is = ap length c.in_ok-rights.ensures.events in
    pair_steps c.args.steps.now c.passing_rows.new.steps c.passing_rows-2.new.steps c.valid_events.new.steps c.valid_events-2.new.steps c.valid_join.new.steps
    (tests_in c.args.joined.left_pred.now * begun_words db plan.left) (tests_in c.args.joined.right_pred.now * begun_words db plan.right)
    (begun_words db plan.left) (begun_words db plan.right)
    (events_after_mark entries plan.left version) (events_after_mark entries plan.right version) (map_digits db plan.left) (map_digits db plan.right)
    (2 * length (visible_rows db plan.left version)) (2 * length (visible_rows db plan.right version))
    (place_of lefts version - place_of lefts left_mark) (place_of rights version - place_of rights right_mark)
    (length c.in_ok-lefts.lefts) (length c.in_ok-rights.rights)
    c.passing_rows.ensures.steps c.passing_rows-2.ensures.steps c.valid_events.ensures.steps c.valid_events-2.ensures.steps c.valid_join.ensures.steps
    (sym (length-drop (place_of lefts left_mark) (events_of lefts version))) (sym (length-drop (place_of rights right_mark) (events_of rights version)))
    (omega arith) (omega arith)

pub returns-clause-pairs : goal.returns-clause-pairs
returns-clause-pairs g c =
    c.valid_join.ensures.pairs c.args.joined.left_pred.now c.args.joined.right_pred.now c.args.joined.version c.in_ok-left_keep.ensures.set c.in_ok-right_keep.ensures.set
    c.in_ok-lefts.ensures.events c.in_ok-rights.ensures.events

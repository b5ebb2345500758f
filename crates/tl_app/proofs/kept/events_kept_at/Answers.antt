use Rattle.std.proofs.Common.{◌∙◌, arith}
use Rattle.tl_types.specs.Checkpoints.{valid_events_in}
use Rattle.tl_types.specs.Entries.{commits_of}
use Rattle.tl_types.specs.History.{database_of, rows_of}
use Rattle.tl_types.proofs.EventLemmas.{place_grows}
use Rattle.tl_index.specs.Snapshots.{mark_before}
use Rattle.tl_app.proofs.MarkLemmas.{before_is}
use Rattle.tl_app.proofs.RunsLemmas.{chosen_kept}
use Rattle.tl_app.proofs.kept.events_kept_at.Goals as goal

pub returns-clause-list : goal.returns-clause-list
returns-clause-list g c =
    c.in_ok-list.ensures.list ∙ chosen_kept c.in_ok-choice.choice c.args.keep.now (valid_events_in (rows_of (database_of (commits_of c.args.snapshot.now)) c.args.table) c.args.version) c.in_ok-choice.ensures.rows

pub returns-in_err-list-clause-steps : goal.returns-in_err-list-clause-steps
returns-in_err-list-clause-steps g c =
    let grows = place_grows (rows_of (database_of (commits_of c.args.snapshot.now)) c.args.table) (mark_before c.args.snapshot.now c.args.table c.args.version) c.args.version (before_is c.args.snapshot.now c.args.table c.args.version) in
    let s = c.of.ensures.steps in
    let t = c.valid_list.ensures.steps in
    omega arith

pub returns-clause-steps : goal.returns-clause-steps
returns-clause-steps g c =
    let grows = place_grows (rows_of (database_of (commits_of c.args.snapshot.now)) c.args.table) (mark_before c.args.snapshot.now c.args.table c.args.version) c.args.version (before_is c.args.snapshot.now c.args.table c.args.version) in
    let s = c.of.ensures.steps in
    let t = c.valid_list.ensures.steps in
    omega arith

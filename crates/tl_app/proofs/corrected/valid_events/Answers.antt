use Rattle.std.proofs.Common.{arith}
use Rattle.tl_types.specs.Entries.{commits_of}
use Rattle.tl_types.specs.History.{database_of, rows_of}
use Rattle.tl_types.proofs.EventLemmas.{place_grows}
use Rattle.tl_index.specs.Snapshots.{mark_before}
use Rattle.tl_app.proofs.MarkLemmas.{before_is}
use Rattle.tl_app.proofs.corrected.valid_events.Goals as goal

pub returns-in_err-events-clause-steps : goal.returns-in_err-events-clause-steps
returns-in_err-events-clause-steps g c =
    let grows = place_grows (rows_of (database_of (commits_of c.args.snapshot.now)) c.args.table) (mark_before c.args.snapshot.now c.args.table c.args.version) c.args.version (before_is c.args.snapshot.now c.args.table c.args.version) in
    let s = c.valid_events.ensures.steps in
    omega arith

pub returns-clause-steps : goal.returns-clause-steps
returns-clause-steps g c =
    let grows = place_grows (rows_of (database_of (commits_of c.args.snapshot.now)) c.args.table) (mark_before c.args.snapshot.now c.args.table c.args.version) c.args.version (before_is c.args.snapshot.now c.args.table c.args.version) in
    let s = c.valid_events.ensures.steps in
    omega arith

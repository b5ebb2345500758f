-- The events up to a version are no more than all of them.
use Rattle.std.proofs.Common.{◌∙◌, ap, length, arith}
use Rattle.tl_types.specs.Entries.{commits_of}
use Rattle.tl_types.specs.History.{database_of, rows_of}
use Rattle.tl_types.proofs.EventLemmas.{place_grows}
use Rattle.tl_index.proofs.snapshots.Snapshot.events_after.Goals as goal

pub overflow_sub-result : goal.overflow_sub-result
overflow_sub-result g c =
    let db = database_of (commits_of c.args.self.now) in
    let rows = rows_of db c.args.table in
    let map = c.version_map.ensures.map in
    let place = c.end_of-before.ensures.history rows db.version map c.requires.version in
    let all = c.len.ensures ∙ ap length c.events.ensures in
    let grows = place_grows rows c.args.version db.version c.requires.version in
    omega (arith, place, all, grows)

use Rattle.tl_types.specs.Entries.{commits_of}
use Rattle.tl_types.specs.History.{database_of}
use Rattle.std.proofs.Common.{ap, ◌∙◌}
use Rattle.tl_index.specs.Tables.{TableOf}
use Rattle.tl_index.proofs.BuildLemmas.{parts_are, built}
use Rattle.tl_index.proofs.snapshots.Snapshot.build.Goals as goal

pub returns : goal.returns
returns g c =
    let db = database_of (commits_of c.args.self.now) in
    built db c.args.table c.version-version.result c.len-place.result c.in_ok-rows.rows c.in_ok-valid_events.valid_events c.new.result c.requires
    (c.version-version.ensures ∙ ap (λ (t : TableOf). t.db.version) c.timed-timed.ensures)
    (parts_are db c.args.table c.timed-timed.result c.version-version.result c.len-place.result c.in_ok-rows.rows c.events.result.now c.timed-timed.ensures c.version-version.ensures c.in_ok-rows.ensures.set c.events.ensures.events c.events.ensures.formed c.len-place.ensures)
    c.in_ok-valid_events.ensures c.new.ensures

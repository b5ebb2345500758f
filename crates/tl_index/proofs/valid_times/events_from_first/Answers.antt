use Rattle.tl_types.specs.Checkpoints.{valid_events_in}
use Rattle.tl_index.specs.Tables.{rows_in}
use Rattle.tl_index.proofs.ValidLemmas.{put_into_none}
use Rattle.tl_index.proofs.valid_times.events_from_first.Goals as goal

pub returns-clause-events : goal.returns-clause-events
returns-clause-events g c = put_into_none c.all-all.result c.none.result c.in_ok-list.list.items c.in_ok-events.events (valid_events_in (rows_in c.args.table.now) c.args.version) c.all-all.ensures c.none.ensures c.in_ok-list.ensures.rises c.in_ok-list.ensures.list c.in_ok-events.ensures

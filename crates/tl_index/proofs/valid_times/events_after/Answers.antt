use Rattle.std.proofs.Common.{ap, ◌∙◌}
use Rattle.tl_types.specs.Checkpoints.{valid_events_in}
use Rattle.tl_ckpt.specs.Valid.{merged}
use Rattle.tl_index.specs.Tables.{rows_in}
use Rattle.tl_index.proofs.ValidLemmas.{from_mark}
use Rattle.tl_index.proofs.valid_times.events_after.Goals as goal

pub returns-clause-events : goal.returns-clause-events
returns-clause-events g c =
    from_mark c.all-all.result c.args.mark.now.valid_events c.in_ok-events.events c.in_ok-changes.changes.items (valid_events_in (rows_in c.args.table.now) c.args.version) c.all-all.ensures c.in_ok-changes.ensures.lead
    (c.in_ok-events.ensures ∙ ap (λ es. merged es c.in_ok-changes.changes.items) c.valid_events.ensures)

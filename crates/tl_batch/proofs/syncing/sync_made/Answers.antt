use Rattle.std.proofs.Common.{[], sym, ap, ◌∙◌}
use Rattle.tl_batch.specs.PutRows.{rows_put}
use Rattle.tl_types.specs.Resolving.{conflict_fault}
use Rattle.tl_batch.proofs.StandingLemmas.{nothing_stands}
use Rattle.tl_batch.proofs.syncing.sync_made.Goals as goal

pub returns-then-is_empty : goal.returns-then-is_empty
returns-then-is_empty c =
    let parts = nothing_stands c.args.table.now c.in_ok-open_ids.open_ids (rows_put c.args.rows) c.in_ok-changes.changes.opens.items c.in_ok-changes.changes.closes c.is_empty.result c.in_ok-open_ids.ensures.rows c.is_empty.ensures c.if-is_empty.true c.in_ok-changes.ensures.closes c.in_ok-changes.ensures.opens in
    (ap (conflict_fault c.args.table.now.schema 2 []) (sym c.as_slice-lines.ensures) ∙ (sym c.in_ok-found.ensures.fault ∙ c.in_default.is), parts.0, parts.1)

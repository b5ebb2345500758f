use Rattle.std.proofs.Common.{sym, ap, ◌∙◌}
use Rattle.tl_batch.specs.PutRows.{rows_put}
use Rattle.tl_batch.proofs.UntimedLines.{timed_done}
use Rattle.tl_batch.proofs.resolving.put_made.Goals as goal

pub returns-then-valid : goal.returns-then-valid
returns-then-valid c = timed_done c.args.table.now (rows_put c.args.rows) c.as_slice.result.now c.in_ok-changes.changes (sym (c.valid.ensures.value ∙ ap (λ s. s.valid) c.schema.ensures.value) ∙ c.if-valid.true) c.as_slice.ensures c.in_ok-changes.ensures.closes c.in_ok-changes.ensures.opens

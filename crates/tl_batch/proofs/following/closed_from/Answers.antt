use Rattle.std.proofs.Common.{arith, length, ◌<◌, get_or, Some, ap, ◌∙◌}
use Rattle.tl_types.specs.History.{database_of, rows_of}
use Rattle.tl_batch.proofs.ClosingLemmas.{closing_more}
use Rattle.tl_batch.proofs.following.closed_from.Goals as goal

pub loop-id-preserved : goal.loop-id-preserved
loop-id-preserved g c =
    let cell = rw c.table.ensures at (ap Some c.in_ok-key.ensures ∙ c.cell-cell.ensures.value) in
    let same = ap length c.closes-id-items.ensures.value in
    let within : c.loop-id.id-index < length c.args.change.now.closes = omega arith in
    closing_more c.args.place c.loop-id.id-index (get_or c.closes-id-items.result.now c.loop-id.id-index 0) c.args.change.now.closes (rows_of (database_of c.args.store.now) c.args.change.now.table) c.in_ok-key.key c.loop-id.closed.items c.push.new.self.items within (ap (λ is. get_or is c.loop-id.id-index 0) c.closes-id-items.ensures.value) cell c.in_ok-push.ensures.items c.loop-id.invariant

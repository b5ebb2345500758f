use Rattle.std.proofs.Common.{arith, rules}
use Rattle.tl_batch.proofs.UntimedLines.{row_key_more}
use Rattle.tl_batch.proofs.untimed.keys_of_rows.Goals as goal

pub loop-row-preserved : goal.loop-row-preserved
loop-row-preserved c = row_key_more c.args.place c.loop-row.row-index c.args.rows.now c.row-item.result c.cells-cells.result.now _ c.loop-row.keys.items c.push.new.self.items (omega arith) c.row-item.is (search rules) c.cells-cells.ensures.value c.index-cells-place.is c.in_ok-push.ensures.items c.loop-row.invariant

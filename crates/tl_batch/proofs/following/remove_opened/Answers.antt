use Rattle.std.proofs.Common.{rules, arith, get_or, ap, refl, ◌∙◌, ◌+◌}
use Rattle.tl_batch.proofs.IndexedRows.{row_taken}
use Rattle.tl_batch.proofs.following.remove_opened.Goals as goal

pub loop-i-preserved : goal.loop-i-preserved
loop-i-preserved c = row_taken c.args.place c.args.first c.args.rows.now c.loop-i.i (c.args.first + c.loop-i.i) c.index-rows-i.result c.index-cells-place.result c.loop-i.index c.args.index.now c.remove.new.self (omega arith) c.index-rows-i.is (search rules) (c.index-cells-place.is ∙ ap (λ cs. get_or cs c.args.place c.index-cells-place.result) c.cells-cells.ensures.value) refl c.loop-i.invariant c.remove.ensures

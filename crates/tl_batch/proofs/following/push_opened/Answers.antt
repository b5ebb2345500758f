use Rattle.std.proofs.Common.{rules, arith, get_or, ap, refl, ◌∙◌, ◌+◌}
use Rattle.tl_batch.proofs.IndexedRows.{row_added, most_so_far, least_so_far}
use Rattle.tl_batch.proofs.following.push_opened.Goals as goal

pub returns-in_err-add-clause-most : goal.returns-in_err-add-clause-most
returns-in_err-add-clause-most c = λ x n. most_so_far c.args.place c.args.first c.loop-i.i c.args.rows.now c.args.index.now c.add.new.self x n (c.in_err-add.ensures.err x n ∙ c.loop-i.invariant x n)

pub returns-in_err-add-clause-least : goal.returns-in_err-add-clause-least
returns-in_err-add-clause-least c = λ x n. least_so_far c.args.place c.args.first c.loop-i.i c.args.rows.now c.args.index.now c.add.new.self x n (c.in_err-add.ensures.err x n ∙ c.loop-i.invariant x n)

pub loop-i-preserved : goal.loop-i-preserved
loop-i-preserved c = row_added c.args.place c.args.first c.args.rows.now c.loop-i.i (c.args.first + c.loop-i.i) c.index-rows-i.result c.index-cells-place.result c.index-cells-place.result c.loop-i.index c.args.index.now c.add.new.self (omega arith) c.index-rows-i.is (search rules) (c.index-cells-place.is ∙ ap (λ cs. get_or cs c.args.place c.index-cells-place.result) c.cells-cells.ensures.value) refl refl c.loop-i.invariant c.in_ok-add.ensures.ok

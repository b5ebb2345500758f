use Rattle.std.proofs.Common.{◌≡◌, ◌++◌, ◌∷◌, [], ◌∙◌, ap, get_or, length}
use Rattle.std.proofs.lemmas.List.{length-set}
use Rattle.tl_csv.specs.Block.{cell_in}
use Rattle.tl_csv.proofs.RowLemmas.{nothing, one_taken, others_distinct, others_within}
use Rattle.tl_csv.proofs.rows.take_into.Goals as goal

pub loop-place-preserved : goal.loop-place-preserved
loop-place-preserved c =
    let places = c.args.places.now in
    let i = c.loop-place.place-index in
    let took = c.take_cell.ensures in
    let kept = c.loop-place.invariant in
    let put : c.push.new.self ≡ c.loop-place.taken ++ cell_in c.loop-place.cells (get_or places i 0) ∷ [] = rw took.taken at c.in_ok-push.ensures.ok in
    let sized : length c.take_cell.new.cells ≡ length c.loop-place.cells = ap length took.left ∙ length-set c.loop-place.cells (get_or places i 0) nothing in
    record {
      taken = one_taken c.loop-place.cells c.take_cell.new.cells places i c.loop-place.taken c.push.new.self _ c.loop-place-test.true took.left kept.distinct put kept.taken;
      distinct = others_distinct places i c.loop-place-test.true kept.distinct;
      within = others_within (length c.loop-place.cells) (length c.take_cell.new.cells) places i c.loop-place-test.true sized kept.within;
    }

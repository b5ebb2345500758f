use Rattle.std.proofs.Common.{arith, ◌∙◌}
use Rattle.tl_running.proofs.HeapLemmas.{both_less, both_same}
use Rattle.tl_running.proofs.heaps.settle.Goals as goal

pub tops-preserved : goal.tops-preserved
tops-preserved c =
    let one = c.drop_top.ensures.joins in
    let two = c.drop_top-in-Some.ensures.joins in
    let long = one.long in
    let was = c.tops.invariant.long in record {
      within = both_less c.tops.came c.tops.gone c.drop_top.new.pile c.drop_top-in-Some.new.pile _ c.tops.invariant.within one two;
      room = c.drop_top-in-Some.ensures.room ∙ c.tops.invariant.room;
      long = omega arith;
      same = both_same c.tops.came c.tops.gone c.drop_top.new.pile c.drop_top-in-Some.new.pile _ c.args.came.now.numbers c.args.gone.now.numbers c.tops.invariant.same one two;
    }

use Rattle.std.proofs.Common.{ℕ, List, subst, sym, arith, ◌+◌}
use Rattle.std.specs.Simd.Lanes.{put_chunk}
use Rattle.tl_lanes.proofs.Zipped.{CombinedTo, combined_lanes}
use Rattle.tl_lanes.proofs.words.combine_lanes.Goals as goal

pub loop-left-preserved : goal.loop-left-preserved
loop-left-preserved g c =
    let f = g.O.WordOperation.value in
    let P : List ℕ → Type 0 = λ lanes. CombinedTo f c.args.left.now (put_chunk c.loop-left.at c.loop-left.left lanes) c.args.right.now (c.loop-left.at + 8) in
    subst P (sym c.lanes-lanes.ensures)
    (combined_lanes f c.args.left.now c.loop-left.left c.args.right.now c.loop-left.at 8 (omega arith) (omega arith) (omega arith) c.loop-left.invariant)

use Rattle.std.proofs.Common.{rules}
use Rattle.std.proofs.lemmas.Int.{to_z-of_z}
use mir.Syntax.{w128}
use mir.Val.{SFits}
use Rattle.tl_rows.proofs.packed.pack.Goals as goal

pub returns-in_ok-packed-in-Number-clause-packed : goal.returns-in_ok-packed-in-Number-clause-packed
returns-in_ok-packed-in-Number-clause-packed c =
    let fits : SFits w128 c.in-Number.number = search rules in
    rw c.in-Number.is (rw (to_z-of_z w128 c.in-Number.number fits) at (c.in_ok-packed-in-Number.ensures.packed c.args.texts.now.items))

pub returns-in_ok-packed-in-Ratio-clause-packed : goal.returns-in_ok-packed-in-Ratio-clause-packed
returns-in_ok-packed-in-Ratio-clause-packed c =
    let fits : SFits w128 c.in-Ratio.sum = search rules in
    rw c.in-Ratio.is (rw (to_z-of_z w128 c.in-Ratio.sum fits) at (c.in_ok-packed-in-Ratio.ensures.packed c.args.texts.now.items))

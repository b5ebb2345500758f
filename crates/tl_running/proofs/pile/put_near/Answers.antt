use Rattle.std.proofs.Common.{arith, w64}
use Rattle.std.proofs.lemmas.Int.{to_z-of_z, ints}
use Rattle.tl_running.proofs.PileLemmas.{near_fills}
use Rattle.tl_running.proofs.pile.put_near.Goals as goal

pub returns-then-number-bound : goal.returns-then-number-bound
returns-then-number-bound c =
    let own = to_z-of_z w64 c.args.number c.ranges.number in
    let into = rw own at c.push.ensures.joins in
    rw own (record { fills = near_fills c.args.near.now c.push.new.self c.args.far.now c.args.bound c.args.number c.args.number c.requires.pile c.requires.close into c.push.ensures.room (omega (arith, ints)) (λ v low high. high) })

pub returns : goal.returns
returns c =
    let own = to_z-of_z w64 c.args.number c.ranges.number in
    let whole = to_z-of_z w64 c.args.bound c.ranges.bound in
    let into = rw own at c.push.ensures.joins in
    let less = rw (own, whole) at c.if-number-bound.false in
    rw whole (record { fills = near_fills c.args.near.now c.push.new.self c.args.far.now c.args.bound c.args.number c.args.bound c.requires.pile c.requires.close into c.push.ensures.room (omega (arith, ints)) (λ v low high. low) })

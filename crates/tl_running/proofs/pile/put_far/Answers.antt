use Rattle.std.proofs.Common.{w64}
use Rattle.std.proofs.lemmas.Int.{to_z-of_z}
use Rattle.tl_running.proofs.PileLemmas.{far_fills}
use Rattle.tl_running.proofs.pile.put_far.Goals as goal

pub returns-then-is_far-clause-fills : goal.returns-then-is_far-clause-fills
returns-then-is_far-clause-fills c is =
    let own = to_z-of_z w64 c.args.number c.ranges.number in
    let whole = to_z-of_z w64 c.args.bound c.ranges.bound in
    let into = rw own at c.push.ensures.joins in
    let low = rw (own, whole) at c.is_far-is_far.ensures.far in
    far_fills c.args.near.now c.args.far.now c.push.new.self c.args.bound c.args.number c.requires.pile (low is) into c.push.ensures.room

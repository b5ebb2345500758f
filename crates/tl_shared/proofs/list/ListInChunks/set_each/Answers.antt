use Rattle.std.proofs.Common.{◌≡◌, length, ap, arith}
use Rattle.tl_shared.specs.Chunks.{flatten, set_each}
use Rattle.tl_shared.proofs.Groups.{length-set_each}
use Rattle.tl_shared.proofs.list.ListInChunks.set_each.Goals as goal

pub invariant_of-result : goal.invariant_of-result
invariant_of-result g c =
    let xs = flatten c.self.inside.chunks in
    let listed : flatten c.in_ok-chunks.chunks ≡ set_each c.args.item.now xs c.args.places.now =
    c.in_ok-chunks.ensures.list in
    record { some = c.self.invariant.some; few = c.self.invariant.few; chunked = c.in_ok-chunks.ensures.chunked; len_is = omega (arith, c.self.invariant.len_is, ap length listed, length-set_each c.args.item.now xs c.args.places.now) }

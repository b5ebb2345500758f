use Rattle.std.proofs.Common.{◌/◌, ◌%◌, ◌<◌, length, get_or, refl, arith}
use Rattle.std.proofs.Math.Nat.{div-add-mod}
use Rattle.tl_shared.specs.Chunks.{flatten, set_each}
use Rattle.tl_shared.proofs.Pieces.{piece_within}
use Rattle.tl_shared.proofs.Groups.{group_within, group_step}
use Rattle.tl_shared.proofs.list.set_in_chunks.Goals as goal

pub set_within-requires-clause-there : goal.set_within-requires-clause-there
set_within-requires-clause-there g c =
    let ds = c.loop-rest.chunks in
    let p = get_or c.loop-rest.rest.now 0 0 in
    let low : p < length (flatten ds) = c.loop-rest.invariant.small 0 0 (omega (arith, c.in-len1-up.len_at_least)) in
    piece_within g.row.SIZE ds (flatten ds) c.loop-rest.invariant.chunked refl (p / g.row.SIZE) (p % g.row.SIZE) (omega (arith, div-add-mod p g.row.SIZE, low))

pub set_within-requires-clause-places : goal.set_within-requires-clause-places
set_within-requires-clause-places g c =
    let rest = c.loop-rest.rest.now in
    group_within g.row.SIZE c.loop-rest.chunks rest c.split_at.result.0.now c.places_in_chunk.result (get_or rest 0 0 / g.row.SIZE) c.requires.size c.loop-rest.invariant.chunked c.loop-rest.invariant.small c.places_in_chunk.ensures.inside c.split_at.ensures.front

pub loop-rest-preserved : goal.loop-rest-preserved
loop-rest-preserved g c =
    let rest = c.loop-rest.rest.now in
    let step = group_step g.row.SIZE c.loop-rest.chunks c.in_ok-chunks.chunks c.args.item.now rest c.split_at.result.0.now c.split_at.result.1.now c.places_in_chunk.result (get_or rest 0 0 / g.row.SIZE) (set_each c.args.item.now (flatten c.args.chunks) c.args.places.now) c.requires.size c.loop-rest.invariant.chunked c.loop-rest.invariant.small c.places_in_chunk.ensures.inside c.split_at.ensures.front c.split_at.ensures.back c.in_ok-chunks.ensures c.loop-rest.invariant.list in
    record { list = step.0; chunked = step.1; small = step.2 }

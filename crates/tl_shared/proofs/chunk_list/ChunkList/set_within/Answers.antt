use Rattle.std.proofs.Common.{◌/◌, ◌%◌, length, set, ap, ◌∙◌, arith}
use Rattle.tl_shared.specs.Chunks.{set_within}
use Rattle.tl_shared.proofs.Pieces.{piece_within, chunk_there, chunk_is, block_chunked, block_list}
use Rattle.tl_shared.proofs.chunk_list.ChunkList.set_within.Goals as goal

pub index_mut-requires : goal.index_mut-requires
index_mut-requires g c =
    let bs = c.self.inside.blocks.items in
    omega (arith, c.self.inside.blocks.ok.0, piece_within 64 bs c.args.self c.self.invariant c.self.view_is (c.args.i / 64) (c.args.i % 64) (omega (arith, c.requires.there)))

pub set_within_chunk-requires-clause-there : goal.set_within_chunk-requires-clause-there
set_within_chunk-requires-clause-there g c = chunk_there 64 c.self.inside.blocks.items c.args.self c.self.invariant c.self.view_is (omega arith) c.args.i c.requires.there c.index_mut.result.now c.index_mut.ensures.value

pub set_within_chunk-requires-clause-places : goal.set_within_chunk-requires-clause-places
set_within_chunk-requires-clause-places g c = λ k d h.
    omega (arith, c.requires.places k d h, ap length (chunk_is 64 c.self.inside.blocks.items c.args.self c.self.invariant c.self.view_is (omega arith) c.args.i c.requires.there c.index_mut.result.now c.index_mut.ensures.value))

pub invariant_of-result : goal.invariant_of-result
invariant_of-result g c = block_chunked 64 c.self.inside.blocks.items c.args.self c.self.invariant c.self.view_is (omega arith) c.args.i c.requires.there c.index_mut.result.now c.index_mut.ensures.value c.set_within_chunk.new.self _ c.in_ok-set_within_chunk.ensures

pub returns : goal.returns
returns g c =
    block_list 64 c.self.inside.blocks.items c.args.self c.self.invariant c.self.view_is (omega arith) c.args.i c.requires.there c.index_mut.result.now c.index_mut.ensures.value c.set_within_chunk.new.self _ c.in_ok-set_within_chunk.ensures
    ∙ ap (λ t. set c.args.self c.args.i (set_within g.row.SIZE c.args.item.now t c.args.places.now)) (chunk_is 64 c.self.inside.blocks.items c.args.self c.self.invariant c.self.view_is (omega arith) c.args.i c.requires.there c.index_mut.result.now c.index_mut.ensures.value)

use Rattle.std.proofs.Common.{◌/◌, ◌%◌, arith}
use Rattle.tl_shared.proofs.Pieces.{piece_within, chunk_there, block_chunked, block_list}
use Rattle.tl_shared.proofs.chunk_list.ChunkList.with.Goals as goal

pub index_mut-requires : goal.index_mut-requires
index_mut-requires g c =
    let bs = c.self.inside.blocks.items in
    omega (arith, c.self.inside.blocks.ok.0, piece_within 64 bs c.args.self c.self.invariant c.self.view_is (c.args.i / 64) (c.args.i % 64) (omega (arith, c.requires.there)))

pub set-requires : goal.set-requires
set-requires g c = chunk_there 64 c.self.inside.blocks.items c.args.self c.self.invariant c.self.view_is (omega arith) c.args.i c.requires.there c.index_mut.result.now c.index_mut.ensures.value

pub invariant_of-result : goal.invariant_of-result
invariant_of-result g c = block_chunked 64 c.self.inside.blocks.items c.args.self c.self.invariant c.self.view_is (omega arith) c.args.i c.requires.there c.index_mut.result.now c.index_mut.ensures.value c.set.new.self c.args.chunk c.in_ok-set.ensures.ok

pub returns : goal.returns
returns g c = block_list 64 c.self.inside.blocks.items c.args.self c.self.invariant c.self.view_is (omega arith) c.args.i c.requires.there c.index_mut.result.now c.index_mut.ensures.value c.set.new.self c.args.chunk c.in_ok-set.ensures.ok

use Rattle.std.proofs.Common.{◌≡◌, ◌+◌, ◌*◌, ◌/◌, ◌%◌, [], ap, ◌∙◌, arith}
use Rattle.tl_shared.specs.Chunks.{piece_or_nil}
use Rattle.tl_shared.proofs.Pieces.{item_at}
use Rattle.tl_shared.proofs.chunk_list.ChunkList.chunk.Goals as goal

pub returns : goal.returns
returns g c =
    let i = c.args.i in
    let place : 64 * (i / 64) + i % 64 ≡ i = omega arith in
    c.items_of_chunk.ensures
    ∙ ap (piece_or_nil (i % 64)) (c.items_of_chunk-block.ensures ∙ ap (piece_or_nil (i / 64)) c.as_slice.ensures.value)
    ∙ item_at 64 c.self.inside.blocks.items c.args.self.now c.self.invariant c.self.view_is (i / 64) (i % 64) [] (omega arith)
    ∙ ap (λ n. piece_or_nil n c.args.self.now) place

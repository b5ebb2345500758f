use Rattle.std.proofs.Common.{◌∙◌}
use Rattle.tl_shared.proofs.Pieces.{piece_is}
use Rattle.tl_shared.proofs.list.ListInChunks.chunk.Goals as goal

pub returns : goal.returns
returns g c =
    c.chunk.ensures ∙ piece_is g.row.SIZE c.self.inside.chunks c.args.self.now c.self.invariant.chunked c.self.view_is c.args.i

use Rattle.std.proofs.Common.{length, ap}
use Rattle.tl_shared.proofs.Pieces.{ends_full}
use Rattle.tl_shared.proofs.list.ListInChunks.append_chunks.Goals as goal

pub push_chunks-requires-clause-full : goal.push_chunks-requires-clause-full
push_chunks-requires-clause-full g c =
    ends_full g.row.SIZE c.self.inside.chunks (length c.args.self) c.self.invariant.chunked (ap length c.self.view_is) c.requires.full

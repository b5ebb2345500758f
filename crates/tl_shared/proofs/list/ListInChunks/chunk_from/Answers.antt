use Rattle.std.proofs.Common.{◌/◌, ◌%◌, length, drop, ap, ◌∙◌, arith}
use Rattle.std.proofs.Math.Nat.{div-add-mod, mod-lt}
use Rattle.tl_shared.proofs.Pieces.{place_within, piece_from}
use Rattle.tl_shared.proofs.list.ListInChunks.chunk_from.Goals as goal

pub split_at-requires : goal.split_at-requires
split_at-requires g c =
    omega (arith, ap length c.chunk-whole.ensures, place_within g.row.SIZE c.self.inside.chunks c.args.self.now c.self.invariant.chunked c.self.view_is (c.args.at / g.row.SIZE) (c.args.at % g.row.SIZE) (mod-lt c.args.at c.self.invariant.some) (omega (arith, div-add-mod c.args.at g.row.SIZE, c.requires)))

pub returns-clause-items : goal.returns-clause-items
returns-clause-items g c =
    let low = mod-lt c.args.at c.self.invariant.some in
    c.split_at.ensures.back
    ∙ ap (drop (c.args.at % g.row.SIZE)) c.chunk-whole.ensures
    ∙ piece_from g.row.SIZE c.self.inside.chunks c.args.self.now c.self.invariant.chunked c.self.view_is (c.args.at / g.row.SIZE) (c.args.at % g.row.SIZE) c.args.at (omega (arith, low)) (div-add-mod c.args.at g.row.SIZE)

pub returns-clause-some : goal.returns-clause-some
returns-clause-some g c =
    omega (arith, c.split_at.ensures.back_len, ap length c.chunk-whole.ensures, place_within g.row.SIZE c.self.inside.chunks c.args.self.now c.self.invariant.chunked c.self.view_is (c.args.at / g.row.SIZE) (c.args.at % g.row.SIZE) (mod-lt c.args.at c.self.invariant.some) (omega (arith, div-add-mod c.args.at g.row.SIZE, c.requires)))

use Rattle.std.proofs.Common.{◌≡◌, ◌+◌, ◌*◌, ◌/◌, ◌%◌, length, get_or, ap, ◌∙◌, arith}
use Rattle.std.proofs.Math.Nat.{div-add-mod, mod-lt}
use Rattle.tl_shared.proofs.Pieces.{place_within, item_at}
use Rattle.tl_shared.proofs.list.ListInChunks.at.Goals as goal

pub offset_bounds-chunk-at : goal.offset_bounds-chunk-at
offset_bounds-chunk-at g c =
    omega (arith, ap length c.chunk-chunk.ensures, c.requires, place_within g.row.SIZE c.self.inside.chunks c.args.self.now c.self.invariant.chunked c.self.view_is (c.args.at / g.row.SIZE) (c.args.at % g.row.SIZE) (mod-lt c.args.at c.self.invariant.some) (omega (arith, div-add-mod c.args.at g.row.SIZE, c.requires)))

pub bounds-chunk-at : goal.bounds-chunk-at
bounds-chunk-at g c =
    omega (arith, ap length c.chunk-chunk.ensures, c.requires, place_within g.row.SIZE c.self.inside.chunks c.args.self.now c.self.invariant.chunked c.self.view_is (c.args.at / g.row.SIZE) (c.args.at % g.row.SIZE) (mod-lt c.args.at c.self.invariant.some) (omega (arith, div-add-mod c.args.at g.row.SIZE, c.requires)))

pub returns : goal.returns
returns g c =
    let place : g.row.SIZE * (c.args.at / g.row.SIZE) + c.args.at % g.row.SIZE ≡ c.args.at = div-add-mod c.args.at g.row.SIZE in
    c.index-chunk-at.is
    ∙ ap (λ t. get_or t (c.args.at % g.row.SIZE) c.index-chunk-at.result) c.chunk-chunk.ensures
    ∙ item_at g.row.SIZE c.self.inside.chunks c.args.self.now c.self.invariant.chunked c.self.view_is (c.args.at / g.row.SIZE) (c.args.at % g.row.SIZE) c.index-chunk-at.result (mod-lt c.args.at c.self.invariant.some)
    ∙ ap (λ n. get_or c.args.self.now n c.index-chunk-at.result) place

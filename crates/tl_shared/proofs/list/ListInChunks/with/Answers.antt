use Rattle.std.proofs.Common.{◌≡◌, ◌+◌, ◌*◌, ◌/◌, ◌%◌, ◌<◌, length, set, ap, ◌∙◌, sym, subst, arith}
use Rattle.std.proofs.lemmas.List.{length-set}
use Rattle.std.proofs.Math.Nat.{div-add-mod, mod-lt}
use Rattle.tl_shared.specs.Chunks.{flatten, IsChunked, piece_or_nil}
use Rattle.tl_shared.proofs.Pieces.{piece_within, place_within, with_list, chunked_set}
use Rattle.tl_shared.proofs.list.ListInChunks.with.Goals as goal

pub index_mut-requires : goal.index_mut-requires
index_mut-requires g c =
    let copy = c.in_ok-items.ensures ∙ c.chunk.ensures in
    omega (arith, c.in_ok-items.items.ok.0, ap length copy, c.requires, place_within g.row.SIZE c.self.inside.chunks c.args.self.now c.self.invariant.chunked c.self.view_is (c.args.at / g.row.SIZE) (c.args.at % g.row.SIZE) (mod-lt c.args.at c.self.invariant.some) (omega (arith, div-add-mod c.args.at g.row.SIZE, c.requires)))

pub with-requires-clause-there : goal.with-requires-clause-there
with-requires-clause-there g c =
    omega (arith, ap length c.in_ok-share.ensures, piece_within g.row.SIZE c.self.inside.chunks c.args.self.now c.self.invariant.chunked c.self.view_is (c.args.at / g.row.SIZE) (c.args.at % g.row.SIZE) (omega (arith, div-add-mod c.args.at g.row.SIZE, c.requires)))

pub invariant_of-result : goal.invariant_of-result
invariant_of-result g c =
    let ds = c.self.inside.chunks in
    let xs = c.args.self.now in
    let i = c.args.at / g.row.SIZE in
    let r = c.args.at % g.row.SIZE in
    let place : g.row.SIZE * i + r ≡ c.args.at = div-add-mod c.args.at g.row.SIZE in
    let at : g.row.SIZE * i + r < length xs = omega (arith, place, c.requires) in
    let one = set (piece_or_nil i ds) r c.args.item in
    let written : c.in_ok-chunk.chunk ≡ one = c.in_ok-chunk.ensures ∙ ap (λ t. set t r c.args.item) (c.in_ok-items.ensures ∙ c.chunk.ensures) in
    let all : c.in_ok-chunks.chunks ≡ set ds i one = c.in_ok-chunks.ensures ∙ ap (λ t. set t i c.in_ok-chunk.chunk) c.in_ok-share.ensures ∙ ap (set ds i) written in
    let list = ap flatten all ∙ with_list g.row.SIZE ds xs c.self.invariant.chunked c.self.view_is i r c.args.item (mod-lt c.args.at c.self.invariant.some) at ∙ ap (λ n. set xs n c.args.item) place in record {
      some = c.self.invariant.some;
      few = c.self.invariant.few;
      chunked = subst (λ t. IsChunked g.row.SIZE t) (sym all) (chunked_set g.row.SIZE ds i one c.self.invariant.chunked (length-set (piece_or_nil i ds) r c.args.item));
      len_is = omega (arith, c.self.invariant.len_is, ap length c.self.view_is, ap length list, length-set xs c.args.at c.args.item);
    }

pub returns : goal.returns
returns g c =
    let ds = c.self.inside.chunks in
    let xs = c.args.self.now in
    let i = c.args.at / g.row.SIZE in
    let r = c.args.at % g.row.SIZE in
    let place : g.row.SIZE * i + r ≡ c.args.at = div-add-mod c.args.at g.row.SIZE in
    let at : g.row.SIZE * i + r < length xs = omega (arith, place, c.requires) in
    let one = set (piece_or_nil i ds) r c.args.item in
    let written : c.in_ok-chunk.chunk ≡ one = c.in_ok-chunk.ensures ∙ ap (λ t. set t r c.args.item) (c.in_ok-items.ensures ∙ c.chunk.ensures) in
    let all : c.in_ok-chunks.chunks ≡ set ds i one = c.in_ok-chunks.ensures ∙ ap (λ t. set t i c.in_ok-chunk.chunk) c.in_ok-share.ensures ∙ ap (set ds i) written in
    ap flatten all ∙ with_list g.row.SIZE ds xs c.self.invariant.chunked c.self.view_is i r c.args.item (mod-lt c.args.at c.self.invariant.some) at ∙ ap (λ n. set xs n c.args.item) place

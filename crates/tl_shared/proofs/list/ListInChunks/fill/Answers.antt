use Rattle.std.proofs.Common.{◌+◌, ◌%◌, ◌<◌, ◌≤◌, length, ap, ◌∙◌, sym, subst, arith}
use Rattle.std.proofs.Common.{length-append}
use Rattle.tl_shared.specs.Chunks.{flatten, IsChunked}
use Rattle.tl_shared.proofs.Pieces.{last_there, last_room, last_list, last_chunked}
use Rattle.tl_shared.proofs.list.ListInChunks.fill.Goals as goal

pub extend_chunk-requires-clause-there : goal.extend_chunk-requires-clause-there
extend_chunk-requires-clause-there g c = last_there g.row.SIZE c.args.items.now c.self.inside.chunks c.args.self c.self.invariant.chunked c.self.view_is c.self.invariant.some c.self.inside.len (c.self.invariant.len_is ∙ ap length c.self.view_is) (subst (λ n. 0 < n % g.row.SIZE) (sym (c.self.invariant.len_is ∙ ap length c.self.view_is)) c.requires.begun) (subst (λ n. n % g.row.SIZE + length c.args.items.now ≤ g.row.SIZE) (sym (c.self.invariant.len_is ∙ ap length c.self.view_is)) c.requires.room)

pub extend_chunk-requires-clause-room : goal.extend_chunk-requires-clause-room
extend_chunk-requires-clause-room g c = last_room g.row.SIZE c.args.items.now c.self.inside.chunks c.args.self c.self.invariant.chunked c.self.view_is c.self.invariant.some c.self.inside.len (c.self.invariant.len_is ∙ ap length c.self.view_is) (subst (λ n. 0 < n % g.row.SIZE) (sym (c.self.invariant.len_is ∙ ap length c.self.view_is)) c.requires.begun) (subst (λ n. n % g.row.SIZE + length c.args.items.now ≤ g.row.SIZE) (sym (c.self.invariant.len_is ∙ ap length c.self.view_is)) c.requires.room)

pub invariant_of-result : goal.invariant_of-result
invariant_of-result g c =
    let list = ap flatten c.in_ok-chunks.ensures ∙ last_list g.row.SIZE c.args.items.now c.self.inside.chunks c.args.self c.self.invariant.chunked c.self.view_is c.self.invariant.some c.self.inside.len (c.self.invariant.len_is ∙ ap length c.self.view_is) (subst (λ n. 0 < n % g.row.SIZE) (sym (c.self.invariant.len_is ∙ ap length c.self.view_is)) c.requires.begun) (subst (λ n. n % g.row.SIZE + length c.args.items.now ≤ g.row.SIZE) (sym (c.self.invariant.len_is ∙ ap length c.self.view_is)) c.requires.room) in
    record {
      some = c.self.invariant.some;
      few = c.self.invariant.few;
      chunked = subst (λ t. IsChunked g.row.SIZE t) (sym c.in_ok-chunks.ensures) (last_chunked g.row.SIZE c.args.items.now c.self.inside.chunks c.args.self c.self.invariant.chunked c.self.view_is c.self.invariant.some c.self.inside.len (c.self.invariant.len_is ∙ ap length c.self.view_is) (subst (λ n. 0 < n % g.row.SIZE) (sym (c.self.invariant.len_is ∙ ap length c.self.view_is)) c.requires.begun) (subst (λ n. n % g.row.SIZE + length c.args.items.now ≤ g.row.SIZE) (sym (c.self.invariant.len_is ∙ ap length c.self.view_is)) c.requires.room));
      len_is = omega (arith, c.in-Some.ensures, c.self.invariant.len_is, ap length c.self.view_is, ap length list, length-append c.args.self c.args.items.now);
    }

pub returns : goal.returns
returns g c = ap flatten c.in_ok-chunks.ensures ∙ last_list g.row.SIZE c.args.items.now c.self.inside.chunks c.args.self c.self.invariant.chunked c.self.view_is c.self.invariant.some c.self.inside.len (c.self.invariant.len_is ∙ ap length c.self.view_is) (subst (λ n. 0 < n % g.row.SIZE) (sym (c.self.invariant.len_is ∙ ap length c.self.view_is)) c.requires.begun) (subst (λ n. n % g.row.SIZE + length c.args.items.now ≤ g.row.SIZE) (sym (c.self.invariant.len_is ∙ ap length c.self.view_is)) c.requires.room)

use Rattle.std.proofs.Common.{◌≡◌, ◌<◌, ◌≤◌, ◌++◌, length, ap, ◌∙◌, append_assoc, arith}
use Rattle.std.proofs.lemmas.Bool.Decides.{nat_tests}
use Rattle.tl_shared.specs.Chunks.{flatten, AreFull}
use Rattle.tl_shared.proofs.Pieces.{rejoin, full_more, piece_more, flatten_more}
use Rattle.tl_shared.proofs.list.push_chunks.Goals as goal

pub loop-rest-preserved : goal.loop-rest-preserved
loop-rest-preserved g c =
    let size = g.row.SIZE in
    let so_far = c.loop-rest.chunks in
    let piece = c.split_at.result.0.now in
    let behind = c.split_at.result.1.now in
    let left : 0 < length c.loop-rest.rest.now = grind (arith, nat_tests) in
    let full : AreFull size so_far = c.loop-rest.invariant.full (omega arith) in
    let some : 0 < length piece = omega (arith, c.split_at.ensures.front_len, c.requires.size) in
    let most : length piece ≤ size = omega (arith, c.split_at.ensures.front_len) in
    let whole : piece ++ behind ≡ c.loop-rest.rest.now =
    rejoin c.min.result c.loop-rest.rest.now piece behind c.split_at.ensures.front c.split_at.ensures.back in
    rw (c.in_ok-chunks.ensures, c.in_ok-chunk.ensures, c.in_ok-share_all.ensures)
    (record {
      list =
          ap (λ t. t ++ behind) (flatten_more size so_far piece)
          ∙ append_assoc (flatten so_far) piece behind
          ∙ ap (λ t. flatten so_far ++ t) whole
          ∙ c.loop-rest.invariant.list;
      chunked = piece_more size so_far piece full some most;
      full = λ more. full_more size so_far piece full (omega (arith, more, c.split_at.ensures.back_len));
    })

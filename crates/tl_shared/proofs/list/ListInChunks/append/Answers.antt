use Rattle.std.proofs.Common.{◌≡◌, ◌+◌, ◌-◌, ◌%◌, length, length-append, ap, ◌∙◌, arith}
use Rattle.tl_shared.proofs.Pieces.{filled_up}
use Rattle.tl_shared.proofs.list.ListInChunks.append.Goals as goal

pub append_chunks-requires-2 : goal.append_chunks-requires-2
append_chunks-requires-2 g c =
    let len : c.self.inside.len ≡ length c.args.self = c.self.invariant.len_is ∙ ap length c.self.view_is in
    let first : length c.split_at.result.0.now ≡ g.row.SIZE - c.self.inside.len % g.row.SIZE = c.split_at.ensures.front_len in
    let more : length c.in_ok-fill.field-0 ≡ length c.args.self + (g.row.SIZE - length c.args.self % g.row.SIZE) =
    ap length c.in_ok-fill.ensures
    ∙ length-append c.args.self c.split_at.result.0.now
    ∙ ap (λ n. length c.args.self + n) (first ∙ ap (λ n. g.row.SIZE - n % g.row.SIZE) len) in
    (omega arith, ap (λ n. n % g.row.SIZE) more ∙ filled_up g.row.SIZE (length c.args.self) c.self.invariant.some)

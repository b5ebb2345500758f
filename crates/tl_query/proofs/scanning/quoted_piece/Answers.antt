use Rattle.std.proofs.Common.{◌≤◌, ◌∙◌, sym, ap, subst, List, take, length, IfSome, Option, ℕ, false, arith}
use Rattle.std.specs.Str.{IsUtf8}
use Rattle.tl_query.specs.Scanning.{single_quotes}
use Rattle.tl_query.proofs.Turns.{closing_within}
use Rattle.tl_query.proofs.Utf8.{inside_utf8}
use Rattle.tl_query.proofs.scanning.quoted_piece.Goals as goal

pub split_at-requires : goal.split_at-requires
split_at-requires c =
    let short : c.in-Some.count ≤ length c.args.bytes.now = subst (λ (o : Option ℕ). IfSome o (λ m. m ≤ length c.args.bytes.now)) (sym c.closing_len.ensures ∙ c.in-Some.is) (closing_within false c.args.bytes.now) in
    omega arith

pub overflow_add-len : goal.overflow_add-len
overflow_add-len c =
    let short : c.in-Some.count ≤ length c.args.bytes.now = subst (λ (o : Option ℕ). IfSome o (λ m. m ≤ length c.args.bytes.now)) (sym c.closing_len.ensures ∙ c.in-Some.is) (closing_within false c.args.bytes.now) in
    omega arith

pub text_token-requires : goal.text_token-requires
text_token-requires c =
    let h = inside_utf8 c.args.bytes.now c.in-Some.count (sym c.closing_len.ensures ∙ c.in-Some.is) c.requires.utf8 in
    subst (λ (x : List ℕ). IsUtf8 x) (sym (c.as_slice.ensures.value ∙ c.in_ok-text.ensures ∙ ap (single_quotes false) (c.split_at.ensures.front ∙ ap (λ n. take n c.args.bytes.now) c.saturating_sub.ensures))) h

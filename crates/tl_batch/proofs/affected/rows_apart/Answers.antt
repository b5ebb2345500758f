use Rattle.std.proofs.Common.{rules, ◌≡◌, ◌∷◌, [], sym, ap, ◌∙◌, w64, of_z, to_z, FitsSigned}
use Rattle.std.proofs.lemmas.Int.{to_z-of_z}
use Rattle.tl_batch.specs.Covers.{is_covered}
use Rattle.tl_batch.proofs.affected.rows_apart.Goals as goal

pub returns-in-Some : goal.returns-in-Some
returns-in-Some g c = λ lines full same.
    let e : FitsSigned w64 c.in-Some.end = search rules in
    let s : FitsSigned w64 c.in-Some.start = search rules in
    let shown : (to_z w64 (of_z w64 c.in-Some.end), to_z w64 (of_z w64 c.in-Some.start)) ∷ [] ≡ c.args.cover.now = ap (λ z. (z, to_z w64 (of_z w64 c.in-Some.start)) ∷ []) (to_z-of_z w64 c.in-Some.end e) ∙ (ap (λ z. (c.in-Some.end, z) ∷ []) (to_z-of_z w64 c.in-Some.start s) ∙ sym c.in-Some.ensures.same) in
    c.rows_off.ensures lines full (λ t. ap (is_covered t) shown ∙ same t)

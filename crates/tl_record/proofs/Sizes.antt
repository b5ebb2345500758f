-- How many bytes lists of parts have.
use Rattle.std.proofs.Common.{◌≡◌, ℕ, ℤ, ◌*◌, List, [], ◌∷◌, ◌++◌, length, refl, ap, ◌∙◌, append_assoc, arith}
use Rattle.std.proofs.lemmas.List.{length-append}
use Rattle.std.specs.List.{flat_map}
use Rattle.tl_record.specs.Spelling.{number, signed_number}

pub length-ids : (ids : List ℕ) → 4 * length ids ≡ length (flat_map number ids)
length-ids [] = refl
length-ids (id ∷ ids) =
    let l = length-ids ids in
    let a = length-append (number id) (flat_map number ids) in
    omega (arith, l, a)

-- both ends of a period written behind a byte
pub two_behind : (out s t : List ℕ) (from to from' to' : ℤ) → from' ≡ from → to' ≡ to
    → s ≡ out ++ (1 ∷ signed_number from') → t ≡ s ++ signed_number to'
    → t ≡ out ++ (1 ∷ signed_number from ++ signed_number to)
two_behind out s t from to from' to' p q f g =
    put (signed_number from) (signed_number to)
    (f ∙ ap (λ i. out ++ (1 ∷ signed_number i)) p) (g ∙ ap (λ i. s ++ signed_number i) q) where
      put : (a b : List ℕ) → s ≡ out ++ (1 ∷ a) → t ≡ s ++ b → t ≡ out ++ (1 ∷ a ++ b)
      put a b f g = g ∙ (ap (λ l. l ++ b) f ∙ append_assoc out (1 ∷ a) b)

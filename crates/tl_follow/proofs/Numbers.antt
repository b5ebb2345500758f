-- The number of four bytes that bytes begin with.
use Rattle.std.proofs.Common.{◌≡◌, ℕ, zero, suc, ◌^◌, ◌<◌, ◌≤◌, List, [], ◌∷◌, ◌++◌, length, get_or, take, drop, refl, sym, ap, ◌∙◌, arith, length-take, take-append-drop}
use Rattle.std.specs.Int.{w32, from_be_bytes}
use Rattle.std.proofs.lemmas.Nat.{be_bytes_4}
use Rattle.tl_record.specs.Spelling.{number}
use Rattle.tl_record.specs.Reading.{any_4}
use Rattle.tl_record.proofs.Fields.{any_4_reads}
use Rattle.tl_record.proofs.Parts.{same_value}

small_take : (n : ℕ) (bytes : List ℕ) → ((i : ℕ) → get_or bytes i 0 < 256) → (i : ℕ) → get_or (take n bytes) i 0 < 256
small_take zero bytes h i = omega arith
small_take (suc n) [] h i = omega arith
small_take (suc n) (b ∷ bytes) h zero = h 0
small_take (suc n) (b ∷ bytes) h (suc i) = small_take n bytes (λ j. h (suc j)) i

pub begins_with_number : (bytes : List ℕ) → ((i : ℕ) → get_or bytes i 0 < 256) → 4 ≤ length bytes → bytes ≡ number (from_be_bytes w32 (take 4 bytes)) ++ drop 4 bytes
begins_with_number bytes bound long =
    let is : number (from_be_bytes w32 (take 4 bytes)) ≡ take 4 bytes =
    be_bytes_4 (take 4 bytes) (from_be_bytes w32 (take 4 bytes)) (omega (arith, length-take 4 bytes, long)) (small_take 4 bytes bound) refl in
    sym (take-append-drop 4 bytes) ∙ ap (λ l. l ++ drop 4 bytes) (sym is)

-- bytes begin with one number alone
pub one_number : (v w : ℕ) (r s : List ℕ) → v < 2 ^ 32 → w < 2 ^ 32 → number v ++ r ≡ number w ++ s → (v ≡ w) × (r ≡ s)
one_number v w r s f g e =
    let p = same_value {X = ℕ × List ℕ} (v, r) (w, s)
    (sym (any_4_reads.again v r f) ∙ (ap any_4 e ∙ any_4_reads.again w s g)) in
    (ap (λ z. z.0) p, ap (λ z. z.1) p)

-- One word more of those that were given.
use Rattle.std.proofs.Common.{◌≡◌, ◌+◌, ℕ, suc, List, [], ◌∷◌, ◌++◌, Some, None, IfSome, slice_get, take, arith, sym, ap, ◌∙◌}
use Rattle.std.specs.declared.option.Option.{Option}
use Rattle.std.proofs.Math.Seq.{take-suc}
use Rattle.std.proofs.lemmas.Option.{slice_get_within, get_or_from_slice_get}

one_more : (given : List (List ℕ)) (n : ℕ) (word : List ℕ) → slice_get given n ≡ Some word → take (n + 1) given ≡ take n given ++ word ∷ []
one_more given n word at =
    let next : n + 1 ≡ suc n = omega arith in
    rw next (take-suc given n [] (slice_get_within given n word at) ∙ ap (λ (w : List ℕ). take n given ++ w ∷ []) (get_or_from_slice_get given n word [] at))

-- the first words with the next one
pub word_more : (told : Option (List (List ℕ))) (n : ℕ) (all later : List (List ℕ)) (word : List ℕ)
    → IfSome told (λ given. take n given ≡ all) → IfSome told (λ given. slice_get given n ≡ Some word) → later ≡ all ++ word ∷ []
    → IfSome told (λ given. take (n + 1) given ≡ later)
word_more None n all later word before found pushed = tt
word_more (Some given) n all later word before found pushed =
    one_more given n word found ∙ (ap (λ (ws : List (List ℕ)). ws ++ word ∷ []) before ∙ sym pushed)

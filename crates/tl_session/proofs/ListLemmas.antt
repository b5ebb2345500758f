-- Items of a list by their places.
use Rattle.std.proofs.Common.{◌≡◌, ℕ, ◌+◌, List, [], ◌∷◌, ◌++◌, length, take, slice_get, Some, ap, ◌∙◌, arith, length-append}
use Rattle.std.proofs.lemmas.List.{take_more, get_or_at}
use Rattle.std.proofs.lemmas.Option.{slice_get-get_or, slice_get_within, get_or_from_slice_get}

-- the item behind so many others is the last of one more
pub take_next : {X : Type 0} (xs : List X) (n : ℕ) (x : X) → slice_get xs n ≡ Some x → take (n + 1) xs ≡ take n xs ++ x ∷ []
take_next xs n x is =
    take_more xs n x (slice_get_within xs n x is) ∙ ap (λ y. take n xs ++ y ∷ []) (get_or_from_slice_get xs n x x is)

-- the item behind so many others
pub item_at : {X : Type 0} (xs : List X) (x : X) (ys : List X) (n : ℕ) → length xs ≡ n → slice_get (xs ++ x ∷ ys) n ≡ Some x
item_at xs x ys n long =
    slice_get-get_or (xs ++ x ∷ ys) n x (omega (arith, long, length-append xs (x ∷ ys))) ∙ ap Some (get_or_at xs x ys x n long)

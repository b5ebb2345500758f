-- Counting the rows that are there, and collecting their numbers, one row more at a time.
use Rattle.std.proofs.Common.{◌≡◌, ℕ, ◌+◌, ◌<◌, Bool, true, false, cond, List, [], ◌∷◌, ◌++◌, length, take, get_or, Option, Some, None, refl, sym, ap, ◌∙◌}
use Rattle.std.proofs.lemmas.List.{append-nil, length_push}
use Rattle.std.proofs.lemmas.List.Elements.{filter_more, filter_map-append}
use Rattle.std.specs.List.{filter, filter_map, cons_option}

one_kept : {X Y : Type 0} (h : X → Option Y) (p : X → Bool) (x : X) → filter_map h (cond (p x) (x ∷ []) []) ≡ cons_option (cond (p x) (h x) None) []
one_kept h p x = elim (p x) as (λ b. filter_map h (cond b (x ∷ []) []) ≡ cons_option (cond b (h x) None) []) [ true ↦ refl | false ↦ refl ]

more : {X Y : Type 0} (h : X → Option Y) (p : X → Bool) (xs : List X) (i : ℕ) (x : X) → i < length xs → x ≡ get_or xs i x → filter_map h (filter p (take (i + 1) xs)) ≡ filter_map h (filter p (take i xs)) ++ cons_option (cond (p x) (h x) None) []
more h p xs i x l is =
    let grown = ap (filter_map h) (filter_more p xs i x l) in
    let parts = filter_map-append h (filter p (take i xs)) (cond (p (get_or xs i x)) (get_or xs i x ∷ []) []) in
    let one = one_kept h p (get_or xs i x) in
    grown ∙ parts ∙ ap (λ ys. filter_map h (filter p (take i xs)) ++ ys) (one ∙ ap (λ y. cons_option (cond (p y) (h y) None) []) (sym is))

-- a row that gives a number, and one that gives none
pub number_kept : {X Y : Type 0} (h : X → Option Y) (p : X → Bool) (xs : List X) (i : ℕ) (x : X) (y : Y) (out new : List Y) → i < length xs → x ≡ get_or xs i x → Some y ≡ cond (p x) (h x) None → new ≡ out ++ y ∷ [] → out ≡ filter_map h (filter p (take i xs)) → new ≡ filter_map h (filter p (take (i + 1) xs))
number_kept h p xs i x y out new l is given step was =
    step ∙ ap (λ ys. ys ++ y ∷ []) was ∙ ap (λ o. filter_map h (filter p (take i xs)) ++ cons_option o []) given ∙ sym (more h p xs i x l is)

pub number_left : {X Y : Type 0} (h : X → Option Y) (p : X → Bool) (xs : List X) (i : ℕ) (x : X) (out : List Y) → i < length xs → x ≡ get_or xs i x → None ≡ cond (p x) (h x) None → out ≡ filter_map h (filter p (take i xs)) → out ≡ filter_map h (filter p (take (i + 1) xs))
number_left h p xs i x out l is given was =
    was ∙ sym (append-nil (filter_map h (filter p (take i xs)))) ∙ ap (λ o. filter_map h (filter p (take i xs)) ++ cons_option o []) given ∙ sym (more h p xs i x l is)

-- the number of those that pass, with one that passes and one that does not
pub count_kept : {X : Type 0} (p : X → Bool) (xs : List X) (i : ℕ) (x : X) (n m : ℕ) → i < length xs → x ≡ get_or xs i x → p x ≡ true → m ≡ n + 1 → n ≡ length (filter p (take i xs)) → m ≡ length (filter p (take (i + 1) xs))
count_kept p xs i x n m l is passes step was =
    let one : cond (p (get_or xs i x)) (get_or xs i x ∷ []) [] ≡ get_or xs i x ∷ [] = rw (ap p (sym is) ∙ passes) refl in
    let grown = ap length (filter_more p xs i x l ∙ ap (λ ys. filter p (take i xs) ++ ys) one) ∙ length_push (filter p (take i xs)) (get_or xs i x) in
    step ∙ ap (λ k. k + 1) was ∙ sym grown

pub count_left : {X : Type 0} (p : X → Bool) (xs : List X) (i : ℕ) (x : X) (n : ℕ) → i < length xs → x ≡ get_or xs i x → p x ≡ false → n ≡ length (filter p (take i xs)) → n ≡ length (filter p (take (i + 1) xs))
count_left p xs i x n l is fails was =
    let none : cond (p (get_or xs i x)) (get_or xs i x ∷ []) [] ≡ [] = rw (ap p (sym is) ∙ fails) refl in
    was ∙ sym (ap length (filter_more p xs i x l ∙ ap (λ ys. filter p (take i xs) ++ ys) none ∙ append-nil (filter p (take i xs))))

-- The names of sessions as the texts of a set.
use Rattle.std.proofs.Common.{◌≡◌, ℕ, ◌+◌, suc, Bool, true, false, List, [], ◌∷◌, length, map, refl, ap, sym, ◌∙◌, arith, not, nat_lt, cond, position}
use Rattle.std.proofs.lemmas.Bool.{lt-ltb}
use Rattle.std.proofs.lemmas.List.{length-map, map-append}
use Rattle.std.specs.List.{position_or_len, list_any}
use Rattle.std.proofs.Math.Path.{fun_ext}
use Rattle.indexmap.specs.IndexSet.{insert_key}
use Rattle.tl_types.specs.Names.{same_bytes}
use Rattle.tl_script.specs.Phases.{session_number, with_name}

-- two byte strings are the same in both directions
pub same_bytes_both : (xs ys : List ℕ) → same_bytes xs ys ≡ same_bytes ys xs
same_bytes_both [] [] = refl
same_bytes_both [] (y ∷ ys) = refl
same_bytes_both (x ∷ xs) [] = refl
same_bytes_both (x ∷ xs) (y ∷ ys) = let h = same_bytes_both xs ys in grind (arith)

-- the first place in a list that is made of another
pub place-map : {X Y : Type 0} (p : Y → Bool) (f : X → Y) (xs : List X) → position_or_len p (map f xs) ≡ position_or_len (λ x. p (f x)) xs
place-map p f [] = refl
place-map p f (x ∷ xs) = ap (λ n. cond (not (p (f x))) (1 + n) 0) (place-map p f xs)

-- one place behind both
one_behind : (n m : ℕ) → nat_lt n m ≡ nat_lt (1 + n) (suc m)
one_behind n m = grind arith

-- a test passes somewhere where it has a first place
pub any_by_place : {X : Type 0} (p : X → Bool) (xs : List X) → list_any p xs ≡ nat_lt (position_or_len p xs) (length xs)
any_by_place p [] = refl
any_by_place p (x ∷ xs) = by_test (p x) refl (any_by_place p xs) where
  by_test : (t : Bool) → p x ≡ t → list_any p xs ≡ nat_lt (position_or_len p xs) (length xs) → list_any p (x ∷ xs) ≡ nat_lt (position_or_len p (x ∷ xs)) (length (x ∷ xs))
  by_test true e h = rw e (sym (lt-ltb 0 (suc (length xs)) (omega arith)))
  by_test false e h = rw e (h ∙ one_behind (position_or_len p xs) (length xs))

-- the place of a text among texts
pub place_of_text : {X : Type 0} (f : X → List ℕ) (xs : List X) (name : List ℕ) → position (λ x. same_bytes name (f x)) xs ≡ position (λ known. same_bytes known name) (map f xs)
place_of_text f xs name =
    let test : (λ x. same_bytes name (f x)) ≡ (λ x. same_bytes (f x) name) = fun_ext (λ x. same_bytes_both name (f x)) in
    let place = place-map (λ known. same_bytes known name) f xs in
    let len = length-map xs f in
    ap (λ p. position p xs) test ∙ rw (place, len) refl

-- the names with one put behind them, where it is not among them
pub names_with_one : {X : Type 0} (f : X → List ℕ) (xs : List X) (x : X) → map f (insert_key (λ y z. same_bytes (f y) (f z)) xs x) ≡ with_name (map f xs) (f x)
names_with_one f xs x = by_test (list_any (λ z. same_bytes (f x) (f z)) xs) refl where
  found : list_any (λ z. same_bytes (f x) (f z)) xs ≡ nat_lt (session_number (map f xs) (f x)) (length (map f xs))
  found =
      let test : (λ z. same_bytes (f x) (f z)) ≡ (λ z. same_bytes (f z) (f x)) = fun_ext (λ z. same_bytes_both (f x) (f z)) in
      let place = place-map (λ known. same_bytes known (f x)) f xs in
      let len = length-map xs f in
      any_by_place (λ z. same_bytes (f x) (f z)) xs ∙ (ap (λ p. nat_lt (position_or_len p xs) (length xs)) test ∙ rw (place, len) refl)

  by_test : (t : Bool) → list_any (λ z. same_bytes (f x) (f z)) xs ≡ t → map f (insert_key (λ y z. same_bytes (f y) (f z)) xs x) ≡ with_name (map f xs) (f x)
  by_test true e = let g = sym found ∙ e in rw (e, g) refl
  by_test false e = let g = sym found ∙ e in rw (e, g) (map-append f xs (x ∷ []))

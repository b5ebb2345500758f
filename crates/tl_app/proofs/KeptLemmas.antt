-- A list whose items that pass a test are moved to its front, one by one.
use Rattle.std.proofs.Common.{◌≡◌, ℕ, zero, suc, ◌+◌, ◌≤◌, ◌<◌, Bool, true, false, cond, List, [], ◌∷◌, ◌++◌, length, take, drop, get_or, refl, sym, ap, ◌∙◌, arith, subst, slice_set}
use Rattle.std.specs.List.{filter}
use Rattle.std.proofs.lemmas.List.{take_more, take_all, append-nil}
use Rattle.std.proofs.lemmas.List.Elements.{filter-append}

-- of the first items, so many, those that pass stand at the front, and behind these places the list
-- is as it was
pub record IsSifted {X : Type 0} (P : X → Bool) (before now : List X) (i kept : ℕ) : Type 0 where
  pub long : length now ≡ length before
  pub within : kept ≤ i
  pub front : take kept now ≡ filter P (take i before)
  pub back : drop i now ≡ drop i before

pub length_set : {X : Type 0} (xs : List X) (n : ℕ) (y : X) → length (slice_set xs n y) ≡ length xs
length_set [] n y = refl
length_set (x ∷ xs) zero y = refl
length_set (x ∷ xs) (suc n) y = ap suc (length_set xs n y)

front_set : {X : Type 0} (xs : List X) (n : ℕ) (y : X) → n < length xs → take (suc n) (slice_set xs n y) ≡ take n xs ++ y ∷ []
front_set [] n y l = absurd (omega arith)
front_set (x ∷ xs) zero y l = refl
front_set (x ∷ xs) (suc n) y l = ap (λ ys. x ∷ ys) (front_set xs n y (omega arith))

back_set : {X : Type 0} (xs : List X) (n m : ℕ) (y : X) → n < m → drop m (slice_set xs n y) ≡ drop m xs
back_set [] n m y l = refl
back_set (x ∷ xs) n zero y l = absurd (omega arith)
back_set (x ∷ xs) zero (suc m) y l = refl
back_set (x ∷ xs) (suc n) (suc m) y l = back_set xs n m y (omega arith)

back_more : {X : Type 0} (xs ys : List X) (i : ℕ) → drop i xs ≡ drop i ys → drop (suc i) xs ≡ drop (suc i) ys
back_more {X = X} xs ys i same = sym (of_tail xs i) ∙ ap tail same ∙ of_tail ys i where
  tail : List X → List X
  tail [] = []
  tail (z ∷ zs) = zs

  of_tail : (zs : List X) (k : ℕ) → tail (drop k zs) ≡ drop (suc k) zs
  of_tail [] zero = refl
  of_tail [] (suc k) = refl
  of_tail (z ∷ zs) zero = refl
  of_tail (z ∷ zs) (suc k) = of_tail zs k

pub same_there : {X : Type 0} (xs ys : List X) (i : ℕ) (d : X) → drop i xs ≡ drop i ys → get_or xs i d ≡ get_or ys i d
same_there {X = X} xs ys i d same = sym (of_head xs i) ∙ ap (λ zs. get_or zs 0 d) same ∙ of_head ys i where
  of_head : (zs : List X) (k : ℕ) → get_or (drop k zs) 0 d ≡ get_or zs k d
  of_head [] zero = refl
  of_head [] (suc k) = refl
  of_head (z ∷ zs) zero = refl
  of_head (z ∷ zs) (suc k) = of_head zs k

module _ {X : Type 0} (P : X → Bool) (before now : List X) (i kept : ℕ) (d : X) (sifted : IsSifted P before now i kept) where
  front_more : i < length before → filter P (take (i + 1) before) ≡ take kept now ++ cond (P (get_or now i d)) (get_or now i d ∷ []) []
  front_more l =
      ap (filter P) (take_more before i d l) ∙ filter-append P (take i before) (get_or before i d ∷ []) ∙ ap (λ xs. xs ++ cond (P (get_or before i d)) (get_or before i d ∷ []) []) (sym sifted.front)
      ∙ ap (λ x. take kept now ++ cond (P x) (x ∷ []) []) (sym (same_there now before i d sifted.back))

  sifted_in : i < length before → P (get_or now i d) ≡ true → IsSifted P before (slice_set now kept (get_or now i d)) (i + 1) (kept + 1)
  sifted_in l passes =
      let within = sifted.within in
      let long = sifted.long in
      let e : kept + 1 ≡ suc kept = omega arith in
      let f : i + 1 ≡ suc i = omega arith in
      record {
        long = length_set now kept (get_or now i d) ∙ sifted.long;
        within = omega arith;
        front = ap (λ n. take n (slice_set now kept (get_or now i d))) e ∙ front_set now kept (get_or now i d) (omega arith) ∙ sym (front_more l ∙ ap (λ b. take kept now ++ cond b (get_or now i d ∷ []) []) passes);
        back = ap (λ n. drop n (slice_set now kept (get_or now i d))) f ∙ back_set now kept (suc i) (get_or now i d) (omega arith) ∙ back_more now before i sifted.back ∙ ap (λ n. drop n before) (sym f);
      }

  sifted_out : i < length before → P (get_or now i d) ≡ false → IsSifted P before now (i + 1) kept
  sifted_out l fails =
      let within = sifted.within in
      let f : i + 1 ≡ suc i = omega arith in
      record {
        long = sifted.long;
        within = omega arith;
        front = sym (front_more l ∙ ap (λ b. take kept now ++ cond b (get_or now i d ∷ []) []) fails ∙ append-nil (take kept now));
        back = ap (λ n. drop n now) f ∙ back_more now before i sifted.back ∙ ap (λ n. drop n before) (sym f);
      }

  -- an item that passes is moved, another is not
  pub moves : (new : List X) → i < length before → d ≡ get_or now i d → P d ≡ true → new ≡ slice_set now kept d → IsSifted P before new (i + 1) (kept + 1)
  moves new l is passes new_is = subst (λ xs. IsSifted P before xs (i + 1) (kept + 1)) (sym (new_is ∙ ap (slice_set now kept) is)) (sifted_in l (ap P (sym is) ∙ passes))

  pub stays : i < length before → d ≡ get_or now i d → P d ≡ false → IsSifted P before now (i + 1) kept
  stays l is fails = sifted_out l (ap P (sym is) ∙ fails)

  pub sifted_all : length before ≤ i → take kept now ≡ filter P before
  sifted_all past = sifted.front ∙ ap (filter P) (take_all i before past)

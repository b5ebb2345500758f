-- Pairs of a value with how often it is there, made of an ascending list.
use Rattle.std.proofs.Common.{◌≡◌, ◌≢◌, ℕ, zero, suc, ◌+◌, ◌-◌, ◌<◌, ◌≤◌, ◌⊎◌, true, false, cond, List, [], ◌∷◌, ◌++◌, length, take, get_or, slice_get, refl, sym, ◌∙◌, ap, subst, arith, inl, inr, ◌^◌, SFits, to_z, of_z, w64}
use Rattle.std.specs.Prelude.{Option, Some, None, ℤ, ◌≤ℤ◌, Bool, unwrap_or}
use Rattle.std.specs.Ordering.{int_cmp, int_eq, eq_by_cmp}
use Rattle.std.specs.List.{count_by}
use Rattle.std.specs.List.Sorted.{IsSorted, IsPermutation}
use Rattle.std.specs.Map.{lookup, update_all}
use Rattle.std.proofs.lemmas.Bool.{cases_Bool}
use Rattle.std.proofs.lemmas.Bool.Decides.{Decides-int_eq}
use Rattle.std.proofs.lemmas.Int.{ints, to_z-of_z, of_z-to_z}
use Rattle.std.proofs.lemmas.List.{take_all}
use Rattle.std.proofs.lemmas.Option.{get_or_from_slice_get}
use Rattle.std.proofs.lemmas.List.Sums.{count_by_more_yes, count_by_more_no}
use Rattle.std.proofs.lemmas.List.Sorted.{sum_by-IsPermutation}
use Rattle.std.proofs.lemmas.Map.{update_all_push}
use Rattle.tl_bits.specs.Bags.{times, some_times, AreCounts}
use Rattle.tl_bits.proofs.BagLemmas.{not_below}

-- the value of a list so far that is last, and how often it was there
pub record Counted (counts : List (ℤ × ℕ)) (last : ℤ) (many : ℕ) (numbers : List ℤ) (i : ℕ) : Type 0 where
  pub are : AreCounts (counts ++ (last, many) ∷ []) (take i numbers)
  pub upto : (v : ℤ) → 0 < count_by (int_eq v) (take i numbers) → v ≤ℤ last
  pub at : (d : ℤ) → get_or numbers (i - 1) d ≡ last
  pub some : 0 < many
  pub few : many ≤ i

same_or_not : (b d : Bool) → (b ≡ true → d ≡ true) → (d ≡ true → b ≡ true) → b ≡ d
same_or_not true d f g = sym (f refl)
same_or_not false true f g = g refl
same_or_not false false f g = refl

-- two tests of whether two values are the same
same_test : (x v : ℤ) → eq_by_cmp int_cmp x v ≡ int_eq v x
same_test x v = same_or_not (int_eq x v) (int_eq v x) (λ e. let s = (Decides-int_eq x v).0 e in (Decides-int_eq v x).1 (sym s)) (λ e. let s = (Decides-int_eq v x).0 e in (Decides-int_eq x v).1 (sym s))

-- what is found behind one pair more
put_behind : (counts : List (ℤ × ℕ)) (x : ℤ) (n : ℕ) (v : ℤ) → update_all (eq_by_cmp int_cmp) (λ _. None) (counts ++ (x, n) ∷ []) v ≡ cond (int_eq v x) (Some n) (update_all (eq_by_cmp int_cmp) (λ _. None) counts v)
put_behind counts x n v =
    sym (update_all_push (eq_by_cmp int_cmp) (λ _. None) (update_all (eq_by_cmp int_cmp) (λ _. None) counts) counts (x, n) v refl)
    ∙ ap (λ b. cond b (Some n) (update_all (eq_by_cmp int_cmp) (λ _. None) counts v)) (same_test x v)

-- how often a value is there with one number more
count_next : (numbers : List ℤ) (i : ℕ) (x v : ℤ) → slice_get numbers i ≡ Some x → i < length numbers → count_by (int_eq v) (take (i + 1) numbers) ≡ count_by (int_eq v) (take i numbers) + cond (int_eq v x) 1 0
count_next numbers i x v is l = by_test (cases_Bool (int_eq v x)) where
  there : get_or numbers i x ≡ x
  there = get_or_from_slice_get numbers i x x is

  by_test : (int_eq v x ≡ true) ⊎ (int_eq v x ≡ false) → count_by (int_eq v) (take (i + 1) numbers) ≡ count_by (int_eq v) (take i numbers) + cond (int_eq v x) 1 0
  by_test (inl same) = count_by_more_yes (int_eq v) numbers i x l (ap (int_eq v) there ∙ same) ∙ ap (λ b. count_by (int_eq v) (take i numbers) + cond b 1 0) (sym same)
  by_test (inr other) =
      let z : count_by (int_eq v) (take i numbers) ≡ count_by (int_eq v) (take i numbers) + 0 = omega arith in
      count_by_more_no (int_eq v) numbers i x l (ap (int_eq v) there ∙ other) ∙ z ∙ ap (λ b. count_by (int_eq v) (take i numbers) + cond b 1 0) (sym other)

some_more : (c many : ℕ) → Some many ≡ some_times c → Some (many + 1) ≡ some_times (c + 1)
some_more zero many h = absurd (cc)
some_more (suc c) many h =
    let e : many ≡ suc c = cc in
    let s : suc c + 1 ≡ suc (suc c) = omega arith in
    let t : many + 1 ≡ suc (suc c) = omega arith in
    ap Some t ∙ ap some_times (sym s)

same_step : (b : Bool) (u : Option ℕ) (many c : ℕ) → cond b (Some many) u ≡ some_times c → cond b (Some (many + 1)) u ≡ some_times (c + cond b 1 0)
same_step true u many c h = some_more c many h
same_step false u many c h = let z : c ≡ c + 0 = omega arith in h ∙ ap some_times z

other_step : (b : Bool) (u : Option ℕ) (c : ℕ) → (b ≡ true → c ≡ 0) → u ≡ some_times c → cond b (Some 1) u ≡ some_times (c + cond b 1 0)
other_step true u c none h = let z : 1 ≡ c + 1 = let n = none refl in omega arith in ap some_times z
other_step false u c none h = let z : c ≡ c + 0 = omega arith in h ∙ ap some_times z

count_one : (b : Bool) (c : ℕ) → 0 < c + cond b 1 0 → (b ≡ true) ⊎ (0 < c)
count_one true c l = inl refl
count_one false c l = inr (omega arith)

-- the first number
pub counted_first : (numbers : List ℤ) (x : ℤ) → slice_get numbers 0 ≡ Some x → Counted [] x 1 numbers 1
counted_first [] x is = absurd (cc)
counted_first (y ∷ numbers) x is =
    let same : y ≡ x = cc in
    let l : 0 < length (y ∷ numbers) = omega arith in record {
      are = λ v. put_behind [] x 1 v ∙ other_step (int_eq v x) None 0 (λ _. refl) refl ∙ ap some_times (sym (count_next (y ∷ numbers) 0 x v is l));
      upto = λ v some. by_test v (count_one (int_eq v x) 0 (subst (λ n. 0 < n) (count_next (y ∷ numbers) 0 x v is l) some));
      at = λ d. same;
      some = omega arith;
      few = omega arith;
    } where
      by_test : (v : ℤ) → (int_eq v x ≡ true) ⊎ (0 < 0) → v ≤ℤ x
      by_test v (inl e) = let s = (Decides-int_eq v x).0 e in omega (arith, ints)
      by_test v (inr l) = absurd (omega arith)

inside : (numbers : List ℤ) (i : ℕ) (x : ℤ) → slice_get numbers i ≡ Some x → i < length numbers
inside [] i x is = absurd (cc)
inside (y ∷ numbers) zero x is = omega arith
inside (y ∷ numbers) (suc i) x is = let l = inside numbers i x is in omega arith

-- one more of the last value
pub counted_same : (counts : List (ℤ × ℕ)) (last value : ℤ) (many : ℕ) (numbers : List ℤ) (i : ℕ) → Counted counts last many numbers i → slice_get numbers i ≡ Some value → value ≡ last → Counted counts last (many + 1) numbers (i + 1)
counted_same counts last value many numbers i so_far there same = record {
  are = λ v. put_behind counts last (many + 1) v ∙ same_step (int_eq v last) (update_all (eq_by_cmp int_cmp) (λ _. None) counts v) many (count_by (int_eq v) (take i numbers)) (sym (put_behind counts last many v) ∙ so_far.are v) ∙ ap some_times (sym (count_next numbers i last v is l));
  upto = λ v some. by_test v (count_one (int_eq v last) (count_by (int_eq v) (take i numbers)) (subst (λ n. 0 < n) (count_next numbers i last v is l) some));
  at = λ d. let z : i + 1 - 1 ≡ i = omega arith in ap (λ k. get_or numbers k d) z ∙ get_or_from_slice_get numbers i last d is;
  some = omega arith;
  few = let f = so_far.few in omega arith;
} where
  is : slice_get numbers i ≡ Some last
  is = there ∙ ap Some same

  l : i < length numbers
  l = inside numbers i value there

  by_test : (v : ℤ) → (int_eq v last ≡ true) ⊎ (0 < count_by (int_eq v) (take i numbers)) → v ≤ℤ last
  by_test v (inl e) = let s = (Decides-int_eq v last).0 e in omega (arith, ints)
  by_test v (inr some) = so_far.upto v some

-- the first of another value
pub counted_other : (counts : List (ℤ × ℕ)) (last value : ℤ) (many : ℕ) (numbers : List ℤ) (i : ℕ) → Counted counts last many numbers i → slice_get numbers i ≡ Some value → value ≢ last → IsSorted int_cmp numbers → Counted (counts ++ (last, many) ∷ []) value 1 numbers (i + 1)
counted_other counts last value many numbers i so_far there other sorted = record {
  are = λ v. put_behind (counts ++ (last, many) ∷ []) value 1 v ∙ other_step (int_eq v value) (update_all (eq_by_cmp int_cmp) (λ _. None) (counts ++ (last, many) ∷ []) v) (count_by (int_eq v) (take i numbers)) (none v) (so_far.are v) ∙ ap some_times (sym (count_next numbers i value v there l));
  upto = λ v some. by_test v (count_one (int_eq v value) (count_by (int_eq v) (take i numbers)) (subst (λ n. 0 < n) (count_next numbers i value v there l) some));
  at = λ d. let z : i + 1 - 1 ≡ i = omega arith in ap (λ k. get_or numbers k d) z ∙ get_or_from_slice_get numbers i value d there;
  some = omega arith;
  few = let f = so_far.few in let s = so_far.some in omega arith;
} where
  l : i < length numbers
  l = inside numbers i value there

  rises : last ≤ℤ value
  rises =
      let f = so_far.few in
      let s = so_far.some in
      let k = l in
      let z : i - 1 + 1 ≡ i = omega arith in
      let step = not_below (get_or numbers (i - 1 + 1) value) (get_or numbers (i - 1) value) (sorted (i - 1) value (omega arith) (omega arith)) in
      let here : get_or numbers (i - 1 + 1) value ≡ value = ap (λ k. get_or numbers k value) z ∙ get_or_from_slice_get numbers i value value there in
      subst (λ x. x ≤ℤ value) (so_far.at value) (subst (λ y. get_or numbers (i - 1) value ≤ℤ y) here step)

  apart : (a b : ℤ) → a ≤ℤ b → b ≤ℤ a → a ≡ b
  apart a b h k = omega (arith, ints)

  none : (v : ℤ) → int_eq v value ≡ true → count_by (int_eq v) (take i numbers) ≡ 0
  none v e = by_count (count_by (int_eq v) (take i numbers)) refl where
    by_count : (n : ℕ) → count_by (int_eq v) (take i numbers) ≡ n → n ≡ 0
    by_count zero h = refl
    by_count (suc n) h =
        let s : v ≡ value = (Decides-int_eq v value).0 e in
        let up : v ≤ℤ last = so_far.upto v (omega arith) in
        absurd (other (apart value last (subst (λ x. x ≤ℤ last) s up) rises))

  by_test : (v : ℤ) → (int_eq v value ≡ true) ⊎ (0 < count_by (int_eq v) (take i numbers)) → v ≤ℤ value
  by_test v (inl e) = let s = (Decides-int_eq v value).0 e in omega (arith, ints)
  by_test v (inr some) = let u = so_far.upto v some in let r = rises in omega (arith, ints)

-- all numbers
pub counted_all : (counts : List (ℤ × ℕ)) (last : ℤ) (many : ℕ) (numbers : List ℤ) (i : ℕ) → Counted counts last many numbers i → length numbers ≤ i → AreCounts (counts ++ (last, many) ∷ []) numbers
counted_all counts last many numbers i so_far l = subst (AreCounts (counts ++ (last, many) ∷ [])) (take_all i numbers l) so_far.are

pub counted_none : (numbers : List ℤ) → length numbers ≡ 0 → AreCounts [] numbers
counted_none [] none v = refl
counted_none (x ∷ numbers) none v = absurd (omega arith)

-- THE BAG

times_of : (c : ℕ) → unwrap_or (some_times c) 0 ≡ c
times_of zero = refl
times_of (suc c) = refl

never_none : (c : ℕ) → some_times c ≢ Some 0
never_none zero e = cc
never_none (suc c) e = let z : suc c ≡ 0 = cc in omega arith

pub bag_times : (bag counts : List (ℤ × ℕ)) (numbers sorted : List ℤ) → ((v : ℤ) → lookup (int_eq v) bag ≡ update_all (eq_by_cmp int_cmp) (λ _. None) counts v) → AreCounts counts sorted → IsPermutation numbers sorted → (v : ℤ) → times bag v ≡ count_by (int_eq v) numbers
bag_times bag counts numbers sorted found are moved v =
    ap (λ o. unwrap_or o 0) (found v ∙ are v) ∙ times_of (count_by (int_eq v) sorted) ∙ sum_by-IsPermutation (λ x. cond (int_eq v x) 1 0) numbers sorted moved

pub bag_some : (bag counts : List (ℤ × ℕ)) (sorted : List ℤ) → ((v : ℤ) → lookup (int_eq v) bag ≡ update_all (eq_by_cmp int_cmp) (λ _. None) counts v) → AreCounts counts sorted → (v : ℤ) → lookup (int_eq v) bag ≢ Some 0
bag_some bag counts sorted found are v e = never_none (count_by (int_eq v) sorted) (sym (found v ∙ are v) ∙ e)

-- THE LOOP

pub turn_same : (counts new : List (ℤ × ℕ)) (last next value : ℤ) (many more : ℕ) (numbers : List ℤ) (i : ℕ) → Counted counts last many numbers i → slice_get numbers i ≡ Some value → value ≡ last → new ≡ counts → next ≡ last → more ≡ many + 1 → Counted new next more numbers (i + 1)
turn_same counts new last next value many more numbers i so_far there same new_is next_is more_is = rw (new_is, next_is, more_is) (counted_same counts last value many numbers i so_far there same)

pub turn_other : (counts new : List (ℤ × ℕ)) (last next value : ℤ) (many more : ℕ) (numbers : List ℤ) (i : ℕ) → Counted counts last many numbers i → slice_get numbers i ≡ Some value → (value ≡ last → ⊥) → IsSorted int_cmp numbers → new ≡ counts ++ (last, many) ∷ [] → next ≡ value → more ≡ 1 → Counted new next more numbers (i + 1)
turn_other counts new last next value many more numbers i so_far there other sorted new_is next_is more_is = rw (new_is, next_is, more_is) (counted_other counts last value many numbers i so_far there other sorted)

-- a value that is told as its bits
pub same_bits : (value : ℤ) (bits : ℕ) → SFits w64 value → of_z w64 value ≡ bits → value ≡ to_z w64 bits
same_bits value bits fits same = sym (to_z-of_z w64 value fits) ∙ ap (to_z w64) same

pub other_bits : (value : ℤ) (bits : ℕ) → bits < 2 ^ 64 → (of_z w64 value ≡ bits → ⊥) → value ≡ to_z w64 bits → ⊥
other_bits value bits fits other same = other (ap (of_z w64) same ∙ of_z-to_z w64 bits fits)

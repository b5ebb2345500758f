-- Heaps of whole numbers, and what is left of two of them.
use Rattle.std.proofs.Common.{◌≡◌, ◌⊎◌, inl, inr, ℕ, zero, suc, ◌+◌, ◌-◌, ◌<◌, ◌≤◌, ℤ, ◌≤ℤ◌, ◌<ℤ◌, Bool, true, false, cond, List, [], ◌∷◌, length, map, Option, Some, None, refl, sym, ap, ◌∙◌, arith, subst, get_or, w64, of_z}
use Rattle.std.specs.Prelude.{unwrap_or, int_lt, IfSome, IfNone}
use Rattle.std.specs.BinaryHeap.{IsUpperBound}
use Rattle.std.specs.List.Sorted.{IsPermutation}
use Rattle.std.specs.Map.{lookup}
use Rattle.std.specs.Ordering.{int_eq, int_cmp, is_lt}
use Rattle.std.proofs.lemmas.Bool.{cases_Bool, cond-true, cond-false}
use Rattle.std.proofs.lemmas.Bool.Decides.{Decides-int_eq}
use Rattle.std.proofs.lemmas.Cmp.{int_eq_equiv}
use Rattle.std.proofs.lemmas.Int.{ints}
use Rattle.std.proofs.lemmas.List.Sorted.{sum_by_pushed, sum_by_popped, length_permutation}
use Rattle.tl_types.proofs.ValidEventOrder.{int_before}
use Rattle.tl_bits.specs.Bags.{times, AddsOne, IsLeast, IsGreatest}
use Rattle.tl_query.specs.declared.ast.AggKind.{AggKind}
use Rattle.tl_query.specs.declared.ast.AggKind.TheVariants as kind
use Rattle.tl_running.specs.Heaps.{bag_of, HeapOf, count_in, none_in, IsTop, JoinsHeap, AreUpTo, AreBelow, SettleTo, AreHeaps, left_of, turned}
use Rattle.tl_running.specs.Standing.{Inserts}
use Rattle.tl_running.proofs.OrderLemmas.{counted_first, counted_own}
use Rattle.tl_running.proofs.SumLemmas.{inserts_count, inserts_length}

-- ONE HEAP

turn_test : (x v : ℤ) → cond {A = ℕ} (int_eq v x) 1 0 ≡ cond (int_eq x v) 1 0
turn_test x v = ap (λ b. cond b 1 0) (int_eq_equiv.symm v x)

pub pushed : (x : ℤ) (xs ys : List ℤ) → IsPermutation (x ∷ xs) ys → (v : ℤ) → count_in v ys ≡ count_in v xs + cond (int_eq x v) 1 0
pushed x xs ys p v =
    let h = sum_by_pushed (λ n. cond (int_eq v n) 1 0) x xs ys p in
    let t = turn_test x v in omega arith

pub popped : (x : ℤ) (xs ys : List ℤ) → IsPermutation xs (x ∷ ys) → (v : ℤ) → count_in v xs ≡ count_in v ys + cond (int_eq x v) 1 0
popped x xs ys p v =
    let h = sum_by_popped (λ n. cond (int_eq v n) 1 0) x xs ys p in
    let t = turn_test x v in omega arith

pub pushed_long : (x : ℤ) (xs ys : List ℤ) → IsPermutation (x ∷ xs) ys → length ys ≡ length xs + 1
pushed_long x xs ys p = let h = length_permutation (x ∷ xs) ys p in omega arith

pub popped_long : (x : ℤ) (xs ys : List ℤ) → IsPermutation xs (x ∷ ys) → length xs ≡ length ys + 1
popped_long x xs ys p = let h = length_permutation xs (x ∷ ys) p in omega arith

not_under : (x y : ℤ) → is_lt (int_cmp x y) ≡ false → y ≤ℤ x
not_under x y e = let f : int_lt x y ≡ false = sym (int_before x y) ∙ e in grind (arith, ints)

bounds : (x : ℤ) (xs : List ℤ) → IsUpperBound int_cmp x xs → (v : ℤ) → 0 < count_in v xs → v ≤ℤ x
bounds x [] all v some = absurd (omega arith)
bounds x (y ∷ xs) all v some = by_test (cases_Bool (int_eq v y)) (λ more. bounds x xs all.1 v more) where
  by_test : (int_eq v y ≡ true) ⊎ (int_eq v y ≡ false) → (0 < count_in v xs → v ≤ℤ x) → v ≤ℤ x
  by_test (inl same) ih = subst (λ z. z ≤ℤ x) (sym ((Decides-int_eq v y).0 same)) (not_under x y all.0)
  by_test (inr other) ih =
      let a = counted_first v y xs in
      let c : cond {A = ℕ} (int_eq v y) 1 0 ≡ 0 = cond-false (int_eq v y) 1 0 other in
      ih (omega arith)

first_there : (x : ℤ) (xs : List ℤ) → 0 < length xs → x ≡ get_or xs 0 x → 0 < count_in x xs
first_there x [] l is = absurd (omega arith)
first_there x (y ∷ xs) l is = subst (λ z. 0 < count_in x (z ∷ xs)) is (counted_own x xs)

pub top_is : (x : ℤ) (xs : List ℤ) → 0 < length xs → x ≡ get_or xs 0 x → IsUpperBound int_cmp x xs → IsTop xs x
top_is x xs l is upper = record { there = first_there x xs l is; above = bounds x xs upper }

pub none_there : (xs : List ℤ) → length xs ≡ 0 → none_in xs
none_there [] e v = refl
none_there (x ∷ xs) e v = absurd (omega arith)

-- WHAT IS LEFT

module _ (f : ℤ → ℕ) where
  abbrev tallied : List ℤ → List (ℤ × ℕ)
  tallied ns = map (λ n. (n, f n)) ns

  tally_there : (v : ℤ) (ns : List ℤ) → 0 < count_in v ns → times (tallied ns) v ≡ f v
  tally_there v [] some = absurd (omega arith)
  tally_there v (n ∷ ns) some = by_test (cases_Bool (int_eq v n)) (λ more. tally_there v ns more) where
    by_test : (int_eq v n ≡ true) ⊎ (int_eq v n ≡ false) → (0 < count_in v ns → times (tallied ns) v ≡ f v) → times (tallied (n ∷ ns)) v ≡ f v
    by_test (inl same) ih = rw same (ap f (sym ((Decides-int_eq v n).0 same)))
    by_test (inr other) ih =
        let a = counted_first v n ns in
        let c : cond {A = ℕ} (int_eq v n) 1 0 ≡ 0 = cond-false (int_eq v n) 1 0 other in
        let h = ih (omega arith) in rw other h

  tally_none : (v : ℤ) (ns : List ℤ) → count_in v ns ≡ 0 → times (tallied ns) v ≡ 0
  tally_none v [] none = refl
  tally_none v (n ∷ ns) none = by_test (cases_Bool (int_eq v n)) (λ less. tally_none v ns less) where
    by_test : (int_eq v n ≡ true) ⊎ (int_eq v n ≡ false) → (count_in v ns ≡ 0 → times (tallied ns) v ≡ 0) → times (tallied (n ∷ ns)) v ≡ 0
    by_test (inl same) ih = absurd (
        let a = counted_first v n ns in
        let c : cond {A = ℕ} (int_eq v n) 1 0 ≡ 1 = cond-true (int_eq v n) 1 0 same in omega arith)
    by_test (inr other) ih = let a = counted_first v n ns in let h = ih (omega arith) in rw other h

some_or_none : (n : ℕ) → (n ≡ 0) ⊎ (0 < n)
some_or_none zero = inl refl
some_or_none (suc n) = inr (omega arith)

pub left_times : (came gone : List ℤ) (v : ℤ) → times (left_of came gone) v ≡ count_in v came - count_in v gone
left_times came gone v = by_count (some_or_none (count_in v came)) where
  by_count : (count_in v came ≡ 0) ⊎ (0 < count_in v came) → times (left_of came gone) v ≡ count_in v came - count_in v gone
  by_count (inl none) = let h = tally_none (λ n. count_in n came - count_in n gone) v came none in omega arith
  by_count (inr some) = tally_there (λ n. count_in n came - count_in n gone) v came some

-- FEWER WENT THAN CAME

split_at : (v : ℤ) (ns : List ℤ) → 0 < count_in v ns → (fewer : List ℤ) × Inserts v fewer ns
split_at v [] some = absurd (omega arith)
split_at v (n ∷ ns) some = by_test (cases_Bool (int_eq v n)) (λ more. split_at v ns more) where
  by_test : (int_eq v n ≡ true) ⊎ (int_eq v n ≡ false) → (0 < count_in v ns → (fewer : List ℤ) × Inserts v fewer ns) → (fewer : List ℤ) × Inserts v fewer (n ∷ ns)
  by_test (inl same) ih = (ns, record { front = []; back = ns; without = refl; with = ap (λ z. z ∷ ns) (sym ((Decides-int_eq v n).0 same)) })
  by_test (inr other) ih =
      let a = counted_first v n ns in
      let c : cond {A = ℕ} (int_eq v n) 1 0 ≡ 0 = cond-false (int_eq v n) 1 0 other in
      let rest = ih (omega arith) in
      (n ∷ rest.0, record { front = n ∷ rest.1.front; back = rest.1.back; without = ap (λ z. n ∷ z) rest.1.without; with = ap (λ z. n ∷ z) rest.1.with })

pub fewer_went : (gone came : List ℤ) (w : ℤ) → AreBelow came gone → count_in w gone < count_in w came → length gone < length came
fewer_went [] [] w within less = absurd (omega arith)
fewer_went [] (c ∷ came) w within less = omega arith
fewer_went (g ∷ gone) came w within less =
    let own = counted_own g gone in
    let here = within g in
    let rest = split_at g came (omega arith) in
    let long = inserts_length g rest.0 came rest.1 in
    let at = counted_first w g gone in
    let there = inserts_count w g rest.0 came rest.1 in
    let h = fewer_went gone rest.0 w (λ v. let a = counted_first v g gone in let b = inserts_count v g rest.0 came rest.1 in let c = within v in omega arith) (omega arith) in
    omega arith

-- THE TOPS OF BOTH

both_above : (x y : ℤ) → x ≤ℤ y → y ≤ℤ x → x ≡ y
both_above x y a b = omega (arith, ints)

none_zero : (n : ℕ) → (0 < n → ⊥) → n ≡ 0
none_zero zero h = refl
none_zero (suc n) h = absurd (h (omega arith))

pub tops_apart : (came gone : List ℤ) (a b : ℤ) → AreBelow came gone → IsTop came a → IsTop gone b → int_eq a b ≡ false → (x : ℤ) → IsTop came x → count_in x gone ≡ 0
tops_apart came gone a b within first second other x top = none_zero (count_in x gone) (λ some. absurd (
    let up = first.above x top.there in
    let down = top.above a first.there in
    let same : x ≡ a = both_above x a up down in
    let low = second.above x some in
    let held = within b in
    let gone_some = second.there in
    let high = first.above b (omega arith) in
    let equal : a ≡ b = both_above a b (subst (λ z. z ≤ℤ b) same low) high in
    let yes : int_eq a b ≡ true = subst (λ z. int_eq a z ≡ true) equal (int_eq_equiv.refl a) in
    cc))

pub no_tops : (came gone : List ℤ) → none_in gone → (x : ℤ) → IsTop came x → count_in x gone ≡ 0
no_tops came gone none x top = none x

pub no_top_came : (came gone : List ℤ) → none_in came → (x : ℤ) → IsTop came x → count_in x gone ≡ 0
no_top_came came gone none x top = absurd (let a = none x in let b = top.there in omega arith)

-- THE MULTISET

pub adds : (came new gone : HeapOf) (rest : HeapOf) (number : ℤ) → AreHeaps came gone → rest.numbers ≡ gone.numbers → JoinsHeap came new number → AddsOne (left_of came.numbers gone.numbers) (left_of new.numbers rest.numbers) number
adds came new gone rest number are same joins v =
    let a = left_times came.numbers gone.numbers v in
    let b = left_times new.numbers rest.numbers v in
    let c = joins.counts v in
    let w = are.within v in
    let s = ap (count_in v) same in omega arith

pub adds_kept : (came new gone rest : HeapOf) (number : ℤ) → AreHeaps came gone → rest.numbers ≡ gone.numbers → JoinsHeap came new number → length new.numbers ≤ rest.room → AreHeaps new rest
adds_kept came new gone rest number are same joins room = record {
  within = λ v. let a = are.within v in let c = joins.counts v in let s = ap (count_in v) same in omega arith;
  top = λ x top. ap (count_in x) same ∙ none_zero (count_in x gone.numbers) (λ some. absurd (went x top some));
  room = room;
} where
  -- the greatest of what came before is not above the new one
  went : (x : ℤ) → IsTop new.numbers x → 0 < count_in x gone.numbers → ⊥
  went x top some =
      let w = are.within x in
      let t = are.top x (record { there = omega arith; above = λ v there. let c = joins.counts v in top.above v (omega arith) }) in
      omega arith

-- room was made
pub room_kept : (came gone rest : HeapOf) → AreHeaps came gone → rest.numbers ≡ gone.numbers → gone.room ≤ rest.room → AreHeaps came rest
room_kept came gone rest are same room =
    let r = are.room in record {
      within = λ v. let a = are.within v in let s = ap (count_in v) same in omega arith;
      top = λ x top. ap (count_in x) same ∙ are.top x top;
      room = omega arith;
    }

-- and the number did not come
pub failed_kept : (came new gone rest : HeapOf) → AreHeaps came gone → new.numbers ≡ came.numbers → rest.numbers ≡ gone.numbers → gone.room ≤ rest.room → AreHeaps new rest
failed_kept came new gone rest are unchanged same room =
    let k = room_kept came gone rest are same room in
    let r = k.room in
    let l = ap length unchanged in record {
      within = λ v. let a = k.within v in let s = ap (count_in v) unchanged in omega arith;
      top = λ x top. k.top x (subst (λ ns. IsTop ns x) unchanged top);
      room = omega arith;
    }

pub takes : (came gone more less rest : HeapOf) (number : ℤ) → AreHeaps came gone → 0 < times (left_of came.numbers gone.numbers) number → JoinsHeap gone more number → SettleTo came more less rest → AddsOne (left_of less.numbers rest.numbers) (left_of came.numbers gone.numbers) number
takes came gone more less rest number are some joins settles v =
    let a = left_times came.numbers gone.numbers v in
    let b = left_times less.numbers rest.numbers v in
    let c = joins.counts v in
    let d = settles.same v in
    let e = settles.within v in
    let w = are.within v in
    let n = left_times came.numbers gone.numbers number in
    let own = one_own v (int_eq number v) refl in omega arith where
      one_own : (v : ℤ) (b : Bool) → int_eq number v ≡ b → count_in v gone.numbers + cond b 1 0 ≤ count_in v came.numbers
      one_own v true e =
          let same = (Decides-int_eq number v).0 e in
          let n = left_times came.numbers gone.numbers number in
          subst (λ z. count_in z gone.numbers + 1 ≤ count_in z came.numbers) same (omega arith)
      one_own v false e = let w = are.within v in omega arith

pub takes_below : (came gone more : HeapOf) (number : ℤ) → AreHeaps came gone → 0 < times (left_of came.numbers gone.numbers) number → JoinsHeap gone more number → AreBelow came.numbers more.numbers
takes_below came gone more number are some joins v = let c = joins.counts v in let h = one_own (int_eq number v) refl in omega arith where
  one_own : (b : Bool) → int_eq number v ≡ b → count_in v gone.numbers + cond b 1 0 ≤ count_in v came.numbers
  one_own true e =
      let same = (Decides-int_eq number v).0 e in
      let n = left_times came.numbers gone.numbers number in
      subst (λ z. count_in z gone.numbers + 1 ≤ count_in z came.numbers) same (omega arith)
  one_own false e = let w = are.within v in omega arith

pub takes_room : (came gone : HeapOf) (number : ℤ) → AreHeaps came gone → 0 < times (left_of came.numbers gone.numbers) number → length gone.numbers < gone.room
takes_room came gone number are some =
    let n = left_times came.numbers gone.numbers number in
    let h = fewer_went gone.numbers came.numbers number are.within (omega arith) in
    let r = are.room in omega arith

-- a number that goes and is below the greatest of what came is not that one
pub takes_settled : (came gone more : HeapOf) (number : ℤ) → AreHeaps came gone → 0 < times (left_of came.numbers gone.numbers) number → JoinsHeap gone more number
    → ((x : ℤ) → AreUpTo gone.numbers x → number <ℤ x) → SettleTo came more came more
takes_settled came gone more number are some joins below = record {
  within = takes_below came gone more number are some joins;
  top = λ x top.
      let c = joins.counts x in
      let t = are.top x top in
      let u = apart x (below x (λ v there. top.above v (let w = are.within v in omega arith))) in omega arith;
  room = refl;
  long = omega arith;
  same = λ v. omega arith;
} where
  apart : (x : ℤ) → number <ℤ x → cond {A = ℕ} (int_eq number x) 1 0 ≡ 0
  apart x less = by_test (cases_Bool (int_eq number x)) where
    by_test : (int_eq number x ≡ true) ⊎ (int_eq number x ≡ false) → cond {A = ℕ} (int_eq number x) 1 0 ≡ 0
    by_test (inl same) = absurd (let e = (Decides-int_eq number x).0 same in omega (arith, ints))
    by_test (inr other) = cond-false (int_eq number x) 1 0 other

pub takes_kept : (came gone more less rest : HeapOf) → AreHeaps came gone → gone.room ≤ more.room → SettleTo came more less rest → AreHeaps less rest
takes_kept came gone more less rest are room settles =
    let l = settles.long in
    let r = settles.room in
    let k = are.room in record { within = settles.within; top = settles.top; room = omega arith }

-- a number came, or went, where it is below the greatest
pub far_added : (came new gone : HeapOf) (number : ℤ) (is_in : Bool) → AreHeaps came gone → (is_in ≡ true → JoinsHeap came new number) → (is_in ≡ false → new ≡ came) → length came.numbers < gone.room → AreHeaps new gone
far_added came new gone number is_in are joins same room = by_test (cases_Bool is_in) where
  by_test : (is_in ≡ true) ⊎ (is_in ≡ false) → AreHeaps new gone
  by_test (inl done) = adds_kept came new gone gone number are refl (joins done) (let l = (joins done).long in omega arith)
  by_test (inr left) = subst (λ (h : HeapOf). AreHeaps h gone) (sym (same left)) are

pub far_taken : (came gone more : HeapOf) (number : ℤ) (is_out : Bool) → AreHeaps came gone → 0 < times (left_of came.numbers gone.numbers) number → (is_out ≡ true → JoinsHeap gone more number) → more.room ≡ gone.room
    → (is_out ≡ true → (x : ℤ) → AreUpTo gone.numbers x → number <ℤ x) → (is_out ≡ false → more ≡ gone) → AreHeaps came more
far_taken came gone more number is_out are some joins room below same = by_test (cases_Bool is_out) where
  by_test : (is_out ≡ true) ⊎ (is_out ≡ false) → AreHeaps came more
  by_test (inl done) = takes_kept came gone more came more are (omega arith) (takes_settled came gone more number are some (joins done) (below done))
  by_test (inr left) = subst (AreHeaps came) (sym (same left)) are

pub greatest_left : (came gone : HeapOf) (x : ℤ) → AreHeaps came gone → IsTop came.numbers x → IsGreatest (left_of came.numbers gone.numbers) x
greatest_left came gone x are top =
    let a = left_times came.numbers gone.numbers x in
    let t = top.there in
    let z = are.top x top in record {
      there = omega arith;
      above = λ v some. let b = left_times came.numbers gone.numbers v in top.above v (omega arith);
    }

pub none_left : (came gone : HeapOf) → none_in came.numbers → (v : ℤ) → times (left_of came.numbers gone.numbers) v ≡ 0
none_left came gone none v = let a = left_times came.numbers gone.numbers v in let n = none v in omega arith

no_items : (xs : List ℤ) → none_in xs → length xs ≡ 0
no_items [] none = refl
no_items (x ∷ xs) none = absurd (let a = none x in let b = counted_own x xs in omega arith)

pub none_kept : (came gone : HeapOf) → none_in came.numbers → none_in gone.numbers → AreHeaps came gone
none_kept came gone a b = let l = no_items came.numbers a in record { within = λ v. let x = a v in let y = b v in omega arith; top = λ x top. b x; room = omega arith }

pub not_same : (a b : ℤ) → (of_z w64 a ≡ of_z w64 b → ⊥) → int_eq a b ≡ false
not_same a b apart = by_test (cases_Bool (int_eq a b)) where
  by_test : (int_eq a b ≡ true) ⊎ (int_eq a b ≡ false) → int_eq a b ≡ false
  by_test (inl same) = absurd (apart (ap (of_z w64) ((Decides-int_eq a b).0 same)))
  by_test (inr other) = other

-- WHAT MAY BE THERE

pub dropped : (old new : HeapOf) (top : ℤ) (o : Option ℤ) → IsTop old.numbers top → IfSome o (IsTop old.numbers) → IfSome o (JoinsHeap new old) → IfNone o (none_in old.numbers) → JoinsHeap new old top
dropped old new top None is found joins none = absurd (let a = none top in let b = is.there in omega arith)
dropped old new top (Some x) is found joins none = let same : x ≡ top = both_above x top (is.above x found.there) (found.above top is.there) in subst (JoinsHeap new old) same joins

pub greatest_of : (came gone : HeapOf) (o : Option ℤ) → AreHeaps came gone → IfSome o (IsTop came.numbers) → IfSome o (IsGreatest (left_of came.numbers gone.numbers))
greatest_of came gone None are found = tt
greatest_of came gone (Some x) are found = greatest_left came gone x are found

pub none_of : (came gone : HeapOf) (o : Option ℤ) → IfNone o (none_in came.numbers) → IfNone o ((v : ℤ) → times (left_of came.numbers gone.numbers) v ≡ 0)
none_of came gone None none = none_left came gone none
none_of came gone (Some x) none = tt

-- a common top is taken out of both
pub both_less : (came gone less rest : HeapOf) (top : ℤ) → AreBelow came.numbers gone.numbers → JoinsHeap less came top → JoinsHeap rest gone top → AreBelow less.numbers rest.numbers
both_less came gone less rest top within first second v = let a = within v in let b = first.counts v in let c = second.counts v in omega arith

pub both_same : (came gone less rest : HeapOf) (top : ℤ) (first second : List ℤ) → ((v : ℤ) → count_in v came.numbers + count_in v second ≡ count_in v first + count_in v gone.numbers) → JoinsHeap less came top → JoinsHeap rest gone top
    → (v : ℤ) → count_in v less.numbers + count_in v second ≡ count_in v first + count_in v rest.numbers
both_same came gone less rest top first second same one two v = let a = same v in let b = one.counts v in let c = two.counts v in omega arith

-- TURNED NUMBERS

turn_eq : (v x : ℤ) → int_eq (turned v) x ≡ int_eq v (turned x)
turn_eq v x = by_tests (cases_Bool (int_eq (turned v) x)) (cases_Bool (int_eq v (turned x))) where
  by_tests : (int_eq (turned v) x ≡ true) ⊎ (int_eq (turned v) x ≡ false) → (int_eq v (turned x) ≡ true) ⊎ (int_eq v (turned x) ≡ false) → int_eq (turned v) x ≡ int_eq v (turned x)
  by_tests (inl a) (inl b) = a ∙ sym b
  by_tests (inl a) (inr b) = absurd (let e = (Decides-int_eq (turned v) x).0 a in let f : v ≡ turned x = omega (arith, ints) in let g : int_eq v (turned x) ≡ true = subst (λ z. int_eq v z ≡ true) f (int_eq_equiv.refl v) in cc)
  by_tests (inr a) (inl b) = absurd (let e = (Decides-int_eq v (turned x)).0 b in let f : turned v ≡ x = omega (arith, ints) in let g : int_eq (turned v) x ≡ true = subst (λ z. int_eq (turned v) z ≡ true) f (int_eq_equiv.refl (turned v)) in cc)
  by_tests (inr a) (inr b) = a ∙ sym b

abbrev turned_bag : List (ℤ × ℕ) → List (ℤ × ℕ)
turned_bag bag = map (λ (e : ℤ × ℕ). (turned e.0, e.1)) bag

turned_times : (bag : List (ℤ × ℕ)) (v : ℤ) → times (turned_bag bag) v ≡ times bag (turned v)
turned_times [] v = refl
turned_times (e ∷ bag) v = ap (λ b. unwrap_or (cond b (Some e.1) (lookup (int_eq v) (turned_bag bag))) 0) (sym (turn_eq v e.0)) ∙ by_test (int_eq (turned v) e.0) (turned_times bag v) where
  by_test : (b : Bool) → times (turned_bag bag) v ≡ times bag (turned v) → unwrap_or (cond b (Some e.1) (lookup (int_eq v) (turned_bag bag))) 0 ≡ unwrap_or (cond b (Some e.1) (lookup (int_eq (turned v)) bag)) 0
  by_test true h = refl
  by_test false h = h

turn_twice : (v : ℤ) → turned (turned v) ≡ v
turn_twice v = omega (arith, ints)

pub turned_adds : (old new : List (ℤ × ℕ)) (n : ℤ) → AddsOne old new (turned n) → AddsOne (turned_bag old) (turned_bag new) n
turned_adds old new n adds v =
    turned_times new v ∙ adds (turned v) ∙ ap (λ k. k + cond (int_eq (turned n) (turned v)) 1 0) (sym (turned_times old v))
    ∙ ap (λ b. times (turned_bag old) v + cond b 1 0) (turn_eq n (turned v) ∙ ap (int_eq n) (turn_twice v))

pub turned_there : (bag : List (ℤ × ℕ)) (n : ℤ) → 0 < times (turned_bag bag) n → 0 < times bag (turned n)
turned_there bag n some = subst (λ k. 0 < k) (turned_times bag n) some

pub turned_none : (bag : List (ℤ × ℕ)) → ((v : ℤ) → times bag v ≡ 0) → (v : ℤ) → times (turned_bag bag) v ≡ 0
turned_none bag none v = turned_times bag v ∙ none (turned v)

pub turned_least : (bag : List (ℤ × ℕ)) (x : ℤ) → IsGreatest bag x → IsLeast (turned_bag bag) (turned x)
turned_least bag x is = record {
  there = subst (λ k. 0 < k) (sym (turned_times bag (turned x) ∙ ap (times bag) (turn_twice x))) is.there;
  below = λ v some. let h = is.above (turned v) (turned_there bag v some) in omega (arith, ints);
}

pub none_bag : (k : AggKind) (bag : List (ℤ × ℕ)) → ((v : ℤ) → times bag v ≡ 0) → (v : ℤ) → times (bag_of k bag) v ≡ 0
none_bag kind.Count bag none v = none v
none_bag kind.Sum bag none v = none v
none_bag kind.Avg bag none v = none v
none_bag kind.Min bag none v = turned_none bag none v
none_bag kind.Max bag none v = none v

-- Piles of whole numbers: what is near their greatest, and what is far from it.
use Rattle.std.proofs.Common.{◌≡◌, ◌⊎◌, inl, inr, ℕ, zero, suc, ◌+◌, ◌<◌, ◌≤◌, ℤ, ◌≤ℤ◌, Bool, true, false, cond, List, [], ◌∷◌, ◌++◌, length, Option, Some, None, refl, sym, ap, ◌∙◌, arith, subst}
use Rattle.std.specs.Prelude.{slice_get, IfNone}
use Rattle.std.specs.Ordering.{int_eq}
use Rattle.std.proofs.lemmas.Bool.{cases_Bool, cond-true, cond-false}
use Rattle.std.proofs.lemmas.Bool.Decides.{Decides-int_eq}
use Rattle.std.proofs.lemmas.Cmp.{int_eq_equiv}
use Rattle.std.proofs.lemmas.Int.{ints}
use Rattle.std.proofs.lemmas.List.{length-append}
use Rattle.std.proofs.lemmas.List.Sums.{sum_by-append}
use Rattle.tl_running.specs.Heaps.{HeapOf, count_in, none_in, IsTop, JoinsHeap, pile_of, AreUpTo, Reaches, IsPile, FillsPile, AreBeforeUpTo, IsGreaterAt, IsGreatestAt, MovesNear, MendsPile, IsLower}
use Rattle.tl_running.proofs.HeapLemmas.{none_there}
use Rattle.tl_running.proofs.OrderLemmas.{counted_first, counted_own}

count_both : (v : ℤ) (xs ys : List ℤ) → count_in v (xs ++ ys) ≡ count_in v xs + count_in v ys
count_both v xs ys = sum_by-append (λ n. cond (int_eq v n) 1 0) xs ys

below_trans : (x y z : ℤ) → x ≤ℤ y → y ≤ℤ z → x ≤ℤ z
below_trans x y z a b = omega (arith, ints)

same_below : (x y : ℤ) → x ≡ y → x ≤ℤ y
same_below x y e = omega (arith, ints)

pub none_is : (xs : List ℤ) → none_in xs → length xs ≡ 0
none_is [] none = refl
none_is (x ∷ xs) none = absurd (let a = counted_own x xs in let b = none x in omega arith)

pub no_number : (xs : List ℤ) → 0 < length xs → none_in xs → ⊥
no_number xs some none = let e = none_is xs none in omega arith

some_long : (v : ℤ) (xs : List ℤ) → 0 < count_in v xs → 0 < length xs
some_long v [] some = absurd (omega arith)
some_long v (x ∷ xs) some = omega arith

-- A NUMBER MORE

own_test : (n : ℤ) → cond {A = ℕ} (int_eq n n) 1 0 ≡ 1
own_test n = cond-true (int_eq n n) 1 0 (int_eq_equiv.refl n)

joined_there : (old new : HeapOf) (n : ℤ) → JoinsHeap old new n → 0 < count_in n new.numbers
joined_there old new n joins = let c = joins.counts n in let o = own_test n in omega arith

joined_upto : (old new : HeapOf) (n b : ℤ) → JoinsHeap old new n → AreUpTo old.numbers b → n ≤ℤ b → AreUpTo new.numbers b
joined_upto old new n b joins upto le v some = by_test (cases_Bool (int_eq n v)) where
  by_test : (int_eq n v ≡ true) ⊎ (int_eq n v ≡ false) → v ≤ℤ b
  by_test (inl same) = subst (λ z. z ≤ℤ b) ((Decides-int_eq n v).0 same) le
  by_test (inr other) =
      let c = joins.counts v in
      let d : cond {A = ℕ} (int_eq n v) 1 0 ≡ 0 = cond-false (int_eq n v) 1 0 other in upto v (omega arith)

less_upto : (less more : HeapOf) (n b : ℤ) → JoinsHeap less more n → AreUpTo more.numbers b → AreUpTo less.numbers b
less_upto less more n b joins upto v some = upto v (let c = joins.counts v in omega arith)

-- what joins one of both joins the pile
both_long : (near far near_new far_new : HeapOf) → length near_new.numbers + length far_new.numbers ≡ length near.numbers + length far.numbers + 1 → length (near_new.numbers ++ far_new.numbers) ≡ length (near.numbers ++ far.numbers) + 1
both_long near far near_new far_new e =
    let a = length-append near.numbers far.numbers in
    let b = length-append near_new.numbers far_new.numbers in omega arith

both_counts : (near far near_new far_new : HeapOf) (number v : ℤ) → count_in v near_new.numbers + count_in v far_new.numbers ≡ count_in v near.numbers + count_in v far.numbers + cond (int_eq number v) 1 0 → count_in v (near_new.numbers ++ far_new.numbers) ≡ count_in v (near.numbers ++ far.numbers) + cond (int_eq number v) 1 0
both_counts near far near_new far_new number v e =
    let a = count_both v near.numbers far.numbers in
    let b = count_both v near_new.numbers far_new.numbers in omega arith

pub far_fills : (near far far_new : HeapOf) (bound number : ℤ) → IsPile near far bound → (number ≤ℤ bound) × (0 < length near.numbers) → JoinsHeap far far_new number → far_new.room ≡ far.room → FillsPile near far near far_new number bound
far_fills near far far_new bound number pile low joins room = record {
  joins = record {
    long = both_long near far near far_new (let l = joins.long in omega arith);
    counts = λ v. both_counts near far near far_new number v (let c = joins.counts v in omega arith);
  };
  pile = record {
    reaches = pile.reaches;
    below = joined_upto far far_new number bound joins pile.below low.0;
    some = λ none. absurd (let l = low.1 in omega arith);
    room = λ any. let r = pile.room (omega arith) in omega arith;
  };
  room = room;
}

pub near_fills : (near near_new far : HeapOf) (bound number new : ℤ) → IsPile near far bound → (0 < length near.numbers → bound ≤ℤ number) → JoinsHeap near near_new number → near.room ≤ near_new.room
    → new ≤ℤ number → ((v : ℤ) → v ≤ℤ bound → v ≤ℤ number → v ≤ℤ new) → FillsPile near far near_new far number new
near_fills near near_new far bound number new pile close joins room low high = record {
  joins = record {
    long = both_long near far near_new far (let l = joins.long in omega arith);
    counts = λ v. both_counts near far near_new far number v (let c = joins.counts v in omega arith);
  };
  pile = record {
    reaches = λ x top. below_trans new number x low (top.above number (joined_there near near_new number joins));
    below = λ v some. let up = pile.below v some in high v up (below_trans v bound number up (close (has_near v some)));
    some = λ none. absurd (let l = joins.long in omega arith);
    room = λ any. let r = pile.room (omega arith) in omega arith;
  };
  room = refl;
} where
  by_long : (n m : ℕ) → (n ≡ 0 → m ≡ 0) → 0 < m → 0 < n
  by_long zero m none some = absurd (let e = none refl in omega arith)
  by_long (suc n) m none some = omega arith

  has_near : (v : ℤ) → 0 < count_in v far.numbers → 0 < length near.numbers
  has_near v some = by_long (length near.numbers) (length far.numbers) pile.some (some_long v far.numbers some)

pub exchanged : (near left near_new far far_new : HeapOf) (bound number top high low : ℤ) → IsPile near far bound → IsTop near.numbers top → JoinsHeap left near top → left.room ≡ near.room
    → JoinsHeap left near_new high → left.room ≤ near_new.room → JoinsHeap far far_new low → far_new.room ≡ far.room
    → ((v : ℤ) → cond {A = ℕ} (int_eq high v) 1 0 + cond (int_eq low v) 1 0 ≡ cond (int_eq number v) 1 0 + cond (int_eq top v) 1 0)
    → low ≤ℤ high → top ≤ℤ high → FillsPile near far near_new far_new number high
exchanged near left near_new far far_new bound number top high low pile is took took_room one one_room two two_room both down up = record {
  joins = record {
    long = both_long near far near_new far_new (let a = took.long in let b = one.long in let c = two.long in omega arith);
    counts = λ v. both_counts near far near_new far_new number v (let a = took.counts v in let b = one.counts v in let c = two.counts v in let d = both v in omega arith);
  };
  pile = record {
    reaches = λ x greatest. greatest.above high (joined_there left near_new high one);
    below = joined_upto far far_new low high two (λ v some. below_trans v top high (below_trans v bound top (pile.below v some) (pile.reaches top is)) up) down;
    some = λ none. absurd (let l = one.long in omega arith);
    room = λ any. let r = pile.room (omega arith) in omega arith;
  };
  room = two_room;
}

-- THE GREATEST

pub some_at : (xs : List ℤ) (k : ℕ) → k < length xs → (x : ℤ) × (slice_get xs k ≡ Some x)
some_at [] k lt = absurd (omega arith)
some_at (y ∷ xs) zero lt = (y, refl)
some_at (y ∷ xs) (suc k) lt = some_at xs k (omega arith)

pub all_get : (xs : List ℤ) (b : ℤ) → ((k : ℕ) (x : ℤ) → k < length xs → slice_get xs k ≡ Some x → x ≤ℤ b) → AreUpTo xs b
all_get [] b h v some = absurd (omega arith)
all_get (y ∷ xs) b h v some = by_test (cases_Bool (int_eq v y)) (λ more. all_get xs b (λ k x lt is. h (suc k) x (omega arith) is) v more) where
  by_test : (int_eq v y ≡ true) ⊎ (int_eq v y ≡ false) → (0 < count_in v xs → v ≤ℤ b) → v ≤ℤ b
  by_test (inl same) ih = subst (λ z. z ≤ℤ b) (sym ((Decides-int_eq v y).0 same)) (h 0 y (omega arith) refl)
  by_test (inr other) ih =
      let a = counted_first v y xs in
      let c : cond {A = ℕ} (int_eq v y) 1 0 ≡ 0 = cond-false (int_eq v y) 1 0 other in ih (omega arith)

pub greatest_at : (xs : List ℤ) (i place : ℕ) → place < length xs → length xs ≤ i → AreBeforeUpTo xs i place → IsGreatestAt xs place
greatest_at xs i place within end seen = record {
  within = within;
  above = λ x is. all_get xs x (λ k y lt got. seen k y x (omega arith) got is);
}

last_or_before : (k i : ℕ) → k < i + 1 → (k < i) ⊎ (k ≡ i)
last_or_before k zero lt = inr (omega arith)
last_or_before zero (suc i) lt = inl (omega arith)
last_or_before (suc k) (suc i) lt = by_case (last_or_before k i (omega arith)) where
  by_case : (k < i) ⊎ (k ≡ i) → (suc k < suc i) ⊎ (suc k ≡ suc i)
  by_case (inl less) = inl (omega arith)
  by_case (inr same) = inr (ap suc same)

pub seen_more : (xs : List ℤ) (i place new : ℕ) → place < length xs → AreBeforeUpTo xs i place → IsGreaterAt xs place i new → AreBeforeUpTo xs (i + 1) new
seen_more xs i place new within seen greater k x y lt got is = by_case (last_or_before k i lt) where
  by_case : (k < i) ⊎ (k ≡ i) → x ≤ℤ y
  by_case (inl less) = let p = some_at xs place within in below_trans x p.0 y (seen k x p.0 less got p.1) (greater.left p.0 y p.1 is)
  by_case (inr same) = greater.right x y (subst (λ j. slice_get xs j ≡ Some x) same got) is

pub greater_within : (xs : List ℤ) (first second place : ℕ) → first < length xs → second < length xs → IsGreaterAt xs first second place → place < length xs
greater_within xs first second place a b greater = by_case greater.one where
  by_case : (place ≡ first) ⊎ (place ≡ second) → place < length xs
  by_case (inl e) = omega arith
  by_case (inr e) = omega arith

-- NUMBERS MOVE NEAR

pub moves_none : (near far : HeapOf) → MovesNear near far near far
moves_none near far = record { same = λ v. refl; long = refl; kept = λ v. omega arith; more = omega arith; near_room = omega arith; far_room = refl }

pub moves_more : (near far one two near_new far_new : HeapOf) (number : ℤ) → MovesNear near far one two → JoinsHeap far_new two number → far_new.room ≡ two.room → JoinsHeap one near_new number → one.room ≤ near_new.room → MovesNear near far near_new far_new
moves_more near far one two near_new far_new number moves out out_room into into_room = record {
  same = λ v. let a = moves.same v in let b = out.counts v in let c = into.counts v in omega arith;
  long = let a = moves.long in let b = out.long in let c = into.long in omega arith;
  kept = λ v. let a = moves.kept v in let c = into.counts v in omega arith;
  more = let a = moves.more in let c = into.long in omega arith;
  near_room = let a = moves.near_room in omega arith;
  far_room = out_room ∙ moves.far_room;
}

pub moves_both : (near far one two near_new far_new : HeapOf) → MovesNear near far one two → MovesNear one two near_new far_new → MovesNear near far near_new far_new
moves_both near far one two near_new far_new first second = record {
  same = λ v. second.same v ∙ first.same v;
  long = second.long ∙ first.long;
  kept = λ v. let a = first.kept v in let b = second.kept v in omega arith;
  more = let a = first.more in let b = second.more in omega arith;
  near_room = let a = first.near_room in let b = second.near_room in omega arith;
  far_room = second.far_room ∙ first.far_room;
}

pub seen_kept : (old new : List ℤ) (i : ℕ) (b : ℤ) → ((k : ℕ) (x : ℤ) → k < i → slice_get old k ≡ Some x → x ≤ℤ b) → ((k : ℕ) → k < i → slice_get new k ≡ slice_get old k)
    → (k : ℕ) (x : ℤ) → k < i → slice_get new k ≡ Some x → x ≤ℤ b
seen_kept old new i b seen same k x lt got = seen k x lt (sym (same k lt) ∙ got)

pub spread_mends : (near far near_new far_new : HeapOf) (top low bound : ℤ) (all : Bool) → 0 < length near.numbers → ((x : ℤ) → IsTop near.numbers x → AreUpTo far.numbers x) → 0 < near.room
    → IsTop near.numbers top → MovesNear near far near_new far_new → (all ≡ true → AreUpTo far_new.numbers low) → IsLower all low top bound → MendsPile near far near_new far_new bound
spread_mends near far near_new far_new top low bound all some above has is moves moved lower = record {
  moves = moves;
  pile = record {
    reaches = λ x greatest. below_trans bound top x lower.upto (greatest.above top (let a = moves.kept top in let b = is.there in omega arith));
    below = λ v there. by_bound v there lower.one;
    some = λ none. absurd (let a = moves.more in omega arith);
    room = λ any. let a = moves.near_room in omega arith;
  };
} where
  by_count : (v : ℤ) (n : ℕ) → count_in v near.numbers ≡ n → 0 < count_in v far_new.numbers → v ≤ℤ top
  by_count v zero e there = above top is v (let a = moves.same v in omega arith)
  by_count v (suc n) e there = is.above v (omega arith)

  by_bound : (v : ℤ) → 0 < count_in v far_new.numbers → (bound ≡ top) ⊎ ((all ≡ true) × (bound ≡ low)) → v ≤ℤ bound
  by_bound v there (inl e) = subst (λ z. v ≤ℤ z) (sym e) (by_count v (count_in v near.numbers) refl there)
  by_bound v there (inr e) = subst (λ z. v ≤ℤ z) (sym e.1) (moved e.0 v there)

pub refill_none : (near far : HeapOf) (bound : ℤ) → 0 < near.room → length far.numbers ≡ 0 → Reaches near.numbers bound → MendsPile near far near far bound
refill_none near far bound spare none reaches = record {
  moves = moves_none near far;
  pile = record {
    reaches = reaches;
    below = λ v some. absurd (let e = none_there far.numbers none v in omega arith);
    some = λ empty. none;
    room = λ any. spare;
  };
}

pub refill_above : (near far one two : HeapOf) (place : ℕ) (number : ℤ) → IsGreatestAt far.numbers place → slice_get far.numbers place ≡ Some number → JoinsHeap two far number → JoinsHeap near one number
    → (x : ℤ) → IsTop one.numbers x → AreUpTo two.numbers x
refill_above near far one two place number greatest there out into x top v some =
    below_trans v number x (less_upto two far number number out (greatest.above number there) v some) (top.above number (joined_there near one number into))

pub refill_mends : (near far one two near_new far_new : HeapOf) (number bound : ℤ) → JoinsHeap two far number → two.room ≡ far.room → JoinsHeap near one number → near.room ≤ one.room → MendsPile one two near_new far_new bound → MendsPile near far near_new far_new bound
refill_mends near far one two near_new far_new number bound out out_room into into_room mends = record {
  moves = moves_both near far one two near_new far_new (moves_more near far near far one two number (moves_none near far) out out_room into into_room) mends.moves;
  pile = mends.pile;
}

pub mend_none : (near far : HeapOf) (bound : ℤ) → AreUpTo far.numbers bound → 0 < near.room → Reaches near.numbers bound → 0 < length near.numbers → MendsPile near far near far bound
mend_none near far bound below spare reaches some = record {
  moves = moves_none near far;
  pile = record { reaches = reaches; below = below; some = λ none. absurd (omega arith); room = λ any. spare };
}

-- THE PILE

pub empty_pile : (near far : HeapOf) (bound : ℤ) → length near.numbers ≡ 0 → length far.numbers ≡ 0 → far.room ≡ 0 → IsPile near far bound
empty_pile near far bound one two none = record {
  reaches = λ x top. absurd (let a = none_there near.numbers one x in let b = top.there in omega arith);
  below = λ v some. absurd (let a = none_there far.numbers two v in omega arith);
  some = λ e. two;
  room = λ any. absurd (omega arith);
}

pub none_piled : (near far : HeapOf) → length near.numbers ≡ 0 → length far.numbers ≡ 0 → none_in (near.numbers ++ far.numbers)
none_piled near far one two v = let a = none_there near.numbers one v in let b = none_there far.numbers two v in let c = count_both v near.numbers far.numbers in omega arith

pub pile_top : (near far : HeapOf) (bound top : ℤ) → IsPile near far bound → IsTop near.numbers top → IsTop (near.numbers ++ far.numbers) top
pile_top near far bound top pile is = record {
  there = let a = count_both top near.numbers far.numbers in let b = is.there in omega arith;
  above = λ v some. by_count v (count_in v near.numbers) refl some;
} where
  by_count : (v : ℤ) (n : ℕ) → count_in v near.numbers ≡ n → 0 < count_in v (near.numbers ++ far.numbers) → v ≤ℤ top
  by_count v zero e some = below_trans v bound top (pile.below v (let a = count_both v near.numbers far.numbers in omega arith)) (pile.reaches top is)
  by_count v (suc n) e some = is.above v (omega arith)

pub pile_none : (near far : HeapOf) (bound : ℤ) → IsPile near far bound → none_in near.numbers → none_in (near.numbers ++ far.numbers)
pile_none near far bound pile none = let e = none_is near.numbers none in none_piled near far e (pile.some e)

pub popped_pile : (near far left near_new far_new : HeapOf) (top bound : ℤ) → JoinsHeap left near top → MendsPile left far near_new far_new bound → JoinsHeap (pile_of near_new far_new) (pile_of near far) top
popped_pile near far left near_new far_new top bound took mends = record {
  long = both_long near_new far_new near far (let a = took.long in let b = mends.moves.long in omega arith);
  counts = λ v. both_counts near_new far_new near far top v (let a = took.counts v in let b = mends.moves.same v in omega arith);
}

pub if_none : (near far : HeapOf) (bound : ℤ) (top : Option ℤ) → IsPile near far bound → IfNone top (none_in near.numbers) → IfNone top (none_in (near.numbers ++ far.numbers))
if_none near far bound None pile none = pile_none near far bound pile none
if_none near far bound (Some x) pile none = none

pub swapped : (a b v : ℤ) → cond {A = ℕ} (int_eq a v) 1 0 + cond (int_eq b v) 1 0 ≡ cond (int_eq b v) 1 0 + cond (int_eq a v) 1 0
swapped a b v = omega arith

pub emptied : (near near_new far : HeapOf) (bound : ℤ) → IsPile near far bound → none_in near.numbers → length near_new.numbers ≡ 0 → near_new.room ≡ near.room → IsPile near_new far bound
emptied near near_new far bound pile none empty room =
    let gone = pile.some (none_is near.numbers none) in record {
      reaches = λ x top. absurd (let a = none_there near_new.numbers empty x in let b = top.there in omega arith);
      below = λ v some. absurd (let a = none_there far.numbers gone v in omega arith);
      some = λ e. gone;
      room = λ any. let r = pile.room any in omega arith;
    }

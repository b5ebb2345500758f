-- What words of masks tell of rows.
use Rattle.std.proofs.Common.{◌≡◌, ℕ, zero, suc, ◌+◌, ◌-◌, ◌*◌, ◌/◌, ◌%◌, ◌^◌, ◌<◌, ◌≤◌, ◌==◌, ◌⊎◌, inl, inr, Bool, true, false, ◌&&◌, ◌||◌, not, nat_lt, List, [], ◌∷◌, length, map, take, replicate, get_or, Option, Some, None, slice_get, refl, ap, sym, subst, ◌∙◌, arith}
use Rattle.std.specs.List.{list_all, list_any, All}
use Rattle.std.proofs.lemmas.List.{length-map, get_or_past, take_all, length-take, get_or-take, length-replicate, get_or-replicate}
use Rattle.std.proofs.lemmas.List.Folds.{list_all_more, list_any_more}
use Rattle.std.proofs.lemmas.List.Sums.{sum_by_more, AllPass-from_list_all}
use Rattle.std.specs.Int.{bit_at}
use Rattle.std.specs.Prelude.{bit_and}
use Rattle.std.proofs.lemmas.Nat.{and_le_l, and_mask, pow_pos, mod_below}
use Rattle.std.proofs.lemmas.Nat.Bits.{bit_at_and, bit_at-lt, bit_at_ones, same_from_bits_below}
use Rattle.std.proofs.lemmas.Bool.{cases_lt}
use Rattle.std.proofs.lemmas.Bool.Decides.{nat_tests}
use mathlib.Core.Path.{fun_ext}
use Rattle.tl_types.specs.Plain as plain
use Rattle.tl_query.specs.declared.typed_queries.TypedTest.{TypedTest}
use Rattle.tl_query.specs.declared.typed_queries.TypedPred.{TypedPred}
use Rattle.tl_query.specs.Passing.{passes_test, passes_all, passes}
use Rattle.tl_store.specs.Reading.{rows_passing, columns_of_table}
use Rattle.tl_types.specs.declared.schemas.Column.{Column}
use Rattle.tl_types.specs.declared.cells.Cell.{Cell}
use Rattle.tl_query.specs.TypedFor.{holds_cell, kind_at, is_typed_test, is_ordered, is_int_kind}
use Rattle.tl_bits.specs.Sets.{is_member}
use Rattle.tl_filter.specs.Selecting.{suits_schema, IsTypedPredFor}
use Rattle.std.specs.Option.{option_map}
use Rattle.std.proofs.lemmas.Option.{slice_get_within}
use Rattle.std.proofs.lemmas.List.{ext_get_or}
use Rattle.tl_lanes.specs.Masks.{is_bit, words_for}
use Rattle.tl_filter.specs.Words.{is_asked, AreAsked, AreNarrowed, AreLeft, AreJoined, AreWithin, AreZero, HaveColumns, HaveNonePast}
use Rattle.tl_filter.proofs.WordLemmas.{bit_of_zero}
use Rattle.std.specs.Prelude.{sum_by}

-- of rows the bit at a place, for two tests of which one tells of the other
bits_of_two : (h : Bool → Bool → Bool) → (h false false ≡ false) → (f g : plain.Row → Bool) (rows : List plain.Row) (j : ℕ)
    → get_or (map (λ r. h (f r) (g r)) rows) j false ≡ h (get_or (map f rows) j false) (get_or (map g rows) j false)
bits_of_two h none f g [] j = sym none
bits_of_two h none f g (r ∷ rows) zero = refl
bits_of_two h none f g (r ∷ rows) (suc j) = bits_of_two h none f g rows j

-- the bit at a place, where all rows pass
bits_of_all : (rows : List plain.Row) (j : ℕ) → get_or (map (λ (r : plain.Row). true) rows) j false ≡ nat_lt j (length rows)
bits_of_all [] j = grind (arith, nat_tests)
bits_of_all (r ∷ rows) zero = grind (arith, nat_tests)
bits_of_all (r ∷ rows) (suc j) = bits_of_all rows j ∙ grind (arith, nat_tests)

-- a bit that is not past the rows, where all pass
kept_bit : (rows : List plain.Row) (n j : ℕ) (bit : Bool) → n ≡ length rows → (n ≤ j → bit ≡ false) → bit ≡ (bit && get_or (map (λ (r : plain.Row). true) rows) j false)
kept_bit rows n j bit same none = by_place (cases_lt j n) where
  with_true : (a b : Bool) → b ≡ true → a ≡ (a && b)
  with_true true b h = sym h
  with_true false b h = refl

  by_place : (j < n) ⊎ (n ≤ j) → bit ≡ (bit && get_or (map (λ (r : plain.Row). true) rows) j false)
  by_place (inl inside) = with_true bit (get_or (map (λ (r : plain.Row). true) rows) j false) (bits_of_all rows j ∙ grind (arith, nat_tests))
  by_place (inr past) = let e = none past in e ∙ ap (λ b. b && get_or (map (λ (r : plain.Row). true) rows) j false) (sym e)

-- words narrowed by no test
pub narrowed_none : (rows : List plain.Row) (n first : ℕ) (words : List ℕ) → n ≡ length rows → HaveNonePast n first words → AreNarrowed (map (λ (r : plain.Row). true) rows) first words words
narrowed_none rows n first words same none = record {
  long = refl;
  each = λ i below k small. kept_bit rows n (64 * (first + i) + k) (is_bit (get_or words i 0) k) same (none i below k small);
}

-- words narrowed by two tests, one after the other
narrowed_twice : (f g : plain.Row → Bool) (rows : List plain.Row) (first : ℕ) (old between new : List ℕ) → AreNarrowed (map g rows) first between new
    → AreNarrowed (map f rows) first old between → AreNarrowed (map (λ r. f r && g r) rows) first old new
narrowed_twice f g rows first old between new made were = record {
  long = made.long ∙ were.long;
  each = λ i below k small.
      let long = were.long in
      made.each i (omega arith) k small
      ∙ ap (λ b. b && get_or (map g rows) (64 * (first + i) + k) false) (were.each i below k small)
      ∙ regrouped (is_bit (get_or old i 0) k) (get_or (map f rows) (64 * (first + i) + k) false) (get_or (map g rows) (64 * (first + i) + k) false)
      ∙ ap (λ b. is_bit (get_or old i 0) k && b) (sym (bits_of_two (λ a b. a && b) refl f g rows (64 * (first + i) + k)));
} where
  regrouped : (a b c : Bool) → ((a && b) && c) ≡ (a && (b && c))
  regrouped true b c = refl
  regrouped false b c = refl

-- one test more
tests_more : (rows : List plain.Row) (tests : List TypedTest) (i : ℕ) (d : TypedTest) → i < length tests
    → map (λ r. passes_all r (take i tests) && passes_test r (get_or tests i d)) rows ≡ map (λ r. passes_all r (take (i + 1) tests)) rows
tests_more rows tests i d there = ap (λ t. map t rows) (fun_ext (λ r. sym (list_all_more (passes_test r) tests i d there)))

-- words narrowed by one test more
pub narrowed_more : (rows : List plain.Row) (tests : List TypedTest) (i : ℕ) (test : TypedTest) (ready : List Bool) (first : ℕ) (old between new : List ℕ)
    → i < length tests → test ≡ get_or tests i test → ready ≡ rows_passing rows test.column test → AreNarrowed ready first between new
    → AreNarrowed (map (λ r. passes_all r (take i tests)) rows) first old between
    → AreNarrowed (map (λ r. passes_all r (take (i + 1) tests)) rows) first old new
narrowed_more rows tests i test ready first old between new there is ready_is made were =
    let made_so : AreNarrowed (map (λ r. passes_test r (get_or tests i test)) rows) first between new =
    subst (λ bits. AreNarrowed bits first between new) (ready_is ∙ ap (λ t. map (λ r. passes_test r t) rows) is) made in
    subst (λ bits. AreNarrowed bits first old new) (tests_more rows tests i test there)
    (narrowed_twice (λ r. passes_all r (take i tests)) (λ r. passes_test r (get_or tests i test)) rows first old between new made_so were)

pub narrowed_all : (rows : List plain.Row) (tests : List TypedTest) (i : ℕ) (first : ℕ) (old new : List ℕ) → length tests ≤ i
    → AreNarrowed (map (λ r. passes_all r (take i tests)) rows) first old new
    → AreNarrowed (map (λ r. passes_all r tests) rows) first old new
narrowed_all rows tests i first old new all words =
    subst (λ ts. AreNarrowed (map (λ r. passes_all r ts) rows) first old new) (take_all i tests all) words

-- steps of one test more
pub steps_more : (before between after i n m : ℕ) → between ≤ before + i * n → after ≤ between + m → m ≡ n → after ≤ before + (i + 1) * n
steps_more before between after i n m so_far last same =
    let e : (i + 1) * n ≡ i * n + n = grind arith in
    omega arith

-- SEVERAL LISTS

-- what is left has no bit past the rows
pub left_inside : (n first : ℕ) (base done left : List ℕ) → length base ≡ length done → AreLeft base done left → HaveNonePast n first base → HaveNonePast n first left
left_inside n first base done left same made none i below k small past =
    let long = made.long in
    made.each i (omega arith) k small ∙ ap (λ b. b && not (is_bit (get_or done i 0) k)) (none i (omega arith) k small past)

-- bits of rows that pass one of two tests, of which the second is asked where the first does not tell
pub widened : (f : plain.Row → Bool) (rows : List plain.Row) (tests : List TypedTest) (first : ℕ) (base done left narrowed_left new : List ℕ) → AreLeft base done left
    → AreNarrowed (map (λ r. passes_all r tests) rows) first left narrowed_left → AreJoined done narrowed_left new
    → AreNarrowed (map f rows) first base done → AreNarrowed (map (λ r. f r || passes_all r tests) rows) first base new
widened f rows tests first base done left narrowed_left new made narrows adds were = record {
  long = adds.long ∙ were.long;
  each = λ i below k small.
      let long = were.long in
      let longer = made.long in
      let g : plain.Row → Bool = λ r. passes_all r tests in
      regrouped (is_bit (get_or base i 0) k) (get_or (map f rows) (64 * (first + i) + k) false) (get_or (map g rows) (64 * (first + i) + k) false)
      (is_bit (get_or done i 0) k) (is_bit (get_or left i 0) k) (is_bit (get_or narrowed_left i 0) k) (is_bit (get_or new i 0) k)
      (were.each i below k small) (made.each i (omega arith) k small) (narrows.each i (omega arith) k small) (adds.each i (omega arith) k small)
      ∙ ap (λ b. is_bit (get_or base i 0) k && b) (sym (bits_of_two (λ a b. a || b) refl f g rows (64 * (first + i) + k)));
} where
  regrouped : (x a b d l m n : Bool) → d ≡ (x && a) → l ≡ (x && not d) → m ≡ (l && b) → n ≡ (d || m) → n ≡ (x && (a || b))
  regrouped x a b d l m n e f g h = grind (arith, nat_tests)

-- no list
pub no_lists : (rows : List plain.Row) (first : ℕ) (base words : List ℕ) → length words ≡ length base → AreZero words → AreNarrowed (map (λ (r : plain.Row). false) rows) first base words
no_lists rows first base words same none = record {
  long = same;
  each = λ i below k small.
      ap (λ w. is_bit w k) (none i) ∙ bit_of_zero k ∙ sym (ap (λ b. is_bit (get_or base i 0) k && b) (no_bit rows (64 * (first + i) + k)) ∙ none_of (is_bit (get_or base i 0) k));
} where
  no_bit : (rs : List plain.Row) (j : ℕ) → get_or (map (λ (r : plain.Row). false) rs) j false ≡ false
  no_bit [] j = refl
  no_bit (r ∷ rs) zero = refl
  no_bit (r ∷ rs) (suc j) = no_bit rs j

  none_of : (a : Bool) → (a && false) ≡ false
  none_of true = refl
  none_of false = refl

-- one list more
lists_more : (rows : List plain.Row) (lists : List (List TypedTest)) (i : ℕ) (tests asked : List TypedTest) → i < length lists → tests ≡ get_or lists i tests → asked ≡ tests
    → map (λ r. list_any (passes_all r) (take i lists) || passes_all r asked) rows ≡ map (λ r. list_any (passes_all r) (take (i + 1) lists)) rows
lists_more rows lists i tests asked there is asks =
    ap (λ t. map t rows) (fun_ext (λ r. ap (λ ts. list_any (passes_all r) (take i lists) || passes_all r ts) (asks ∙ is) ∙ sym (list_any_more (passes_all r) lists i tests there)))

pub list_told : (rows : List plain.Row) (lists : List (List TypedTest)) (i : ℕ) (tests asked : List TypedTest) (first : ℕ) (base done new : List ℕ)
    → i < length lists → tests ≡ get_or lists i tests → asked ≡ tests
    → ((f : plain.Row → Bool) → AreNarrowed (map f rows) first base done → AreNarrowed (map (λ r. f r || passes_all r asked) rows) first base new)
    → AreNarrowed (map (λ r. list_any (passes_all r) (take i lists)) rows) first base done
    → AreNarrowed (map (λ r. list_any (passes_all r) (take (i + 1) lists)) rows) first base new
list_told rows lists i tests asked first base done new there is asks adds were =
    subst (λ bits. AreNarrowed bits first base new) (lists_more rows lists i tests asked there is asks) (adds (λ r. list_any (passes_all r) (take i lists)) were)

-- steps of one list more
pub list_steps : (lists : List (List TypedTest)) (i : ℕ) (tests asked : List TypedTest) (before between after n m : ℕ) → i < length lists → tests ≡ get_or lists i tests → asked ≡ tests
    → between ≤ before + sum_by length (take i lists) * n → after ≤ between + length asked * m → m ≡ n
    → after ≤ before + sum_by length (take (i + 1) lists) * n
list_steps lists i tests asked before between after n m there is asks so_far last same =
    let count : sum_by length (take (i + 1) lists) ≡ sum_by length (take i lists) + length tests =
    sum_by_more length lists i tests there ∙ ap (λ ts. sum_by length (take i lists) + length ts) (sym is) in
    let e : (sum_by length (take i lists) + length tests) * n ≡ sum_by length (take i lists) * n + length tests * n = grind arith in
    let f : length asked * m ≡ length tests * n = ap (λ ts. length ts * m) asks ∙ ap (λ k. length tests * k) same in
    let g : sum_by length (take (i + 1) lists) * n ≡ sum_by length (take i lists) * n + length tests * n = ap (λ k. k * n) count ∙ e in
    omega arith

-- A BLOCK

-- whether a row passes a predicate with no list
passes_empty : (lists : List (List TypedTest)) (r : plain.Row) → length lists ≡ 0 → ((length lists == 0) || list_any (passes_all r) lists) ≡ true
passes_empty lists r e = ap (λ n. (n == 0) || list_any (passes_all r) lists) e

empty_passing : (pred : TypedPred) (rows : List plain.Row) → length pred.any ≡ 0 → map (λ (r : plain.Row). true) rows ≡ map (passes pred) rows
empty_passing pred rows empty = ap (λ t. map t rows) (fun_ext (λ r. sym (passes_empty pred.any r empty)))

-- where there is no list, all rows pass
pub all_pass : (pred : TypedPred) (rows : List plain.Row) (first : ℕ) (base old new : List ℕ) → length pred.any ≡ 0 → AreZero old → length old ≡ length base → AreJoined old base new
    → HaveNonePast (length rows) first base → AreNarrowed (map (passes pred) rows) first base new
all_pass pred rows first base old new empty none same adds inside =
    subst (λ bits. AreNarrowed bits first base new) (empty_passing pred rows empty) (record {
      long = adds.long ∙ same;
      each = λ i below k small.
          adds.each i (omega arith) k small
          ∙ ap (λ w. is_bit w k || is_bit (get_or base i 0) k) (none i)
          ∙ ap (λ b. b || is_bit (get_or base i 0) k) (bit_of_zero k)
          ∙ (narrowed_none rows (length rows) first base refl inside).each i below k small;
    })

-- where there is one, those that pass one of the lists
pub some_pass : (pred : TypedPred) (rows : List plain.Row) (first : ℕ) (base done : List ℕ) → (length pred.any ≡ 0 → ⊥)
    → AreNarrowed (map (λ r. list_any (passes_all r) pred.any) rows) first base done → AreNarrowed (map (passes pred) rows) first base done
some_pass pred rows first base done some words =
    subst (λ bits. AreNarrowed bits first base done) (ap (λ t. map t rows) (fun_ext (λ r. sym (passes_some pred.any r some)))) words where
      passes_some : (lists : List (List TypedTest)) (r : plain.Row) → (length lists ≡ 0 → ⊥) → ((length lists == 0) || list_any (passes_all r) lists) ≡ list_any (passes_all r) lists
      passes_some [] r other = absurd (other refl)
      passes_some (l ∷ ls) r other = (let e : (length (l ∷ ls) == 0) ≡ false = grind (arith, nat_tests) in ap (λ b. b || list_any (passes_all r) (l ∷ ls)) e)

not_set : (b : ℕ) → b < 2 → (b == 1) ≡ false → b ≡ 0
not_set zero f h = refl
not_set (suc zero) f h = absurd (cc)
not_set (suc (suc b)) f h = absurd (omega arith)

-- a word that has no bit from a place on is small
small_word : (word n : ℕ) → word < 2 ^ 64 → ((k : ℕ) → k < 64 → n ≤ k → is_bit word k ≡ false) → word < 2 ^ n
small_word word n fits none =
    let part = bit_and word (2 ^ n - 1) in
    let less : part ≤ word = and_le_l word (2 ^ n - 1) in
    let same : word ≡ part = same_from_bits_below 64 word part fits (omega arith) (λ k below. by_place k below (cases_lt k n)) in
    let low : part ≡ word % 2 ^ n = and_mask word n in
    let some = pow_pos n in
    let under : word % 2 ^ n < 2 ^ n = mod_below word (2 ^ n) some in
    omega arith where
      by_place : (k : ℕ) → k < 64 → (k < n) ⊎ (n ≤ k) → bit_at word k ≡ bit_at (bit_and word (2 ^ n - 1)) k
      by_place k below (inl inside) =
          let e = bit_at_and word (2 ^ n - 1) k in
          let f = bit_at_ones n k inside in
          let g = bit_at-lt word k in
          omega arith
      by_place k below (inr above) =
          let e = bit_at_and word (2 ^ n - 1) k in
          let f = not_set (bit_at word k) (bit_at-lt word k) (none k below above) in
          omega arith

-- narrowed words have no bit past the rows
pub within_rows : (bits : List Bool) (n first : ℕ) (base words : List ℕ) → HaveNonePast n first base → ((i : ℕ) → get_or words i 0 < 2 ^ 64)
    → AreNarrowed bits first base words → AreWithin n first words
within_rows bits n first base words none fit made i below =
    let long = made.long in
    small_word (get_or words i 0) (n - 64 * (first + i)) (fit i)
    (λ k small past. made.each i (omega arith) k small
    ∙ ap (λ b. b && get_or bits (64 * (first + i) + k) false) (none i (omega arith) k small (omega arith)))

-- the place of a row
place_of : (first row : ℕ) → first ≤ row / 64 → 64 * (first + (row / 64 - first)) + row % 64 ≡ row
place_of first row from = omega arith

-- the words that were put tell of their rows
pub rows_told : (bits : List Bool) (base words : List ℕ) (first : ℕ) (new : List Bool) → AreNarrowed bits first base words
    → ((row : ℕ) → first ≤ row / 64 → row / 64 < first + length words → get_or new row false ≡ is_bit (get_or words (row / 64 - first) 0) (row % 64))
    → (row : ℕ) → first ≤ row / 64 → row / 64 < first + length base
    → get_or new row false ≡ (is_bit (get_or base (row / 64 - first) 0) (row % 64) && get_or bits row false)
rows_told bits base words first new made put row from to =
    let long = made.long in
    put row from (omega arith) ∙ made.each (row / 64 - first) (omega arith) (row % 64) (omega arith)
    ∙ ap (λ j. is_bit (get_or base (row / 64 - first) 0) (row % 64) && get_or bits j false) (place_of first row from)

-- no row past those of the set is asked
asked_past : (whole : Bool) (set : List Bool) (row : ℕ) → length set ≤ row → is_asked whole set row ≡ false
asked_past true set row past = grind (arith, nat_tests)
asked_past false set row past = get_or_past set row false past

-- so the words of those that are asked have no bit past them
pub asked_inside : (whole : Bool) (set : List Bool) (n first : ℕ) (words : List ℕ) → length set ≡ n → AreAsked whole set first words → HaveNonePast n first words
asked_inside whole set n first words same are i below k small past = are i below k small ∙ asked_past whole set (64 * (first + i) + k) (omega arith)

-- the words ask these rows
pub asked_told : (whole : Bool) (set bits : List Bool) (first row : ℕ) (words : List ℕ) (member : Bool) → AreAsked whole set first words → first ≤ row / 64 → row / 64 < first + length words
    → member ≡ (is_bit (get_or words (row / 64 - first) 0) (row % 64) && get_or bits row false) → member ≡ (is_asked whole set row && get_or bits row false)
asked_told whole set bits first row words member are from to told =
    told ∙ ap (λ b. b && get_or bits row false) (are (row / 64 - first) (omega arith) (row % 64) (omega arith) ∙ ap (is_asked whole set) (place_of first row from))

-- rows that stay as they were are asked as before
pub asked_same : (whole : Bool) (old new : List Bool) (row : ℕ) → length new ≡ length old → is_member new row ≡ is_member old row → is_asked whole new row ≡ is_asked whole old row
asked_same true old new row long same = ap (nat_lt row) long
asked_same false old new row long same = same

-- the front of words of zeros has no bit
pub zeros_front : (n m : ℕ) → AreZero (take n (replicate m 0))
zeros_front n m i = by_place (cases_lt i (length (take n (replicate {A = ℕ} m 0)))) where
  zero_at : (n m i : ℕ) → i < length (take n (replicate {A = ℕ} m 0)) → get_or (take n (replicate {A = ℕ} m 0)) i 0 ≡ 0
  zero_at n m i inside =
      let e = length-take n (replicate {A = ℕ} m 0) in
      let f = length-replicate {A = ℕ} m 0 in
      get_or-take n (replicate {A = ℕ} m 0) i 0 (omega arith) ∙ get_or-replicate m i 0 0 (omega arith)

  by_place : (i < length (take n (replicate {A = ℕ} m 0))) ⊎ (length (take n (replicate {A = ℕ} m 0)) ≤ i) → get_or (take n (replicate {A = ℕ} m 0)) i 0 ≡ 0
  by_place (inl inside) = zero_at n m i inside
  by_place (inr past) = get_or_past (take n (replicate {A = ℕ} m 0)) i 0 past

pub front_long : (n m : ℕ) → n ≤ m → length (take n (replicate {A = ℕ} m 0)) ≡ n
front_long n m within =
    let e = length-take n (replicate {A = ℕ} m 0) in
    let f = length-replicate {A = ℕ} m 0 in
    omega arith

-- A WHOLE TABLE

-- a test of a column that is there
column_there : (columns : List Column) (place : ℕ) (x : Cell) → holds_cell (option_map (λ c. c.kind) (slice_get columns place)) x ≡ true → place < length columns
column_there columns place x h = by_column (slice_get columns place) refl h where
  by_column : (o : Option Column) → slice_get columns place ≡ o → holds_cell (option_map (λ c. c.kind) o) x ≡ true → place < length columns
  by_column None e h = absurd (cc)
  by_column (Some c) e h = slice_get_within columns place c e

first_true : (a b : Bool) → (a && b) ≡ true → a ≡ true
first_true true b h = refl
first_true false b h = absurd (cc)

test_there : (schema : plain.Schema) (test : TypedTest) → is_typed_test schema test ≡ true → test.column < length schema.columns
test_there schema test h =
    column_there schema.columns test.column test.value
    (first_true (holds_cell (kind_at schema test.column) test.value) (not (is_ordered test.cmp) || is_int_kind (kind_at schema test.column)) h)

-- the tests of a predicate that suits a table name its columns
pub typed_columns : (db : plain.Database) (table : ℕ) (pred : TypedPred) → IsTypedPredFor db table pred → All (HaveColumns db table) pred.any
typed_columns db table pred typed = by_table (slice_get db.tables table) typed where
  by_table : (o : Option plain.Table) → suits_schema pred (option_map (λ t. t.schema) o) ≡ true
      → All (λ tests. All (λ (test : TypedTest). test.column < length (columns_of_table o)) tests) pred.any
  by_table None h = absurd (cc)
  by_table (Some t) h = λ k d below j e within.
      test_there t.schema (get_or (get_or pred.any k d) j e)
      (AllPass-from_list_all (is_typed_test t.schema) (get_or pred.any k d)
      (AllPass-from_list_all (λ tests. list_all (is_typed_test t.schema) tests) pred.any h k d below) j e within)

-- all rows told
pub all_left : (whole : Bool) (bits old new : List Bool) (words : ℕ) → length new ≡ length old → words_for (length old) ≤ words
    → ((row : ℕ) → row / 64 < words → is_member new row ≡ (is_asked whole old row && is_member bits row))
    → (row : ℕ) → is_member new row ≡ (is_asked whole old row && is_member bits row)
all_left whole bits old new words long all told row = by_place (cases_lt (row / 64) words) where
  by_place : (row / 64 < words) ⊎ (words ≤ row / 64) → is_member new row ≡ (is_asked whole old row && is_member bits row)
  by_place (inl inside) = told row inside
  by_place (inr past) =
      let e = get_or_past new row false (omega arith) in
      let f = asked_past whole old row (omega arith) in
      e ∙ ap (λ b. b && is_member bits row) (sym f)

-- where all rows are asked, those that pass are in the set, and no others
pub all_told : (f : plain.Row → Bool) (rows : List plain.Row) (old new : List Bool) → length new ≡ length old → length old ≡ length rows
    → ((row : ℕ) → is_member new row ≡ (is_asked true old row && is_member (map f rows) row)) → new ≡ map f rows
all_told f rows old new long same told =
    let e = length-map rows f in
    ext_get_or false new (map f rows) (long ∙ same ∙ sym e) (λ row inside.
    let there : nat_lt row (length old) ≡ true = grind (arith, nat_tests) in
    told row ∙ ap (λ b. b && is_member (map f rows) row) there)

-- where there is no list, the set stays as it is
pub all_stay : (pred : TypedPred) (rows : List plain.Row) (set : List Bool) → length pred.any ≡ 0 → length set ≡ length rows
    → (row : ℕ) → is_member set row ≡ (is_member set row && is_member (map (passes pred) rows) row)
all_stay pred rows set empty same row =
    subst (λ bits. is_member set row ≡ (is_member set row && is_member bits row)) (empty_passing pred rows empty)
    (kept_bit rows (length rows) row (is_member set row) refl (λ past. get_or_past set row false (omega arith)))

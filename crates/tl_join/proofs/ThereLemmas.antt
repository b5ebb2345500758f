-- The ids of the rows that are there in a piece, one by one.
use Rattle.std.proofs.Common.{◌≡◌, ℕ, zero, suc, ◌+◌, ◌-◌, ◌/◌, ◌≤◌, ◌<◌, Bool, true, false, List, [], ◌∷◌, ◌++◌, length, Option, Some, None, refl, sym, ap, ◌∙◌, arith, append_assoc, slice_index_or, get_or, drop, take, drop-cons, All, length-append}
use Rattle.std.proofs.lemmas.List.{append-nil, take_more, get_or-drop, length-drop}
use Rattle.std.proofs.Math.Seq.{drop-drop}
use Rattle.std.proofs.lemmas.List.Elements.{filter_map-append, All-take, All-drop}
use Rattle.std.specs.List.{filter_map}
use Rattle.std.specs.Option.{option_to_list}
use Rattle.tl_types.specs.declared.events.Event.{Event}
use Rattle.tl_bits.specs.Sets.{IsFree, IsNext}
use Rattle.tl_join.specs.There.{members_from, opened_row, opened_in}

-- THE MEMBERS OF A SET

pass_first : (n : ℕ) (b : Bool) (bs : List Bool) → b ≡ false → members_from n (b ∷ bs) ≡ members_from (n + 1) bs
pass_first n b bs e = rw e refl

none_here : (bs : List Bool) (n m : ℕ) → m ≤ length bs → ((k : ℕ) → k < m → slice_index_or bs k false ≡ false) → members_from n bs ≡ members_from (n + m) (drop m bs)
none_here bs n zero h free = let e : n ≡ n + zero = omega arith in ap (λ k. members_from k bs) e
none_here [] n (suc m) h free = absurd (omega (arith, h))
none_here (b ∷ bs) n (suc m) h free =
    let at : n + 1 + m ≡ n + suc m = omega arith in
    pass_first n b bs (free zero (omega arith))
    ∙ none_here bs (n + 1) m (omega arith) (λ k l. free (suc k) (omega arith))
    ∙ ap (λ k. members_from k (drop m bs)) at

free_from : (set : List Bool) (at row k : ℕ) → IsFree set at row → at + k ≤ row → k < row - at → slice_index_or (drop at set) k false ≡ false
free_from set at row k free h l = get_or-drop at set k false ∙ free (at + k) (omega arith) (omega arith)

drop_both : (set : List Bool) (at row : ℕ) → at ≤ row → drop (row - at) (drop at set) ≡ drop row set
drop_both set at row h = let e : at + (row - at) ≡ row = omega arith in drop-drop (row - at) at set ∙ ap (λ n. drop n set) e

one_further : (set : List Bool) (row : ℕ) → true ∷ drop (suc row) set ≡ true ∷ drop (row + 1) set
one_further set row = let e : suc row ≡ row + 1 = omega arith in ap (λ n. true ∷ drop n set) e

pub next_member : (set : List Bool) (at row : ℕ) (ids : List ℕ) (all : List ℕ) → ids ++ members_from at (drop at set) ≡ all → IsNext set at row → (ids ++ row ∷ []) ++ members_from (row + 1) (drop (row + 1) set) ≡ all
next_member set at row ids all h next =
    let inside = next.inside in
    let not_below = next.not_below in
    let len : length (drop at set) ≡ length set - at = length-drop at set in
    let far : drop (row - at) (drop at set) ≡ drop row set = drop_both set at row not_below in
    let there : at + (row - at) ≡ row = omega arith in
    let skip : members_from at (drop at set) ≡ members_from row (drop row set) = none_here (drop at set) at (row - at) (omega (arith, len, inside, not_below)) (λ k l. free_from set at row k next.least (omega arith) l) ∙ ap (λ bs. members_from (at + (row - at)) bs) far ∙ ap (λ n. members_from n (drop row set)) there in
    let here : drop row set ≡ true ∷ drop (row + 1) set = drop-cons set row false inside ∙ ap (λ b. b ∷ drop (suc row) set) next.member ∙ one_further set row in
    let first : members_from row (drop row set) ≡ row ∷ members_from (row + 1) (drop (row + 1) set) = ap (members_from row) here in
    append_assoc ids (row ∷ []) (members_from (row + 1) (drop (row + 1) set)) ∙ ap (λ ns. ids ++ ns) (sym (skip ∙ first)) ∙ h

all_free : (bs : List Bool) (n : ℕ) → ((k : ℕ) → k < length bs → slice_index_or bs k false ≡ false) → members_from n bs ≡ []
all_free [] n h = refl
all_free (b ∷ bs) n h = pass_first n b bs (h zero (omega arith)) ∙ all_free bs (n + 1) (λ k l. h (suc k) (omega arith))

pub no_member : (set : List Bool) (at : ℕ) (ids all : List ℕ) → ids ++ members_from at (drop at set) ≡ all → IsFree set at (length set) → ids ≡ all
no_member set at ids all h free =
    let len : length (drop at set) ≡ length set - at = length-drop at set in
    let none : members_from at (drop at set) ≡ [] = all_free (drop at set) at (λ k l. get_or-drop at set k false ∙ free (at + k) (omega arith) (omega (arith, len, l))) in
    sym (ap (λ ns. ids ++ ns) none ∙ append-nil ids) ∙ h

pub steps_found : (old steps at row count new len : ℕ) → steps ≤ old + at / 64 + count → new + at / 64 ≡ steps + row / 64 + 1 → len ≡ count + 1 → new ≤ old + (row + 1) / 64 + len
steps_found old steps at row count new len h k e = omega (arith, h, k, e)

pub steps_left : (old steps at row new rows words : ℕ) (ids rest all : List ℕ) → ids ++ rest ≡ all → steps ≤ old + at / 64 + length ids → new + at / 64 ≡ steps + row / 64 + 1 → row < rows → words ≡ (rows + 63) / 64 → new ≤ old + words + length all
steps_left old steps at row new rows words ids rest all is h k inside e =
    let l : length ids + length rest ≡ length all = sym (length-append ids rest) ∙ ap length is in
    omega (arith, l, h, k, inside, e)

pub steps_end : (old steps at count new rows words : ℕ) → steps ≤ old + at / 64 + count → at ≤ rows → words ≡ (rows + 63) / 64 → new ≡ steps + (words - at / 64) → new ≤ old + words + count
steps_end old steps at count new rows words h inside is e = omega (arith, h, inside, is, e)

-- THE ROWS THAT EVENTS OPEN

opened_push : (keep : List Bool) (event : Event) → filter_map (opened_row keep) (event ∷ []) ≡ option_to_list (opened_row keep event)
opened_push keep event = by_option (opened_row keep event) refl where
  by_option : (o : Option ℕ) → opened_row keep event ≡ o → filter_map (opened_row keep) (event ∷ []) ≡ option_to_list (opened_row keep event)
  by_option None e = rw e refl
  by_option (Some id) e = rw e refl

pub opened_more : (keep : List Bool) (events : List Event) (i : ℕ) (event : Event) (all ids new : List ℕ) (row : Option ℕ) → i < length events → get_or events i event ≡ event → ids ≡ all ++ filter_map (opened_row keep) (take i events) → row ≡ opened_row keep event → new ≡ ids ++ option_to_list row → new ≡ all ++ filter_map (opened_row keep) (take (i + 1) events)
opened_more keep events i event all ids new row inside here before row_is new_is =
    let more : take (i + 1) events ≡ take i events ++ event ∷ [] = take_more events i event inside ∙ ap (λ (e : Event). take i events ++ e ∷ []) here in
    let part = filter_map-append (opened_row keep) (take i events) (event ∷ []) ∙ ap (λ ns. filter_map (opened_row keep) (take i events) ++ ns) (opened_push keep event) in
    new_is ∙ ap (λ o. ids ++ option_to_list o) row_is ∙ ap (λ ns. ns ++ option_to_list (opened_row keep event)) before ∙ append_assoc all (filter_map (opened_row keep) (take i events)) (option_to_list (opened_row keep event)) ∙ ap (λ ns. all ++ ns) (sym (ap (filter_map (opened_row keep)) more ∙ part))

run_front : {X : Type 0} (xs : List X) (n last : ℕ) → n ≤ last → take last xs ≡ take n xs ++ drop n (take last xs)
run_front xs zero last h = refl
run_front xs (suc n) zero h = absurd (omega (arith, h))
run_front [] (suc n) (suc last) h = refl
run_front (x ∷ xs) (suc n) (suc last) h = ap (λ ys. x ∷ ys) (run_front xs n last (omega (arith, h)))

nothing : {X : Type 0} (n k : ℕ) → ◌≡◌ {A = List X} [] (take n [] ++ drop k [])
nothing zero zero = refl
nothing zero (suc k) = refl
nothing (suc n) zero = refl
nothing (suc n) (suc k) = refl

run_parts : {X : Type 0} (xs : List X) (at n last : ℕ) → at + n ≤ last → drop at (take last xs) ≡ take n (drop at xs) ++ drop (at + n) (take last xs)
run_parts xs zero n last h = let e : zero + n ≡ n = omega arith in run_front xs n last (omega (arith, h)) ∙ ap (λ k. take n xs ++ drop k (take last xs)) (sym e)
run_parts xs (suc at) n zero h = absurd (omega (arith, h))
run_parts [] (suc at) n (suc last) h = nothing n (suc at + n)
run_parts (x ∷ xs) (suc at) n (suc last) h = let e : suc at + n ≡ suc (at + n) = omega arith in run_parts xs at n last (omega (arith, h)) ∙ ap (λ k. take n (drop at xs) ++ drop k (x ∷ take last xs)) (sym e)

-- one run more
pub opened_run : (keep : List Bool) (events run : List Event) (at last : ℕ) (ids new all : List ℕ) → run ≡ take (length run) (drop at events) → at + length run ≤ last → new ≡ ids ++ filter_map (opened_row keep) run → ids ++ opened_in events at last keep ≡ all → new ++ opened_in events (at + length run) last keep ≡ all
opened_run keep events run at last ids new all is inside new_is before =
    let parts : drop at (take last events) ≡ run ++ drop (at + length run) (take last events) = run_parts events at (length run) last inside ∙ ap (λ es. es ++ drop (at + length run) (take last events)) (sym is) in
    let split : opened_in events at last keep ≡ filter_map (opened_row keep) run ++ opened_in events (at + length run) last keep = ap (filter_map (opened_row keep)) parts ∙ filter_map-append (opened_row keep) run (drop (at + length run) (take last events)) in
    ap (λ ns. ns ++ opened_in events (at + length run) last keep) new_is ∙ append_assoc ids (filter_map (opened_row keep) run) (opened_in events (at + length run) last keep) ∙ ap (λ ns. ids ++ ns) (sym split) ∙ before

nothing_left : {X : Type 0} (xs : List X) (n : ℕ) → drop n (take n xs) ≡ []
nothing_left xs zero = refl
nothing_left [] (suc n) = refl
nothing_left (x ∷ xs) (suc n) = nothing_left xs n

pub opened_end : (keep : List Bool) (events : List Event) (at last : ℕ) (ids all : List ℕ) → at ≤ last → last ≤ at → ids ++ opened_in events at last keep ≡ all → ids ≡ all
opened_end keep events at last ids all h k is =
    let e : at ≡ last = omega (arith, h, k) in
    sym (append-nil ids) ∙ ap (λ ns. ids ++ ns) (sym (ap (λ n. opened_in events n last keep) e ∙ ap (filter_map (opened_row keep)) (nothing_left events last))) ∙ is

pub run_within : (rows : ℕ) (events run : List Event) (at n : ℕ) → run ≡ take n (drop at events) → All (λ (e : Event). e.row < rows) events → All (λ (e : Event). e.row < rows) run
run_within rows events run at n is all = rw is (All-take (λ (e : Event). e.row < rows) n (drop at events) (All-drop (λ (e : Event). e.row < rows) at events all))

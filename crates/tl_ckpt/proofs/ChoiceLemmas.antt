-- Events of chosen rows: of a merge, and of runs.
use Rattle.std.proofs.Common.{◌≡◌, ℕ, zero, ◌+◌, ◌-◌, ◌*◌, ◌/◌, ◌%◌, ◌<◌, ◌≤◌, ◌⊎◌, inl, inr, Bool, true, false, ◌||◌, ◌&&◌, cond, List, [], ◌∷◌, ◌++◌, length, drop, get_or, slice_index_or, refl, sym, ap, ◌∙◌, subst, arith, append_assoc}
use Rattle.std.specs.Borrow.{Bor}
use Rattle.std.specs.List.{filter}
use Rattle.std.proofs.lemmas.Bool.{cases_lt}
use Rattle.std.proofs.lemmas.List.{get_or_append_left, get_or-append_right, get_or_past, drop_all}
use Rattle.std.proofs.lemmas.List.Elements.{filter-append}
use Rattle.tl_types.specs.declared.events.ValidEvent.{ValidEvent}
use Rattle.tl_types.proofs.ValidEventOrder.{same_event, equal}
use Rattle.tl_lanes.specs.Masks.{is_bit, bit_of, words_for}
use Rattle.tl_bits.specs.Sets.{is_member}
use Rattle.tl_bits.proofs.SetLemmas.{no_bit_left}
use Rattle.tl_ckpt.specs.Valid.{Rises, merged}
use Rattle.tl_ckpt.specs.Runs.{sum_of, AllRise, lent, fronts, backs}
use Rattle.tl_ckpt.specs.Choices.{Choice, is_chosen, chosen, masked}
use Rattle.tl_ckpt.proofs.Members.{Above, has, xor, good_merged, members_same}
use Rattle.tl_ckpt.proofs.Merging.{drop_step}
use Rattle.tl_ckpt.proofs.RunLemmas.{rises_sum, rise_at, rise_behind, merged_twice, merged_none}
use Rattle.tl_ckpt.proofs.PieceLemmas.{sum_cut, backs_rise, lent_at, lent_length}

-- THE BITS OF A SET

-- the words that were read tell the rows so far
pub bits_more : (mask : List ℕ) (word i : ℕ) (set : List Bool) → length mask ≡ i → ((j : ℕ) → j < 64 * i → bit_of mask j ≡ is_member set j) → ((k : ℕ) → k < 64 → is_bit word k ≡ is_member set (64 * i + k)) → (j : ℕ) → j < 64 * (i + 1) → bit_of (mask ++ word ∷ []) j ≡ is_member set j
bits_more mask word i set long before bits j below = by_place (cases_lt j (64 * i)) where
  by_place : (j < 64 * i) ⊎ (64 * i ≤ j) → bit_of (mask ++ word ∷ []) j ≡ is_member set j
  by_place (inl front) =
      let here : j / 64 < length mask = omega (arith, front, long) in
      ap (λ w. is_bit w (j % 64)) (get_or_append_left mask (word ∷ []) zero (j / 64) here) ∙ before j front
  by_place (inr behind) =
      let at : j / 64 ≡ i = omega (arith, behind, below) in
      let past : length mask ≤ j / 64 = omega (arith, at, long) in
      let first : j / 64 - length mask ≡ 0 = omega (arith, at, long) in
      let rest : 64 * i + j % 64 ≡ j = omega (arith, at) in
      let less : j % 64 < 64 = omega arith in
      ap (λ w. is_bit w (j % 64)) (get_or-append_right mask (word ∷ []) (length mask) (j / 64) zero refl past ∙ ap (λ n. get_or (word ∷ []) n zero) first)
      ∙ bits (j % 64) less ∙ ap (is_member set) rest

-- all words that were read tell all rows
pub bits_all : (mask : List ℕ) (i : ℕ) (set : List Bool) → length mask ≡ i → words_for (length set) ≤ i → ((j : ℕ) → j < 64 * i → bit_of mask j ≡ is_member set j) → (j : ℕ) → bit_of mask j ≡ is_member set j
bits_all mask i set long all before j = by_place (cases_lt j (64 * i)) where
  by_place : (j < 64 * i) ⊎ (64 * i ≤ j) → bit_of mask j ≡ is_member set j
  by_place (inl front) = before j front
  by_place (inr behind) =
      let past : length mask ≤ j / 64 = omega (arith, behind, long) in
      let none : length set ≤ j = omega (arith, behind, all) in
      ap (λ w. is_bit w (j % 64)) (get_or_past mask (j / 64) zero past) ∙ no_bit_left zero zero refl (j % 64) (omega arith) ∙ sym (get_or_past set j false none)

-- no word, no bit
pub past_words : (mask : List ℕ) (j : ℕ) → length mask ≤ j / 64 → bit_of mask j ≡ false
past_words mask j past = ap (λ w. is_bit w (j % 64)) (get_or_past mask (j / 64) zero past) ∙ no_bit_left zero zero refl (j % 64) (omega arith)

-- A FILTER OF A MERGE

above_filter : (P : ValidEvent → Bool) (x : ValidEvent) (ys : List ValidEvent) → Above x ys → Above x (filter P ys)
above_filter P x [] all = tt
above_filter P x (y ∷ ys) all = by_test (P y) (above_filter P x ys all.1) where
  by_test : (b : Bool) → Above x (filter P ys) → Above x (cond b (y ∷ filter P ys) (filter P ys))
  by_test true later = (all.0, later)
  by_test false later = later

pub rises_filter : (P : ValidEvent → Bool) (xs : List ValidEvent) → Rises xs → Rises (filter P xs)
rises_filter P [] up = tt
rises_filter P (x ∷ xs) up = by_test (P x) (rises_filter P xs up.1) where
  by_test : (b : Bool) → Rises (filter P xs) → Rises (cond b (x ∷ filter P xs) (filter P xs))
  by_test true later = (above_filter P x xs up.0, later)
  by_test false later = later

pub has_filter : (P : ValidEvent → Bool) (z : ValidEvent) (xs : List ValidEvent) → has (filter P xs) z ≡ (has xs z && P z)
has_filter P z [] = refl
has_filter P z (x ∷ xs) = by_tests (P x) (same_event x z) refl refl (has_filter P z xs) where
  by_tests : (a b : Bool) → P x ≡ a → same_event x z ≡ b → has (filter P xs) z ≡ (has xs z && P z) → has (cond a (x ∷ filter P xs) (filter P xs)) z ≡ ((b || has xs z) && P z)
  by_tests true true e f later = let same = equal x z f in let passes : P z ≡ true = ap P (sym same) ∙ e in rw (f, passes) refl
  by_tests true false e f later = ap (λ c. c || has (filter P xs) z) f ∙ later
  by_tests false true e f later = let same = equal x z f in let fails : P z ≡ false = ap P (sym same) ∙ e in later ∙ ap (λ c. has xs z && c) fails ∙ no_one (has xs z) ∙ sym fails where
    no_one : (b : Bool) → (b && false) ≡ false
    no_one true = refl
    no_one false = refl
  by_tests false false e f later = later

pub both_pass : (a b p : Bool) → (xor a b && p) ≡ xor (a && p) (b && p)
both_pass true true true = refl
both_pass true true false = refl
both_pass true false true = refl
both_pass true false false = refl
both_pass false true true = refl
both_pass false true false = refl
both_pass false false true = refl
both_pass false false false = refl

-- what passes of a merge is the merge of what passes
pub filter_merged : (P : ValidEvent → Bool) (es ts : List ValidEvent) → Rises es → Rises ts → filter P (merged es ts) ≡ merged (filter P es) (filter P ts)
filter_merged P es ts a b =
    let whole = good_merged es ts a b in
    let part = good_merged (filter P es) (filter P ts) (rises_filter P es a) (rises_filter P ts b) in
    members_same (filter P (merged es ts)) (merged (filter P es) (filter P ts)) (rises_filter P (merged es ts) whole.rises) part.rises (λ z.
    has_filter P z (merged es ts) ∙ ap (λ c. c && P z) (whole.members z) ∙ both_pass (has es z) (has ts z) (P z)
    ∙ ap (λ c. xor c (has ts z && P z)) (sym (has_filter P z es)) ∙ ap (xor (has (filter P es) z)) (sym (has_filter P z ts)) ∙ sym (part.members z))

-- CHOSEN ROWS

pub chosen_all : (choice : Choice) (events : List ValidEvent) → choice.all ≡ true → chosen choice events ≡ events
chosen_all choice [] is = refl
chosen_all choice (x ∷ xs) is = rw is (ap (λ ys. x ∷ ys) (chosen_all choice xs is))

-- where not all are chosen, they are those whose bits are set
pub chosen_masked : (choice : Choice) (events : List ValidEvent) → choice.all ≡ false → chosen choice events ≡ masked choice.mask events
chosen_masked choice events is = ap (λ every. filter (λ (event : ValidEvent). every || bit_of choice.mask event.row) events) is

-- one run is taken in
pub chosen_taken : (choice : Choice) (runs : List (Bor (List ValidEvent))) (all now new : List ValidEvent) (i : ℕ) (d : Bor (List ValidEvent)) → AllRise (lent runs) → Rises now → i < length runs → new ≡ merged (chosen choice (slice_index_or runs i d).now) now
    → merged (chosen choice (sum_of (drop i (lent runs)))) now ≡ all → (merged (chosen choice (sum_of (drop (i + 1) (lent runs)))) new ≡ all) × Rises new
chosen_taken choice runs all now new i d up rises l is was =
    let P : ValidEvent → Bool = λ event. is_chosen choice event.row in
    let same = lent_length runs in
    let within : i < length (lent runs) = omega (arith, same, l) in
    let run = get_or (lent runs) i d.now in
    let mine = rise_at (lent runs) i d.now up within in
    let behind = sum_of (drop (i + 1) (lent runs)) in
    let later = rises_sum (drop (i + 1) (lent runs)) (rise_behind (lent runs) (i + 1) up) in
    let made : new ≡ merged (filter P run) now = is ∙ ap (λ xs. merged (filter P xs) now) (sym (lent_at runs i d)) in (
      ap (merged (filter P behind)) made ∙ sym (merged_twice (filter P behind) (filter P run) now (rises_filter P behind later) (rises_filter P run mine) rises)
          ∙ ap (λ xs. merged xs now) (sym (filter_merged P behind run later mine))
          ∙ ap (λ rs. merged (filter P (sum_of rs)) now) (sym (drop_step (lent runs) i d.now within)) ∙ was,
      subst Rises (sym made) (good_merged (filter P run) now (rises_filter P run mine) rises).rises,
    )

-- all runs are taken in
pub chosen_behind : (choice : Choice) (runs : List (List ValidEvent)) (all now : List ValidEvent) (i : ℕ) → Rises now → length runs ≤ i → merged (chosen choice (sum_of (drop i runs))) now ≡ all → now ≡ all
chosen_behind choice runs all now i rises l is = sym (merged_none now rises) ∙ ap (λ rs. merged (chosen choice (sum_of rs)) now) (sym (drop_all i runs l)) ∙ is

-- one piece more is out
pub chosen_piece : (choice : Choice) (e : ValidEvent) (all out piece new : List ValidEvent) (rests before behind : List (List ValidEvent)) → AllRise rests → before ≡ fronts e rests → behind ≡ backs e rests → piece ≡ chosen choice (sum_of before) → new ≡ out ++ piece
    → out ++ chosen choice (sum_of rests) ≡ all → (new ++ chosen choice (sum_of behind) ≡ all) × AllRise behind
chosen_piece choice e all out piece new rests before behind up before_is behind_is piece_is new_is was =
    let P : ValidEvent → Bool = λ event. is_chosen choice event.row in (
      ap (λ zs. zs ++ filter P (sum_of behind)) (new_is ∙ ap (λ zs. out ++ zs) (piece_is ∙ ap (λ rs. filter P (sum_of rs)) before_is))
          ∙ append_assoc out (filter P (sum_of (fronts e rests))) (filter P (sum_of behind))
          ∙ ap (λ rs. out ++ (filter P (sum_of (fronts e rests)) ++ filter P (sum_of rs))) behind_is
          ∙ ap (λ zs. out ++ zs) (sym (filter-append P (sum_of (fronts e rests)) (sum_of (backs e rests))) ∙ ap (filter P) (sym (sum_cut e rests up))) ∙ was,
      subst AllRise (sym behind_is) (backs_rise e rests up),
    )

-- the events of chosen rows with changes of these alone
pub chosen_sum : (choice : Choice) (changes out : List ValidEvent) (runs all : List (List ValidEvent)) → AllRise runs → Rises changes → chosen choice changes ≡ changes → all ≡ changes ∷ runs → out ≡ chosen choice (sum_of all) → out ≡ merged (chosen choice (sum_of runs)) changes
chosen_sum choice changes out runs all up rises own all_is is =
    let P : ValidEvent → Bool = λ event. is_chosen choice event.row in
    is ∙ ap (λ rs. filter P (sum_of rs)) all_is ∙ filter_merged P (sum_of runs) changes (rises_sum runs up) rises ∙ ap (merged (filter P (sum_of runs))) own

-- a list without items
pub no_items : (events : List ValidEvent) → length events ≡ 0 → events ≡ []
no_items [] h = refl
no_items (x ∷ xs) h = absurd (omega (arith, h))

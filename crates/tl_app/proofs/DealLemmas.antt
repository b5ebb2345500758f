-- Events that are dealt to the groups of a column's values, one by one.
use Rattle.std.proofs.Common.{◌≡◌, ◌⊎◌, inl, inr, ℕ, zero, suc, ◌+◌, ◌≤◌, ◌<◌, Bool, true, false, cond, List, [], ◌∷◌, ◌++◌, length, Option, Some, None, refl, sym, ap, ◌∙◌, arith, subst, slice_get, slice_set}
use Rattle.std.specs.Prelude.{◌==◌, is_some}
use Rattle.std.specs.List.{filter, AllByRecursion}
use Rattle.std.proofs.lemmas.Bool.{ne_eqb}
use Rattle.std.proofs.lemmas.Bool.Decides.{nat_tests}
use Rattle.std.proofs.lemmas.List.{append-nil}
use Rattle.std.proofs.lemmas.List.Elements.{filter-append}
use Rattle.tl_types.specs.declared.cells.Cell.{Cell}
use Rattle.tl_types.specs.declared.events.ValidEvent.{ValidEvent}
use Rattle.tl_types.specs.Plain as plain
use Rattle.tl_keys.specs.Keys.{KeyNumbers, no_keys, number_in, number_at, AreApart, KeepsNumbers}
use Rattle.tl_keys.proofs.KeyLemmas.{none_apart}
use Rattle.tl_app.specs.declared.keyed.KeyGroup.{KeyGroup}
use Rattle.tl_app.proofs.KeptLemmas.{length_set}
use Rattle.tl_app.specs.Groups.{key_of, are_some, has_events, value_with, HasOneMore, is_number, has_number, AreDealt}

pub some_is : {X : Type 0} (x y : X) → Some x ≡ Some y → x ≡ y
some_is x y h = cc

pub same_number : (n : ℕ) → (n == n) ≡ true
same_number n = grind (arith, nat_tests)

other_number : (m n : ℕ) → (m ≡ n → ⊥) → (m == n) ≡ false
other_number m n h = ne_eqb m n h

-- NUMBERS THAT ARE KEPT

module _ (rows : List plain.Row) (column : ℕ) (old new : KeyNumbers) (kept : KeepsNumbers old new) where
  same_at : (o : Option Cell) → is_some (number_at old o) ≡ true → number_at new o ≡ number_at old o
  same_at None h = absurd (cc)
  same_at (Some c) h = by_number (number_in old c) refl h where
    by_number : (o : Option ℕ) → number_in old c ≡ o → is_some o ≡ true → number_in new c ≡ number_in old c
    by_number None e g = absurd (cc)
    by_number (Some n) e g = kept c n e ∙ sym e

  numbered_still : (done : List ValidEvent) → AllByRecursion (λ event. is_some (number_at old (key_of rows column event)) ≡ true) done → AllByRecursion (λ event. is_some (number_at new (key_of rows column event)) ≡ true) done
  numbered_still [] all = tt
  numbered_still (e ∷ done) all = (ap is_some (same_at (key_of rows column e) all.0) ∙ all.0, numbered_still done all.1)

  same_events : (n : ℕ) (done : List ValidEvent) → AllByRecursion (λ event. is_some (number_at old (key_of rows column event)) ≡ true) done → filter (has_number new rows column n) done ≡ filter (has_number old rows column n) done
  same_events n [] all = refl
  same_events n (e ∷ done) all =
      ap (λ o. cond (is_number n o) (e ∷ filter (has_number new rows column n) done) (filter (has_number new rows column n) done)) (same_at (key_of rows column e) all.0)
      ∙ ap (λ es. cond (has_number old rows column n e) (e ∷ es) es) (same_events n done all.1)

-- no event has a number that no key has
none_has : (rows : List plain.Row) (column : ℕ) (keys : KeyNumbers) (n : ℕ) (done : List ValidEvent) → AreApart keys → keys.count ≤ n → filter (has_number keys rows column n) done ≡ []
none_has rows column keys n [] apart past = refl
none_has rows column keys n (e ∷ done) apart past = by_key (key_of rows column e) (none_has rows column keys n done apart past) where
  by_key : (o : Option Cell) → filter (has_number keys rows column n) done ≡ [] → cond (is_number n (number_at keys o)) (e ∷ filter (has_number keys rows column n) done) (filter (has_number keys rows column n) done) ≡ []
  by_key None later = later
  by_key (Some c) later = by_number (number_in keys c) refl where
    by_number : (u : Option ℕ) → number_in keys c ≡ u → cond (is_number n u) (e ∷ filter (has_number keys rows column n) done) (filter (has_number keys rows column n) done) ≡ []
    by_number None is = later
    by_number (Some m) is =
        let low = apart.below c m is in
        let apart_is = other_number m n (λ same. omega arith) in
        ap (λ b. cond b (e ∷ filter (has_number keys rows column n) done) (filter (has_number keys rows column n) done)) apart_is ∙ later

-- ONE GROUP MORE

last_or_before : {X : Type 0} (xs : List X) (y x : X) (n : ℕ) → slice_get (xs ++ y ∷ []) n ≡ Some x → (slice_get xs n ≡ Some x) ⊎ ((n ≡ length xs) × (y ≡ x))
last_or_before [] y x zero h = inr (refl, some_is y x h)
last_or_before [] y x (suc n) h = absurd (cc)
last_or_before (z ∷ xs) y x zero h = inl h
last_or_before (z ∷ xs) y x (suc n) h = elim (last_or_before xs y x n h) [ inl e ↦ inl e | inr e ↦ inr (ap suc e.0, e.1) ]

length_more : {X : Type 0} (xs : List X) (y : X) → length (xs ++ y ∷ []) ≡ length xs + 1
length_more [] y = refl
length_more (x ∷ xs) y = let later = length_more xs y in omega arith

-- ONE EVENT MORE

all_more : {X : Type 0} (P : X → Type 0) (xs : List X) (x : X) → AllByRecursion P xs → P x → AllByRecursion P (xs ++ x ∷ [])
all_more P [] x all one = (one, tt)
all_more P (y ∷ xs) x all one = (all.0, all_more P xs x all.1 one)

some_more : (xs : List ValidEvent) (e : ValidEvent) → are_some (xs ++ e ∷ []) ≡ true
some_more [] e = refl
some_more (x ∷ xs) e = refl

module _ (rows : List plain.Row) (column : ℕ) (old new : KeyNumbers) (e : ValidEvent) (c : Cell) (number : ℕ)
    (cell : key_of rows column e ≡ Some c) (is : number_in new c ≡ Some number) (apart : AreApart new) (kept : KeepsNumbers old new) (more : new.count ≤ old.count + 1) where
  events_more : (n : ℕ) (done : List ValidEvent) → filter (has_number new rows column n) (done ++ e ∷ []) ≡ filter (has_number new rows column n) done ++ cond (number == n) (e ∷ []) []
  events_more n done = filter-append (has_number new rows column n) done (e ∷ []) ∙ ap (λ o. filter (has_number new rows column n) done ++ cond (is_number n o) (e ∷ []) []) (ap (number_at new) cell ∙ is)

  -- what is so of the groups over the new numbers before the event
  record Ready (groups : List KeyGroup) (done : List ValidEvent) : Type 0 where
    events : (n : ℕ) (g : KeyGroup) → slice_get groups n ≡ Some g → g.events.items ≡ filter (has_number new rows column n) done
    key : (n : ℕ) (g : KeyGroup) → slice_get groups n ≡ Some g → has_events g ≡ true → number_in new g.key ≡ Some n

  ready : (groups : List KeyGroup) (done : List ValidEvent) → AreDealt rows column old groups done → Ready groups done
  ready groups done dealt = record {
    events = λ n g at. dealt.events n g at ∙ sym (same_events rows column old new kept n done dealt.numbered);
    key = λ n g at some. kept g.key n (dealt.key n g at some);
  }

  ready_more : (groups : List KeyGroup) (done : List ValidEvent) (none : KeyGroup) → none.events.items ≡ [] → AreDealt rows column old groups done → Ready groups done → Ready (groups ++ none ∷ []) done
  ready_more groups done none empty dealt was = record {
    events = λ n g at. elim (last_or_before groups none g n at) [ inl e ↦ was.events n g e | inr e ↦ ap (λ (h : KeyGroup). h.events.items) (sym e.1) ∙ empty ∙ sym (same_events rows column old new kept n done dealt.numbered ∙ none_has rows column old n done dealt.apart (let low = dealt.count in let at = e.0 in omega arith)) ];
    key = λ n g at some. elim (last_or_before groups none g n at) [ inl e ↦ was.key n g e some | inr e ↦ absurd (let f : are_some none.events.items ≡ true = ap (λ (h : KeyGroup). are_some h.events.items) e.1 ∙ some in let k = ap are_some empty in cc) ];
  }

  -- the groups, and the one of the event's number with the event
  module _ (groups after : List KeyGroup) (done : List ValidEvent) (before group : KeyGroup)
      (there : slice_get groups number ≡ Some before) (changed : (n : ℕ) (g : KeyGroup) → slice_get after n ≡ Some g → ((n ≡ number) × (g ≡ group)) ⊎ ((number ≡ n → ⊥) × (slice_get groups n ≡ Some g)))
      (with_event : group.events.items ≡ before.events.items ++ e ∷ []) (with_key : group.key ≡ cond (has_events before) before.key c) where
    key_is : Ready groups done → number_in new group.key ≡ Some number
    key_is was = ap (number_in new) with_key ∙ by_test (has_events before) refl where
      by_test : (b : Bool) → has_events before ≡ b → number_in new (cond b before.key c) ≡ Some number
      by_test true h = was.key number before there h
      by_test false h = is

    events_at : Ready groups done → (n : ℕ) (g : KeyGroup) → slice_get after n ≡ Some g → g.events.items ≡ filter (has_number new rows column n) (done ++ e ∷ [])
    events_at was n g at = elim (changed n g at) [
      | inl h ↦ ap (λ (x : KeyGroup). x.events.items) h.1 ∙ with_event ∙ ap (λ es. es ++ e ∷ []) (was.events number before there)
          ∙ sym (events_more n done ∙ ap (λ b. filter (has_number new rows column n) done ++ cond b (e ∷ []) []) (ap (λ m. number == m) h.0 ∙ same_number number) ∙ ap (λ m. filter (has_number new rows column m) done ++ e ∷ []) h.0)
      | inr h ↦ was.events n g h.1 ∙ sym (events_more n done ∙ ap (λ b. filter (has_number new rows column n) done ++ cond b (e ∷ []) []) (other_number number n h.0) ∙ append-nil (filter (has_number new rows column n) done))
    ]

    keys_at : Ready groups done → (n : ℕ) (g : KeyGroup) → slice_get after n ≡ Some g → has_events g ≡ true → number_in new g.key ≡ Some n
    keys_at was n g at some = elim (changed n g at) [
      | inl h ↦ ap (λ (x : KeyGroup). number_in new x.key) h.1 ∙ key_is was ∙ ap Some (sym h.0)
      | inr h ↦ was.key n g h.1 some
    ]

    dealt_more : Ready groups done → new.count ≤ length after → length after ≤ length done + 1 → AllByRecursion (λ event. is_some (number_at old (key_of rows column event)) ≡ true) done → AreDealt rows column new after (done ++ e ∷ [])
    dealt_more was enough few all = record {
      apart = apart;
      count = enough;
      few = let l = length_more done e in omega arith;
      numbered = all_more (λ event. is_some (number_at new (key_of rows column event)) ≡ true) done e (numbered_still rows column old new kept done all) (ap is_some (ap (number_at new) cell ∙ is));
      events = events_at was;
      key = keys_at was;
    }

  -- THE STEP

  set_cases : {X : Type 0} (xs : List X) (n m : ℕ) (y x : X) → slice_get (slice_set xs n y) m ≡ Some x → ((m ≡ n) × (x ≡ y)) ⊎ ((n ≡ m → ⊥) × (slice_get xs m ≡ Some x))
  set_cases [] n m y x h = absurd (cc)
  set_cases (z ∷ xs) zero zero y x h = inl (refl, sym (some_is y x h))
  set_cases (z ∷ xs) zero (suc m) y x h = inr (λ e. omega (arith, e), h)
  set_cases (z ∷ xs) (suc n) zero y x h = inr (λ e. omega (arith, e), h)
  set_cases (z ∷ xs) (suc n) (suc m) y x h = elim (set_cases xs n m y x h) [ inl e ↦ inl (ap suc e.0, e.1) | inr e ↦ inr (λ f. e.0 (omega (arith, f)), e.1) ]

  less_or_not : (m n : ℕ) → (m < n) ⊎ (n ≤ m)
  less_or_not m zero = inr (omega arith)
  less_or_not zero (suc n) = inl (omega arith)
  less_or_not (suc m) (suc n) = elim (less_or_not m n) [ inl l ↦ inl (omega arith) | inr l ↦ inr (omega arith) ]

  pub deal_step : (groups reached after : List KeyGroup) (before group : KeyGroup) (done : List ValidEvent) → (length groups < new.count → HasOneMore groups reached) → (new.count ≤ length groups → reached ≡ groups)
      → slice_get reached number ≡ Some before → after ≡ slice_set reached number group → group.events.items ≡ before.events.items ++ e ∷ [] → group.key ≡ value_with before c
      → AreDealt rows column old groups done → AreDealt rows column new after (done ++ e ∷ [])
  deal_step groups reached after before group done longer same there is_set with_event with_key dealt = by_count (less_or_not (length groups) new.count) where
    finish : Ready reached done → new.count ≤ length reached → length reached ≤ length done + 1 → AreDealt rows column new after (done ++ e ∷ [])
    finish was enough few =
        let long = ap length is_set ∙ length_set reached number group in
        dealt_more reached after done before group there (λ n g at. set_cases reached number n group g (ap (λ gs. slice_get gs n) (sym is_set) ∙ at)) with_event with_key was (omega arith) (omega arith) dealt.numbered

    by_count : (length groups < new.count) ⊎ (new.count ≤ length groups) → AreDealt rows column new after (done ++ e ∷ [])
    by_count (inl l) =
        let one = longer l in
        let long = ap length one.are ∙ length_more groups one.none in
        let low = dealt.count in
        let few = dealt.few in
        finish (subst (λ gs. Ready gs done) (sym one.are) (ready_more groups done one.none one.empty dealt (ready groups done dealt))) (omega arith) (omega arith)
    by_count (inr l) =
        let is_same = same l in
        let long = ap length is_same in
        let few = dealt.few in
        finish (subst (λ gs. Ready gs done) (sym is_same) (ready groups done dealt)) (omega arith) (omega arith)

pub none_dealt : (rows : List plain.Row) (column : ℕ) (groups : List KeyGroup) → groups ≡ [] → AreDealt rows column no_keys groups []
none_dealt rows column groups is = record {
  apart = none_apart;
  count = omega arith;
  few = let l = ap length is in omega arith;
  numbered = tt;
  events = λ n g at. absurd (let f = ap (λ gs. slice_get gs n) is in cc);
  key = λ n g at some. absurd (let f = ap (λ gs. slice_get gs n) is in cc);
}

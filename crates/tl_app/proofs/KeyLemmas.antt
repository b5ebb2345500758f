-- The groups of a column's values, sorted: each has the events of its value.
use Rattle.std.proofs.Common.{◌≡◌, ℕ, zero, suc, ◌+◌, ◌≤◌, ◌<◌, Bool, true, false, ◌&&◌, ◌||◌, cond, List, [], ◌∷◌, length, map, fold, get_or, Option, Some, None, refl, sym, ap, ◌∙◌, arith, subst, slice_get}
use mathlib.Core.Path.{fun_ext}
use Rattle.std.specs.Prelude.{◌==◌, is_some}
use Rattle.std.specs.List.{filter, flat_map, AllByRecursion}
use Rattle.std.specs.List.Sorted.{IsSortedBy, IsStableBy, IsPermutation, ties}
use Rattle.std.specs.Cmp.{IsStrictWeakOrder}
use Rattle.std.specs.Ordering.{is_lt}
use Rattle.std.proofs.lemmas.List.{append-nil}
use Rattle.std.proofs.lemmas.List.Sorted.{ranks_by}
use Rattle.std.proofs.lemmas.Bool.Decides.{nat_tests}
use Rattle.tl_types.specs.declared.cells.Cell.{Cell}
use Rattle.tl_types.specs.declared.events.ValidEvent.{ValidEvent}
use Rattle.tl_types.specs.contracts.cells.CellOrd.TheImpl as cells
use Rattle.tl_types.specs.History.{same_cell}
use Rattle.tl_types.specs.Plain as plain
use Rattle.tl_query.specs.Ordered.{cell_before, with_value, has, Rises}
use Rattle.tl_query.proofs.CellOrder.{cell_total, cell_ranks, same_order, cell_level, cell_equal, cell_symm, cell_itself}
use Rattle.tl_plain.proofs.Searching.{filter_found}
use Rattle.tl_app.proofs.DealLemmas.{some_is, same_number}
use Rattle.tl_query.proofs.ValueOrder.{values_same, rises_fold, has_fold, before_other}
use Rattle.tl_keys.specs.Keys.{KeyNumbers, number_in, number_at, AreApart}
use Rattle.tl_keys.proofs.KeyLemmas.{same_numbers}
use Rattle.tl_app.specs.declared.keyed.KeyGroup.{KeyGroup}
use Rattle.tl_app.specs.Groups.{key_of, is_value, has_cell, group_of, key_before, has_key, are_some, has_events, is_number, has_number, AreDealt, AreGroupsOf}

pub filter_twice : {X : Type 0} (P Q : X → Bool) (xs : List X) → filter P (filter Q xs) ≡ filter (λ x. Q x && P x) xs
filter_twice P Q [] = refl
filter_twice P Q (x ∷ xs) = by_test (Q x) (filter_twice P Q xs) where
  by_test : (b : Bool) → filter P (filter Q xs) ≡ filter (λ x. Q x && P x) xs → filter P (cond b (x ∷ filter Q xs) (filter Q xs)) ≡ cond (b && P x) (x ∷ filter (λ x. Q x && P x) xs) (filter (λ x. Q x && P x) xs)
  by_test true h = ap (λ ys. cond (P x) (x ∷ ys) ys) h
  by_test false h = h

-- THE ITEMS THAT PASS A TEST, AT ONE PLACE AT MOST

module _ {X : Type 0} (P : X → Bool) where
  none_passes : (xs : List X) → ((n : ℕ) (x : X) → slice_get xs n ≡ Some x → P x ≡ true → ⊥) → filter P xs ≡ []
  none_passes [] none = refl
  none_passes (x ∷ xs) none = by_test (P x) refl (none_passes xs (λ n y at. none (suc n) y at)) where
    by_test : (b : Bool) → P x ≡ b → filter P xs ≡ [] → cond b (x ∷ filter P xs) (filter P xs) ≡ []
    by_test true e later = absurd (none 0 x refl e)
    by_test false e later = later

  one_passes : (xs : List X) (m : ℕ) (item : X) → slice_get xs m ≡ Some item → ((n : ℕ) (x : X) → slice_get xs n ≡ Some x → P x ≡ true → n ≡ m) → filter P xs ≡ cond (P item) (item ∷ []) []
  one_passes [] m item there only = absurd (cc)
  one_passes (x ∷ xs) zero item there only =
      let same : x ≡ item = cc in
      let none = none_passes xs (λ n y at h. let e = only (suc n) y at h in omega arith) in
      ap (λ ys. cond (P x) (x ∷ ys) ys) none ∙ ap (λ y. cond (P y) (y ∷ []) []) same
  one_passes (x ∷ xs) (suc m) item there only = by_test (P x) refl (one_passes xs m item there (λ n y at h. let e = only (suc n) y at h in omega arith)) where
    by_test : (b : Bool) → P x ≡ b → filter P xs ≡ cond (P item) (item ∷ []) [] → cond b (x ∷ filter P xs) (filter P xs) ≡ cond (P item) (item ∷ []) []
    by_test true e later = absurd (let f = only 0 x refl e in omega arith)
    by_test false e later = later

  -- where no more than one passes, one that passes is all of them
  alone_passes : (xs : List X) (m : ℕ) (item : X) → slice_get xs m ≡ Some item → P item ≡ true → length (filter P xs) ≤ 1 → filter P xs ≡ item ∷ []
  alone_passes [] m item there passes few = absurd (cc)
  alone_passes (x ∷ xs) zero item there passes few =
      let same : x ≡ item = cc in
      let here : P x ≡ true = ap P same ∙ passes in
      let short : length (filter P xs) ≤ 0 = by_length (filter P xs) (subst (λ b. length (cond b (x ∷ filter P xs) (filter P xs)) ≤ 1) here few) in
      rw here (ap (λ ys. x ∷ ys) (is_none (filter P xs) short) ∙ ap (λ y. y ∷ []) same) where
        by_length : (ys : List X) → length (x ∷ ys) ≤ 1 → length ys ≤ 0
        by_length ys h = omega arith

        is_none : (ys : List X) → length ys ≤ 0 → ys ≡ []
        is_none [] h = refl
        is_none (y ∷ ys) h = absurd (omega arith)
  alone_passes (x ∷ xs) (suc m) item there passes few = by_test (P x) refl few (alone_passes xs m item there passes) where
    none_short : filter P xs ≡ item ∷ [] → length (x ∷ filter P xs) ≤ 1 → ⊥
    none_short later h = let l : length (filter P xs) ≡ 1 = ap length later in omega arith

    shorter : (ys : List X) → length (x ∷ ys) ≤ 1 → length ys ≤ 1
    shorter ys h = omega arith

    by_test : (b : Bool) → P x ≡ b → length (cond b (x ∷ filter P xs) (filter P xs)) ≤ 1 → (length (filter P xs) ≤ 1 → filter P xs ≡ item ∷ []) → cond b (x ∷ filter P xs) (filter P xs) ≡ item ∷ []
    by_test true e h later = absurd (none_short (later (shorter (filter P xs) h)) h)
    by_test false e h later = later h

-- WHAT WAS DEALT, BY VALUE

value_is : (value : Cell) (c : Cell) (keys : KeyNumbers) (m n : ℕ) → AreApart keys → number_in keys c ≡ Some m → number_in keys value ≡ Some n → (m == n) ≡ same_cell value c
value_is value c keys m n apart here there = by_tests (same_cell value c) refl (m == n) refl where
  equal_is : (x y : ℕ) → (x == y) ≡ true → x ≡ y
  equal_is x y h = grind (arith, nat_tests)

  by_tests : (s : Bool) → same_cell value c ≡ s → (t : Bool) → (m == n) ≡ t → (m == n) ≡ same_cell value c
  by_tests true e true f = f ∙ sym e
  by_tests false e false f = f ∙ sym e
  by_tests true e false f = absurd (
      let same = some_is m n (sym here ∙ sym (same_numbers keys value c e) ∙ there) in
      let g : (m == n) ≡ true = ap (λ k. m == k) (sym same) ∙ same_number m in
      cc)
  by_tests false e true f = absurd (let same = apart.one value c n there (here ∙ ap Some (equal_is m n f)) in cc)

numbers_tell : (rows : List plain.Row) (column : ℕ) (keys : KeyNumbers) (value : Cell) (n : ℕ) (done : List ValidEvent) → AreApart keys → number_in keys value ≡ Some n → AllByRecursion (λ event. is_some (number_at keys (key_of rows column event)) ≡ true) done → filter (has_number keys rows column n) done ≡ group_of rows column value done
numbers_tell rows column keys value n [] apart is all = refl
numbers_tell rows column keys value n (e ∷ done) apart is all =
    ap (λ b. cond b (e ∷ filter (has_number keys rows column n) done) (filter (has_number keys rows column n) done)) (by_key (key_of rows column e) all.0)
    ∙ ap (λ es. cond (has_cell rows column value e.row) (e ∷ es) es) (numbers_tell rows column keys value n done apart is all.1) where
      by_key : (o : Option Cell) → is_some (number_at keys o) ≡ true → is_number n (number_at keys o) ≡ is_value value o
      by_key None h = absurd (cc)
      by_key (Some c) h = by_number (number_in keys c) refl h where
        by_number : (u : Option ℕ) → number_in keys c ≡ u → is_some u ≡ true → is_number n u ≡ same_cell value c
        by_number None g h = absurd (cc)
        by_number (Some m) g h = value_is value c keys m n apart g is

nobody_has : (rows : List plain.Row) (column : ℕ) (keys : KeyNumbers) (value : Cell) (done : List ValidEvent) → number_in keys value ≡ None → AllByRecursion (λ event. is_some (number_at keys (key_of rows column event)) ≡ true) done → group_of rows column value done ≡ []
nobody_has rows column keys value [] none all = refl
nobody_has rows column keys value (e ∷ done) none all =
    ap (λ b. cond b (e ∷ group_of rows column value done) (group_of rows column value done)) (by_key (key_of rows column e) all.0) ∙ nobody_has rows column keys value done none all.1 where
      by_key : (o : Option Cell) → is_some (number_at keys o) ≡ true → is_value value o ≡ false
      by_key None h = refl
      by_key (Some c) h = by_test (same_cell value c) refl where
        by_test : (b : Bool) → same_cell value c ≡ b → b ≡ false
        by_test true e = absurd (let f = sym (same_numbers keys value c e) ∙ none in let g : is_some (number_in keys c) ≡ true = h in cc)
        by_test false e = refl

module _ (rows : List plain.Row) (column : ℕ) (keys : KeyNumbers) (groups : List KeyGroup) (events : List ValidEvent) (dealt : AreDealt rows column keys groups events) where
  abbrev kept : List KeyGroup
  kept = filter has_events groups

  kept_with : (value : Cell) → filter (has_key value) kept ≡ filter (λ g. has_events g && has_key value g) groups
  kept_with value = filter_twice (has_key value) has_events groups

  both : (a b : Bool) → (a && b) ≡ true → (a ≡ true) × (b ≡ true)
  both true true h = (refl, refl)
  both true false h = absurd (cc)
  both false b h = absurd (cc)

  number_of : (value : Cell) (n : ℕ) (g : KeyGroup) → slice_get groups n ≡ Some g → (has_events g && has_key value g) ≡ true → number_in keys value ≡ Some n
  number_of value n g at h = let parts = both (has_events g) (has_key value g) h in same_numbers keys value g.key parts.1 ∙ dealt.key n g at parts.0

  none_of : (value : Cell) → number_in keys value ≡ None → filter (has_key value) kept ≡ []
  none_of value none = kept_with value ∙ none_passes (λ g. has_events g && has_key value g) groups (λ n g at h. let f = number_of value n g at h in cc)

  one_of : (value : Cell) (m : ℕ) (g : KeyGroup) → number_in keys value ≡ Some m → slice_get groups m ≡ Some g → filter (has_key value) kept ≡ cond (has_events g && has_key value g) (g ∷ []) []
  one_of value m g is at = kept_with value ∙ one_passes (λ g. has_events g && has_key value g) groups m g at (λ n h there passes. some_is n m (sym (number_of value n h there passes) ∙ is))

  group_at : (m : ℕ) → m < length groups → (g : KeyGroup) × (slice_get groups m ≡ Some g)
  group_at m l = get groups m l where
    get : (gs : List KeyGroup) (k : ℕ) → k < length gs → (g : KeyGroup) × (slice_get gs k ≡ Some g)
    get [] k l = absurd (omega arith)
    get (g ∷ gs) zero l = (g, refl)
    get (g ∷ gs) (suc k) l = get gs k (omega arith)

  told_at : (value : Cell) (m : ℕ) (g : KeyGroup) → number_in keys value ≡ Some m → slice_get groups m ≡ Some g → (length (filter (has_key value) kept) ≤ 1) × (flat_map (λ (group : KeyGroup). group.events.items) (filter (has_key value) kept) ≡ group_of rows column value events)
  told_at value m g is at = subst (λ gs. (length gs ≤ 1) × (flat_map (λ (group : KeyGroup). group.events.items) gs ≡ group_of rows column value events)) (sym (one_of value m g is at)) (by_events (has_events g) refl) where
    are : g.events.items ≡ group_of rows column value events
    are = dealt.events m g at ∙ numbers_tell rows column keys value m events dealt.apart is dealt.numbered

    is_none : (xs : List ValidEvent) → are_some xs ≡ false → xs ≡ []
    is_none [] h = refl
    is_none (x ∷ xs) h = absurd (cc)

    by_events : (b : Bool) → has_events g ≡ b → (length (cond (b && has_key value g) (g ∷ []) []) ≤ 1) × (flat_map (λ (group : KeyGroup). group.events.items) (cond (b && has_key value g) (g ∷ []) []) ≡ group_of rows column value events)
    by_events true some =
        let own : has_key value g ≡ true = dealt.apart.one value g.key m is (dealt.key m g at some) in
        rw own (omega arith, append-nil g.events.items ∙ are)
    by_events false none = (omega arith, sym (is_none g.events.items none) ∙ are)

  told : (value : Cell) → (length (filter (has_key value) kept) ≤ 1) × (flat_map (λ (group : KeyGroup). group.events.items) (filter (has_key value) kept) ≡ group_of rows column value events)
  told value = by_number (number_in keys value) refl where
    by_number : (o : Option ℕ) → number_in keys value ≡ o → (length (filter (has_key value) kept) ≤ 1) × (flat_map (λ (group : KeyGroup). group.events.items) (filter (has_key value) kept) ≡ group_of rows column value events)
    by_number None none = subst (λ gs. (length gs ≤ 1) × (flat_map (λ (group : KeyGroup). group.events.items) gs ≡ group_of rows column value events)) (sym (none_of value none)) (omega arith, sym (nobody_has rows column keys value events none dealt.numbered))
    by_number (Some m) is =
        let below = dealt.apart.below value m is in
        let many = dealt.count in
        let g = group_at m (omega arith) in
        told_at value m g.0 is g.1

  -- THE SORT

  same_ties : (key : Cell) (g : KeyGroup) → has_key key g ≡ true → ties key_before g ≡ has_key key
  same_ties key g h = fun_ext (λ other. cell_level g.key other.key ∙ ap (λ x. same_cell x other.key) (sym (cell_equal key g.key h)))

  sorted_by_key : (sorted : List KeyGroup) → IsPermutation kept sorted → IsSortedBy key_before sorted → IsStableBy key_before kept sorted → AreGroupsOf rows column events sorted
  sorted_by_key sorted moved up stable = record {
    ascend = up;
    alone = λ value. subst (λ gs. length gs ≤ 1) (sym (found value)) (told value).0;
    found = λ value. ap (flat_map (λ (group : KeyGroup). group.events.items)) (found value) ∙ (told value).1;
  } where
    found : (value : Cell) → filter (has_key value) sorted ≡ filter (has_key value) kept
    found value = filter_found (has_key value) kept sorted moved (λ z h. subst (λ p. filter p sorted ≡ filter p kept) (same_ties value z h) (stable z))

-- the order of the code
abbrev pub cell_key_before : KeyGroup → KeyGroup → Bool
cell_key_before x y = is_lt (cells.cmp-value.it x.key y.key)

pub cell_key_ranks : IsStrictWeakOrder cell_key_before
cell_key_ranks = ranks_by cell_total (λ (x : KeyGroup). x.key)

orders_agree : cell_key_before ≡ key_before
orders_agree = let at_keys : (Cell → Cell → Bool) → KeyGroup → KeyGroup → Bool = λ lt x y. lt x.key y.key in ap at_keys same_order

pub sorted_by_cell : (rows : List plain.Row) (column : ℕ) (keys : KeyNumbers) (groups sorted : List KeyGroup) (events : List ValidEvent) → AreDealt rows column keys groups events → IsPermutation (filter has_events groups) sorted → IsSortedBy cell_key_before sorted → IsStableBy cell_key_before (filter has_events groups) sorted → AreGroupsOf rows column events sorted
sorted_by_cell rows column keys groups sorted events dealt moved up stable =
    sorted_by_key rows column keys groups events dealt sorted moved (subst (λ (lt : KeyGroup → KeyGroup → Bool). IsSortedBy lt sorted) orders_agree up) (subst (λ (lt : KeyGroup → KeyGroup → Bool). IsStableBy lt (filter has_events groups) sorted) orders_agree stable)

-- EACH GROUP IS THAT OF ITS VALUE

-- so it is of each group of a list
abbrev pub AreTheirs : List plain.Row → ℕ → List ValidEvent → List KeyGroup → Type 0
AreTheirs rows column events groups = AllByRecursion (λ (g : KeyGroup). g.events.items ≡ group_of rows column g.key events) groups

all_at : {X : Type 0} (P : X → Type 0) (xs : List X) → ((n : ℕ) (x : X) → slice_get xs n ≡ Some x → P x) → AllByRecursion P xs
all_at P [] h = tt
all_at P (x ∷ xs) h = (h 0 x refl, all_at P xs (λ n y at. h (suc n) y at))

pub are_theirs : (rows : List plain.Row) (column : ℕ) (events : List ValidEvent) (groups : List KeyGroup) → AreGroupsOf rows column events groups → AreTheirs rows column events groups
are_theirs rows column events groups are = all_at (λ (g : KeyGroup). g.events.items ≡ group_of rows column g.key events) groups (λ n g at.
    sym (append-nil g.events.items) ∙ ap (flat_map (λ (group : KeyGroup). group.events.items)) (sym (alone_passes (has_key g.key) groups n g at (cell_itself g.key) (are.alone g.key))) ∙ are.found g.key)

-- THE VALUES ARE IN ORDER, EACH ONCE

tail_sorted : (g : KeyGroup) (gs : List KeyGroup) → IsSortedBy key_before (g ∷ gs) → IsSortedBy key_before gs
tail_sorted g gs up k d l m = let e : suc (k + 1) ≡ suc k + 1 = omega arith in subst (λ j. key_before (get_or (g ∷ gs) j d) (get_or gs k d) ≡ false) (sym e) (up (suc k) d (omega arith) (omega arith))

none_below : (x : Cell) (g : KeyGroup) (gs : List KeyGroup) → IsSortedBy key_before (g ∷ gs) → cell_before g.key x ≡ false → AllByRecursion (λ (h : KeyGroup). cell_before h.key x ≡ false) (g ∷ gs)
none_below x g [] up low = (low, tt)
none_below x g (h ∷ gs) up low = (low, none_below x h gs (tail_sorted g (h ∷ gs) up) (cell_ranks.chain h.key g.key x (up 0 g (omega arith) (omega arith)) low))

not_itself : (x : Cell) → cell_before x x ≡ false
not_itself x = by_test (cell_before x x) refl where
  by_test : (b : Bool) → cell_before x x ≡ b → b ≡ false
  by_test true e = absurd (let f = cell_ranks.one_way x x e in cc)
  by_test false e = refl

all_above : (x : Cell) (gs : List KeyGroup) → AllByRecursion (λ (h : KeyGroup). cell_before h.key x ≡ false) gs → filter (has_key x) gs ≡ [] → AllByRecursion (λ y. cell_before x y ≡ true) (map (λ (g : KeyGroup). g.key) gs)
all_above x [] low none = tt
all_above x (g ∷ gs) low none = by_test (same_cell x g.key) refl none (all_above x gs low.1) where
  by_test : (b : Bool) → same_cell x g.key ≡ b → cond b (g ∷ filter (has_key x) gs) (filter (has_key x) gs) ≡ [] → (filter (has_key x) gs ≡ [] → AllByRecursion (λ y. cell_before x y ≡ true) (map (λ (g : KeyGroup). g.key) gs)) → AllByRecursion (λ y. cell_before x y ≡ true) (map (λ (g : KeyGroup). g.key) (g ∷ gs))
  by_test true e h later = absurd (cc)
  by_test false e h later = (before_other x g.key (cell_symm g.key x ∙ e) low.0, later h)

pub values_rise : (gs : List KeyGroup) → IsSortedBy key_before gs → ((value : Cell) → length (filter (has_key value) gs) ≤ 1) → Rises (map (λ (g : KeyGroup). g.key) gs)
values_rise [] up alone = tt
values_rise (g ∷ gs) up alone = (all_above g.key gs (none_below g.key g gs up (not_itself g.key)).1 (none_more (filter (has_key g.key) gs) (subst (λ b. length (cond b (g ∷ filter (has_key g.key) gs) (filter (has_key g.key) gs)) ≤ 1) (cell_itself g.key) (alone g.key))), values_rise gs (tail_sorted g gs up) (λ value. shorter (same_cell value g.key) (filter (has_key value) gs) (alone value))) where
  none_more : (ys : List KeyGroup) → length (g ∷ ys) ≤ 1 → ys ≡ []
  none_more [] h = refl
  none_more (y ∷ ys) h = absurd (omega arith)

  shorter : (b : Bool) (ys : List KeyGroup) → length (cond b (g ∷ ys) ys) ≤ 1 → length ys ≤ 1
  shorter true ys h = omega arith
  shorter false ys h = h

pub values_once : (gs : List KeyGroup) → Rises (map (λ (g : KeyGroup). g.key) gs) → fold with_value [] (map (λ (g : KeyGroup). g.key) gs) ≡ map (λ (g : KeyGroup). g.key) gs
values_once gs up = values_same (fold with_value [] (map (λ (g : KeyGroup). g.key) gs)) (map (λ (g : KeyGroup). g.key) gs) (rises_fold [] (map (λ (g : KeyGroup). g.key) gs) tt) up (λ z. has_fold z [] (map (λ (g : KeyGroup). g.key) gs) ∙ or_false (has (map (λ (g : KeyGroup). g.key) gs) z)) where
  or_false : (b : Bool) → (b || false) ≡ b
  or_false true = refl
  or_false false = refl

-- The entries of the events of a side: they rise, name rows, have numbers below the count, and are those of its rows.
use Rattle.std.proofs.Common.{◌≡◌, ℕ, ℤ, zero, suc, ◌+◌, ◌<◌, ◌≤ℤ◌, ◌<ℤ◌, Bool, true, false, ◌&&◌, ◌||◌, cond, int_lt, List, [], ◌∷◌, ◌++◌, map, Option, Some, None, is_some, refl, sym, ap, ◌∙◌, subst, arith, slice_get, sum_by}
use Rattle.std.proofs.lemmas.Int.{ints, clamps}
use Rattle.std.proofs.lemmas.List.Sums.{sum_by-cons, sum_by-append}
use Rattle.std.specs.Int.{int_min, int_max}
use Rattle.std.specs.Ordering.{int_eq}
use Rattle.std.specs.List.{filter_map, enumerate_from, AllByRecursion}
use Rattle.tl_types.specs.declared.cells.Cell.{Cell}
use Rattle.tl_types.specs.declared.events.ValidEvent.{ValidEvent}
use Rattle.tl_types.specs.Checkpoints.{comes_first, comes_before, ends_of, valid_events_in}
use Rattle.tl_types.specs.History.{with_ids, is_visible, cell_at}
use Rattle.tl_types.specs.Plain as plain
use Rattle.tl_query.specs.declared.typed_queries.JoinPlan.{JoinPlan}
use Rattle.tl_query.specs.declared.typed_queries.TypedPred.{TypedPred}
use Rattle.tl_query.specs.Passing.{passes, passing}
use Rattle.tl_bits.specs.Sets.{is_member}
use Rattle.tl_ckpt.specs.Valid as valid
use Rattle.tl_join.specs.declared.entries.Entry.{Entry}
use Rattle.tl_join.specs.Sweep.{AreSame, IsEntry, Rises, AreOne}
use Rattle.tl_keys.specs.Keys.{KeyNumbers, number_at, AreApart}
use Rattle.tl_join.specs.ValidEntries.{code_by, HasNumber, entry_between, entry_over, entry_of, entry_at, entry_in, entries_in, IsKnown}
use Rattle.tl_join.proofs.ValidEventLemmas.{begin_of, end_of, ends_from, ends_yes, ends_no, Stand, stand_head, stand_tail, stand_all, sum_ordered, each_ordered, BeginsPeriod, BeginsRow, Begins}

-- LISTS WHERE SOME ITEMS GIVE SOMETHING

abbrev sum_of : {Y : Type 0} → (Y → ℕ) → Option Y → ℕ
sum_of f None = 0
sum_of f (Some y) = f y

module _ {X Y : Type 0} (g : X → Option Y) where
  given_some : (x : X) (xs : List X) (y : Y) → g x ≡ Some y → filter_map g (x ∷ xs) ≡ y ∷ filter_map g xs
  given_some x xs y e = rw e refl

  given_none : (x : X) (xs : List X) → g x ≡ None → filter_map g (x ∷ xs) ≡ filter_map g xs
  given_none x xs e = rw e refl

  module _ (f : Y → ℕ) where
    given_step : (x : X) (xs : List X) → sum_by f (filter_map g (x ∷ xs)) ≡ sum_of f (g x) + sum_by f (filter_map g xs)
    given_step x xs = by_option (g x) refl where
      by_option : (o : Option Y) → g x ≡ o → sum_by f (filter_map g (x ∷ xs)) ≡ sum_of f (g x) + sum_by f (filter_map g xs)
      by_option None e = let a = ap (sum_by f) (given_none x xs e) in let b = ap (sum_of f) e in omega (arith, a, b)
      by_option (Some y) e = let a = ap (sum_by f) (given_some x xs y e) in let b = ap (sum_of f) e in let c = sum_by-cons f y (filter_map g xs) in omega (arith, a, b, c)

    given_sum : (xs : List X) → sum_by f (filter_map g xs) ≡ sum_by (λ x. sum_of f (g x)) xs
    given_sum [] = refl
    given_sum (x ∷ xs) = let a = given_step x xs in let b = sum_by-cons (λ x. sum_of f (g x)) x xs in let c = given_sum xs in omega (arith, a, b, c)

  given_all : (P : Y → Type 0) (R : X → Type 0) → ((x : X) (y : Y) → R x → g x ≡ Some y → P y) → (xs : List X) → AllByRecursion R xs → AllByRecursion P (filter_map g xs)
  given_all P R step [] all = tt
  given_all P R step (x ∷ xs) all = by_option (g x) refl (given_all P R step xs all.1) where
    by_option : (o : Option Y) → g x ≡ o → AllByRecursion P (filter_map g xs) → AllByRecursion P (filter_map g (x ∷ xs))
    by_option None e later = subst (AllByRecursion P) (sym (given_none x xs e)) later
    by_option (Some y) e later = subst (AllByRecursion P) (sym (given_some x xs y e)) (step x y all.0 e, later)

some_is : {X : Type 0} {x y : X} → Some x ≡ Some y → x ≡ y
some_is h = cc

at_all : {X : Type 0} (P : X → Type 0) (xs : List X) (i : ℕ) (x : X) → AllByRecursion P xs → slice_get xs i ≡ Some x → P x
at_all P [] zero x all h = absurd (cc)
at_all P [] (suc i) x all h = absurd (cc)
at_all P (y ∷ xs) zero x all h = subst P (some_is h) all.0
at_all P (y ∷ xs) (suc i) x all h = at_all P xs i x all.1 h

-- entries that their ids determine
one_by : (F : ℕ → Option Entry) (es : List Entry) → AllByRecursion (λ (e : Entry). F e.id ≡ Some e) es → AreOne es
one_by F es all i j e o h k same = some_is (sym (at_all (λ (e : Entry). F e.id ≡ Some e) es i e all h) ∙ ap F same ∙ at_all (λ (e : Entry). F e.id ≡ Some e) es j o all k)

-- TIMES OF EVENTS

not_later : (x y : ValidEvent) → comes_before x y ≡ true → x.time ≤ℤ y.time
not_later x y h = by_parts x.time y.time (comes_first x y) h where
  by_parts : (s t : ℤ) (b : Bool) → (int_lt s t || (int_eq s t && b)) ≡ true → s ≤ℤ t
  by_parts s t b e = grind (arith, ints)

max_up : (s t c : ℤ) → s ≤ℤ t → int_max s c ≤ℤ int_max t c
max_up s t c h = grind (arith, ints, clamps)

begin_time : (x : ValidEvent) (o : Option plain.Row) (r : plain.Row) (p : plain.Period) → o ≡ Some r → r.period ≡ Some p → BeginsRow o x → x.opens ≡ true → x.time ≡ p.from
begin_time x o r p is period begins opens = subst (λ q. BeginsPeriod q x) period (subst (λ q. BeginsRow q x) is begins) opens

-- a set that says of each row whether it passes
member_is : (q : plain.Row → Bool) (rows : List plain.Row) (i : ℕ) (r : plain.Row) → slice_get rows i ≡ Some r → is_member (map q rows) i ≡ q r
member_is q [] zero r is = absurd (cc)
member_is q [] (suc i) r is = absurd (cc)
member_is q (x ∷ rows) zero r is = ap q (some_is is)
member_is q (x ∷ rows) (suc i) r is = member_is q rows i r is

-- ONE ENTRY

less : (x y : ℤ) → int_lt x y ≡ true → x <ℤ y
less x y h = grind (arith, ints)

-- what an entry over two moments is
record Over (id code : ℕ) (x : ℤ) (e : Entry) : Type 0 where
  pub id_is : e.id ≡ id
  pub code_is : e.code ≡ code
  pub begin_is : e.begin ≡ x
  pub lasts : e.begin <ℤ e.end

between_is : (id code : ℕ) (x y : ℤ) (e : Entry) → entry_between id code x y ≡ Some e → Over id code x e
between_is id code x y e h = by_test (int_lt x y) refl h where
  by_test : (b : Bool) → int_lt x y ≡ b → cond b (Some (record { id = id; code = code; begin = x; end = y })) None ≡ Some e → Over id code x e
  by_test false f h = absurd (cc)
  by_test true f h =
      let same : (record { id = id; code = code; begin = x; end = y }) ≡ e = some_is h in
      record {
        id_is = sym (ap (λ (o : Entry). o.id) same);
        code_is = sym (ap (λ (o : Entry). o.code) same);
        begin_is = sym (ap (λ (o : Entry). o.begin) same);
        lasts = subst (λ (o : Entry). o.begin <ℤ o.end) same (less x y f);
      }

code_below : (keys : KeyNumbers) → AreApart keys → (o : Option Cell) (n : ℕ) → number_at keys o ≡ Some n → n < keys.count
code_below keys apart None n h = absurd (cc)
code_below keys apart (Some key) n h = apart.below key n h

module _ (plan : JoinPlan) (column : ℕ) (keys : KeyNumbers) where
  over_period : (id code : ℕ) (o : Option plain.Period) (e : Entry) → entry_over plan id code o ≡ Some e → (p : plain.Period) × (o ≡ Some p) × Over id code (int_max p.from plan.from) e
  over_period id code None e h = absurd (cc)
  over_period id code (Some p) e h = (p, refl, between_is id code (int_max p.from plan.from) (int_min p.to plan.to) e h)

  of_row : (id : ℕ) (o : Option plain.Row) (e : Entry) → entry_of plan keys column id o ≡ Some e
      → (r : plain.Row) × (p : plain.Period) × (o ≡ Some r) × (r.period ≡ Some p) × Over id (code_by keys column r) (int_max p.from plan.from) e
  of_row id None e h = absurd (cc)
  of_row id (Some r) e h = let w = over_period id (code_by keys column r) r.period e h in (r, w.0, refl, w.1, w.2)

  fits_entry : (id : ℕ) (o : Option plain.Row) (e : Entry) → AreApart keys → HasNumber keys column o → entry_of plan keys column id o ≡ Some e → IsEntry keys.count e
  fits_entry id None e apart known h = absurd (cc)
  fits_entry id (Some r) e apart known h =
      let w = over_period id (code_by keys column r) r.period e h in
      let below = code_below keys apart (cell_at r.cells column) (code_by keys column r) known in
      (w.2.lasts, subst (λ n. n < keys.count) (sym w.2.code_is) below)

  -- THE ENTRIES OF EVENTS

  module _ (rows : List plain.Row) (keep : List Bool) where
    abbrev by_event : ValidEvent → Option Entry
    by_event = entry_at plan rows column keep keys

    abbrev by_id : ℕ → Option Entry
    by_id id = entry_of plan keys column id (slice_get rows id)

    opened : (x : ValidEvent) (e : Entry) → by_event x ≡ Some e → (x.opens ≡ true) × (by_id x.row ≡ Some e)
    opened x e h = by_tests x.opens (is_member keep x.row) refl h where
      by_tests : (s t : Bool) → x.opens ≡ s → cond (s && t) (by_id x.row) None ≡ Some e → (x.opens ≡ true) × (by_id x.row ≡ Some e)
      by_tests true true f h = (f, h)
      by_tests true false f h = absurd (cc)
      by_tests false t f h = absurd (cc)

    named : (x : ValidEvent) (e : Entry) → by_event x ≡ Some e → by_id e.id ≡ Some e
    named x e h =
        let a = opened x e h in
        let w = of_row x.row (slice_get rows x.row) e a.1 in
        ap by_id w.4.id_is ∙ a.1

    pub entries_fit : (es : List ValidEvent) → AreApart keys → AllByRecursion (IsKnown plan rows column keep keys) es → AllByRecursion (IsEntry keys.count) (filter_map by_event es)
    entries_fit es apart known = given_all by_event (IsEntry keys.count) (IsKnown plan rows column keep keys) (λ x e k h. fits_entry x.row (slice_get rows x.row) e apart (k (ap is_some h)) (opened x e h).1) es known

    pub entries_one : (es : List ValidEvent) → AllByRecursion (IsKnown plan rows column keep keys) es → AreOne (filter_map by_event es)
    entries_one es known = one_by by_id (filter_map by_event es) (given_all by_event (λ (e : Entry). by_id e.id ≡ Some e) (IsKnown plan rows column keep keys) (λ x e k h. named x e h) es known)

    begin_at : (x : ValidEvent) (e : Entry) → Begins rows x → by_event x ≡ Some e → e.begin ≡ int_max x.time plan.from
    begin_at x e begins h =
        let a = opened x e h in
        let w = of_row x.row (slice_get rows x.row) e a.1 in
        w.4.begin_is ∙ ap (λ t. int_max t plan.from) (sym (begin_time x (slice_get rows x.row) w.0 w.1 w.2 w.3 begins a.0))

    later_begin : (x : ValidEvent) (b : ℤ) (es : List ValidEvent) → b ≡ int_max x.time plan.from → AllByRecursion (λ y. comes_before x y ≡ true) es → AllByRecursion (Begins rows) es → AllByRecursion (λ (e : Entry). b ≤ℤ e.begin) (filter_map by_event es)
    later_begin x b [] is above begins = tt
    later_begin x b (y ∷ ys) is above begins = by_option (by_event y) refl (later_begin x b ys is above.1 begins.1) where
      by_option : (o : Option Entry) → by_event y ≡ o → AllByRecursion (λ (e : Entry). b ≤ℤ e.begin) (filter_map by_event ys) → AllByRecursion (λ (e : Entry). b ≤ℤ e.begin) (filter_map by_event (y ∷ ys))
      by_option None e later = subst (AllByRecursion (λ (e : Entry). b ≤ℤ e.begin)) (sym (given_none by_event y ys e)) later
      by_option (Some o) e later =
          let up = max_up x.time y.time plan.from (not_later x y above.0) in
          let one : b ≤ℤ o.begin = rw (is, begin_at y o begins.0 e) up in
          subst (AllByRecursion (λ (e : Entry). b ≤ℤ e.begin)) (sym (given_some by_event y ys o e)) (one, later)

    pub entries_rise : (es : List ValidEvent) → valid.Rises es → AllByRecursion (Begins rows) es → Rises (filter_map by_event es)
    entries_rise [] up begins = tt
    entries_rise (x ∷ xs) up begins = by_option (by_event x) refl (entries_rise xs up.1 begins.1) where
      by_option : (o : Option Entry) → by_event x ≡ o → Rises (filter_map by_event xs) → Rises (filter_map by_event (x ∷ xs))
      by_option None e later = subst Rises (sym (given_none by_event x xs e)) later
      by_option (Some o) e later = subst Rises (sym (given_some by_event x xs o e)) (later_begin x o.begin xs (begin_at x o begins.0 e) up.0 begins.1, later)

    -- THE ENTRIES OF ROWS

    module _ (version : ℕ) (pred : TypedPred) (keep_is : keep ≡ passing pred rows) where
      abbrev by_row : ℕ × plain.Row → Option Entry
      by_row = entry_in plan version pred column keys

      unseen : (n : ℕ) (r : plain.Row) → is_visible version r ≡ false → by_row (n, r) ≡ None
      unseen n r h = rw h refl

      no_period : (n : ℕ) (r : plain.Row) → r.period ≡ None → by_row (n, r) ≡ None
      no_period n r h = by_test (is_visible version r && passes pred r) where
        by_test : (b : Bool) → cond b (entry_over plan n (code_by keys column r) r.period) None ≡ None
        by_test true = ap (entry_over plan n (code_by keys column r)) h
        by_test false = refl

      begin_entry : (n : ℕ) (r : plain.Row) (p : plain.Period) → slice_get rows n ≡ Some r → is_visible version r ≡ true → by_event (begin_of n p) ≡ by_row (n, r)
      begin_entry n r p here seen =
          let member : is_member keep n ≡ passes pred r = ap (λ set. is_member set n) keep_is ∙ member_is (passes pred) rows n r here in
          ap (λ o. cond (is_member keep n) (entry_of plan keys column n o) None) here
          ∙ ap (λ b. cond b (entry_of plan keys column n (Some r)) None) member
          ∙ ap (λ b. cond (b && passes pred r) (entry_of plan keys column n (Some r)) None) (sym seen)

      sum_ends : (f : Entry → ℕ) (n : ℕ) (r : plain.Row) → slice_get rows n ≡ Some r → is_visible version r ≡ true → (o : Option plain.Period) → r.period ≡ o → sum_by (λ x. sum_of f (by_event x)) (ends_of n o) ≡ sum_of f (by_row (n, r))
      sum_ends f n r here seen None period = sym (ap (sum_of f) (no_period n r period))
      sum_ends f n r here seen (Some p) period =
          let a = sum_by-cons (λ x. sum_of f (by_event x)) (begin_of n p) (end_of n p ∷ []) in
          let b = sum_by-cons (λ x. sum_of f (by_event x)) (end_of n p) [] in
          let c = ap (sum_of f) (begin_entry n r p here seen) in
          let d : sum_of f (by_event (end_of n p)) ≡ 0 = refl in
          let e : sum_by (λ x. sum_of f (by_event x)) [] ≡ 0 = refl in
          a ∙ (omega (arith, b, c, d, e))

      sum_rows : (f : Entry → ℕ) (n : ℕ) (rs : List plain.Row) → Stand rows n rs → sum_by (λ x. sum_of f (by_event x)) (ends_from version n rs) ≡ sum_by f (filter_map by_row (enumerate_from n rs))
      sum_rows f n [] at = refl
      sum_rows f n (r ∷ rs) at = by_test (is_visible version r) refl (stand_head rows n r rs at) (given_step by_row f (n, r) (enumerate_from (n + 1) rs)) (sum_rows f (n + 1) rs (stand_tail rows n r rs at)) where
        by_test : (b : Bool) → is_visible version r ≡ b → slice_get rows n ≡ Some r
            → sum_by f (filter_map by_row (enumerate_from n (r ∷ rs))) ≡ sum_of f (by_row (n, r)) + sum_by f (filter_map by_row (enumerate_from (n + 1) rs))
            → sum_by (λ x. sum_of f (by_event x)) (ends_from version (n + 1) rs) ≡ sum_by f (filter_map by_row (enumerate_from (n + 1) rs))
            → sum_by (λ x. sum_of f (by_event x)) (ends_from version n (r ∷ rs)) ≡ sum_by f (filter_map by_row (enumerate_from n (r ∷ rs)))
        by_test true e here step later =
            let a = sum_by-append (λ x. sum_of f (by_event x)) (ends_of n r.period) (ends_from version (n + 1) rs) in
            let b = sum_ends f n r here e r.period refl in
            ap (sum_by (λ x. sum_of f (by_event x))) (ends_yes version n r rs e) ∙ a ∙ (omega (arith, b, later, step))
        by_test false e here step later =
            let a = ap (sum_of f) (unseen n r e) in
            ap (sum_by (λ x. sum_of f (by_event x))) (ends_no version n r rs e) ∙ later ∙ (omega (arith, a, step))

      -- the entries of the events are those of the rows
      pub entries_same : AreSame (filter_map by_event (valid_events_in rows version)) (entries_in plan version pred column keys rows)
      entries_same f =
          given_sum by_event f (valid_events_in rows version)
          ∙ sum_ordered (λ x. sum_of f (by_event x)) [] (ends_from version 0 rows)
          ∙ none_more (sum_by (λ x. sum_of f (by_event x)) (ends_from version 0 rows))
          ∙ sum_rows f 0 rows (stand_all rows) where
            none_more : (n : ℕ) → 0 + n ≡ n
            none_more n = omega arith

      rows_at : (n : ℕ) (rs : List plain.Row) → Stand rows n rs → AllByRecursion (λ (r : ℕ × plain.Row). slice_get rows r.0 ≡ Some r.1) (enumerate_from n rs)
      rows_at n [] at = tt
      rows_at n (r ∷ rs) at = (stand_head rows n r rs at, rows_at (n + 1) rs (stand_tail rows n r rs at))

      row_over : (n : ℕ) (r : plain.Row) (e : Entry) → by_row (n, r) ≡ Some e → entry_of plan keys column n (Some r) ≡ Some e
      row_over n r e h = by_test (is_visible version r && passes pred r) h where
        by_test : (b : Bool) → cond b (entry_of plan keys column n (Some r)) None ≡ Some e → entry_of plan keys column n (Some r) ≡ Some e
        by_test true h = h
        by_test false h = absurd (cc)

      row_named : (r : ℕ × plain.Row) (e : Entry) → slice_get rows r.0 ≡ Some r.1 → by_row r ≡ Some e → by_id e.id ≡ Some e
      row_named r e here h =
          let a = row_over r.0 r.1 e h in
          let w = of_row r.0 (Some r.1) e a in
          ap by_id w.4.id_is ∙ ap (entry_of plan keys column r.0) here ∙ a

      pub rows_one : AreOne (entries_in plan version pred column keys rows)
      rows_one = one_by by_id (entries_in plan version pred column keys rows) (given_all by_row (λ (e : Entry). by_id e.id ≡ Some e) (λ (r : ℕ × plain.Row). slice_get rows r.0 ≡ Some r.1) row_named (with_ids rows) (rows_at 0 rows (stand_all rows)))

      -- where a row has an entry, its key has a number
      abbrev pub RowKnown : ℕ × plain.Row → Type 0
      RowKnown r = is_some (by_row r) ≡ true → HasNumber keys column (Some r.1)

      none_known : (n : ℕ) (r : plain.Row) → by_row (n, r) ≡ None → RowKnown (n, r)
      none_known n r e h = absurd (let f = sym (ap is_some e) ∙ h in cc)

      known_from : (n : ℕ) (rs : List plain.Row) → Stand rows n rs → AllByRecursion (IsKnown plan rows column keep keys) (ends_from version n rs) → AllByRecursion RowKnown (enumerate_from n rs)
      known_from n [] at known = tt
      known_from n (r ∷ rs) at known = by_test (is_visible version r) refl (stand_head rows n r rs at) (known_from (n + 1) rs (stand_tail rows n r rs at)) where
        by_test : (b : Bool) → is_visible version r ≡ b → slice_get rows n ≡ Some r → (AllByRecursion (IsKnown plan rows column keep keys) (ends_from version (n + 1) rs) → AllByRecursion RowKnown (enumerate_from (n + 1) rs)) → AllByRecursion RowKnown (enumerate_from n (r ∷ rs))
        by_test true e here later = by_period r.period refl (subst (AllByRecursion (IsKnown plan rows column keep keys)) (ends_yes version n r rs e) known) where
          by_period : (o : Option plain.Period) → r.period ≡ o → AllByRecursion (IsKnown plan rows column keep keys) (ends_of n o ++ ends_from version (n + 1) rs) → AllByRecursion RowKnown (enumerate_from n (r ∷ rs))
          by_period None f known = (none_known n r (no_period n r f), later known)
          by_period (Some p) f known = (λ h. subst (HasNumber keys column) here (known.0 (ap is_some (begin_entry n r p here e) ∙ h)), later known.1.1)
        by_test false e here later = (none_known n r (unseen n r e), later (subst (AllByRecursion (IsKnown plan rows column keep keys)) (ends_no version n r rs e) known))

      pub rows_known : AllByRecursion (IsKnown plan rows column keep keys) (valid_events_in rows version) → AllByRecursion RowKnown (with_ids rows)
      rows_known known = known_from 0 rows (stand_all rows) (each_ordered (IsKnown plan rows column keep keys) [] (ends_from version 0 rows) known).1

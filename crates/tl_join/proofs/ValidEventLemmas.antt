-- The events of valid time of some rows: sums over them, what holds of each of them, and how many they are.
use Rattle.std.proofs.Common.{◌≡◌, ℕ, zero, suc, ◌+◌, ◌*◌, ◌≤◌, ◌<◌, Bool, true, false, cond, List, [], ◌∷◌, ◌++◌, length, Option, Some, None, refl, sym, ap, ◌∙◌, subst, arith, slice_get, sum_by, All}
use Rattle.std.specs.List.{filter, fold, enumerate_from, AllByRecursion}
use Rattle.std.proofs.lemmas.List.Elements.{All-cons, All-nil}
use Rattle.std.proofs.lemmas.List.Sums.{sum_by-cons}
use Rattle.std.proofs.lemmas.Option.{slice_get_within}
use Rattle.tl_types.specs.declared.events.ValidEvent.{ValidEvent}
use Rattle.tl_types.specs.Checkpoints.{comes_before, inserted, ends_of, ends_of_rows, valid_events_in, AreEventsOf}
use Rattle.tl_types.specs.History.{is_visible}
use Rattle.tl_types.proofs.EventCounts.{fold_many}
use Rattle.tl_types.specs.Plain as plain

-- EVENTS IN ORDER

module _ (h : ValidEvent → ℕ) where
  sum_inserted : (x : ValidEvent) (xs : List ValidEvent) → sum_by h (inserted x xs) ≡ h x + sum_by h xs
  sum_inserted x [] = sum_by-cons h x []
  sum_inserted x (y ∷ ys) = by_test (comes_before y x) (sum_inserted x ys) where
    by_test : (b : Bool) → sum_by h (inserted x ys) ≡ h x + sum_by h ys → sum_by h (cond b (y ∷ inserted x ys) (x ∷ y ∷ ys)) ≡ h x + sum_by h (y ∷ ys)
    by_test true later = let a = sum_by-cons h y (inserted x ys) in let b = sum_by-cons h y ys in omega (arith, a, b, later)
    by_test false later = sum_by-cons h x (y ∷ ys)

  pub sum_ordered : (us vs : List ValidEvent) → sum_by h (fold (λ ordered event. inserted event ordered) us vs) ≡ sum_by h us + sum_by h vs
  sum_ordered us [] = omega arith
  sum_ordered us (v ∷ vs) = sum_ordered (inserted v us) vs ∙ (let b = sum_inserted v us in let c = sum_by-cons h v vs in omega (arith, b, c))

module _ (Q : ValidEvent → Type 0) where
  all_inserted : (x : ValidEvent) (xs : List ValidEvent) → Q x → AllByRecursion Q xs → AllByRecursion Q (inserted x xs)
  all_inserted x [] q all = (q, tt)
  all_inserted x (y ∷ ys) q all = by_test (comes_before y x) (all_inserted x ys q all.1) where
    by_test : (b : Bool) → AllByRecursion Q (inserted x ys) → AllByRecursion Q (cond b (y ∷ inserted x ys) (x ∷ y ∷ ys))
    by_test true later = (all.0, later)
    by_test false later = (q, all)

  all_ordered : (us vs : List ValidEvent) → AllByRecursion Q us → AllByRecursion Q vs → AllByRecursion Q (fold (λ ordered event. inserted event ordered) us vs)
  all_ordered us [] all more = all
  all_ordered us (v ∷ vs) all more = all_ordered (inserted v us) vs (all_inserted v us more.0 all) more.1

  each_inserted : (x : ValidEvent) (xs : List ValidEvent) → AllByRecursion Q (inserted x xs) → Q x × AllByRecursion Q xs
  each_inserted x [] all = (all.0, tt)
  each_inserted x (y ∷ ys) all = by_test (comes_before y x) all (each_inserted x ys) where
    by_test : (b : Bool) → AllByRecursion Q (cond b (y ∷ inserted x ys) (x ∷ y ∷ ys)) → (AllByRecursion Q (inserted x ys) → Q x × AllByRecursion Q ys) → Q x × AllByRecursion Q (y ∷ ys)
    by_test true all later = let more = later all.1 in (more.0, (all.0, more.1))
    by_test false all later = (all.0, all.1)

  pub each_ordered : (us vs : List ValidEvent) → AllByRecursion Q (fold (λ ordered event. inserted event ordered) us vs) → AllByRecursion Q us × AllByRecursion Q vs
  each_ordered us [] all = (all, tt)
  each_ordered us (v ∷ vs) all = let a = each_ordered (inserted v us) vs all in let b = each_inserted v us a.0 in (b.1, (b.0, a.1))

-- THE ENDS OF THE PERIODS OF ROWS

abbrev pub begin_of : ℕ → plain.Period → ValidEvent
begin_of id p = record { time = p.from; opens = true; row = id }

abbrev pub end_of : ℕ → plain.Period → ValidEvent
end_of id p = record { time = p.to; opens = false; row = id }

abbrev pub ends_from : ℕ → ℕ → List plain.Row → List ValidEvent
ends_from v n rows = ends_of_rows (filter (λ (r : ℕ × plain.Row). is_visible v r.1) (enumerate_from n rows))

pub ends_yes : (v n : ℕ) (r : plain.Row) (rows : List plain.Row) → is_visible v r ≡ true → ends_from v n (r ∷ rows) ≡ ends_of n r.period ++ ends_from v (n + 1) rows
ends_yes v n r rows h = rw h refl

pub ends_no : (v n : ℕ) (r : plain.Row) (rows : List plain.Row) → is_visible v r ≡ false → ends_from v n (r ∷ rows) ≡ ends_from v (n + 1) rows
ends_no v n r rows h = rw h refl

-- the rows are those of a list from a number on
abbrev pub Stand : List plain.Row → ℕ → List plain.Row → Type 0
Stand all n rows = (k : ℕ) → slice_get all (n + k) ≡ slice_get rows k

pub stand_head : (all : List plain.Row) (n : ℕ) (r : plain.Row) (rows : List plain.Row) → Stand all n (r ∷ rows) → slice_get all n ≡ Some r
stand_head all n r rows at = let e : n ≡ n + zero = omega arith in ap (slice_get all) e ∙ at zero

pub stand_tail : (all : List plain.Row) (n : ℕ) (r : plain.Row) (rows : List plain.Row) → Stand all n (r ∷ rows) → Stand all (n + 1) rows
stand_tail all n r rows at k = let e : n + 1 + k ≡ n + suc k = omega arith in ap (slice_get all) e ∙ at (suc k)

pub stand_all : (all : List plain.Row) → Stand all 0 all
stand_all all k = let e : 0 + k ≡ k = omega arith in ap (slice_get all) e

module _ (Q : ValidEvent → Type 0) (v : ℕ) (all : List plain.Row) (both : (id : ℕ) (r : plain.Row) (p : plain.Period) → slice_get all id ≡ Some r → r.period ≡ Some p → Q (begin_of id p) × Q (end_of id p)) where
  all_ends : (n : ℕ) (rows : List plain.Row) → Stand all n rows → AllByRecursion Q (ends_from v n rows)
  all_ends n [] at = tt
  all_ends n (r ∷ rows) at = by_test (is_visible v r) refl (stand_head all n r rows at) (all_ends (n + 1) rows (stand_tail all n r rows at)) where
    by_test : (b : Bool) → is_visible v r ≡ b → slice_get all n ≡ Some r → AllByRecursion Q (ends_from v (n + 1) rows) → AllByRecursion Q (ends_from v n (r ∷ rows))
    by_test true e here later = subst (AllByRecursion Q) (sym (ends_yes v n r rows e)) (by_period r.period refl) where
      by_period : (o : Option plain.Period) → r.period ≡ o → AllByRecursion Q (ends_of n o ++ ends_from v (n + 1) rows)
      by_period None f = later
      by_period (Some p) f = let b = both n r p here f in (b.0, (b.1, later))
    by_test false e here later = subst (AllByRecursion Q) (sym (ends_no v n r rows e)) later

  -- what holds of both ends of each row's period holds of each event
  pub all_valid : AllByRecursion Q (valid_events_in all v)
  all_valid = all_ordered Q [] (ends_from v 0 all) tt (all_ends 0 all (stand_all all))

-- HOW MANY EVENTS, AND OF WHICH ROWS

ends_few : (v n : ℕ) (rows : List plain.Row) → length (ends_from v n rows) ≤ 2 * length rows
ends_few v n [] = omega arith
ends_few v n (r ∷ rows) = by_test (is_visible v r) refl (ends_few v (n + 1) rows) where
  by_test : (b : Bool) → is_visible v r ≡ b → length (ends_from v (n + 1) rows) ≤ 2 * length rows → length (ends_from v n (r ∷ rows)) ≤ 2 * length (r ∷ rows)
  by_test true e later = subst (λ xs. length xs ≤ 2 * length (r ∷ rows)) (sym (ends_yes v n r rows e)) (by_period r.period) where
    by_period : (o : Option plain.Period) → length (ends_of n o ++ ends_from v (n + 1) rows) ≤ 2 * length (r ∷ rows)
    by_period None = omega (arith, later)
    by_period (Some p) = omega (arith, later)
  by_test false e later = subst (λ xs. length xs ≤ 2 * length (r ∷ rows)) (sym (ends_no v n r rows e)) (omega (arith, later))

pub events_few : (rows : List plain.Row) (events list : List ValidEvent) → AreEventsOf rows events → list ≡ events → length list ≤ 2 * length rows
events_few rows events list of is =
    let a : length list ≡ length (valid_events_in rows of.version) = ap length (is ∙ of.are) in
    let b = fold_many [] (ends_from of.version 0 rows) in
    let c = ends_few of.version 0 rows in
    omega (arith, a, b, c)

-- the row of the event is there, and where the event opens, it is the beginning of its period
abbrev pub BeginsPeriod : Option plain.Period → ValidEvent → Type 0
BeginsPeriod None e = ⊥
BeginsPeriod (Some p) e = e.opens ≡ true → e.time ≡ p.from

abbrev pub BeginsRow : Option plain.Row → ValidEvent → Type 0
BeginsRow None e = ⊥
BeginsRow (Some r) e = BeginsPeriod r.period e

abbrev pub Begins : List plain.Row → ValidEvent → Type 0
Begins rows e = BeginsRow (slice_get rows e.row) e

pub begins_valid : (rows : List plain.Row) (v : ℕ) → AllByRecursion (Begins rows) (valid_events_in rows v)
begins_valid rows v = all_valid (Begins rows) v rows both where
  both : (id : ℕ) (r : plain.Row) (p : plain.Period) → slice_get rows id ≡ Some r → r.period ≡ Some p → Begins rows (begin_of id p) × Begins rows (end_of id p)
  both id r p here period =
      let first : BeginsRow (Some r) (begin_of id p) = subst (λ o. BeginsPeriod o (begin_of id p)) (sym period) (λ h. refl) in
      let second : BeginsRow (Some r) (end_of id p) = subst (λ o. BeginsPeriod o (end_of id p)) (sym period) (λ h. absurd (cc)) in
      (subst (λ o. BeginsRow o (begin_of id p)) (sym here) first, subst (λ o. BeginsRow o (end_of id p)) (sym here) second)

pub begins_all : (rows : List plain.Row) (events : List ValidEvent) → AreEventsOf rows events → AllByRecursion (Begins rows) events
begins_all rows events of = subst (AllByRecursion (Begins rows)) (sym of.are) (begins_valid rows of.version)

within : (rows : List plain.Row) (es : List ValidEvent) → AllByRecursion (Begins rows) es → All (λ (e : ValidEvent). e.row < length rows) es
within rows [] all = All-nil (λ (e : ValidEvent). e.row < length rows)
within rows (e ∷ es) all = All-cons (λ (e : ValidEvent). e.row < length rows) e es (by_row (slice_get rows e.row) refl all.0) (within rows es all.1) where
  by_row : (o : Option plain.Row) → slice_get rows e.row ≡ o → BeginsRow o e → e.row < length rows
  by_row None is h = absurd h
  by_row (Some r) is h = slice_get_within rows e.row r is

pub rows_within : (rows : List plain.Row) (events list : List ValidEvent) → AreEventsOf rows events → list ≡ events → All (λ (e : ValidEvent). e.row < length rows) list
rows_within rows events list of is = within rows list (subst (AllByRecursion (Begins rows)) (sym is) (begins_all rows events of))

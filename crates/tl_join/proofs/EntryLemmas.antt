-- The entries of a side are those of its rows that pass and are there; they rise, name rows, and have numbers below the count.
use Rattle.std.proofs.Common.{◌≡◌, ℕ, ℤ, zero, suc, pos, ◌+◌, ◌≤◌, ◌<◌, ◌≤ℤ◌, ◌<ℤ◌, Bool, true, false, ◌&&◌, ◌||◌, nat_le, nat_lt, max, min, List, [], ◌∷◌, Option, Some, None, refl, sym, ap, ◌∙◌, subst, arith, slice_get}
use Rattle.std.proofs.lemmas.Bool.Decides.{nat_tests}
use Rattle.std.proofs.lemmas.Int.{ints}
use Rattle.std.specs.Int.{int_min, int_max}
use Rattle.std.specs.List.{filter_map, enumerate_from, AllByRecursion}
use Rattle.tl_types.specs.declared.cells.Cell.{Cell}
use Rattle.tl_types.specs.Events.{ids_from}
use Rattle.tl_types.specs.History.{cell_at}
use Rattle.tl_types.specs.Plain as plain
use Rattle.tl_types.specs.WellFormed.{AreWellFormed, BeginInOrder}
use Rattle.tl_query.specs.declared.typed_queries.JoinPlan.{JoinPlan}
use Rattle.tl_query.specs.declared.typed_queries.TypedPred.{TypedPred}
use Rattle.tl_query.specs.Passing.{passes}
use Rattle.tl_join.specs.declared.entries.Entry.{Entry}
use Rattle.tl_join.specs.Sweep.{IsEntry, Rises, AreOne}
use Rattle.tl_keys.specs.Keys.{KeyNumbers, number_at, AreApart}
use Rattle.tl_join.specs.Pieces.{is_there, entry_of, entry_in}
use Rattle.tl_join.specs.Sides.{IsOfRow, ids_in}
use Rattle.tl_join.proofs.IdLemmas.{ids_true, ids_false}
use Rattle.tl_join.proofs.LawLemmas.{greatest, least}

-- the number that a row's key has, 0 where it has none
abbrev pub or_none : Option ℕ → ℕ
or_none None = 0
or_none (Some n) = n

abbrev pub code_by : KeyNumbers → ℕ → plain.Row → ℕ
code_by keys column row = or_none (number_at keys (cell_at row.cells column))

none_one : AreOne []
none_one zero j e o h k same = absurd (cc)
none_one (suc i) j e o h k same = absurd (cc)

at_all : {X : Type 0} (P : X → Type 0) (xs : List X) (i : ℕ) (x : X) → AllByRecursion P xs → slice_get xs i ≡ Some x → P x
at_all P [] zero x all h = absurd (cc)
at_all P [] (suc i) x all h = absurd (cc)
at_all P (y ∷ xs) zero x all h = let e : y ≡ x = cc in subst P e all.0
at_all P (y ∷ xs) (suc i) x all h = at_all P xs i x all.1 h

-- one row more before rows of greater ids
one_first : (e : Entry) (es : List Entry) → AllByRecursion (λ (o : Entry). e.id + 1 ≤ o.id) es → AreOne es → AreOne (e ∷ es)
one_first e es all one zero zero x y h k same = let a : e ≡ x = cc in let b : e ≡ y = cc in sym a ∙ b
one_first e es all one zero (suc j) x y h k same = absurd (let a : e ≡ x = cc in let b = at_all (λ (o : Entry). e.id + 1 ≤ o.id) es j y all k in let c : e.id ≡ x.id = ap (λ (o : Entry). o.id) a in omega (arith, b, c, same))
one_first e es all one (suc i) zero x y h k same = absurd (let a : e ≡ y = cc in let b = at_all (λ (o : Entry). e.id + 1 ≤ o.id) es i x all h in let c : e.id ≡ y.id = ap (λ (o : Entry). o.id) a in omega (arith, b, c, same))
one_first e es all one (suc i) (suc j) x y h k same = one i j x y h k same

module _ (plan : JoinPlan) (a b p q : ℕ) (from : plan.from ≡ pos a) (to : plan.to ≡ pos b) (pred : TypedPred) (column : ℕ) (keys : KeyNumbers) where
  -- the row passes and is there
  abbrev stays : plain.Row → Bool
  stays row = passes pred row && is_there p q row

  abbrev pub code : plain.Row → ℕ
  code = code_by keys column

  is_entry : (n : ℕ) (r : plain.Row) (e : Entry) → e.id ≡ n → IsOfRow column plan keys (Some r) e → e ≡ entry_of a b code (n, r)
  is_entry n r e here h = equal e.id n e.code (code r) e.begin (pos (max r.from a)) e.end (pos (min r.to b)) here (sym (ap or_none h.2)) (h.0 ∙ ap (int_max (pos r.from)) from ∙ greatest r.from a) (h.1 ∙ ap (int_min (pos r.to)) to ∙ least r.to b) where
    equal : (i j c d : ℕ) (x y z w : ℤ) → i ≡ j → c ≡ d → x ≡ y → z ≡ w → ◌≡◌ {A = Entry} (record { id = i; code = c; begin = x; end = z }) (record { id = j; code = d; begin = y; end = w })
    equal i j c d x y z w e f g h = cc

  entry_true : (n : ℕ) (r : plain.Row) (rows : List plain.Row) → stays r ≡ true → filter_map (entry_in a b p q pred code) (enumerate_from n (r ∷ rows)) ≡ entry_of a b code (n, r) ∷ filter_map (entry_in a b p q pred code) (enumerate_from (n + 1) rows)
  entry_true n r rows h = rw h refl

  entry_false : (n : ℕ) (r : plain.Row) (rows : List plain.Row) → stays r ≡ false → filter_map (entry_in a b p q pred code) (enumerate_from n (r ∷ rows)) ≡ filter_map (entry_in a b p q pred code) (enumerate_from (n + 1) rows)
  entry_false n r rows h = rw h refl

  -- the row's key has a number
  abbrev pub HasNumber : plain.Row → Type 0
  HasNumber row = number_at keys (cell_at row.cells column) ≡ Some (code row)

  abbrev pub IsKnown : ℕ × plain.Row → Type 0
  IsKnown r = stays r.1 ≡ true → HasNumber r.1

  abbrev AreOfRows : List plain.Row → List Entry → Type 0
  AreOfRows all es = AllByRecursion (λ (e : Entry). IsOfRow column plan keys (slice_get all e.id) e) es

  -- what entries with these ids are
  pub record AreEntries (n : ℕ) (rows : List plain.Row) (es : List Entry) : Type 0 where
    pub are : es ≡ filter_map (entry_in a b p q pred code) (enumerate_from n rows)
    pub fit : AllByRecursion (IsEntry keys.count) es
    pub known : AllByRecursion IsKnown (enumerate_from n rows)

  some_time : (f t : ℕ) → a ≤ p → p < q → q ≤ b → f < t → ((nat_le f p && nat_lt p t) || (nat_lt p f && nat_lt f q)) ≡ true → pos (max f a) <ℤ pos (min t b)
  some_time f t h k l some there = let m : max f a < min t b = grind (arith, nat_tests) in omega (arith, ints, m)

  and_right : (x y : Bool) → (x && y) ≡ true → y ≡ true
  and_right true y h = h
  and_right false y h = absurd (cc)

  code_below : AreApart keys → (o : Option Cell) (n : ℕ) → number_at keys o ≡ Some n → n < keys.count
  code_below apart None n h = absurd (cc)
  code_below apart (Some key) n h = apart.below key n h

  module _ (after : a ≤ p) (some : p < q) (inside : q ≤ b) (apart : AreApart keys) (last : ℕ) where
    pub entries_are : (all rows : List plain.Row) (n : ℕ) (es : List Entry) → AreWellFormed last rows → ((k : ℕ) → slice_get all (n + k) ≡ slice_get rows k) → ids_in es ≡ ids_from n stays rows → AreOfRows all es → AreEntries n rows es
    entries_are all [] n [] formed at ids h = record { are = refl; fit = tt; known = tt }
    entries_are all [] n (e ∷ es) formed at ids h = absurd (cc)
    entries_are all (r ∷ rows) n es formed at ids h =
        by_test (stays r) refl es ids h formed.0.lasts (let e : n ≡ n + zero = omega arith in ap (slice_get all) e ∙ at zero) (λ more i m. entries_are all rows (n + 1) more formed.1 (λ k. let e : n + 1 + k ≡ n + suc k = omega arith in ap (slice_get all) e ∙ at (suc k)) i m) where
          by_test : (t : Bool) → stays r ≡ t → (es : List Entry) → ids_in es ≡ ids_from n stays (r ∷ rows) → AreOfRows all es → r.from < r.to → slice_get all n ≡ Some r → ((more : List Entry) → ids_in more ≡ ids_from (n + 1) stays rows → AreOfRows all more → AreEntries (n + 1) rows more) → AreEntries n (r ∷ rows) es
          by_test true s [] ids h lasts here later = absurd (let f = ids ∙ ids_true stays n r rows s in cc)
          by_test true s (e ∷ es) ids h lasts here later =
              let f : e.id ∷ ids_in es ≡ n ∷ ids_from (n + 1) stays rows = ids ∙ ids_true stays n r rows s in
              let id_is : e.id ≡ n = cc in
              let rest : ids_in es ≡ ids_from (n + 1) stays rows = cc in
              let of_row : IsOfRow column plan keys (Some r) e = subst (λ o. IsOfRow column plan keys o e) (ap (slice_get all) id_is ∙ here) h.0 in
              let is : e ≡ entry_of a b code (n, r) = is_entry n r e id_is of_row in
              let more = later es rest h.1 in
              let time : e.begin <ℤ e.end = subst (λ (o : Entry). o.begin <ℤ o.end) (sym is) (some_time r.from r.to after some inside lasts (and_right (passes pred r) (is_there p q r) s)) in
              record {
                are = ap (λ o. o ∷ es) is ∙ ap (λ os. entry_of a b code (n, r) ∷ os) more.are ∙ sym (entry_true n r rows s);
                fit = ((time, code_below apart (cell_at r.cells column) e.code of_row.2), more.fit);
                known = (λ _. of_row.2 ∙ ap Some (sym (ap or_none of_row.2)), more.known);
              }
          by_test false s es ids h lasts here later =
              let more = later es (ids ∙ ids_false stays n r rows s) h in
              record {
                are = more.are ∙ sym (entry_false n r rows s);
                fit = more.fit;
                known = (λ t. absurd (let f = sym s ∙ t in cc), more.known);
              }

  -- IN ORDER

  abbrev of_rows : ℕ → List plain.Row → List Entry
  of_rows n rows = filter_map (entry_in a b p q pred code) (enumerate_from n rows)

  later_begin : (low n : ℕ) (rows : List plain.Row) → BeginInOrder low rows → AllByRecursion (λ (o : Entry). pos (max low a) ≤ℤ o.begin) (of_rows n rows)
  later_begin low n [] order = tt
  later_begin low n (r ∷ rows) order = by_test (stays r) refl (weaker (of_rows (n + 1) rows) (later_begin r.from (n + 1) rows order.1)) where
    above : pos (max low a) ≤ℤ pos (max r.from a)
    above = let m : max low a ≤ max r.from a = (let o = order.0 in omega (arith, o)) in omega (arith, ints, m)

    weaker : (es : List Entry) → AllByRecursion (λ (o : Entry). pos (max r.from a) ≤ℤ o.begin) es → AllByRecursion (λ (o : Entry). pos (max low a) ≤ℤ o.begin) es
    weaker [] h = tt
    weaker (e ∷ es) h = (let x = h.0 in let y = above in omega (arith, ints, x, y), weaker es h.1)

    by_test : (t : Bool) → stays r ≡ t → AllByRecursion (λ (o : Entry). pos (max low a) ≤ℤ o.begin) (of_rows (n + 1) rows) → AllByRecursion (λ (o : Entry). pos (max low a) ≤ℤ o.begin) (of_rows n (r ∷ rows))
    by_test true s later = rw s (above, later)
    by_test false s later = rw s later

  pub entries_rise : (low n : ℕ) (rows : List plain.Row) → BeginInOrder low rows → Rises (of_rows n rows)
  entries_rise low n [] order = tt
  entries_rise low n (r ∷ rows) order = by_test (stays r) refl (entries_rise r.from (n + 1) rows order.1) where
    by_test : (t : Bool) → stays r ≡ t → Rises (of_rows (n + 1) rows) → Rises (of_rows n (r ∷ rows))
    by_test true s later = rw s (later_begin r.from (n + 1) rows order.1, later)
    by_test false s later = rw s later

  later_ids : (m n : ℕ) (rows : List plain.Row) → m ≤ n → AllByRecursion (λ (o : Entry). m ≤ o.id) (of_rows n rows)
  later_ids m n [] h = tt
  later_ids m n (r ∷ rows) h = by_test (stays r) refl (later_ids m (n + 1) rows (omega (arith, h))) where
    by_test : (t : Bool) → stays r ≡ t → AllByRecursion (λ (o : Entry). m ≤ o.id) (of_rows (n + 1) rows) → AllByRecursion (λ (o : Entry). m ≤ o.id) (of_rows n (r ∷ rows))
    by_test true s later = rw s (h, later)
    by_test false s later = rw s later

  pub entries_one : (n : ℕ) (rows : List plain.Row) → AreOne (of_rows n rows)
  entries_one n [] = none_one
  entries_one n (r ∷ rows) = by_test (stays r) refl (entries_one (n + 1) rows) where
    by_test : (t : Bool) → stays r ≡ t → AreOne (of_rows (n + 1) rows) → AreOne (of_rows n (r ∷ rows))
    by_test true s later = rw s (one_first (entry_of a b code (n, r)) (of_rows (n + 1) rows) (later_ids (n + 1) (n + 1) rows (omega arith)) later)
    by_test false s later = rw s later

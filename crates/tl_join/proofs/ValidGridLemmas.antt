-- The pairs of rows are those of their entries.
use Rattle.std.proofs.Common.{◌≡◌, ℕ, ℤ, Bool, true, false, ◌&&◌, cond, ◌==◌, int_le, int_lt, List, [], ◌∷◌, ◌++◌, Option, Some, None, is_some, refl, sym, ap, ◌∙◌, arith}
use Rattle.std.specs.Int.{int_min, int_max}
use Rattle.std.specs.List.{filter_map, flat_map, AllByRecursion}
use Rattle.std.proofs.lemmas.Int.{ints, clamps}
use Rattle.tl_types.specs.declared.runs.Pair.{Pair}
use Rattle.tl_types.specs.History.{with_ids, is_visible, cell_at}
use Rattle.tl_types.specs.Resolving.{same_key}
use Rattle.tl_types.specs.Plain as plain
use Rattle.tl_query.specs.declared.typed_queries.JoinPlan.{JoinPlan}
use Rattle.tl_query.specs.declared.typed_queries.Span.TheVariants as span
use Rattle.tl_query.specs.declared.typed_queries.TypedPred.{TypedPred}
use Rattle.tl_query.specs.Passing.{passes}
use Rattle.tl_query.specs.Joins.{pair_from, common_pair, pair_of, pairs_of}
use Rattle.tl_join.specs.declared.entries.Entry.{Entry}
use Rattle.tl_join.specs.Sweep.{made, grid}
use Rattle.tl_keys.specs.Keys.{KeyNumbers}
use Rattle.tl_join.specs.ValidEntries.{code_by, entry_over, entry_in, entries_in}

-- the pair of two entries that may be there
abbrev pub made_both : ℤ → Option Entry → Option Entry → Option Pair
made_both first None o = None
made_both first (Some l) None = None
made_both first (Some l) (Some r) = made first l r

made_none : (first : ℤ) (o : Option Entry) → made_both first o None ≡ None
made_none first None = refl
made_none first (Some l) = refl

no_pair : {X : Type 0} (k : Bool) → ◌≡◌ {A = Option X} (cond k None None) None
no_pair true = refl
no_pair false = refl

-- ON PLAIN TIMES

same_first : (a b c : ℤ) → int_max (int_max a c) (int_max b c) ≡ int_max (int_max a b) c
same_first a b c = grind (arith, ints, clamps)

same_last : (a b c : ℤ) → int_min (int_min a c) (int_min b c) ≡ int_min (int_min a b) c
same_last a b c = grind (arith, ints, clamps)

not_before : (a b c : ℤ) → int_le c (int_max (int_max a c) (int_max b c)) ≡ true
not_before a b c = grind (arith, ints, clamps)

-- where one row has nothing of the range, both have nothing in common
none_first : (a b x y : ℤ) → int_lt a x ≡ false → int_lt (int_max a b) (int_min x y) ≡ false
none_first a b x y h = grind (arith, ints, clamps)

none_second : (a b x y : ℤ) → int_lt b y ≡ false → int_lt (int_max a b) (int_min x y) ≡ false
none_second a b x y h = grind (arith, ints, clamps)

cond_false : {X : Type 0} (k t : Bool) (x : Option X) → t ≡ false → cond k (cond t x None) None ≡ None
cond_false k true x h = absurd (cc)
cond_false k false x h = no_pair k

cond_both : {X : Type 0} (c k s t : Bool) (x : Option X) → c ≡ k → s ≡ true → cond k (cond t x None) None ≡ cond (c && (s && t)) x None
cond_both true true true t x e f = refl
cond_both false false true t x e f = refl
cond_both true false true t x e f = absurd (cc)
cond_both false true true t x e f = absurd (cc)
cond_both c k false t x e f = absurd (cc)

module _ (plan : JoinPlan) (version : ℕ) where
  abbrev over : ℕ → ℕ → plain.Period → plain.Period → Option Pair
  over i j p q = common_pair (span.Valid version plan.from plan.to) i j (Some p) (Some q)

  periods : (i j c d : ℕ) (k : Bool) (p q : plain.Period) → (is_some (entry_over plan i c (Some p)) ≡ true → is_some (entry_over plan j d (Some q)) ≡ true → (c == d) ≡ k)
      → cond k (over i j p q) None ≡ made_both plan.from (entry_over plan i c (Some p)) (entry_over plan j d (Some q))
  periods i j c d k p q agree = ap (λ z. cond k z None) common ∙ by_tests (int_lt a x) refl (int_lt b y) refl where
    a : ℤ
    a = int_max p.from plan.from

    b : ℤ
    b = int_max q.from plan.from

    x : ℤ
    x = int_min p.to plan.to

    y : ℤ
    y = int_min q.to plan.to

    l : Entry
    l = record { id = i; code = c; begin = a; end = x }

    r : Entry
    r = record { id = j; code = d; begin = b; end = y }

    pair : Pair
    pair = record { from = int_max a b; to = int_min x y; left = i; right = j }

    common : over i j p q ≡ pair_from i j (int_max a b) (int_min x y)
    common = ap (λ z. pair_from i j z (int_min (int_min p.to q.to) plan.to)) (sym (same_first p.from q.from plan.from)) ∙ ap (pair_from i j (int_max a b)) (sym (same_last p.to q.to plan.to))

    by_tests : (s : Bool) → int_lt a x ≡ s → (t : Bool) → int_lt b y ≡ t → cond k (cond (int_lt (int_max a b) (int_min x y)) (Some pair) None) None ≡ made_both plan.from (cond (int_lt a x) (Some l) None) (cond (int_lt b y) (Some r) None)
    by_tests false e t f = cond_false k (int_lt (int_max a b) (int_min x y)) (Some pair) (none_first a b x y e) ∙ ap (λ z. made_both plan.from (cond z (Some l) None) (cond (int_lt b y) (Some r) None)) (sym e)
    by_tests true e false f =
        cond_false k (int_lt (int_max a b) (int_min x y)) (Some pair) (none_second a b x y f) ∙ sym (made_none plan.from (cond (int_lt a x) (Some l) None))
        ∙ ap (λ z. made_both plan.from (cond (int_lt a x) (Some l) None) (cond z (Some r) None)) (sym f)
    by_tests true e true f =
        let left : cond (int_lt a x) (Some l) None ≡ Some l = ap (λ z. cond z (Some l) None) e in
        let right : cond (int_lt b y) (Some r) None ≡ Some r = ap (λ z. cond z (Some r) None) f in
        cond_both (c == d) k (int_le plan.from (int_max a b)) (int_lt (int_max a b) (int_min x y)) (Some pair) (agree (ap is_some left) (ap is_some right)) (not_before p.from q.from plan.from)
        ∙ ap (λ z. made_both plan.from z (Some r)) (sym left) ∙ ap (made_both plan.from (cond (int_lt a x) (Some l) None)) (sym right)

  maybe : (i j c d : ℕ) (k : Bool) (p q : Option plain.Period) → (is_some (entry_over plan i c p) ≡ true → is_some (entry_over plan j d q) ≡ true → (c == d) ≡ k)
      → cond k (common_pair (span.Valid version plan.from plan.to) i j p q) None ≡ made_both plan.from (entry_over plan i c p) (entry_over plan j d q)
  maybe i j c d k None q agree = no_pair k
  maybe i j c d k (Some p) None agree = no_pair k ∙ sym (made_none plan.from (entry_over plan i c (Some p)))
  maybe i j c d k (Some p) (Some q) agree = periods i j c d k p q agree

  -- the times of a row that stands or not, and the entry of one that stands and passes or not
  tested : (i j c d : ℕ) (a b k u w : Bool) (p q : Option plain.Period)
      → (is_some (cond (u && a) (entry_over plan i c p) None) ≡ true → is_some (cond (w && b) (entry_over plan j d q) None) ≡ true → (c == d) ≡ k)
      → cond (a && b && k) (common_pair (span.Valid version plan.from plan.to) i j (cond u p None) (cond w q None)) None ≡ made_both plan.from (cond (u && a) (entry_over plan i c p) None) (cond (w && b) (entry_over plan j d q) None)
  tested i j c d false b k true w p q agree = refl
  tested i j c d false b k false w p q agree = refl
  tested i j c d true false k true true p q agree = sym (made_none plan.from (entry_over plan i c p))
  tested i j c d true false k true false p q agree = sym (made_none plan.from (entry_over plan i c p))
  tested i j c d true false k false w p q agree = refl
  tested i j c d true true k false w p q agree = no_pair k
  tested i j c d true true k true false p q agree = unseen p where
    unseen : (p : Option plain.Period) → cond k (common_pair (span.Valid version plan.from plan.to) i j p None) None ≡ made_both plan.from (entry_over plan i c p) None
    unseen None = no_pair k
    unseen (Some p) = no_pair k ∙ sym (made_none plan.from (entry_over plan i c (Some p)))
  tested i j c d true true k true true p q agree = maybe i j c d k p q agree

-- ALL ROWS

module _ (plan : JoinPlan) (version : ℕ) (left_pred right_pred : TypedPred) (left_on right_on : ℕ) (keys : KeyNumbers) where
  abbrev of_rows : ℕ × plain.Row → ℕ × plain.Row → Option Pair
  of_rows = pair_of left_pred right_pred left_on right_on (span.Valid version plan.from plan.to)

  abbrev left_entry : ℕ × plain.Row → Option Entry
  left_entry = entry_in plan version left_pred left_on keys

  abbrev right_entry : ℕ × plain.Row → Option Entry
  right_entry = entry_in plan version right_pred right_on keys

  -- where both rows have entries, their keys are equal exactly where the numbers of these are
  abbrev pub Agree : ℕ × plain.Row → ℕ × plain.Row → Type 0
  Agree l r =
      is_some (left_entry l) ≡ true → is_some (right_entry r) ≡ true → (code_by keys left_on l.1 == code_by keys right_on r.1) ≡ same_key (cell_at l.1.cells left_on) (cell_at r.1.cells right_on)

  one_pair : (l r : ℕ × plain.Row) → Agree l r → of_rows l r ≡ made_both plan.from (left_entry l) (right_entry r)
  one_pair l r agree =
      tested plan version l.0 r.0 (code_by keys left_on l.1) (code_by keys right_on r.1) (passes left_pred l.1) (passes right_pred r.1) (same_key (cell_at l.1.cells left_on) (cell_at r.1.cells right_on))
      (is_visible version l.1) (is_visible version r.1) l.1.period r.1.period agree

  row_pairs : (l : ℕ × plain.Row) (rs : List (ℕ × plain.Row)) → AllByRecursion (Agree l) rs → filter_map (of_rows l) rs ≡ filter_map (λ r. made_both plan.from (left_entry l) (right_entry r)) rs
  row_pairs l [] h = refl
  row_pairs l (r ∷ rs) h = by_option (of_rows l r) refl (one_pair l r h.0) (row_pairs l rs h.1) where
    by_option : (o : Option Pair) → of_rows l r ≡ o → of_rows l r ≡ made_both plan.from (left_entry l) (right_entry r) → filter_map (of_rows l) rs ≡ filter_map (λ r. made_both plan.from (left_entry l) (right_entry r)) rs
        → filter_map (of_rows l) (r ∷ rs) ≡ filter_map (λ r. made_both plan.from (left_entry l) (right_entry r)) (r ∷ rs)
    by_option None e same later = let f : made_both plan.from (left_entry l) (right_entry r) ≡ None = sym same ∙ e in rw (e, f) later
    by_option (Some p) e same later = let f : made_both plan.from (left_entry l) (right_entry r) ≡ Some p = sym same ∙ e in rw (e, f) (ap (λ ps. p ∷ ps) later)

  -- the pairs of a left row that may have an entry
  abbrev of_entry : Option Entry → List Entry → List Pair
  of_entry None rs = []
  of_entry (Some l) rs = filter_map (made plan.from l) rs

  row_entries : (o : Option Entry) (rs : List (ℕ × plain.Row)) → filter_map (λ r. made_both plan.from o (right_entry r)) rs ≡ of_entry o (filter_map right_entry rs)
  row_entries None [] = refl
  row_entries (Some l) [] = refl
  row_entries None (r ∷ rs) = row_entries None rs
  row_entries (Some l) (r ∷ rs) = by_option (right_entry r) refl (row_entries (Some l) rs) where
    by_option : (o : Option Entry) → right_entry r ≡ o → filter_map (λ r. made_both plan.from (Some l) (right_entry r)) rs ≡ filter_map (made plan.from l) (filter_map right_entry rs)
        → filter_map (λ r. made_both plan.from (Some l) (right_entry r)) (r ∷ rs) ≡ filter_map (made plan.from l) (filter_map right_entry (r ∷ rs))
    by_option None f later = rw f later
    by_option (Some e) f later = by_pair (made plan.from l e) refl where
      by_pair : (o : Option Pair) → made plan.from l e ≡ o → filter_map (λ r. made_both plan.from (Some l) (right_entry r)) (r ∷ rs) ≡ filter_map (made plan.from l) (filter_map right_entry (r ∷ rs))
      by_pair None g = rw (f, g) later
      by_pair (Some pair) g = rw (f, g) (ap (λ ps. pair ∷ ps) later)

  grid_pairs : (ls rs : List (ℕ × plain.Row)) → AllByRecursion (λ l. AllByRecursion (Agree l) rs) ls → flat_map (λ l. filter_map (of_rows l) rs) ls ≡ grid plan.from (filter_map left_entry ls) (filter_map right_entry rs)
  grid_pairs [] rs h = refl
  grid_pairs (l ∷ ls) rs h =
      ap (λ ps. ps ++ flat_map (λ l. filter_map (of_rows l) rs) ls) (row_pairs l rs h.0 ∙ row_entries (left_entry l) rs)
      ∙ ap (λ ps. of_entry (left_entry l) (filter_map right_entry rs) ++ ps) (grid_pairs ls rs h.1)
      ∙ by_option (left_entry l) refl where
        by_option : (o : Option Entry) → left_entry l ≡ o → of_entry (left_entry l) (filter_map right_entry rs) ++ grid plan.from (filter_map left_entry ls) (filter_map right_entry rs) ≡ grid plan.from (filter_map left_entry (l ∷ ls)) (filter_map right_entry rs)
        by_option None e = rw e refl
        by_option (Some o) e = rw e refl

  -- the pairs of all rows are those of their entries
  pub pairs_made : (lefts rights : List plain.Row) → AllByRecursion (λ l. AllByRecursion (Agree l) (with_ids rights)) (with_ids lefts)
      → pairs_of left_pred right_pred left_on right_on (span.Valid version plan.from plan.to) lefts rights ≡ grid plan.from (entries_in plan version left_pred left_on keys lefts) (entries_in plan version right_pred right_on keys rights)
  pairs_made lefts rights h = grid_pairs (with_ids lefts) (with_ids rights) h

-- The pairs of a join that begin in a piece are those of the rows that are there in the piece.
use Rattle.std.proofs.Common.{◌≡◌, ℕ, pos, ◌≤◌, ◌<◌, Bool, true, false, ◌&&◌, ◌||◌, cond, ◌==◌, nat_le, nat_lt, int_le, int_lt, min, max, List, [], ◌∷◌, ◌++◌, Option, Some, None, refl, sym, ap, ◌∙◌, arith}
use Rattle.std.specs.List.{filter, filter_map, flat_map, AllByRecursion}
use Rattle.std.specs.Int.{int_min, int_max}
use Rattle.std.proofs.lemmas.Int.{ints, clamps}
use Rattle.std.proofs.lemmas.List.Elements.{filter-append}
use Rattle.tl_types.specs.declared.runs.Pair.{Pair}
use Rattle.tl_types.specs.History.{with_ids, cell_at}
use Rattle.tl_types.specs.Resolving.{same_key}
use Rattle.tl_types.specs.Plain as plain
use Rattle.tl_query.specs.declared.typed_queries.Span.TheVariants as span
use Rattle.tl_query.specs.declared.typed_queries.TypedPred.{TypedPred}
use Rattle.tl_query.specs.Passing.{passes}
use Rattle.tl_query.specs.Joins.{pair_of, pair_from, pairs_of}
use Rattle.tl_join.specs.declared.entries.Entry.{Entry}
use Rattle.tl_join.specs.Sweep.{made, grid}
use Rattle.tl_join.specs.Pieces.{is_in_piece, is_there, entry_of, entry_in, entries_in}

-- a pair, where it begins in the piece
abbrev pub piece_only : ℕ → ℕ → Option Pair → Option Pair
piece_only from to None = None
piece_only from to (Some pair) = cond (is_in_piece from to pair) (Some pair) None

-- the pair of two rows that may be there
abbrev pub made_in : ℕ → Option Entry → Option Entry → Option Pair
made_in first None o = None
made_in first (Some l) None = None
made_in first (Some l) (Some r) = made (pos first) l r

both_before : (f1 f2 a q : ℕ) → a < q → nat_lt (max (max f1 f2) a) q ≡ (nat_lt f1 q && nat_lt f2 q)
both_before f1 f2 a q h = grind (arith)

one_there : (f t x y p q : ℕ) → f ≤ x → x < y → y ≤ t → p ≤ x → p < q → ((nat_le f p && nat_lt p t) || (nat_lt p f && nat_lt f q)) ≡ nat_lt f q
one_there f t x y p q a b c d e = grind (arith)

same_first : (f1 f2 a : ℕ) → max (max f1 a) (max f2 a) ≡ max (max f1 f2) a
same_first f1 f2 a = omega arith

same_last : (t1 t2 b : ℕ) → min (min t1 b) (min t2 b) ≡ min (min t1 t2) b
same_last t1 t2 b = omega arith

table : (a b c d : Bool) → c ≡ a → d ≡ b → (a && b) ≡ (c && (d && (true && true)))
table true true c d e f = rw (e, f) refl
table true false c d e f = rw (e, f) refl
table false b c d e f = rw e refl

all_false : (a b : Bool) → false ≡ (a && (b && (false && true)))
all_false true true = refl
all_false true false = refl
all_false false b = refl

none : (t a b : Bool) → false ≡ (a && (b && (t && false)))
none true true true = refl
none false true true = refl
none t true false = refl
none t false b = refl

-- what two rows have in common begins in the piece exactly where both are there and it begins not before the piece
pub there_or_not : (f1 t1 f2 t2 a b p q : ℕ) → a ≤ p → p < q → q ≤ b → (nat_lt (max (max f1 f2) a) (min (min t1 t2) b) && (nat_le p (max (max f1 f2) a) && nat_lt (max (max f1 f2) a) q)) ≡ (((nat_le f1 p && nat_lt p t1) || (nat_lt p f1 && nat_lt f1 q)) && (((nat_le f2 p && nat_lt p t2) || (nat_lt p f2 && nat_lt f2 q)) && (nat_le p (max (max f1 f2) a) && nat_lt (max (max f1 f2) a) (min (min t1 t2) b))))
there_or_not f1 t1 f2 t2 a b p q h k n = by_tests (nat_lt (max (max f1 f2) a) (min (min t1 t2) b)) refl (nat_le p (max (max f1 f2) a)) refl where
  by_tests : (s : Bool) → nat_lt (max (max f1 f2) a) (min (min t1 t2) b) ≡ s → (t : Bool) → nat_le p (max (max f1 f2) a) ≡ t → (s && (t && nat_lt (max (max f1 f2) a) q)) ≡ (((nat_le f1 p && nat_lt p t1) || (nat_lt p f1 && nat_lt f1 q)) && (((nat_le f2 p && nat_lt p t2) || (nat_lt p f2 && nat_lt f2 q)) && (t && s)))
  by_tests true c true d =
      let some : max (max f1 f2) a < min (min t1 t2) b = grind arith in
      let late : p ≤ max (max f1 f2) a = grind arith in
      let one = one_there f1 t1 (max (max f1 f2) a) (min (min t1 t2) b) p q (omega arith) some (omega arith) late k in
      let two = one_there f2 t2 (max (max f1 f2) a) (min (min t1 t2) b) p q (omega arith) some (omega arith) late k in
      both_before f1 f2 a q (omega (arith, h, k)) ∙ table (nat_lt f1 q) (nat_lt f2 q) _ _ one two
  by_tests true c false d = all_false _ _
  by_tests false c t d = none t _ _

piece_from : (x y p q i j : ℕ) → piece_only p q (pair_from i j (pos x) (pos y)) ≡ cond (nat_lt x y && (nat_le p x && nat_lt x q)) (Some (record { from = pos x; to = pos y; left = i; right = j })) None
piece_from x y p q i j = by_test (nat_lt x y) where
  by_test : (t : Bool) → piece_only p q (cond t (Some (record { from = pos x; to = pos y; left = i; right = j })) None) ≡ cond (t && (nat_le p x && nat_lt x q)) (Some (record { from = pos x; to = pos y; left = i; right = j })) None
  by_test true = refl
  by_test false = refl

-- the pairs of a left row that may be there with right rows
abbrev pub of_entry : ℕ → Option Entry → List Entry → List Pair
of_entry p None rs = []
of_entry p (Some l) rs = filter_map (made (pos p) l) rs

made_conds : (p : ℕ) (x y : Bool) (l r : Entry) → made_in p (cond x (Some l) None) (cond y (Some r) None) ≡ cond x (cond y (made (pos p) l r) None) None
made_conds p true true l r = refl
made_conds p true false l r = refl
made_conds p false y l r = refl

no_pair : {X : Type 0} (k : Bool) → ◌≡◌ {A = Option X} (cond k None None) None
no_pair true = refl
no_pair false = refl

tests_agree : {X : Type 0} (s t k c u v w : Bool) (x : Option X) → ((s && u) ≡ true → (t && v) ≡ true → c ≡ k) → cond (s && t && k) (cond (u && (v && w)) x None) None ≡ cond (s && u) (cond (t && v) (cond (c && w) x None) None) None
tests_agree false t k c u v w x h = refl
tests_agree true false k c true v w x h = refl
tests_agree true false k c false v w x h = refl
tests_agree true true k c false v w x h = no_pair k
tests_agree true true k c true false w x h = no_pair k
tests_agree true true true c true true w x h = rw (h refl refl) refl
tests_agree true true false c true true w x h = rw (h refl refl) refl

pub greatest : (m n : ℕ) → int_max (pos m) (pos n) ≡ pos (max m n)
greatest m n = grind (arith, ints, clamps)

pub least : (m n : ℕ) → int_min (pos m) (pos n) ≡ pos (min m n)
least m n = grind (arith, ints, clamps)

piece_cond : (p q : ℕ) (t : Bool) (o : Option Pair) → piece_only p q (cond t o None) ≡ cond t (piece_only p q o) None
piece_cond p q true o = refl
piece_cond p q false o = refl

module _ (a b p q : ℕ) (after : a ≤ p) (some : p < q) (inside : q ≤ b) (left_pred right_pred : TypedPred) (left_on right_on : ℕ) (left_code right_code : plain.Row → ℕ) where
  abbrev of_rows : ℕ × plain.Row → ℕ × plain.Row → Option Pair
  of_rows = pair_of left_pred right_pred left_on right_on (span.System a b)

  abbrev left_entry : ℕ × plain.Row → Option Entry
  left_entry = entry_in a b p q left_pred left_code

  abbrev right_entry : ℕ × plain.Row → Option Entry
  right_entry = entry_in a b p q right_pred right_code

  -- the row passes and is there
  abbrev stays : TypedPred → ℕ × plain.Row → Bool
  stays pred r = passes pred r.1 && is_there p q r.1

  -- where both rows are there, their keys are equal exactly where the numbers of these are
  abbrev pub Agree : ℕ × plain.Row → ℕ × plain.Row → Type 0
  Agree l r = stays left_pred l ≡ true → stays right_pred r ≡ true → (left_code l.1 == right_code r.1) ≡ same_key (cell_at l.1.cells left_on) (cell_at r.1.cells right_on)

  one_of_piece : (l r : ℕ × plain.Row) → Agree l r → piece_only p q (of_rows l r) ≡ made_in p (left_entry l) (right_entry r)
  one_of_piece l r h =
      let x = max (max l.1.from r.1.from) a in
      let y = min (min l.1.to r.1.to) b in
      let s = passes left_pred l.1 in
      let t = passes right_pred r.1 in
      let k = same_key (cell_at l.1.cells left_on) (cell_at r.1.cells right_on) in
      let u = is_there p q l.1 in
      let v = is_there p q r.1 in
      let pair : Option Pair = Some (record { from = pos x; to = pos y; left = l.0; right = r.0 }) in
      let first : int_max (int_max (pos l.1.from) (pos r.1.from)) (pos a) ≡ pos x = ap (λ z. int_max z (pos a)) (greatest l.1.from r.1.from) ∙ greatest (max l.1.from r.1.from) a in
      let last : int_min (int_min (pos l.1.to) (pos r.1.to)) (pos b) ≡ pos y = ap (λ z. int_min z (pos b)) (least l.1.to r.1.to) ∙ least (min l.1.to r.1.to) b in
      let one : of_rows l r ≡ cond (s && t && k) (pair_from l.0 r.0 (pos x) (pos y)) None = ap (λ z. cond (s && t && k) (pair_from l.0 r.0 z (int_min (int_min (pos l.1.to) (pos r.1.to)) (pos b))) None) first ∙ ap (λ z. cond (s && t && k) (pair_from l.0 r.0 (pos x) z) None) last in
      let two : piece_only p q (of_rows l r) ≡ cond (s && t && k) (cond (nat_lt x y && (nat_le p x && nat_lt x q)) pair None) None = ap (piece_only p q) one ∙ piece_cond p q (s && t && k) (pair_from l.0 r.0 (pos x) (pos y)) ∙ ap (λ z. cond (s && t && k) z None) (piece_from x y p q l.0 r.0) in
      let c = left_code l.1 == right_code r.1 in
      let begins : int_max (pos (max l.1.from a)) (pos (max r.1.from a)) ≡ pos x = greatest (max l.1.from a) (max r.1.from a) ∙ ap pos (same_first l.1.from r.1.from a) in
      let ends : int_min (pos (min l.1.to b)) (pos (min r.1.to b)) ≡ pos y = least (min l.1.to b) (min r.1.to b) ∙ ap pos (same_last l.1.to r.1.to b) in
      let three : made (pos p) (entry_of a b left_code l) (entry_of a b right_code r) ≡ cond (c && (nat_le p x && nat_lt x y)) pair None =
      ap (λ z. cond (c && (int_le (pos p) z && int_lt z (int_min (pos (min l.1.to b)) (pos (min r.1.to b))))) (Some (record { from = z; to = int_min (pos (min l.1.to b)) (pos (min r.1.to b)); left = l.0; right = r.0 })) None) begins
      ∙ ap (λ z. cond (c && (int_le (pos p) (pos x) && int_lt (pos x) z)) (Some (record { from = pos x; to = z; left = l.0; right = r.0 })) None) ends in
      two
      ∙ ap (λ z. cond (s && t && k) (cond z pair None) None) (there_or_not l.1.from l.1.to r.1.from r.1.to a b p q after some inside)
      ∙ tests_agree s t k c u v (nat_le p x && nat_lt x y) pair h
      ∙ ap (λ z. cond (s && u) (cond (t && v) z None) None) (sym three)
      ∙ sym (made_conds p (s && u) (t && v) (entry_of a b left_code l) (entry_of a b right_code r))

  row_of_piece : (l : ℕ × plain.Row) (rs : List (ℕ × plain.Row)) → AllByRecursion (Agree l) rs → filter (is_in_piece p q) (filter_map (of_rows l) rs) ≡ filter_map (λ r. made_in p (left_entry l) (right_entry r)) rs
  row_of_piece l [] h = refl
  row_of_piece l (r ∷ rs) h = by_option (of_rows l r) refl (row_of_piece l rs h.1) (one_of_piece l r h.0) where
    by_option : (o : Option Pair) → of_rows l r ≡ o → filter (is_in_piece p q) (filter_map (of_rows l) rs) ≡ filter_map (λ r. made_in p (left_entry l) (right_entry r)) rs → piece_only p q (of_rows l r) ≡ made_in p (left_entry l) (right_entry r) → filter (is_in_piece p q) (filter_map (of_rows l) (r ∷ rs)) ≡ filter_map (λ r. made_in p (left_entry l) (right_entry r)) (r ∷ rs)
    by_option None e later here =
        let gone : made_in p (left_entry l) (right_entry r) ≡ None = sym here ∙ ap (piece_only p q) e in
        rw (e, gone) later
    by_option (Some pair) e later here = by_test (is_in_piece p q pair) refl where
      by_test : (t : Bool) → is_in_piece p q pair ≡ t → filter (is_in_piece p q) (filter_map (of_rows l) (r ∷ rs)) ≡ filter_map (λ r. made_in p (left_entry l) (right_entry r)) (r ∷ rs)
      by_test true f =
          let kept : made_in p (left_entry l) (right_entry r) ≡ Some pair = sym here ∙ ap (piece_only p q) e ∙ ap (λ t. cond t (Some pair) None) f in
          rw (e, f, kept) (ap (λ ps. pair ∷ ps) later)
      by_test false f =
          let gone : made_in p (left_entry l) (right_entry r) ≡ None = sym here ∙ ap (piece_only p q) e ∙ ap (λ t. cond t (Some pair) None) f in
          rw (e, f, gone) later

  row_entries : (l : ℕ × plain.Row) (rs : List (ℕ × plain.Row)) (o : Option Entry) → left_entry l ≡ o → filter_map (λ r. made_in p (left_entry l) (right_entry r)) rs ≡ of_entry p o (filter_map right_entry rs)
  row_entries l [] None e = refl
  row_entries l [] (Some le) e = refl
  row_entries l (r ∷ rs) None e = rw e (row_entries l rs None e)
  row_entries l (r ∷ rs) (Some le) e = by_option (right_entry r) refl (row_entries l rs (Some le) e) where
    by_option : (o : Option Entry) → right_entry r ≡ o → filter_map (λ r. made_in p (left_entry l) (right_entry r)) rs ≡ filter_map (made (pos p) le) (filter_map right_entry rs) → filter_map (λ r. made_in p (left_entry l) (right_entry r)) (r ∷ rs) ≡ filter_map (made (pos p) le) (filter_map right_entry (r ∷ rs))
    by_option None f later = rw (e, f) later
    by_option (Some re) f later = by_pair (made (pos p) le re) refl where
      by_pair : (o : Option Pair) → made (pos p) le re ≡ o → filter_map (λ r. made_in p (left_entry l) (right_entry r)) (r ∷ rs) ≡ filter_map (made (pos p) le) (filter_map right_entry (r ∷ rs))
      by_pair None g = rw (e, f, g) later
      by_pair (Some pair) g = rw (e, f, g) (ap (λ ps. pair ∷ ps) later)

  -- the pairs of all rows that begin in the piece are those of the rows that are there
  pub grid_of_piece : (ls rs : List (ℕ × plain.Row)) → AllByRecursion (λ l. AllByRecursion (Agree l) rs) ls → filter (is_in_piece p q) (flat_map (λ l. filter_map (of_rows l) rs) ls) ≡ grid (pos p) (filter_map left_entry ls) (filter_map right_entry rs)
  grid_of_piece [] rs h = refl
  grid_of_piece (l ∷ ls) rs h = filter-append (is_in_piece p q) (filter_map (of_rows l) rs) (flat_map (λ l. filter_map (of_rows l) rs) ls) ∙ by_option (left_entry l) refl (row_of_piece l rs h.0) (grid_of_piece ls rs h.1) where
    by_option : (o : Option Entry) → left_entry l ≡ o → filter (is_in_piece p q) (filter_map (of_rows l) rs) ≡ filter_map (λ r. made_in p (left_entry l) (right_entry r)) rs → filter (is_in_piece p q) (flat_map (λ l. filter_map (of_rows l) rs) ls) ≡ grid (pos p) (filter_map left_entry ls) (filter_map right_entry rs) → filter (is_in_piece p q) (filter_map (of_rows l) rs) ++ filter (is_in_piece p q) (flat_map (λ l. filter_map (of_rows l) rs) ls) ≡ grid (pos p) (filter_map left_entry (l ∷ ls)) (filter_map right_entry rs)
    by_option None e here later =
        let first : filter (is_in_piece p q) (filter_map (of_rows l) rs) ≡ [] = here ∙ row_entries l rs None e in
        rw e (ap (λ ps. ps ++ filter (is_in_piece p q) (flat_map (λ l. filter_map (of_rows l) rs) ls)) first ∙ later)
    by_option (Some le) e here later =
        let first : filter (is_in_piece p q) (filter_map (of_rows l) rs) ≡ filter_map (made (pos p) le) (filter_map right_entry rs) = here ∙ row_entries l rs (Some le) e in
        rw e (ap (λ ps. ps ++ filter (is_in_piece p q) (flat_map (λ l. filter_map (of_rows l) rs) ls)) first ∙ ap (λ ps. filter_map (made (pos p) le) (filter_map right_entry rs) ++ ps) later)

  pub law_of_piece : (lefts rights : List plain.Row) → AllByRecursion (λ l. AllByRecursion (Agree l) (with_ids rights)) (with_ids lefts) → filter (is_in_piece p q) (pairs_of left_pred right_pred left_on right_on (span.System a b) lefts rights) ≡ grid (pos p) (entries_in a b p q left_pred left_code lefts) (entries_in a b p q right_pred right_code rights)
  law_of_piece lefts rights h = grid_of_piece (with_ids lefts) (with_ids rights) h

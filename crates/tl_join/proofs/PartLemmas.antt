-- The pairs of pieces that follow on each other are those of both, and the pairs of the whole range are all.
use Rattle.std.proofs.Common.{◌≡◌, ℕ, pos, ◌≤◌, ℤ, Bool, true, false, ◌&&◌, cond, int_le, int_lt, List, [], ◌∷◌, ◌++◌, Option, Some, None, refl, sym, ap, ◌∙◌, subst, arith}
use Rattle.std.specs.Int.{int_min, int_max}
use Rattle.std.specs.List.{filter, filter_map, flat_map, fold, AllByRecursion}
use Rattle.std.specs.Cmp.{IsStrictWeakOrder}
use Rattle.std.specs.Ordering.{is_lt}
use Rattle.std.proofs.lemmas.Int.{ints, clamps}
use Rattle.std.proofs.lemmas.List.Elements.{filter-append}
use Rattle.std.proofs.lemmas.List.Sorted.{ranks_by}
use Rattle.tl_types.specs.declared.runs.Pair.{Pair}
use Rattle.tl_types.specs.declared.runs.Piece.{Piece}
use Rattle.tl_types.specs.History.{with_ids, rows_of}
use Rattle.tl_types.specs.Plain as plain
use Rattle.tl_query.specs.declared.typed_queries.JoinPlan.{JoinPlan}
use Rattle.tl_query.specs.declared.typed_queries.Span.TheVariants as span
use Rattle.tl_query.specs.declared.typed_queries.TypedPred.{TypedPred}
use Rattle.tl_query.specs.Joins.{joined_pairs, match_rows, pair_of, pairs_of}
use Rattle.tl_query.specs.Ordered.{in_order, inserted, pair_before}
use Rattle.tl_query.proofs.PairOrder.{pair_order, pair_total, part_in_order, same_order}
use Rattle.tl_query.proofs.Sorting.{Ascends, NoneBefore, ascends_inserted}
use Rattle.tl_join.specs.Pieces.{is_in_piece, pairs_in}

-- LISTS IN ORDER ASCEND

module _ {X : Type 0} (lt : X → X → Bool) (o : IsStrictWeakOrder lt) where
  all_in_order : (us vs : List X) → Ascends lt us → Ascends lt (fold (λ ws x. inserted lt x ws) us vs)
  all_in_order us [] up = up
  all_in_order us (v ∷ vs) up = all_in_order (inserted lt v us) vs (ascends_inserted lt o v us up)

pairs_ascend : (ps : List Pair) → Ascends pair_before (in_order pair_before ps)
pairs_ascend ps = subst (λ lt. Ascends lt (in_order lt ps)) same_order (all_in_order (λ p q. is_lt (pair_order p q)) (ranks_by pair_total (λ p. p)) [] ps tt)

-- TWO PIECES

late : (m : ℕ) (p : Pair) (ps : List Pair) → int_lt p.from (pos m) ≡ false → NoneBefore pair_before p ps → AllByRecursion (λ q. int_lt q.from (pos m) ≡ false) ps
late m p [] h none = tt
late m p (q ∷ ps) h none = (later (int_lt q.from (pos m)) refl none.0, late m p ps h none.1) where
  later : (t : Bool) → int_lt q.from (pos m) ≡ t → pair_before q p ≡ false → int_lt q.from (pos m) ≡ false
  later false e k = e
  later true e k = absurd (let before : int_lt q.from p.from ≡ true = grind (arith, ints) in let all : pair_before q p ≡ true = rw before refl in cc)

none_early : (a m : ℕ) (ps : List Pair) → AllByRecursion (λ q. int_lt q.from (pos m) ≡ false) ps → filter (is_in_piece a m) ps ≡ []
none_early a m [] h = refl
none_early a m (p ∷ ps) h =
    let gone : is_in_piece a m p ≡ false = by_test (int_le (pos a) p.from) (int_lt p.from (pos m)) h.0 in
    rw gone (none_early a m ps h.1) where
      by_test : (s t : Bool) → t ≡ false → (s && t) ≡ false
      by_test true t e = e
      by_test false t e = refl

-- of pairs in order, those of two pieces that follow on each other are those of both
two_pieces : (a m b : ℕ) (ps : List Pair) → a ≤ m → m ≤ b → Ascends pair_before ps → filter (is_in_piece a m) ps ++ filter (is_in_piece m b) ps ≡ filter (is_in_piece a b) ps
two_pieces a m b [] h k up = refl
two_pieces a m b (p ∷ ps) h k up = by_tests (int_le (pos a) p.from) refl (int_lt p.from (pos m)) refl (int_lt p.from (pos b)) refl (two_pieces a m b ps h k up.1) where
  by_tests : (s : Bool) → int_le (pos a) p.from ≡ s → (t : Bool) → int_lt p.from (pos m) ≡ t → (u : Bool) → int_lt p.from (pos b) ≡ u → filter (is_in_piece a m) ps ++ filter (is_in_piece m b) ps ≡ filter (is_in_piece a b) ps → filter (is_in_piece a m) (p ∷ ps) ++ filter (is_in_piece m b) (p ∷ ps) ≡ filter (is_in_piece a b) (p ∷ ps)
  by_tests true e true f u g later =
      let x : int_lt p.from (pos b) ≡ true = grind (arith, ints) in
      let y : int_le (pos m) p.from ≡ false = grind (arith, ints) in
      rw (e, f, x, y) (ap (λ qs. p ∷ qs) later)
  by_tests false e true f u g later =
      let y : int_le (pos m) p.from ≡ false = grind (arith, ints) in
      rw (e, y) later
  by_tests s e false f u g later =
      let front : filter (is_in_piece a m) (p ∷ ps) ≡ [] = none_early a m (p ∷ ps) (f, late m p ps f up.0) in
      let rest : filter (is_in_piece a m) ps ≡ [] = none_early a m ps (late m p ps f up.0) in
      let x : int_le (pos a) p.from ≡ true = grind (arith, ints) in
      let y : int_le (pos m) p.from ≡ true = grind (arith, ints) in
      let same : filter (is_in_piece m b) ps ≡ filter (is_in_piece a b) ps = ap (λ qs. qs ++ filter (is_in_piece m b) ps) (sym rest) ∙ later in
      ap (λ qs. qs ++ filter (is_in_piece m b) (p ∷ ps)) front ∙ rw (x, y) (ap (λ qs. cond (int_lt p.from (pos b)) (p ∷ qs) qs) same)

pub pieces_join : (db : plain.Database) (plan : JoinPlan) (left_pred right_pred : TypedPred) (a b : ℕ) (first second both : Piece) → first.from ≡ both.from → first.to ≡ second.from → second.to ≡ both.to → pairs_in db plan first left_pred right_pred a b ++ pairs_in db plan second left_pred right_pred a b ≡ pairs_in db plan both left_pred right_pred a b
unfolding pairs_in joined_pairs
pieces_join db plan left_pred right_pred a b first second both e f g =
    let pairs = in_order pair_before (pairs_of left_pred right_pred plan.left_on plan.right_on (span.System a b) (rows_of db plan.left) (rows_of db plan.right)) in
    let one = first.some in
    let two = second.some in
    ap (λ n. filter (is_in_piece first.from first.to) pairs ++ filter (is_in_piece n second.to) pairs) (sym f)
    ∙ two_pieces first.from first.to second.to pairs (omega (arith, one)) (omega (arith, two, f)) (pairs_ascend (pairs_of left_pred right_pred plan.left_on plan.right_on (span.System a b) (rows_of db plan.left) (rows_of db plan.right)))
    ∙ ap (λ n. filter (is_in_piece n second.to) pairs) e
    ∙ ap (λ n. filter (is_in_piece both.from n) pairs) g

-- THE WHOLE RANGE

some_is : {X : Type 0} {x y : X} → Some x ≡ Some y → x ≡ y
some_is h = cc

module _ (left_pred right_pred : TypedPred) (left_on right_on a b : ℕ) where
  abbrev made_by : ℕ × plain.Row → ℕ × plain.Row → Option Pair
  made_by = pair_of left_pred right_pred left_on right_on (span.System a b)

  from_in : (x y z w : ℤ) (i j : ℕ) (p : Pair) (t : Bool) → int_lt (int_max x (pos a)) (int_min y (pos b)) ≡ t → cond t (Some (record { from = int_max x (pos a); to = int_min y (pos b); left = i; right = j })) None ≡ Some p → is_in_piece a b p ≡ true
  from_in x y z w i j p false e h = absurd (cc)
  from_in x y z w i j p true e h =
      let q : (record { from = int_max x (pos a); to = int_min y (pos b); left = i; right = j }) ≡ p = some_is h in
      let f : int_max x (pos a) ≡ p.from = ap (λ (r : Pair). r.from) q in
      let g : int_le (pos a) (int_max x (pos a)) ≡ true = grind (arith, ints, clamps) in
      let k : int_lt (int_max x (pos a)) (pos b) ≡ true = grind (arith, ints, clamps) in
      subst (λ z. (int_le (pos a) z && int_lt z (pos b)) ≡ true) f (rw (g, k) refl)

  all_in : (l r : ℕ × plain.Row) (p : Pair) → made_by l r ≡ Some p → is_in_piece a b p ≡ true
  all_in l r p h = by_test (match_rows left_pred right_pred left_on right_on l.1 r.1) h where
    by_test : (t : Bool) → cond t (cond (int_lt (int_max (int_max (pos l.1.from) (pos r.1.from)) (pos a)) (int_min (int_min (pos l.1.to) (pos r.1.to)) (pos b))) (Some (record { from = int_max (int_max (pos l.1.from) (pos r.1.from)) (pos a); to = int_min (int_min (pos l.1.to) (pos r.1.to)) (pos b); left = l.0; right = r.0 })) None) None ≡ Some p → is_in_piece a b p ≡ true
    by_test false h = absurd (cc)
    by_test true h = from_in (int_max (pos l.1.from) (pos r.1.from)) (int_min (pos l.1.to) (pos r.1.to)) (pos 0) (pos 0) l.0 r.0 p (int_lt (int_max (int_max (pos l.1.from) (pos r.1.from)) (pos a)) (int_min (int_min (pos l.1.to) (pos r.1.to)) (pos b))) refl h

  row_in : (l : ℕ × plain.Row) (rs : List (ℕ × plain.Row)) → filter (is_in_piece a b) (filter_map (made_by l) rs) ≡ filter_map (made_by l) rs
  row_in l [] = refl
  row_in l (r ∷ rs) = by_option (made_by l r) refl (row_in l rs) where
    by_option : (o : Option Pair) → made_by l r ≡ o → filter (is_in_piece a b) (filter_map (made_by l) rs) ≡ filter_map (made_by l) rs → filter (is_in_piece a b) (filter_map (made_by l) (r ∷ rs)) ≡ filter_map (made_by l) (r ∷ rs)
    by_option None e later = rw e later
    by_option (Some p) e later = let t = all_in l r p e in rw (e, t) (ap (λ ps. p ∷ ps) later)

  grid_in : (ls rs : List (ℕ × plain.Row)) → filter (is_in_piece a b) (flat_map (λ l. filter_map (made_by l) rs) ls) ≡ flat_map (λ l. filter_map (made_by l) rs) ls
  grid_in [] rs = refl
  grid_in (l ∷ ls) rs = filter-append (is_in_piece a b) (filter_map (made_by l) rs) (flat_map (λ l. filter_map (made_by l) rs) ls) ∙ ap (λ ps. ps ++ filter (is_in_piece a b) (flat_map (λ l. filter_map (made_by l) rs) ls)) (row_in l rs) ∙ ap (λ ps. filter_map (made_by l) rs ++ ps) (grid_in ls rs)

  pairs_all_in : (lefts rights : List plain.Row) → filter (is_in_piece a b) (in_order pair_before (pairs_of left_pred right_pred left_on right_on (span.System a b) lefts rights)) ≡ in_order pair_before (pairs_of left_pred right_pred left_on right_on (span.System a b) lefts rights)
  pairs_all_in lefts rights = part_in_order left_pred right_pred left_on right_on (span.System a b) (is_in_piece a b) lefts rights ∙ ap (in_order pair_before) (grid_in (with_ids lefts) (with_ids rights))

pub whole_range : (db : plain.Database) (plan : JoinPlan) (left_pred right_pred : TypedPred) (a b : ℕ) (piece : Piece) → piece.from ≡ a → piece.to ≡ b → pairs_in db plan piece left_pred right_pred a b ≡ joined_pairs db plan.left left_pred plan.right right_pred plan.left_on plan.right_on (span.System a b)
unfolding pairs_in joined_pairs
whole_range db plan left_pred right_pred a b piece e f =
    let pairs = in_order pair_before (pairs_of left_pred right_pred plan.left_on plan.right_on (span.System a b) (rows_of db plan.left) (rows_of db plan.right)) in
    ap (λ n. filter (is_in_piece n piece.to) pairs) e ∙ ap (λ n. filter (is_in_piece a n) pairs) f ∙ pairs_all_in left_pred right_pred plan.left_on plan.right_on a b (rows_of db plan.left) (rows_of db plan.right)

pub ruleset laws_of_pieces = (pieces_join, whole_range)

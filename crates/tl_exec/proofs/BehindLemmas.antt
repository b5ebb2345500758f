-- The pairs of pieces behind each other, and what a side of a join takes.
use Rattle.std.proofs.Common.{◌≡◌, ℕ, suc, ◌+◌, ◌-◌, ◌*◌, ◌≤◌, Bool, true, false, ◌&&◌, List, [], ◌∷◌, ◌++◌, length, Some, slice_get, refl, ap, sym, subst, ◌∙◌, arith}
use Rattle.std.specs.List.{flat_map, filter}
use Rattle.std.proofs.lemmas.List.{append-nil, length-drop, length-map}
use Rattle.tl_types.specs.declared.runs.Pair.{Pair}
use Rattle.tl_types.specs.declared.runs.Piece.{Piece}
use Rattle.tl_types.specs.Plain as plain
use Rattle.tl_types.specs.Events.{events_of, place_of, ids_from}
use Rattle.tl_types.specs.History.{rows_of, is_visible, visible_rows}
use Rattle.tl_types.specs.Walks.{events_between}
use Rattle.tl_query.specs.declared.typed_queries.JoinPlan.{JoinPlan}
use Rattle.tl_query.specs.declared.typed_queries.TypedPred.{TypedPred}
use Rattle.tl_query.specs.Passing.{passes}
use Rattle.tl_bits.specs.Sets.{members}
use Rattle.tl_travel.specs.Bounds.{begun_words, map_digits}
use Rattle.tl_range.specs.Dividing.{Follow}
use Rattle.tl_travel.specs.Bounds.{events_after_mark}
use Rattle.tl_join.specs.Pieces.{pairs_in, starting, AreOf}
use Rattle.tl_join.specs.There.{side_bound}
use Rattle.tl_join.proofs.PartLemmas.{pieces_join, whole_range}
use Rattle.tl_query.specs.declared.typed_queries.Span.TheVariants as span
use Rattle.tl_query.specs.Joins.{joined_pairs}
use Rattle.tl_exec.specs.Joining.{JoinOf, joined_in, IsBetween, IsWithin, ArePairsOver}
use Rattle.tl_exec.specs.JoinBounds.{side_steps, pairs_steps, passing_steps, columns_of_both, join_steps}
use Rattle.tl_exec.specs.Shown.{rows_in_set}
use Rattle.tl_exec.proofs.SelectLemmas.{chosen_shown}

-- PIECES BEHIND EACH OTHER

-- pieces that follow on each other do not go back
follow_up : (from to : ℕ) (pieces : List Piece) → Follow from to pieces → from ≤ to
follow_up from to [] f = omega (arith, f)
follow_up from to (p ∷ pieces) f = let some = p.some in let e = f.0 in let more = follow_up p.to to pieces f.1 in omega arith

module _ (db : plain.Database) (plan : JoinPlan) (left_pred right_pred : TypedPred) (a b : ℕ) where
  abbrev over : Piece → List Pair
  over piece = pairs_in db plan piece left_pred right_pred a b

  same_ends : (p q : Piece) → p.from ≡ q.from → p.to ≡ q.to → over p ≡ over q
  unfolding pairs_in
  same_ends p q e f = rw (e, f) refl

  -- the parts are those of pieces that are within the range
  abbrev AreOver : List Piece → List (List Pair) → Type 0
  AreOver pieces parts = (i : ℕ) (p : Piece) (part : List Pair) → slice_get pieces i ≡ Some p → slice_get parts i ≡ Some part → a ≤ p.from → p.to ≤ b → part ≡ over p

  behind : (p : Piece) (pieces : List Piece) (part : List Pair) (parts : List (List Pair)) (whole : Piece) → length parts ≡ length pieces → a ≤ whole.from → whole.to ≤ b
      → Follow whole.from whole.to (p ∷ pieces) → AreOver (p ∷ pieces) (part ∷ parts) → flat_map (λ (ps : List Pair). ps) (part ∷ parts) ≡ over whole
  behind p [] part [] whole many low high follow are =
      let here : part ≡ over p = are 0 p part refl refl (let e = follow.0 in omega arith) (let e = follow.1 in omega arith) in
      append-nil part ∙ here ∙ same_ends p whole follow.0 follow.1
  behind p [] part (next ∷ parts) whole many low high follow are = absurd (omega arith)
  behind p (q ∷ pieces) part [] whole many low high follow are = absurd (omega arith)
  behind p (q ∷ pieces) part (next ∷ parts) whole many low high follow are =
      let e = follow.0 in
      let later = follow.1 in
      let f = later.0 in
      let some = q.some in
      let first = p.some in
      let up = follow_up q.to whole.to pieces later.1 in
      let rest : Piece = record { from = p.to; to = whole.to; some = omega arith } in
      let here : part ≡ over p = are 0 p part refl refl (omega arith) (omega arith) in
      ap (λ ps. part ++ ps) (behind q pieces next parts rest (omega arith) (omega arith) high later (λ i s out at there. are (suc i) s out at there))
      ∙ ap (λ ps. ps ++ over rest) here
      ∙ pieces_join db plan left_pred right_pred a b p rest whole follow.0 refl refl

-- the parts of pieces that cover a join's range are its pairs
pub all_behind : (join : JoinOf) (pieces : List Piece) (parts : List (List Pair)) → length parts ≡ length pieces → Follow join.range.from join.range.to pieces
    → ((i : ℕ) (p : Piece) (part : List Pair) → slice_get pieces i ≡ Some p → slice_get parts i ≡ Some part → IsWithin join p → ArePairsOver join p part)
    → ArePairsOver join join.range (flat_map (λ (ps : List Pair). ps) parts)
all_behind join [] parts many follow are left_pred right_pred between = absurd (let some = join.range.some in omega (arith, some, follow))
all_behind join (p ∷ pieces) [] many follow are left_pred right_pred between = absurd (omega arith)
all_behind join (p ∷ pieces) (part ∷ parts) many follow are left_pred right_pred between =
    behind (joined_in join) join.plan left_pred right_pred join.range.from join.range.to p pieces part parts join.range (omega arith) (omega arith) (omega arith) follow
    (λ i q out at there low high. are i q out at there (record { from = low; to = high }) left_pred right_pred between)

-- WHAT A SIDE TAKES

members_count : (n : ℕ) (set : List Bool) (rows : List plain.Row) → length set ≡ length rows → length (ids_from n (λ member. member) set) ≡ length (rows_in_set set rows)
members_count n [] [] e = refl
members_count n [] (row ∷ rows) e = absurd (omega arith)
members_count n (b ∷ set) [] e = absurd (omega arith)
members_count n (true ∷ set) (row ∷ rows) e = ap (λ k. suc k) (members_count (n + 1) set rows (omega arith))
members_count n (false ∷ set) (row ∷ rows) e = members_count (n + 1) set rows (omega arith)

pub side_is : (db : plain.Database) (table from to : ℕ) (pred : TypedPred) (start : List Bool) → start ≡ starting from pred (rows_of db table)
    → side_bound (rows_of db table) db.version from to start
    ≡ 5 * length (events_between (rows_of db table) from (to - 1)) + 4 * length (filter (λ r. passes pred r.1) (visible_rows db table from)) + 2 * begun_words db table + 2 * map_digits db table + 2
side_is db table from to pred start is =
    let rows = rows_of db table in
    let long : length start ≡ length rows = ap length is ∙ length-map rows (λ row. is_visible from row && passes pred row) in
    let e : length (events_between rows from (to - 1)) ≡ place_of rows (to - 1) - place_of rows from = length-drop (place_of rows from) (events_of rows (to - 1)) in
    let m : length (members start) ≡ length (filter (λ r. passes pred r.1) (visible_rows db table from)) = members_count 0 start rows long ∙ chosen_shown db table pred from start is in
    rw (e, m, long) refl

-- ONE PIECE

-- the start sets of a piece are those of a join's predicates
pub are_of : (join : JoinOf) (piece : Piece) (left_pred right_pred : TypedPred) (lefts rights : List Bool) → IsBetween join left_pred right_pred
    → lefts ≡ starting piece.from left_pred (rows_of (joined_in join) join.plan.left) → rights ≡ starting piece.from right_pred (rows_of (joined_in join) join.plan.right)
    → AreOf (joined_in join) join.plan piece lefts join.left_keep rights join.right_keep left_pred right_pred join.range.from join.range.to
are_of join piece left_pred right_pred lefts rights between ls rs = record {
  from = between.from;
  to = between.to;
  left_keeps = between.lefts;
  left_starts = ls;
  right_keeps = between.rights;
  right_starts = rs;
}

-- what both sides take is within the bound
pub piece_within : (join : JoinOf) (piece : Piece) (left_pred right_pred : TypedPred) (lefts rights : List Bool) (before first second after : ℕ)
    → lefts ≡ starting piece.from left_pred (rows_of (joined_in join) join.plan.left) → rights ≡ starting piece.from right_pred (rows_of (joined_in join) join.plan.right)
    → first ≤ before + events_after_mark join.entries join.plan.left piece.from + 3 * begun_words (joined_in join) join.plan.left + 2 * map_digits (joined_in join) join.plan.left
    → second ≤ first + events_after_mark join.entries join.plan.right piece.from + 3 * begun_words (joined_in join) join.plan.right + 2 * map_digits (joined_in join) join.plan.right
    → after ≤ second + (side_bound (rows_of (joined_in join) join.plan.left) (joined_in join).version piece.from piece.to lefts
    + side_bound (rows_of (joined_in join) join.plan.right) (joined_in join).version piece.from piece.to rights)
    → after ≤ before + pairs_steps join piece left_pred right_pred
piece_within join piece left_pred right_pred lefts rights before first second after ls rs one two three =
    let db = joined_in join in
    let e = side_is db join.plan.left piece.from piece.to left_pred lefts ls in
    let f = side_is db join.plan.right piece.from piece.to right_pred rights rs in
    sum before first second after (side_bound (rows_of db join.plan.left) db.version piece.from piece.to lefts) (side_bound (rows_of db join.plan.right) db.version piece.from piece.to rights)
    (events_after_mark join.entries join.plan.left piece.from) (events_after_mark join.entries join.plan.right piece.from)
    (length (events_between (rows_of db join.plan.left) piece.from (piece.to - 1))) (length (events_between (rows_of db join.plan.right) piece.from (piece.to - 1)))
    (length (filter (λ r. passes left_pred r.1) (visible_rows db join.plan.left piece.from))) (length (filter (λ r. passes right_pred r.1) (visible_rows db join.plan.right piece.from)))
    (begun_words db join.plan.left) (begun_words db join.plan.right) (map_digits db join.plan.left) (map_digits db join.plan.right) e f one two three where
      sum : (before first second after x y a a' e e' r r' w w' s s' : ℕ) → x ≡ 5 * e + 4 * r + 2 * w + 2 * s + 2 → y ≡ 5 * e' + 4 * r' + 2 * w' + 2 * s' + 2
          → first ≤ before + a + 3 * w + 2 * s → second ≤ first + a' + 3 * w' + 2 * s' → after ≤ second + (x + y)
          → after ≤ before + ((a + 5 * e + 4 * r + 5 * w + 4 * s + 2) + (a' + 5 * e' + 4 * r' + 5 * w' + 4 * s' + 2))
      sum before first second after x y a a' e e' r r' w w' s s' p q one two three = omega arith

-- before the second side it is within it too
pub early_within : (join : JoinOf) (piece : Piece) (left_pred right_pred : TypedPred) (before first second : ℕ)
    → first ≤ before + events_after_mark join.entries join.plan.left piece.from + 3 * begun_words (joined_in join) join.plan.left + 2 * map_digits (joined_in join) join.plan.left
    → second ≤ first + events_after_mark join.entries join.plan.right piece.from + 3 * begun_words (joined_in join) join.plan.right + 2 * map_digits (joined_in join) join.plan.right
    → second ≤ before + pairs_steps join piece left_pred right_pred
early_within join piece left_pred right_pred before first second one two =
    let db = joined_in join in
    sum before first second (events_after_mark join.entries join.plan.left piece.from) (events_after_mark join.entries join.plan.right piece.from)
    (length (events_between (rows_of db join.plan.left) piece.from (piece.to - 1))) (length (events_between (rows_of db join.plan.right) piece.from (piece.to - 1)))
    (length (filter (λ r. passes left_pred r.1) (visible_rows db join.plan.left piece.from))) (length (filter (λ r. passes right_pred r.1) (visible_rows db join.plan.right piece.from)))
    (begun_words db join.plan.left) (begun_words db join.plan.right) (map_digits db join.plan.left) (map_digits db join.plan.right) one two where
      sum : (before first second a a' e e' r r' w w' s s' : ℕ)
          → first ≤ before + a + 3 * w + 2 * s → second ≤ first + a' + 3 * w' + 2 * s'
          → second ≤ before + ((a + 5 * e + 4 * r + 5 * w + 4 * s + 2) + (a' + 5 * e' + 4 * r' + 5 * w' + 4 * s' + 2))
      sum before first second a a' e e' r r' w w' s s' one two = omega arith

-- THE WHOLE JOIN

pub all_joined : (join : JoinOf) (pairs : List Pair) (left_pred right_pred : TypedPred) → IsBetween join left_pred right_pred → ArePairsOver join join.range pairs
    → pairs ≡ joined_pairs (joined_in join) join.plan.left left_pred join.plan.right right_pred join.plan.left_on join.plan.right_on (span.System join.range.from join.range.to)
all_joined join pairs left_pred right_pred between are =
    are left_pred right_pred between ∙ whole_range (joined_in join) join.plan left_pred right_pred join.range.from join.range.to join.range refl refl

-- what is known of a join that was made
pub over_same : (made join : JoinOf) (pairs : List Pair) → made ≡ join → ArePairsOver made made.range pairs → ArePairsOver join join.range pairs
over_same made join pairs e h = subst (λ (j : JoinOf). ArePairsOver j j.range pairs) e h

pub steps_same : (made join : JoinOf) (before after : ℕ) (left_pred right_pred : TypedPred) → made ≡ join → IsBetween join left_pred right_pred
    → (IsBetween made left_pred right_pred → after ≤ before + pairs_steps made made.range left_pred right_pred) → after ≤ before + pairs_steps join join.range left_pred right_pred
steps_same made join before after left_pred right_pred e between h =
    subst (λ (j : JoinOf). after ≤ before + pairs_steps j j.range left_pred right_pred) e (h (subst (λ (j : JoinOf). IsBetween j left_pred right_pred) (sym e) between))

-- it is within its bound, and before its pairs are shown it is too
pub join_within : (join : JoinOf) (pairs : List Pair) (left_pred right_pred : TypedPred) (before first second third after : ℕ)
    → first ≤ before + passing_steps join.entries join.plan.left left_pred → second ≤ first + passing_steps join.entries join.plan.right right_pred
    → third ≤ second + pairs_steps join join.range left_pred right_pred → after ≤ third + columns_of_both (joined_in join) join.plan.left join.plan.right * length pairs
    → pairs ≡ joined_pairs (joined_in join) join.plan.left left_pred join.plan.right right_pred join.plan.left_on join.plan.right_on (span.System join.range.from join.range.to)
    → after ≤ before + join_steps join.entries join.plan.left left_pred join.plan.right right_pred join.plan.left_on join.plan.right_on join.range.from join.range.to
join_within join pairs left_pred right_pred before first second third after one two three four are =
    let all = joined_pairs (joined_in join) join.plan.left left_pred join.plan.right right_pred join.plan.left_on join.plan.right_on (span.System join.range.from join.range.to) in
    let same : columns_of_both (joined_in join) join.plan.left join.plan.right * length pairs ≡ columns_of_both (joined_in join) join.plan.left join.plan.right * length all = ap (λ (ps : List Pair). columns_of_both (joined_in join) join.plan.left join.plan.right * length ps) are in
    sum before first second third after (passing_steps join.entries join.plan.left left_pred) (passing_steps join.entries join.plan.right right_pred)
    (side_steps join.entries join.plan.left left_pred join.range.from join.range.to) (side_steps join.entries join.plan.right right_pred join.range.from join.range.to)
    (columns_of_both (joined_in join) join.plan.left join.plan.right * length pairs) (columns_of_both (joined_in join) join.plan.left join.plan.right * length all) one two three four same where
      sum : (before first second third after p q s t m n : ℕ) → first ≤ before + p → second ≤ first + q → third ≤ second + (s + t) → after ≤ third + m → m ≡ n → after ≤ before + (p + s + (q + t) + n)
      sum before first second third after p q s t m n one two three four same = omega arith

pub pairs_within : (join : JoinOf) (left_pred right_pred : TypedPred) (before first second third : ℕ)
    → first ≤ before + passing_steps join.entries join.plan.left left_pred → second ≤ first + passing_steps join.entries join.plan.right right_pred
    → third ≤ second + pairs_steps join join.range left_pred right_pred
    → third ≤ before + join_steps join.entries join.plan.left left_pred join.plan.right right_pred join.plan.left_on join.plan.right_on join.range.from join.range.to
pairs_within join left_pred right_pred before first second third one two three =
    let all = joined_pairs (joined_in join) join.plan.left left_pred join.plan.right right_pred join.plan.left_on join.plan.right_on (span.System join.range.from join.range.to) in
    sum before first second third (passing_steps join.entries join.plan.left left_pred) (passing_steps join.entries join.plan.right right_pred)
    (side_steps join.entries join.plan.left left_pred join.range.from join.range.to) (side_steps join.entries join.plan.right right_pred join.range.from join.range.to)
    (columns_of_both (joined_in join) join.plan.left join.plan.right * length all) one two three where
      sum : (before first second third p q s t n : ℕ) → first ≤ before + p → second ≤ first + q → third ≤ second + (s + t) → third ≤ before + (p + s + (q + t) + n)
      sum before first second third p q s t n one two three = omega arith

-- What a walk over the entries of both sides finds is the piece's part of the join.
use Rattle.std.proofs.Common.{◌≡◌, ℕ, ℤ, pos, ◌+◌, ◌≤◌, ◌<◌, ◌≤ℤ◌, Bool, List, [], ◌∷◌, length, refl, sym, ap, ◌∙◌, subst, arith, slice_get}
use Rattle.std.proofs.lemmas.Int.{ints}
use Rattle.std.proofs.lemmas.List.{length-map}
use Rattle.std.specs.List.{filter, AllByRecursion}
use Rattle.tl_types.specs.declared.runs.Pair.{Pair}
use Rattle.tl_types.specs.declared.runs.Piece.{Piece}
use Rattle.tl_types.specs.History.{database_of, with_ids, rows_of, cell_at}
use Rattle.tl_types.specs.Plain as plain
use Rattle.tl_query.specs.declared.typed_queries.JoinPlan.{JoinPlan}
use Rattle.tl_query.specs.declared.typed_queries.Span.TheVariants as span
use Rattle.tl_query.specs.declared.typed_queries.TypedPred.{TypedPred}
use Rattle.tl_query.specs.Joins.{joined_pairs, pairs_of}
use Rattle.tl_query.specs.Ordered.{in_order, pair_before}
use Rattle.tl_join.specs.declared.entries.Entry.{Entry}
use Rattle.tl_join.specs.Sweep.{Rises, AreOne, grid}
use Rattle.tl_join.specs.declared.sides.Side.{Side}
use Rattle.tl_keys.specs.Keys.{KeyNumbers, AreApart}
use Rattle.tl_join.specs.Pieces.{is_in_piece, entries_in, starting, pairs_in}
use Rattle.tl_query.specs.Passing.{passing}
use Rattle.tl_join.specs.Sides.{IsSide, IsEntryOf, ids_in, side_rows, last_in}
use Rattle.tl_join.specs.There.{ids_there}
use Rattle.tl_join.proofs.IdLemmas.{ids_are}
use Rattle.tl_join.proofs.EntryLemmas.{AreEntries, IsKnown, code_by, entries_are, entries_rise, entries_one}
use Rattle.tl_keys.proofs.KeyLemmas.{numbers_agree}
use Rattle.tl_join.proofs.LawLemmas.{Agree, law_of_piece}
use Rattle.tl_query.proofs.PairOrder.{part_in_order}

-- the entries are those of the rows of one side, for a walk
pub record Ready (plan : JoinPlan) (a b p q : ℕ) (from : plan.from ≡ pos a) (to : plan.to ≡ pos b) (pred : TypedPred) (side : Side) (keys : KeyNumbers) (es : List Entry) : Type 0 where
  pub entries : AreEntries plan a b p q from to pred side.column keys 0 (side_rows side) es
  pub rise : Rises es
  pub one : AreOne es

pub ready : (plan : JoinPlan) (a b p q : ℕ) (from : plan.from ≡ pos a) (to : plan.to ≡ pos b) (pred : TypedPred) (side : Side) (keys : KeyNumbers) (es : List Entry) → a ≤ p → p < q → q ≤ b → q ≤ last_in side + 1 → IsSide side → side.start.now ≡ starting p pred (side_rows side) → side.keep.now ≡ passing pred (side_rows side) → AreApart keys → ids_in es ≡ ids_there (side_rows side) (last_in side) p q side.start.now side.keep.now → AllByRecursion (IsEntryOf side plan keys) es → Ready plan a b p q from to pred side keys es
ready plan a b p q from to pred side keys es after some inside within is start keep apart ids all =
    let rows = side_rows side in
    let entries = entries_are plan a b p q from to pred side.column keys after some inside apart (last_in side) rows rows 0 es is.formed (λ k. let e : 0 + k ≡ k = omega arith in ap (slice_get rows) e) (ids ∙ ids_are pred rows p is.order (last_in side) q side.start.now side.keep.now some within start keep) all in
    record {
      entries = entries;
      rise = subst Rises (sym entries.are) (entries_rise plan a b p q from to pred side.column keys 0 0 rows is.order);
      one = subst AreOne (sym entries.are) (entries_one plan a b p q from to pred side.column keys 0 rows);
    }

module _ (plan : JoinPlan) (a b p q : ℕ) (from : plan.from ≡ pos a) (to : plan.to ≡ pos b) (after : a ≤ p) (some : p < q) (inside : q ≤ b) (left_pred right_pred : TypedPred) (keys : KeyNumbers) (apart : AreApart keys) (left_on right_on : ℕ) where
  abbrev left_code : plain.Row → ℕ
  left_code = code_by keys left_on

  abbrev right_code : plain.Row → ℕ
  right_code = code_by keys right_on

  abbrev Agreed : ℕ × plain.Row → ℕ × plain.Row → Type 0
  Agreed = Agree a b p q after some inside left_pred right_pred left_on right_on left_code right_code

  agree_one : (l : ℕ × plain.Row) (rs : List (ℕ × plain.Row)) → IsKnown plan a b p q from to left_pred left_on keys l → AllByRecursion (IsKnown plan a b p q from to right_pred right_on keys) rs → AllByRecursion (Agreed l) rs
  agree_one l [] k all = tt
  agree_one l (r ∷ rs) k all = (λ s t. numbers_agree keys apart (cell_at l.1.cells left_on) (cell_at r.1.cells right_on) (left_code l.1) (right_code r.1) (k s) (all.0 t), agree_one l rs k all.1)

  agree_all : (ls rs : List (ℕ × plain.Row)) → AllByRecursion (IsKnown plan a b p q from to left_pred left_on keys) ls → AllByRecursion (IsKnown plan a b p q from to right_pred right_on keys) rs → AllByRecursion (λ l. AllByRecursion (Agreed l) rs) ls
  agree_all [] rs k all = tt
  agree_all (l ∷ ls) rs k all = (agree_one l rs k.0 all, agree_all ls rs k.1 all)

  pub part_found : (lefts rights : List plain.Row) (les res : List Entry) (pairs : List Pair) → AreEntries plan a b p q from to left_pred left_on keys 0 lefts les → AreEntries plan a b p q from to right_pred right_on keys 0 rights res → pairs ≡ in_order pair_before (grid (pos p) les res) → pairs ≡ filter (is_in_piece p q) (in_order pair_before (pairs_of left_pred right_pred left_on right_on (span.System a b) lefts rights))
  part_found lefts rights les res pairs left right is =
      is
      ∙ ap (λ es. in_order pair_before (grid (pos p) es res)) left.are
      ∙ ap (λ es. in_order pair_before (grid (pos p) (entries_in a b p q left_pred left_code lefts) es)) right.are
      ∙ ap (in_order pair_before) (sym (law_of_piece a b p q after some inside left_pred right_pred left_on right_on left_code right_code lefts rights (agree_all (with_ids lefts) (with_ids rights) left.known right.known)))
      ∙ sym (part_in_order left_pred right_pred left_on right_on (span.System a b) (is_in_piece p q) lefts rights)

pub pairs_in_is : (db : plain.Database) (plan : JoinPlan) (piece : Piece) (left_pred right_pred : TypedPred) (a b : ℕ) → filter (is_in_piece piece.from piece.to) (in_order pair_before (pairs_of left_pred right_pred plan.left_on plan.right_on (span.System a b) (rows_of db plan.left) (rows_of db plan.right))) ≡ pairs_in db plan piece left_pred right_pred a b
unfolding pairs_in joined_pairs
pairs_in_is db plan piece left_pred right_pred a b = refl

-- the sets have as many rows as their tables
pub starting_long : (version : ℕ) (pred : TypedPred) (rows : List plain.Row) (set : List Bool) → set ≡ starting version pred rows → length set ≡ length rows
starting_long version pred rows set is = ap length is ∙ length-map rows _

pub passing_long : (pred : TypedPred) (rows : List plain.Row) (set : List Bool) → set ≡ passing pred rows → length set ≡ length rows
passing_long pred rows set is = ap length is ∙ length-map rows _

-- a side's rows are those of its table
rows_are : (db : plain.Database) (side : Side) (table : ℕ) → database_of side.store.now ≡ db → side.table ≡ table → side_rows side ≡ rows_of db table
rows_are db side table s t = ap (λ d. rows_of d side.table) s ∙ ap (rows_of db) t

before_is : (x : ℤ) (a p : ℕ) → x ≡ pos a → x ≤ℤ pos p → a ≤ p
before_is x a p e h = omega (arith, ints, e, h)

behind_is : (x : ℤ) (b q : ℕ) → x ≡ pos b → pos q ≤ℤ x → q ≤ b
behind_is x b q e h = omega (arith, ints, e, h)

module _ (db : plain.Database) (plan : JoinPlan) (piece : Piece) (a b : ℕ) (from : plan.from ≡ pos a) (to : plan.to ≡ pos b) (first : plan.from ≤ℤ pos piece.from) (last : pos piece.to ≤ℤ plan.to) (keys : KeyNumbers) (apart : AreApart keys) where
  abbrev pub ReadySide : TypedPred → Side → List Entry → Type 0
  ReadySide pred side es = Ready plan a b piece.from piece.to from to pred side keys es

  -- the entries of a side of the plan
  pub side_ready : (pred : TypedPred) (side : Side) (es got : List Entry) (table : ℕ) (start keep : List Bool) → database_of side.store.now ≡ db → side.table ≡ table → side.start.now ≡ start → side.keep.now ≡ keep → piece.to ≤ db.version + 1 → IsSide side → start ≡ starting piece.from pred (rows_of db table) → keep ≡ passing pred (rows_of db table) → got ≡ es → ids_in es ≡ ids_there (side_rows side) (last_in side) piece.from piece.to side.start.now side.keep.now → AllByRecursion (IsEntryOf side plan keys) es → ReadySide pred side got
  side_ready pred side es got table start keep store number starts keeps within is start_is keep_is same ids all =
      let rows = rows_are db side table store number in
      let version : last_in side ≡ db.version = ap (λ (d : plain.Database). d.version) store in
      rw same (ready plan a b piece.from piece.to from to pred side keys es (before_is plan.from a piece.from from first) piece.some (behind_is plan.to b piece.to to last) (omega (arith, version, within)) is (starts ∙ start_is ∙ ap (starting piece.from pred) (sym rows)) (keeps ∙ keep_is ∙ ap (passing pred) (sym rows)) apart ids all)

  -- what the walk finds
  pub pairs_found : (left_pred right_pred : TypedPred) (left right : Side) (les res : List Entry) (pairs : List Pair) → database_of left.store.now ≡ db → left.table ≡ plan.left → left.column ≡ plan.left_on → database_of right.store.now ≡ db → right.table ≡ plan.right → right.column ≡ plan.right_on → ReadySide left_pred left les → ReadySide right_pred right res → pairs ≡ in_order pair_before (grid (pos piece.from) les res) → pairs ≡ pairs_in db plan piece left_pred right_pred a b
  pairs_found left_pred right_pred left right les res pairs left_store left_table left_column right_store right_table right_column left_ready right_ready is =
      let part : ℕ → ℕ → List plain.Row → List plain.Row → List Pair = (λ left_on. λ right_on. λ lefts. λ rights. filter (is_in_piece piece.from piece.to) (in_order pair_before (pairs_of left_pred right_pred left_on right_on (span.System a b) lefts rights))) in
      part_found plan a b piece.from piece.to from to (before_is plan.from a piece.from from first) piece.some (behind_is plan.to b piece.to to last) left_pred right_pred keys apart left.column right.column (side_rows left) (side_rows right) les res pairs left_ready.entries right_ready.entries is
      ∙ ap (λ n. part n right.column (side_rows left) (side_rows right)) left_column
      ∙ ap (λ n. part plan.left_on n (side_rows left) (side_rows right)) right_column
      ∙ ap (λ rows. part plan.left_on plan.right_on rows (side_rows right)) (rows_are db left plan.left left_store left_table)
      ∙ ap (λ rows. part plan.left_on plan.right_on (rows_of db plan.left) rows) (rows_are db right plan.right right_store right_table)
      ∙ pairs_in_is db plan piece left_pred right_pred a b

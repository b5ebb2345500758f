-- What a walk over the entries of both sides finds are the pairs of the join.
use Rattle.std.proofs.Common.{◌≡◌, ℕ, ◌<◌, Bool, true, List, [], ◌∷◌, length, Option, Some, None, is_some, refl, sym, ap, ◌∙◌, subst, slice_get}
use Rattle.std.specs.List.{filter_map, AllByRecursion}
use Rattle.std.proofs.lemmas.Option.{slice_get_within}
use Rattle.tl_types.specs.declared.events.ValidEvent.{ValidEvent}
use Rattle.tl_types.specs.declared.runs.Pair.{Pair}
use Rattle.tl_types.specs.Checkpoints.{valid_events_in, AreEventsOf}
use Rattle.tl_types.specs.History.{database_of, with_ids, rows_of, cell_at}
use Rattle.tl_types.specs.Plain as plain
use Rattle.tl_query.specs.declared.typed_queries.JoinPlan.{JoinPlan}
use Rattle.tl_query.specs.declared.typed_queries.Span.TheVariants as span
use Rattle.tl_query.specs.declared.typed_queries.TypedPred.{TypedPred}
use Rattle.tl_query.specs.Joins.{joined_pairs}
use Rattle.tl_query.specs.Ordered.{in_order, pair_before}
use Rattle.tl_store.specs.Reading.{has_periods, has_periods_table}
use Rattle.tl_index.proofs.ChangeLemmas.{rises_valid}
use Rattle.tl_join.specs.declared.entries.Entry.{Entry}
use Rattle.tl_join.specs.Sweep.{AreSame, IsEntry, Rises, AreOne, grid}
use Rattle.tl_keys.specs.Keys.{KeyNumbers, KeepsNumbers, AreApart}
use Rattle.tl_keys.proofs.KeyLemmas.{numbers_agree}
use Rattle.tl_join.specs.declared.valid_sides.Side.{Side}
use Rattle.tl_join.specs.ValidEntries.{code_by, HasNumber, entry_in, entries_in, IsKnown}
use Rattle.tl_query.specs.Passing.{passing}
use Rattle.tl_join.specs.ValidSides.{side_rows, AreEntries}
use Rattle.tl_join.proofs.ValidEventLemmas.{begins_valid}
use Rattle.tl_join.proofs.ValidEntryLemmas.{entries_fit, entries_one, entries_rise, entries_same, rows_one, rows_known}
use Rattle.tl_join.proofs.ValidGridLemmas.{Agree, pairs_made}

pub table_there : (db : plain.Database) (table : ℕ) → has_periods db table ≡ true → table < length db.tables
table_there db table h = by_table (slice_get db.tables table) refl h where
  by_table : (o : Option plain.Table) → slice_get db.tables table ≡ o → has_periods_table o ≡ true → table < length db.tables
  by_table None e h = absurd (cc)
  by_table (Some t) e h = slice_get_within db.tables table t e

-- FOR A WALK

-- the entries are fit for a walk
pub record Ready (keys : KeyNumbers) (es : List Entry) : Type 0 where
  pub fit : AllByRecursion (IsEntry keys.count) es
  pub rise : Rises es
  pub one : AreOne es

ready : (side : Side) (plan : JoinPlan) (now keys : KeyNumbers) (events : List ValidEvent) (es got : List Entry) → AreEventsOf (side_rows side) events → AreApart keys → KeepsNumbers now keys → AreEntries side plan now events es → got ≡ es → Ready keys got
ready side plan now keys events es got of apart keeps all same =
    let rows = side_rows side in
    let w = all keys keeps in
    let is : got ≡ filter_map _ (valid_events_in rows of.version) = same ∙ w.0 ∙ ap (filter_map _) of.are in
    let known = subst (AllByRecursion (IsKnown plan rows side.column side.keep.now keys)) of.are w.1 in
    record {
      fit = subst (AllByRecursion (IsEntry keys.count)) (sym is) (entries_fit plan side.column keys rows side.keep.now (valid_events_in rows of.version) apart known);
      rise = subst Rises (sym is) (entries_rise plan side.column keys rows side.keep.now (valid_events_in rows of.version) (rises_valid rows of.version) (begins_valid rows of.version));
      one = subst AreOne (sym is) (entries_one plan side.column keys rows side.keep.now (valid_events_in rows of.version) known);
    }

-- a side's rows are those of its table
rows_are : (db : plain.Database) (side : Side) (table : ℕ) → database_of side.store.now ≡ db → side.table ≡ table → side_rows side ≡ rows_of db table
rows_are db side table store number = ap (λ d. rows_of d side.table) store ∙ ap (rows_of db) number

pub side_events : (db : plain.Database) (side : Side) (table : ℕ) (events : List ValidEvent) → database_of side.store.now ≡ db → side.table ≡ table → AreEventsOf (rows_of db table) events → AreEventsOf (side_rows side) events
side_events db side table events store number of = subst (λ rows. AreEventsOf rows events) (sym (rows_are db side table store number)) of

pub side_ready : (db : plain.Database) (side : Side) (plan : JoinPlan) (now keys : KeyNumbers) (events : List ValidEvent) (es got : List Entry) (table : ℕ) → database_of side.store.now ≡ db → side.table ≡ table → AreEventsOf (rows_of db table) events → AreApart keys → KeepsNumbers now keys → AreEntries side plan now events es → got ≡ es → Ready keys got
side_ready db side plan now keys events es got table store number of apart keeps all same = ready side plan now keys events es got (side_events db side table events store number of) apart keeps all same

-- THE ROWS OF A VERSION

-- the entries are those of the rows that stand at a version and pass
pub record AreOfRows (plan : JoinPlan) (version : ℕ) (pred : TypedPred) (column : ℕ) (keys : KeyNumbers) (rows : List plain.Row) (es : List Entry) : Type 0 where
  pub same : AreSame es (entries_in plan version pred column keys rows)
  pub one : AreOne (entries_in plan version pred column keys rows)
  pub known : AllByRecursion (λ (r : ℕ × plain.Row). is_some (entry_in plan version pred column keys r) ≡ true → HasNumber keys column (Some r.1)) (with_ids rows)

of_version : (side : Side) (plan : JoinPlan) (version : ℕ) (pred : TypedPred) (now keys : KeyNumbers) (events : List ValidEvent) (es got : List Entry) → KeepsNumbers now keys → AreEntries side plan now events es → got ≡ es → side.keep.now ≡ passing pred (side_rows side) → events ≡ valid_events_in (side_rows side) version
    → AreOfRows plan version pred side.column keys (side_rows side) got
of_version side plan version pred now keys events es got keeps all same keep_is events_are =
    let rows = side_rows side in
    let w = all keys keeps in
    let is : got ≡ filter_map _ (valid_events_in rows version) = same ∙ w.0 ∙ ap (filter_map _) events_are in
    record {
      same = subst (λ xs. AreSame xs (entries_in plan version pred side.column keys rows)) (sym is) (entries_same plan side.column keys rows side.keep.now version pred keep_is);
      one = rows_one plan side.column keys rows side.keep.now version pred keep_is;
      known = rows_known plan side.column keys rows side.keep.now version pred keep_is (subst (AllByRecursion (IsKnown plan rows side.column side.keep.now keys)) events_are w.1);
    }

-- the entries of a side of the plan
pub entries_of_side : (db : plain.Database) (side : Side) (plan : JoinPlan) (version : ℕ) (pred : TypedPred) (now keys : KeyNumbers) (events : List ValidEvent) (keep : List Bool) (es got : List Entry) (table column : ℕ) → database_of side.store.now ≡ db → side.table ≡ table → side.column ≡ column → side.keep.now ≡ keep → KeepsNumbers now keys
    → AreEntries side plan now events es → got ≡ es → keep ≡ passing pred (rows_of db table) → events ≡ valid_events_in (rows_of db table) version → AreOfRows plan version pred column keys (rows_of db table) got
entries_of_side db side plan version pred now keys events keep es got table column store number place set keeps all same keep_is events_are =
    let rows = rows_are db side table store number in
    subst (λ n. AreOfRows plan version pred n keys (rows_of db table) got) place (subst (λ rs. AreOfRows plan version pred side.column keys rs got) rows
    (of_version side plan version pred now keys events es got keeps all same (set ∙ keep_is ∙ ap (passing pred) (sym rows)) (events_are ∙ ap (λ rs. valid_events_in rs version) (sym rows))))

-- ALL PAIRS

module _ (plan : JoinPlan) (version : ℕ) (left_pred right_pred : TypedPred) (keys : KeyNumbers) (apart : AreApart keys) where
  abbrev Known : TypedPred → ℕ → ℕ × plain.Row → Type 0
  Known pred column r = is_some (entry_in plan version pred column keys r) ≡ true → HasNumber keys column (Some r.1)

  abbrev Agreed : ℕ × plain.Row → ℕ × plain.Row → Type 0
  Agreed = Agree plan version left_pred right_pred plan.left_on plan.right_on keys

  agree_one : (l : ℕ × plain.Row) (rs : List (ℕ × plain.Row)) → Known left_pred plan.left_on l → AllByRecursion (Known right_pred plan.right_on) rs → AllByRecursion (Agreed l) rs
  agree_one l [] k all = tt
  agree_one l (r ∷ rs) k all =
      (λ s t. numbers_agree keys apart (cell_at l.1.cells plan.left_on) (cell_at r.1.cells plan.right_on) (code_by keys plan.left_on l.1) (code_by keys plan.right_on r.1) (k s) (all.0 t), agree_one l rs k all.1)

  agree_all : (ls rs : List (ℕ × plain.Row)) → AllByRecursion (Known left_pred plan.left_on) ls → AllByRecursion (Known right_pred plan.right_on) rs → AllByRecursion (λ l. AllByRecursion (Agreed l) rs) ls
  agree_all [] rs k all = tt
  agree_all (l ∷ ls) rs k all = (agree_one l rs k.0 all, agree_all ls rs k.1 all)

  -- what the walk finds, where it finds the pairs of the same entries in any order
  pub pairs_found : (db : plain.Database) (les res : List Entry) (pairs : List Pair) → AreOfRows plan version left_pred plan.left_on keys (rows_of db plan.left) les → AreOfRows plan version right_pred plan.right_on keys (rows_of db plan.right) res
      → ((ls rs : List Entry) → AreSame les ls → AreSame res rs → AreOne ls → AreOne rs → pairs ≡ in_order pair_before (grid plan.from ls rs))
      → pairs ≡ joined_pairs db plan.left left_pred plan.right right_pred plan.left_on plan.right_on (span.Valid version plan.from plan.to)
  unfolding joined_pairs
  pairs_found db les res pairs left right any =
      let lefts = rows_of db plan.left in
      let rights = rows_of db plan.right in
      any (entries_in plan version left_pred plan.left_on keys lefts) (entries_in plan version right_pred plan.right_on keys rights) left.same right.same left.one right.one
      ∙ ap (in_order pair_before) (sym (pairs_made plan version left_pred right_pred plan.left_on plan.right_on keys lefts rights (agree_all (with_ids lefts) (with_ids rights) left.known right.known)))

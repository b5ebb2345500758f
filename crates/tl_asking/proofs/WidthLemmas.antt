-- How many fields the rows of an answer have: as many as its columns have names.
use Rattle.std.proofs.Common.{◌≡◌, ℕ, zero, suc, ◌+◌, ℤ, pos, ◌+ℤ◌, Bool, true, false, cond, ◌==◌, not, List, [], ◌∷◌, ◌++◌, length, map, Option, Some, None, refl, sym, ap, ◌∙◌, subst, arith, slice_get, length-append}
use Rattle.std.proofs.lemmas.List.{length-map}
use Rattle.std.specs.Prelude.{codes, is_some, ◌-ℤ◌}
use Rattle.std.specs.List.{enumerate_from, filter, filter_map, flat_map, fold, AllByRecursion}
use Rattle.std.specs.Option.{option_map}
use Rattle.tl_types.specs.declared.answers.Field.{Field}
use Rattle.tl_types.specs.declared.cells.Cell.{Cell}
use Rattle.tl_types.specs.declared.commits.Commit.{Commit}
use Rattle.tl_types.specs.declared.runs.Pair.{Pair}
use Rattle.tl_types.specs.declared.runs.Run.{Run}
use Rattle.tl_types.specs.declared.schemas.Column.{Column}
use Rattle.tl_types.specs.History.{database_of, rows_of, visible_rows}
use Rattle.tl_types.specs.Legality.{FitInTurn}
use Rattle.tl_types.specs.Limits.{standard_limits}
use Rattle.tl_types.specs.Plain as plain
use Rattle.tl_types.specs.Runs.{add_stretch, runs_of, runs_over, same_field, stretch_of, count_of}
use Rattle.tl_store.specs.Reading.{columns_of}
use Rattle.tl_query.specs.declared.ast.AggKind.{AggKind}
use Rattle.tl_query.specs.declared.typed_queries.Span.{Span}
use Rattle.tl_query.specs.declared.typed_queries.Typed.{Typed}
use Rattle.tl_query.specs.declared.typed_queries.Typed.TheVariants as typed
use Rattle.tl_query.specs.declared.typed_queries.TypedItem.{TypedItem}
use Rattle.tl_query.specs.declared.typed_queries.TypedPred.{TypedPred}
use Rattle.tl_query.specs.Aggregates.{aggregate_of, aggregate_runs, group_at, group_runs, in_group, passing_at, runs_in, span_end, span_start, with_rows}
use Rattle.tl_query.specs.Answers.{at_moment, cells_of, cells_with, group_fields, pair_fields, run_fields}
use Rattle.tl_query.specs.Fields.{cell_field, item_field, moment_field, row_fields}
use Rattle.tl_query.specs.Joins.{common_pair, joined_pairs, match_rows, pair_of, pairs_of, times_of}
use Rattle.tl_query.specs.Ordered.{in_order, inserted, pair_before, values_of}
use Rattle.tl_query.specs.Passing.{passes}
use Rattle.tl_query.specs.TypedFor.{IsTypedFor, is_typed_agg, is_typed_join, is_typed_select, schema_at}
use Rattle.tl_exec.proofs.FullLemmas.{full_row}
use Rattle.tl_asking.specs.Names.{bound_names, column_name, group_names, item_name, left_names, names_of, names_under, right_name, right_names, select_names, HasNamedRows, IsNamedBy}

-- LISTS

all_mapped : {X Y : Type 0} (Q : X → Type 0) (P : Y → Type 0) (f : X → Y) (xs : List X) → ((x : X) → Q x → P (f x)) → AllByRecursion Q xs → AllByRecursion P (map f xs)
all_mapped Q P f [] step h = tt
all_mapped Q P f (x ∷ xs) step h = (step x h.0, all_mapped Q P f xs step h.1)

all_so : {X : Type 0} (P : X → Type 0) (xs : List X) → ((x : X) → P x) → AllByRecursion P xs
all_so P [] so = tt
all_so P (x ∷ xs) so = (so x, all_so P xs so)

all_append : {X : Type 0} (P : X → Type 0) (xs ys : List X) → AllByRecursion P xs → AllByRecursion P ys → AllByRecursion P (xs ++ ys)
all_append P [] ys a b = b
all_append P (x ∷ xs) ys a b = (a.0, all_append P xs ys a.1 b)

-- of lists of one item each
all_flat : {X Y : Type 0} (Q : X → Type 0) (P : Y → Type 0) (f : X → List Y) (xs : List X) → ((x : X) → Q x → AllByRecursion P (f x)) → AllByRecursion Q xs → AllByRecursion P (flat_map f xs)
all_flat Q P f [] step h = tt
all_flat Q P f (x ∷ xs) step h = all_append P (f x) (flat_map f xs) (step x h.0) (all_flat Q P f xs step h.1)

-- of the items that there are
all_found : {X Y : Type 0} (Q : X → Type 0) (P : Y → Type 0) (f : X → Option Y) (xs : List X) → ((x : X) (y : Y) → Q x → f x ≡ Some y → P y) → AllByRecursion Q xs → AllByRecursion P (filter_map f xs)
all_found Q P f [] step h = tt
all_found {X} {Y} Q P f (x ∷ xs) step h = by_option (f x) refl (all_found Q P f xs step h.1) where
  by_option : (o : Option Y) → f x ≡ o → AllByRecursion P (filter_map f xs) → AllByRecursion P (filter_map f (x ∷ xs))
  by_option None e later = rw e later
  by_option (Some y) e later = rw e (step x y h.0 e, later)

all_inserted : {X : Type 0} (P : X → Type 0) (before : X → X → Bool) (x : X) (ys : List X) → P x → AllByRecursion P ys → AllByRecursion P (inserted before x ys)
all_inserted P before x [] one h = (one, tt)
all_inserted {X} P before x (y ∷ ys) one h = by_test (before y x) (all_inserted P before x ys one h.1) where
  by_test : (b : Bool) → AllByRecursion P (inserted before x ys) → AllByRecursion P (cond b (y ∷ inserted before x ys) (x ∷ y ∷ ys))
  by_test true later = (h.0, later)
  by_test false later = (one, (h.0, h.1))

-- items in order are the same items
all_ordered : {X : Type 0} (P : X → Type 0) (before : X → X → Bool) (start xs : List X) → AllByRecursion P start → AllByRecursion P xs → AllByRecursion P (fold (λ ys x. inserted before x ys) start xs)
all_ordered P before start [] s h = s
all_ordered P before start (x ∷ xs) s h = all_ordered P before (inserted before x start) xs (all_inserted P before x start h.0 s) h.1

-- each item has its number
all_numbered : {X : Type 0} (all xs : List X) (n : ℕ) → ((k : ℕ) → slice_get all (n + k) ≡ slice_get xs k) → AllByRecursion (λ e. slice_get all e.0 ≡ Some e.1) (enumerate_from n xs)
all_numbered all [] n h = tt
all_numbered all (x ∷ xs) n h =
    let here : n + 0 ≡ n = omega arith in
    (ap (slice_get all) (sym here) ∙ h 0, all_numbered all xs (n + 1) (λ k. let e : n + 1 + k ≡ n + suc k = omega arith in ap (slice_get all) e ∙ h (suc k)))

numbered : {X : Type 0} (xs : List X) → AllByRecursion (λ e. slice_get xs e.0 ≡ Some e.1) (enumerate_from 0 xs)
numbered xs = all_numbered xs xs 0 (λ k. let e : 0 + k ≡ k = omega arith in ap (slice_get xs) e)

-- A SELECT

-- a row has a field for each item, and so many names there are
select_row : (items : List TypedItem) (schema : plain.Schema) (row : plain.Row) → length (row_fields items row) ≡ length (select_names items (Some schema))
select_row items schema row = length-map items (item_field row) ∙ sym (length-map items (item_name schema))

select_rows : (items : List TypedItem) (names : Option plain.Schema) (now version : ℕ) (pred : TypedPred) (valid : Bool) (rows : List (ℕ × plain.Row)) → is_typed_select now items pred valid version names ≡ true → AllByRecursion (IsNamedBy (select_names items names)) (map (λ r. row_fields items r.1) rows)
select_rows items None now version pred valid rows h = absurd (cc)
select_rows items (Some schema) now version pred valid rows h =
    all_mapped (λ r. Unit {0}) (IsNamedBy (select_names items (Some schema))) (λ r. row_fields items r.1) rows (λ r u. select_row items schema r.1) (all_so (λ r. Unit {0}) rows (λ r. tt))

-- AN AGGREGATE

-- a run has its bounds, its value, and the value of its group where it has one
run_width : (names : List (List ℕ)) (run : Run) → length (group_fields run.group) ≡ length names → length (run_fields run) ≡ length (names ++ (bound_names ++ codes "value" ∷ []))
run_width names run same =
    length-append (group_fields run.group) (moment_field run.from ∷ moment_field run.to ∷ run.value ∷ [])
    ∙ (ap (λ n. n + 3) same ∙ sym (length-append names (bound_names ++ codes "value" ∷ [])))

-- a run of no group
abbrev IsLone : Run → Type 0
IsLone run = run.group ≡ None

stretch_added : (runs : List Run) (stretch : Run) → AllByRecursion IsLone runs → IsLone stretch → AllByRecursion IsLone (add_stretch runs stretch)
stretch_added [] stretch h s = (s, tt)
stretch_added (run ∷ []) stretch h s = by_test (same_field run.value stretch.value) where
  by_test : (b : Bool) → AllByRecursion IsLone (cond b (record run { to = stretch.to } ∷ []) (run ∷ stretch ∷ []))
  by_test true = (h.0, tt)
  by_test false = (h.0, (s, tt))
stretch_added (run ∷ next ∷ runs) stretch h s = (h.0, stretch_added (next ∷ runs) stretch h.1 s)

lone_runs : (f : ℤ → Field) (from : ℤ) (n : ℕ) → AllByRecursion IsLone (runs_over f from n)
unfolding runs_over
lone_runs f from zero = tt
lone_runs f from (suc n) = stretch_added (runs_over f from n) (stretch_of (from +ℤ pos n) (from +ℤ pos n +ℤ pos 1) (f (from +ℤ pos n))) (lone_runs f from n) refl

-- the runs of an aggregate that is not separated, and of one that is
agg_runs : (db : plain.Database) (table : ℕ) (kind : AggKind) (column by : Option ℕ) (pred : TypedPred) (span : Span) (names : Option plain.Schema) → is_typed_agg db.version kind column by pred span names ≡ true
    → AllByRecursion (λ run. length (group_fields run.group) ≡ length (group_names by names)) (aggregate_runs db table kind column by pred span)
unfolding aggregate_runs
agg_runs db table kind column by pred span None h = absurd (cc)
agg_runs db table kind column None pred span (Some schema) h =
    all_over (runs_in kind column span (passing_at db table pred span)) (lone_runs (λ moment. aggregate_of kind column (passing_at db table pred span moment)) (span_start span) (count_of (span_end span -ℤ span_start span))) where
      all_over : (runs : List Run) → AllByRecursion IsLone runs → AllByRecursion (λ run. length (group_fields run.group) ≡ 0) runs
      all_over [] h = tt
      all_over (run ∷ runs) h = (ap (λ g. length (group_fields g)) h.0, all_over runs h.1)
agg_runs db table kind column (Some place) pred span (Some schema) h =
    all_flat (λ value. Unit {0}) (λ run. length (group_fields run.group) ≡ 1) (λ value. group_runs kind column span (group_at db table pred span place value) value) (values_of place (rows_of db table))
    (λ value u. one_group value (with_rows (group_at db table pred span place value) (runs_in kind column span (group_at db table pred span place value))))
    (all_so (λ value. Unit {0}) (values_of place (rows_of db table)) (λ value. tt)) where
      one_group : (value : Cell) (runs : List Run) → AllByRecursion (λ run. length (group_fields run.group) ≡ 1) (map (in_group value) runs)
      one_group value [] = tt
      one_group value (run ∷ runs) = (refl, one_group value runs)

-- A JOIN

-- both rows of a pair are there
abbrev IsOfRows : List plain.Row → List plain.Row → Pair → Type 0
IsOfRows lefts rights p = ((l : plain.Row) × (slice_get lefts p.left ≡ Some l)) × ((r : plain.Row) × (slice_get rights p.right ≡ Some r))

from_named : (t : Bool) (from to : ℤ) (i j : ℕ) (p : Pair) → cond t (Some (record { from = from; to = to; left = i; right = j })) None ≡ Some p → (p.left ≡ i) × (p.right ≡ j)
from_named false from to i j p h = absurd (cc)
from_named true from to i j p h =
    let e : (record { from = from; to = to; left = i; right = j }) ≡ p = cc in
    (sym (ap (λ (q : Pair). q.left) e), sym (ap (λ (q : Pair). q.right) e))

common_named : (span : Span) (i j : ℕ) (o q : Option plain.Period) (p : Pair) → common_pair span i j o q ≡ Some p → (p.left ≡ i) × (p.right ≡ j)
common_named span i j None q p h = absurd (cc)
common_named span i j (Some a) None p h = absurd (cc)
common_named span i j (Some a) (Some b) p h = from_named _ _ _ i j p h

pair_named : (left_pred right_pred : TypedPred) (left_on right_on : ℕ) (span : Span) (l r : ℕ × plain.Row) (p : Pair) → pair_of left_pred right_pred left_on right_on span l r ≡ Some p → (p.left ≡ l.0) × (p.right ≡ r.0)
pair_named left_pred right_pred left_on right_on span l r p h = by_test (match_rows left_pred right_pred left_on right_on l.1 r.1) h where
  by_test : (t : Bool) → cond t (common_pair span l.0 r.0 (times_of span l.1) (times_of span r.1)) None ≡ Some p → (p.left ≡ l.0) × (p.right ≡ r.0)
  by_test true h = common_named span l.0 r.0 (times_of span l.1) (times_of span r.1) p h
  by_test false h = absurd (cc)

pairs_there : (left_pred right_pred : TypedPred) (left_on right_on : ℕ) (span : Span) (lefts rights : List plain.Row) → AllByRecursion (IsOfRows lefts rights) (pairs_of left_pred right_pred left_on right_on span lefts rights)
pairs_there left_pred right_pred left_on right_on span lefts rights =
    all_flat (λ l. slice_get lefts l.0 ≡ Some l.1) (IsOfRows lefts rights) (λ l. filter_map (pair_of left_pred right_pred left_on right_on span l) (enumerate_from 0 rights)) (enumerate_from 0 lefts)
    (λ l a. all_found (λ r. slice_get rights r.0 ≡ Some r.1) (IsOfRows lefts rights) (pair_of left_pred right_pred left_on right_on span l) (enumerate_from 0 rights)
    (λ r p b made. let named = pair_named left_pred right_pred left_on right_on span l r p made in ((l.1, ap (slice_get lefts) named.0 ∙ a), (r.1, ap (slice_get rights) named.1 ∙ b)))
    (numbered rights))
    (numbered lefts)

-- a table's columns have a name each
left_width : (db : plain.Database) (table : ℕ) → length (left_names (schema_at db table)) ≡ length (columns_of db table)
left_width db table = by_table (slice_get db.tables table) refl where
  by_table : (o : Option plain.Table) → slice_get db.tables table ≡ o → length (left_names (schema_at db table)) ≡ length (columns_of db table)
  by_table None e = rw e refl
  by_table (Some t) e = rw e (length-map t.schema.columns (λ c. t.schema.name ++ (codes "." ++ c.name)))

right_width : (db : plain.Database) (left table : ℕ) → length (right_names left table (schema_at db table)) ≡ length (columns_of db table)
right_width db left table = by_table (slice_get db.tables table) refl where
  by_table : (o : Option plain.Table) → slice_get db.tables table ≡ o → length (right_names left table (schema_at db table)) ≡ length (columns_of db table)
  by_table None e = rw e refl
  by_table (Some t) e = rw e (length-map t.schema.columns (λ c. right_name left table t.schema.name ++ (codes "." ++ c.name)))

-- a row that is there has a cell for each column
cells_width : (commits : List Commit) (table id : ℕ) → FitInTurn standard_limits commits → (r : plain.Row) × (slice_get (rows_of (database_of commits) table) id ≡ Some r) → length (cells_with (rows_of (database_of commits) table) id) ≡ length (columns_of (database_of commits) table)
cells_width commits table id fit (r, there) = ap (λ o. length (cells_of o)) there ∙ full_row commits table id r fit there

pair_width : (commits : List Commit) (left right : ℕ) (pair : Pair) → FitInTurn standard_limits commits → IsOfRows (rows_of (database_of commits) left) (rows_of (database_of commits) right) pair
    → length (pair_fields (rows_of (database_of commits) left) (rows_of (database_of commits) right) pair) ≡ length (bound_names ++ (left_names (schema_at (database_of commits) left) ++ right_names left right (schema_at (database_of commits) right)))
pair_width commits left right pair fit (l, r) =
    let db = database_of commits in
    let ls = cells_with (rows_of db left) pair.left in
    let rs = cells_with (rows_of db right) pair.right in
    let cells : length (map cell_field (ls ++ rs)) ≡ length (columns_of db left) + length (columns_of db right) =
    length-map (ls ++ rs) cell_field ∙ (length-append ls rs ∙ (ap (λ n. n + length rs) (cells_width commits left pair.left fit l) ∙ ap (λ n. length (columns_of db left) + n) (cells_width commits right pair.right fit r))) in
    let names : length (left_names (schema_at db left) ++ right_names left right (schema_at db right)) ≡ length (columns_of db left) + length (columns_of db right) =
    length-append (left_names (schema_at db left)) (right_names left right (schema_at db right)) ∙ (ap (λ n. n + length (right_names left right (schema_at db right))) (left_width db left) ∙ ap (λ n. length (columns_of db left) + n) (right_width db left right)) in
    ap (λ n. suc (suc n)) (cells ∙ sym names)

join_rows : (commits : List Commit) (left : ℕ) (left_pred : TypedPred) (right : ℕ) (right_pred : TypedPred) (left_on right_on : ℕ) (span : Span) → FitInTurn standard_limits commits → HasNamedRows (database_of commits) (typed.Join left left_pred right right_pred left_on right_on span)
unfolding joined_pairs
join_rows commits left left_pred right right_pred left_on right_on span fit =
    let db = database_of commits in
    let lefts = rows_of db left in
    let rights = rows_of db right in
    all_mapped (IsOfRows lefts rights) (IsNamedBy (names_of db (typed.Join left left_pred right right_pred left_on right_on span))) (pair_fields lefts rights) (joined_pairs db left left_pred right right_pred left_on right_on span)
    (λ pair there. pair_width commits left right pair fit there)
    (all_ordered (IsOfRows lefts rights) pair_before [] (pairs_of left_pred right_pred left_on right_on span lefts rights) tt (pairs_there left_pred right_pred left_on right_on span lefts rights))

-- ANY QUERY

pub named_rows : (commits : List Commit) (query : Typed) → FitInTurn standard_limits commits → IsTypedFor (database_of commits) query → HasNamedRows (database_of commits) query
named_rows commits (typed.Select table items pred valid_at version) fit is =
    let db = database_of commits in
    select_rows items (schema_at db table) db.version version pred (is_some valid_at) (filter (λ r. passes pred r.1) (at_moment valid_at (visible_rows db table version))) is
named_rows commits (typed.Agg table kind column by pred span) fit is =
    let db = database_of commits in
    all_mapped (λ run. length (group_fields run.group) ≡ length (group_names by (schema_at db table))) (IsNamedBy (names_of db (typed.Agg table kind column by pred span))) run_fields (aggregate_runs db table kind column by pred span)
    (λ run same. run_width (group_names by (schema_at db table)) run same)
    (agg_runs db table kind column by pred span (schema_at db table) is)
named_rows commits (typed.Join left left_pred right right_pred left_on right_on span) fit is =
    join_rows commits left left_pred right right_pred left_on right_on span fit

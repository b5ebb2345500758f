-- A query without faults is well typed.
use Rattle.std.proofs.Common.{◌≡◌, ℕ, zero, suc, ◌+◌, ◌-◌, ◌<◌, ◌≤◌, ℤ, max, Bool, true, false, not, ◌&&◌, ◌||◌, List, [], ◌∷◌, ◌++◌, length, map, get_or, Option, Some, None, Result, Ok, Err, is_some, refl, ap, arith, sym, ◌∙◌, subst, nat_le, nat_lt, nat_abs, int_lt, slice_get, IfOk, IfErr, ◌⊎◌, inl, inr}
use Rattle.std.proofs.lemmas.Int.{clamps}
use Rattle.std.proofs.lemmas.List.Quantifiers.{position-Some}
use Rattle.std.proofs.lemmas.List.Folds.{list_all-append}
use Rattle.std.proofs.lemmas.Option.{slice_get-get_or}
use Rattle.std.proofs.lemmas.Bool.Decides.{nat_tests}
use Rattle.std.proofs.lemmas.Grind.{common_steps}
use Rattle.std.specs.List.{enumerate_from, flat_map, list_all, position}
use Rattle.std.specs.Option.{option_and_then, option_map}
use Rattle.tl_types.specs.declared.schemas.Column.{Column}
use Rattle.tl_types.specs.declared.cells.ColumnKind.{ColumnKind}
use Rattle.tl_types.specs.declared.cells.ColumnKind.TheVariants.{IntKind, TextKind}
use Rattle.tl_types.specs.Plain as plain
use Rattle.tl_types.specs.History.{floor_of, version_at_moment}
use Rattle.tl_types.specs.WellFormed.{HaveReachedFloors, HasTimes}
use Rattle.tl_types.proofs.TimeLemmas.{moment_reached}
use Rattle.tl_types.specs.Resolving.{find_table}
use Rattle.tl_query.specs.declared.ast.Name.{Name}
use Rattle.tl_query.specs.declared.ast.AsOf.{AsOf}
use Rattle.tl_query.specs.declared.ast.AsOf.TheVariants as as_ofs
use Rattle.tl_query.specs.declared.ast.Test.{Test}
use Rattle.tl_query.specs.declared.ast.Pred.{Pred}
use Rattle.tl_query.specs.declared.ast.Item.{Item}
use Rattle.tl_query.specs.declared.ast.Item.TheVariants as item
use Rattle.tl_query.specs.declared.ast.SelectForm.{SelectForm}
use Rattle.tl_query.specs.declared.ast.AggKind.{AggKind}
use Rattle.tl_query.specs.declared.ast.AggKind.TheVariants as agg
use Rattle.tl_query.specs.declared.ast.AggForm.{AggForm}
use Rattle.tl_query.specs.declared.ast.JoinForm.{JoinForm}
use Rattle.tl_query.specs.declared.ast.ValidPoint.{ValidPoint}
use Rattle.tl_query.specs.declared.ast.Over.{Over}
use Rattle.tl_query.specs.declared.ast.Over.TheVariants as over
use Rattle.tl_query.specs.declared.ast.Query.{Query}
use Rattle.tl_query.specs.declared.ast.Query.TheVariants as query
use Rattle.tl_query.specs.declared.typed_queries.Typed.{Typed}
use Rattle.tl_query.specs.declared.typed_queries.TypedItem.TheVariants as typed_item
use Rattle.tl_query.specs.declared.check_faults.CheckFault.{CheckFault}
use Rattle.tl_query.specs.declared.check_faults.CheckFault.TheVariants as fault
use Rattle.tl_query.specs.Checking.{all_items, column_of, first_of, item_fault, or_zero, period_items, table_named, floor_named, typed_item_of, typed_items_of, Times, version_fault, version_of, IsUnlessMemory}
use Rattle.tl_query.specs.CheckingQueries.{Known, agg_by_numbers, agg_faults, by_faults, checked, checked_at, column_fault, column_place, constant_fault, fault_or, faults_of, join_by_numbers, join_faults, kind_of, kinds_fault, measure_faults, number_fault, on_faults, order_fault, over_faults, point_fault, pred_faults, query_floor, times_for, select_by_numbers, select_faults, span_of, table_fault, test_faults, tests_faults, typed_pred_of, typed_test_of, IsFaultless, IsFirst}
use Rattle.tl_query.specs.TypedFor.{has_column, holds_cell, is_int_kind, is_ordered, is_typed_agg, is_typed_aggregate, is_typed_for, is_typed_group, is_typed_item, is_typed_join, is_typed_pred, is_typed_select, is_typed_span, is_typed_test, kind_at, same_kinds, schema_at, IsTypedFor}
use Rattle.tl_query.specs.Grammar.{takes_column}
use Rattle.tl_query.specs.Parsed.{IsQuery}
use Rattle.tl_check.proofs.FirstLemmas.{AllNone, all_none, fault_if_none, first_is, none_is, none_of_parts}
use Rattle.tl_types.proofs.FoundTables.{table_found, found_from}

-- TESTS

both : (a b : Bool) → a ≡ true → b ≡ true → (a && b) ≡ true
both a b p q = cc

is_true : (b : Bool) → not b ≡ false → b ≡ true
is_true true h = refl
is_true false h = absurd (cc)

not_true : (b : Bool) → b ≡ false → not b ≡ true
not_true b h = ap not h

or_left : (a b : Bool) → a ≡ true → (a || b) ≡ true
or_left a b h = cc

or_right : (a b : Bool) → b ≡ true → (a || b) ≡ true
or_right true b h = refl
or_right false b h = h

-- COLUMNS

-- the column that a name means
record IsThere (schema : plain.Schema) (place : Option ℕ) (kind : ColumnKind) : Type 0 where
  within : or_zero place < length schema.columns
  found : option_and_then (kind_at schema) place ≡ Some kind
  typed : kind_at schema (or_zero place) ≡ Some kind

there_by : (schema : plain.Schema) (p : Column → Bool) (columns : List Column) (place : Option ℕ) → columns ≡ schema.columns → position p columns ≡ place → is_some place ≡ true → (kind : ColumnKind) × IsThere schema place kind
there_by schema p columns None same e h = absurd (cc)
there_by schema p [] (Some i) same e h = absurd (cc)
there_by schema p (x ∷ xs) (Some i) same e h =
    let within = (position-Some p (x ∷ xs) i x e).0 in
    let at : slice_get schema.columns i ≡ Some (get_or (x ∷ xs) i x) = ap (λ cs. slice_get cs i) (sym same) ∙ slice_get-get_or (x ∷ xs) i x within in
    let kind : kind_at schema i ≡ Some (get_or (x ∷ xs) i x).kind = ap (option_map (λ c. c.kind)) at in
    ((get_or (x ∷ xs) i x).kind, record { within = subst (λ (cs : List Column). i < length cs) same within; found = kind; typed = kind })

column_there : (schema : plain.Schema) (name : Name) → column_fault schema name ≡ None → (kind : ColumnKind) × IsThere schema (column_of schema name.text) kind
column_there schema name h = there_by schema _ schema.columns (column_of schema name.text) refl refl (is_true _ (fault_if_none _ _ h))

below : (a b : ℕ) → a < b → nat_lt a b ≡ true
below a b h = grind (arith, common_steps)

-- the column that a name means is among the columns
column_within : (schema : plain.Schema) (name : Name) → column_fault schema name ≡ None → has_column schema (column_place schema name) ≡ true
column_within schema name h = below _ _ (column_there schema name h).1.within

-- PREDICATES

test_kind : (kind : ColumnKind) (test : Test) → order_fault (Some kind) test ≡ None → constant_fault (Some kind) test ≡ None → (holds_cell (Some kind) test.value && (not (is_ordered test.cmp) || is_int_kind (Some kind))) ≡ true
test_kind IntKind test order constant = both _ _ (is_true _ (fault_if_none _ _ constant)) (or_right _ _ refl)
test_kind TextKind test order constant = both _ _ (is_true _ (fault_if_none _ _ constant)) (or_left _ _ (not_true _ (fault_if_none _ _ order)))

test_typed : (schema : plain.Schema) (test : Test) → column_fault schema test.column ≡ None → order_fault (kind_of schema test.column) test ≡ None → constant_fault (kind_of schema test.column) test ≡ None → is_typed_test schema (typed_test_of schema test) ≡ true
test_typed schema test column order constant =
    let there = column_there schema test.column column in
    let order_known : order_fault (Some there.0) test ≡ None = ap (λ k. order_fault k test) (sym there.1.found) ∙ order in
    let constant_known : constant_fault (Some there.0) test ≡ None = ap (λ k. constant_fault k test) (sym there.1.found) ∙ constant in
    ap (λ k. holds_cell k test.value && (not (is_ordered test.cmp) || is_int_kind k)) there.1.typed ∙ test_kind there.0 test order_known constant_known

tests_typed : (schema : plain.Schema) (tests : List Test) → AllNone (tests_faults schema tests) → list_all (is_typed_test schema) (map (typed_test_of schema) tests) ≡ true
tests_typed schema [] h = refl
tests_typed schema (t ∷ ts) h =
    let parts = none_of_parts (test_faults schema t) (tests_faults schema ts) h in
    both _ _ (test_typed schema t parts.0.0 parts.0.1.0 parts.0.1.1.0) (tests_typed schema ts parts.1)

any_typed : (schema : plain.Schema) (any : List (List Test)) → AllNone (flat_map (tests_faults schema) any) → list_all (λ tests. list_all (is_typed_test schema) tests) (map (map (typed_test_of schema)) any) ≡ true
any_typed schema [] h = refl
any_typed schema (t ∷ ts) h =
    let parts = none_of_parts (tests_faults schema t) (flat_map (tests_faults schema) ts) h in
    both _ _ (tests_typed schema t parts.0) (any_typed schema ts parts.1)

pred_typed : (schema : plain.Schema) (pred : Pred) → AllNone (pred_faults schema pred) → is_typed_pred schema (typed_pred_of schema pred) ≡ true
pred_typed schema pred h = any_typed schema pred.any h

-- ITEMS

item_typed : (schema : plain.Schema) (i : Item) → item_fault schema i ≡ None → is_typed_item schema (typed_item_of schema i) ≡ true
item_typed schema (item.Column name) h = column_within schema name h
item_typed schema (item.ValidFrom at) h = is_true _ (fault_if_none _ _ h)
item_typed schema (item.ValidTo at) h = is_true _ (fault_if_none _ _ h)

listed_typed : (schema : plain.Schema) (items : List Item) → AllNone (map (item_fault schema) items) → list_all (is_typed_item schema) (map (typed_item_of schema) items) ≡ true
listed_typed schema [] h = refl
listed_typed schema (i ∷ is) h = both _ _ (item_typed schema i h.0) (listed_typed schema is h.1)

columns_typed : (schema : plain.Schema) (n : ℕ) (columns : List Column) → n + length columns ≡ length schema.columns → list_all (is_typed_item schema) (map (λ c. typed_item.Column c.0) (enumerate_from n columns)) ≡ true
columns_typed schema n [] h = refl
columns_typed schema n (c ∷ cs) h = both _ _ (below _ _ (omega (arith, h))) (columns_typed schema (n + 1) cs (omega (arith, h)))

periods_typed : (schema : plain.Schema) (b : Bool) → schema.valid ≡ b → list_all (is_typed_item schema) (period_items b) ≡ true
periods_typed schema true e = both _ _ e (both _ _ e refl)
periods_typed schema false e = refl

all_typed : (schema : plain.Schema) → list_all (is_typed_item schema) (all_items schema) ≡ true
all_typed schema =
    list_all-append (is_typed_item schema) (map (λ c. typed_item.Column c.0) (enumerate_from 0 schema.columns)) (period_items schema.valid)
    ∙ both _ _ (columns_typed schema 0 schema.columns (omega arith)) (periods_typed schema schema.valid refl)

items_typed : (schema : plain.Schema) (form : SelectForm) (all : Bool) → form.all ≡ all → AllNone (map (item_fault schema) form.items) → list_all (is_typed_item schema) (typed_items_of schema form) ≡ true
items_typed schema form true e h = rw e (all_typed schema)
items_typed schema form false e h = rw e (listed_typed schema form.items h)

-- TIMES

within : (a b : ℕ) → nat_lt a b ≡ false → nat_le b a ≡ true
within a b h = grind (arith, nat_tests)

-- each moment and the floor stand for a version that was reached
record AreReached (times : Times) : Type 0 where
  moments : (moment : ℤ) → version_at_moment times.now times.stamps moment ≤ times.now
  floor : times.floor ≤ times.now

reached_test : (a b : ℕ) → a ≤ b → nat_le a b ≡ true
reached_test a b h = grind (arith, nat_tests)

version_typed : (times : Times) → AreReached times → (as_of : Option AsOf) → version_fault times as_of ≡ None → nat_le (version_of times as_of) times.now ≡ true
version_typed times is None h = reached_test times.now times.now (omega arith)
version_typed times is (Some (as_ofs.Version stamp)) h = within times.now (nat_abs stamp.value) (fault_if_none _ _ h)
version_typed times is (Some (as_ofs.Moment stamp)) h = reached_test _ _ (is.moments stamp.value)

all_versions : (floor now : ℕ) → floor ≤ now → (nat_lt floor (now + 1) && nat_le (now + 1) (now + 1)) ≡ true
all_versions floor now h = grind (arith, nat_tests)

span_typed : (times : Times) → AreReached times → (timeless valid : Bool) (o : Over) → timeless ≡ not valid → AllNone (over_faults times timeless o) → is_typed_span times.now valid (span_of times o) ≡ true
span_typed times is timeless valid over.SystemAll e h = all_versions times.floor times.now is.floor
span_typed times is timeless valid (over.System from to) e h = both _ _ (is_true _ (fault_if_none _ _ h.0)) (within _ _ (fault_if_none _ _ h.1.0))
span_typed times is timeless valid (over.Valid pos from to as_of) e h =
    let has_time : valid ≡ true = is_true valid (sym e ∙ fault_if_none timeless _ h.0) in
    let version = version_typed times is as_of h.1.1.0 in
    let moments : int_lt from.value to.value ≡ true = is_true _ (fault_if_none _ _ h.1.0) in
    both _ _ (both _ _ has_time version) moments

point_typed : (schema : plain.Schema) (point : Option ValidPoint) → point_fault (not schema.valid) point ≡ None → (not (is_some (option_map (λ p. p.value) point)) || schema.valid) ≡ true
point_typed schema None h = refl
point_typed schema (Some p) h = is_true _ (fault_if_none _ _ h)

-- AGGREGATES AND JOINS

number_kind : (kind : ColumnKind) (name : Name) → number_fault (Some kind) name ≡ None → is_int_kind (Some kind) ≡ true
number_kind IntKind name h = refl
number_kind TextKind name h = absurd (cc)

column_typed : (schema : plain.Schema) (name : Name) → column_fault schema name ≡ None → number_fault (kind_of schema name) name ≡ None → is_int_kind (kind_at schema (column_place schema name)) ≡ true
column_typed schema name column number =
    let there = column_there schema name column in
    let known : number_fault (Some there.0) name ≡ None = ap (λ k. number_fault k name) (sym there.1.found) ∙ number in
    ap is_int_kind there.1.typed ∙ number_kind there.0 name known

measure_typed : (schema : plain.Schema) (kind : AggKind) (column : Option Name) → is_some column ≡ takes_column kind → AllNone (measure_faults schema column) → is_typed_aggregate schema kind (option_map (column_place schema) column) ≡ true
measure_typed schema agg.Count None e h = refl
measure_typed schema agg.Count (Some name) e h = absurd (cc)
measure_typed schema agg.Sum None e h = absurd (cc)
measure_typed schema agg.Sum (Some name) e h = column_typed schema name h.0 h.1.0
measure_typed schema agg.Avg None e h = absurd (cc)
measure_typed schema agg.Avg (Some name) e h = column_typed schema name h.0 h.1.0
measure_typed schema agg.Min None e h = absurd (cc)
measure_typed schema agg.Min (Some name) e h = column_typed schema name h.0 h.1.0
measure_typed schema agg.Max None e h = absurd (cc)
measure_typed schema agg.Max (Some name) e h = column_typed schema name h.0 h.1.0

by_typed : (schema : plain.Schema) (by : Option Name) → AllNone (by_faults schema by) → is_typed_group schema (option_map (column_place schema) by) ≡ true
by_typed schema None h = refl
by_typed schema (Some name) h = column_within schema name h.0

kinds_by : (j k : ColumnKind) (at : ℕ) → kinds_fault (Some j) (Some k) at ≡ None → same_kinds (Some j) (Some k) ≡ true
kinds_by j k at h = is_true _ (fault_if_none _ _ h)

kinds_typed : (left right : plain.Schema) (left_on right_on : Name) → column_fault left left_on ≡ None → column_fault right right_on ≡ None → kinds_fault (kind_of left left_on) (kind_of right right_on) right_on.at ≡ None → same_kinds (kind_at left (column_place left left_on)) (kind_at right (column_place right right_on)) ≡ true
kinds_typed left right left_on right_on h k same =
    let one = column_there left left_on h in
    let other = column_there right right_on k in
    let known : kinds_fault (Some one.0) (Some other.0) right_on.at ≡ None =
    ap (λ j. kinds_fault j (Some other.0) right_on.at) (sym one.1.found) ∙ (ap (λ j. kinds_fault (kind_of left left_on) j right_on.at) (sym other.1.found) ∙ same) in
    ap (λ j. same_kinds j (kind_at right (column_place right right_on))) one.1.typed ∙ (ap (λ j. same_kinds (Some one.0) j) other.1.typed ∙ kinds_by one.0 other.0 right_on.at known)

-- TABLES

found_at : (db : plain.Database) (o : Option (ℕ × plain.Table)) (name : Name) (t : ℕ × plain.Schema) → find_table name.text db.tables ≡ o → table_named db name ≡ Some t → schema_at db t.0 ≡ Some t.1
found_at db None name t e h = absurd (let f = rw e at h in cc)
found_at db (Some x) name t e h =
    let named : Some (x.0, x.1.schema) ≡ Some t = rw e at h in
    let at = found_from 0 name.text db.tables x.0 x.1 e in
    let place : x.0 - 0 ≡ x.0 = omega arith in
    let here : slice_get db.tables x.0 ≡ Some x.1 = rw place at at.1 in
    let pair : (x.0, x.1.schema) ≡ t = cc in
    subst (λ (p : ℕ × plain.Schema). schema_at db p.0 ≡ Some p.1) pair (ap (option_map (λ t. t.schema)) here)

-- the schema of the table that a name means stands at its number
table_at : (db : plain.Database) (name : Name) (t : ℕ × plain.Schema) → table_named db name ≡ Some t → schema_at db t.0 ≡ Some t.1
table_at db name t h = found_at db (find_table name.text db.tables) name t refl h

-- QUERIES

select_typed : (times : Times) → AreReached times → (t : ℕ × plain.Schema) (form : SelectForm) → first_of (select_faults times (Some t) form) ≡ None → is_typed_select times.now (typed_items_of t.1 form) (typed_pred_of t.1 form.pred) (is_some (option_map (λ p. p.value) form.valid_at)) (version_of times form.as_of) (Some t.1) ≡ true
select_typed times is t form h =
    let last = none_of_parts (map (item_fault t.1) form.items ++ (None ∷ []) ++ pred_faults t.1 form.pred) _ (all_none (select_faults times (Some t) form) h) in
    let pred = none_of_parts (map (item_fault t.1) form.items ++ (None ∷ [])) _ last.0 in
    let items = none_of_parts (map (item_fault t.1) form.items) _ pred.0 in
    both _ _ (both _ _ (both _ _ (items_typed t.1 form form.all refl items.0) (pred_typed t.1 form.pred pred.1)) (point_typed t.1 form.valid_at last.1.0)) (version_typed times is form.as_of last.1.1.0)

agg_typed : (times : Times) → AreReached times → (t : ℕ × plain.Schema) (form : AggForm) → is_some form.column ≡ takes_column form.kind → first_of (agg_faults times (Some t) form) ≡ None → is_typed_agg times.now form.kind (option_map (column_place t.1) form.column) (option_map (column_place t.1) form.by) (typed_pred_of t.1 form.pred) (span_of times form.over) (Some t.1) ≡ true
agg_typed times is t form takes h =
    let last = none_of_parts (measure_faults t.1 form.column ++ (None ∷ []) ++ pred_faults t.1 form.pred ++ by_faults t.1 form.by) _ (all_none (agg_faults times (Some t) form) h) in
    let by = none_of_parts (measure_faults t.1 form.column ++ (None ∷ []) ++ pred_faults t.1 form.pred) _ last.0 in
    let pred = none_of_parts (measure_faults t.1 form.column ++ (None ∷ [])) _ by.0 in
    let measure = none_of_parts (measure_faults t.1 form.column) _ pred.0 in
    both _ _ (both _ _ (both _ _ (measure_typed t.1 form.kind form.column takes measure.0) (by_typed t.1 form.by by.1)) (pred_typed t.1 form.pred pred.1)) (span_typed times is _ t.1.valid form.over refl last.1)

either_not : (a b : Bool) → (not a || not b) ≡ not (a && b)
either_not true b = refl
either_not false b = refl

join_typed : (times : Times) → AreReached times → (l r : ℕ × plain.Schema) (form : JoinForm) → first_of (join_faults times (Some l) (Some r) form) ≡ None → is_typed_join times.now (typed_pred_of l.1 form.left_pred) (typed_pred_of r.1 form.right_pred) (column_place l.1 form.left_on) (column_place r.1 form.right_on) (span_of times form.over) (Some l.1) (Some r.1) ≡ true
join_typed times is l r form h =
    let last = none_of_parts ((None ∷ []) ++ pred_faults l.1 form.left_pred ++ (None ∷ []) ++ pred_faults r.1 form.right_pred ++ on_faults (Some l) (Some r) form) _ (all_none (join_faults times (Some l) (Some r) form) h) in
    let on = none_of_parts ((None ∷ []) ++ pred_faults l.1 form.left_pred ++ (None ∷ []) ++ pred_faults r.1 form.right_pred) _ last.0 in
    let right = none_of_parts ((None ∷ []) ++ pred_faults l.1 form.left_pred ++ (None ∷ [])) _ on.0 in
    let left = none_of_parts ((None ∷ []) ++ pred_faults l.1 form.left_pred) _ right.0 in
    both _ _ (both _ _ (both _ _ (pred_typed l.1 form.left_pred left.0.1) (pred_typed r.1 form.right_pred right.1)) (kinds_typed l.1 r.1 form.left_on form.right_on on.1.0 on.1.1.0 on.1.1.1.0)) (span_typed times is _ (l.1.valid && r.1.valid) form.over (either_not l.1.valid r.1.valid) last.1)

-- the query is there where there is no fault
fault_or_right : (f : Option CheckFault) (found : Option Typed) (name : Name) (t : Typed) → fault_or f found name ≡ Ok t → (f ≡ None) × (found ≡ Some t)
fault_or_right (Some e) found name t h = absurd (cc)
fault_or_right None (Some q) name t h = (refl, let e : q ≡ t = cc in ap Some e)
fault_or_right None None name t h = absurd (cc)

select_for : (times : Times) → AreReached times → (db : plain.Database) (form : SelectForm) (table : Known) (t : Typed) → times.now ≡ db.version → table_named db form.table ≡ table → fault_or (first_of (select_faults times table form)) (option_map (λ k. select_by_numbers times k form) table) form.table ≡ Ok t → is_typed_for db t ≡ true
select_for times is_reached db form None t same named h = absurd (let e = (fault_or_right _ _ _ t h).1 in cc)
select_for times is_reached db form (Some k) t same named h =
    let s = fault_or_right _ _ _ t h in
    let is : select_by_numbers times k form ≡ t = let e = s.1 in cc in
    subst (λ (q : Typed). is_typed_for db q ≡ true) is
    (ap (is_typed_select db.version (typed_items_of k.1 form) (typed_pred_of k.1 form.pred) (is_some (option_map (λ p. p.value) form.valid_at)) (version_of times form.as_of)) (table_at db form.table k named)
    ∙ (rw (← same) (select_typed times is_reached k form s.0)))

agg_for : (times : Times) → AreReached times → (db : plain.Database) (form : AggForm) (table : Known) (t : Typed) → times.now ≡ db.version → is_some form.column ≡ takes_column form.kind → table_named db form.table ≡ table → fault_or (first_of (agg_faults times table form)) (option_map (λ k. agg_by_numbers times k form) table) form.table ≡ Ok t → is_typed_for db t ≡ true
agg_for times is_reached db form None t same takes named h = absurd (let e = (fault_or_right _ _ _ t h).1 in cc)
agg_for times is_reached db form (Some k) t same takes named h =
    let s = fault_or_right _ _ _ t h in
    let is : agg_by_numbers times k form ≡ t = let e = s.1 in cc in
    subst (λ (q : Typed). is_typed_for db q ≡ true) is
    (ap (is_typed_agg db.version form.kind (option_map (column_place k.1) form.column) (option_map (column_place k.1) form.by) (typed_pred_of k.1 form.pred) (span_of times form.over)) (table_at db form.table k named)
    ∙ (rw (← same) (agg_typed times is_reached k form takes s.0)))

join_for : (times : Times) → AreReached times → (db : plain.Database) (form : JoinForm) (left right : Known) (t : Typed) → times.now ≡ db.version → table_named db form.left ≡ left → table_named db form.right ≡ right → fault_or (first_of (join_faults times left right form)) (option_and_then (λ l. option_map (λ r. join_by_numbers times l r form) right) left) form.left ≡ Ok t → is_typed_for db t ≡ true
join_for times is_reached db form None right t same named other h = absurd (let e = (fault_or_right _ _ _ t h).1 in cc)
join_for times is_reached db form (Some l) None t same named other h = absurd (let e = (fault_or_right _ _ _ t h).1 in cc)
join_for times is_reached db form (Some l) (Some r) t same named other h =
    let s = fault_or_right _ _ _ t h in
    let is : join_by_numbers times l r form ≡ t = let e = s.1 in cc in
    let both_typed = is_typed_join db.version (typed_pred_of l.1 form.left_pred) (typed_pred_of r.1 form.right_pred) (column_place l.1 form.left_on) (column_place r.1 form.right_on) (span_of times form.over) in
    subst (λ (q : Typed). is_typed_for db q ≡ true) is
    (ap (λ o. both_typed o (schema_at db r.0)) (table_at db form.left l named)
    ∙ (ap (λ o. both_typed (Some l.1) o) (table_at db form.right r other)
    ∙ (rw (← same) (join_typed times is_reached l r form s.0))))

-- the floor of the table at the number that a name means
pub floor_found : (db : plain.Database) (name : Name) (number : ℕ) → option_map (λ found. found.0) (find_table name.text db.tables) ≡ Some number → floor_of (slice_get db.tables number) ≡ floor_named db name
floor_found db name number h =
    let f = table_found db name.text number h in
    ap floor_of f.at ∙ rw f.named refl

-- WHAT A HISTORY REACHES

floor_at : (version : ℕ) (tables : List plain.Table) (i : ℕ) (t : plain.Table) → HaveReachedFloors version tables → slice_get tables i ≡ Some t → t.floor ≤ version
floor_at version [] i t h e = absurd (cc)
floor_at version (x ∷ tables) zero t h e = let same : x ≡ t = cc in rw (← same) h.0
floor_at version (x ∷ tables) (suc i) t h e = floor_at version tables i t h.1 e

floor_known : (db : plain.Database) (o : Option (ℕ × plain.Table)) (name : Name) → HaveReachedFloors db.version db.tables → find_table name.text db.tables ≡ o → floor_named db name ≤ db.version
floor_known db None name h e = rw e (omega arith)
floor_known db (Some x) name h e = rw e (floor_at db.version db.tables (x.0 - 0) x.1 h (found_from 0 name.text db.tables x.0 x.1 e).1)

-- the floor of a table that a name means is a version that was reached
floor_reached : (db : plain.Database) (name : Name) → HaveReachedFloors db.version db.tables → floor_named db name ≤ db.version
floor_reached db name h = floor_known db (find_table name.text db.tables) name h refl

greater_reached : (a b c : ℕ) → a ≤ c → b ≤ c → max a b ≤ c
greater_reached a b c h k = grind (arith, clamps)

query_reached : (db : plain.Database) (q : Query) → HaveReachedFloors db.version db.tables → query_floor db q ≤ db.version
query_reached db (query.Select form) h = floor_reached db form.table h
query_reached db (query.Agg form) h = floor_reached db form.table h
query_reached db (query.Join form) h = greater_reached (floor_named db form.left) (floor_named db form.right) db.version (floor_reached db form.left h) (floor_reached db form.right h)

times_reached : (now : ℕ) (db : plain.Database) (q : Query) → now ≡ db.version → HasTimes db → AreReached (times_for now db q)
times_reached now db q same h = record {
  moments = λ moment. rw same (moment_reached db.version db.stamps moment h.stamps);
  floor = rw same (query_reached db q h.floors);
}

-- a query without a fault is well typed over the tables
pub checked_typed : (now : ℕ) (db : plain.Database) (q : Query) (t : Typed) → now ≡ db.version → HasTimes db → IsQuery q → checked now db q ≡ Ok t → is_typed_for db t ≡ true
checked_typed now db (query.Select form) t same timed is h = select_for (times_for now db (query.Select form)) (times_reached now db (query.Select form) same timed) db form (table_named db form.table) t same refl h
checked_typed now db (query.Agg form) t same timed is h = agg_for (times_for now db (query.Agg form)) (times_reached now db (query.Agg form) same timed) db form (table_named db form.table) t same is.0 refl h
checked_typed now db (query.Join form) t same timed is h = join_for (times_for now db (query.Join form)) (times_reached now db (query.Join form) same timed) db form (table_named db form.left) (table_named db form.right) t same refl refl h

-- the same of what a check answers
pub answered_typed : (now : ℕ) (db : plain.Database) (q : Query) (r : Result Typed CheckFault) → now ≡ db.version → HasTimes db → IsQuery q → IsUnlessMemory r (checked now db q) → IfOk r (λ t. IsTypedFor db t)
answered_typed now db q (Ok t) same timed is h = checked_typed now db q t same timed is h
answered_typed now db q (Err e) same timed is h = tt

abbrev mk_times : ℕ → List plain.Stamp → ℕ → Times
mk_times now stamps floor = record { now = now; stamps = stamps; floor = floor }

-- what is answered where this is known of versions
pub answered_at : (now : ℕ) (db : plain.Database) (q : Query) (r : Result Typed CheckFault) (times : Times) (floor : ℕ) → now ≡ db.version → times ≡ record { now = db.version; stamps = db.stamps; floor = floor } → floor ≡ query_floor db q → IsUnlessMemory r (checked_at times db q) → IsUnlessMemory r (checked now db q)
answered_at now db q r times floor all is same h =
    subst (λ t. IsUnlessMemory r (checked_at t db q)) (is ∙ ap (mk_times db.version db.stamps) same ∙ ap (λ n. mk_times n db.stamps (query_floor db q)) (sym all)) h

-- THE FAULT OF A QUERY

-- a fault that is answered is the first one, where a query that has no table has a fault
fault_first : (o : Option CheckFault) (found : Option Typed) (name : Name) (e : CheckFault) → (found ≡ None → o ≡ None → ⊥) → fault_or o found name ≡ Err e → o ≡ Some e
fault_first (Some f) found name e some h = let same : f ≡ e = cc in ap Some same
fault_first None (Some q) name e some h = absurd (cc)
fault_first None None name e some h = absurd (some refl refl)

no_select : (times : Times) (table : Known) (form : SelectForm) → option_map (λ t. select_by_numbers times t form) table ≡ None → first_of (select_faults times table form) ≡ None → ⊥
no_select times None form h k = let e = (all_none (select_faults times None form) k).0 in cc
no_select times (Some t) form h k = cc

no_agg : (times : Times) (table : Known) (form : AggForm) → option_map (λ t. agg_by_numbers times t form) table ≡ None → first_of (agg_faults times table form) ≡ None → ⊥
no_agg times None form h k = let e = (all_none (agg_faults times None form) k).0 in cc
no_agg times (Some t) form h k = cc

no_join : (times : Times) (left right : Known) (form : JoinForm) → option_and_then (λ l. option_map (λ r. join_by_numbers times l r form) right) left ≡ None → first_of (join_faults times left right form) ≡ None → ⊥
no_join times None right form h k = let e = (all_none (join_faults times None right form) k).0 in cc
no_join times (Some l) None form h k =
    let parts = none_of_parts (pred_faults l.1 form.left_pred ++ (table_fault None form.right ∷ []) ++ [] ++ on_faults (Some l) None form) _ (all_none (join_faults times (Some l) None form) k).1 in
    let on = none_of_parts (pred_faults l.1 form.left_pred ++ (table_fault None form.right ∷ []) ++ []) _ parts.0 in
    let right = none_of_parts (pred_faults l.1 form.left_pred ++ (table_fault None form.right ∷ [])) _ on.0 in
    let e = (none_of_parts (pred_faults l.1 form.left_pred) (table_fault None form.right ∷ []) right.0).1.0 in
    cc
no_join times (Some l) (Some r) form h k = cc

checked_fault : (now : ℕ) (db : plain.Database) (q : Query) (e : CheckFault) → checked now db q ≡ Err e → first_of (faults_of now db q) ≡ Some e
checked_fault now db (query.Select form) e h = fault_first _ _ form.table e (no_select (times_for now db (query.Select form)) (table_named db form.table) form) h
checked_fault now db (query.Agg form) e h = fault_first _ _ form.table e (no_agg (times_for now db (query.Agg form)) (table_named db form.table) form) h
checked_fault now db (query.Join form) e h = fault_first _ _ form.left e (no_join (times_for now db (query.Join form)) (table_named db form.left) (table_named db form.right) form) h

-- a fault that is answered is the first of those at all places
pub answered_first : (now : ℕ) (db : plain.Database) (q : Query) (r : Result Typed CheckFault) → IsUnlessMemory r (checked now db q) → IfErr r (λ e. (e ≡ fault.NoMemory) ⊎ IsFirst e (faults_of now db q))
answered_first now db q (Ok t) h = tt
answered_first now db q (Err fault.NoMemory) h = inl refl
answered_first now db q (Err e) h = inr (first_is (faults_of now db q) e (checked_fault now db q e (h (λ k. cc))))

checked_right : (now : ℕ) (db : plain.Database) (q : Query) (t : Typed) → checked now db q ≡ Ok t → first_of (faults_of now db q) ≡ None
checked_right now db (query.Select form) t h = (fault_or_right _ _ form.table t h).0
checked_right now db (query.Agg form) t h = (fault_or_right _ _ form.table t h).0
checked_right now db (query.Join form) t h = (fault_or_right _ _ form.left t h).0

-- where a query is given there is no fault at any place
pub answered_right : (now : ℕ) (db : plain.Database) (q : Query) (r : Result Typed CheckFault) → IsUnlessMemory r (checked now db q) → IfOk r (λ t. IsFaultless (faults_of now db q))
answered_right now db q (Ok t) h = none_is (faults_of now db q) (checked_right now db q t h)
answered_right now db q (Err e) h = tt

-- A floor changes no answer, and which queries may be asked.
use mathlib.Core.Path.{fun_ext}
use Rattle.std.proofs.Common.{◌≡◌, ℕ, zero, suc, ℤ, pos, negsuc, ◌+◌, ◌<◌, ◌≤◌, nat_abs, Bool, true, false, ◌||◌, nat_lt, List, [], ◌∷◌, ◌++◌, map, Option, Some, None, option_map, option_and_then, Result, Ok, Err, IsTrue, slice_get, refl, sym, ◌∙◌, ap, ap₂, subst, arith}
use Rattle.std.specs.List.{filter, flat_map}
use Rattle.std.proofs.lemmas.Bool.Decides.{nat_tests}
use Rattle.tl_types.specs.declared.cells.Cell.{Cell}
use Rattle.tl_types.specs.declared.commits.Commit.{Commit}
use Rattle.tl_types.specs.declared.commits.Body.{Body}
use Rattle.tl_types.specs.declared.limits.Limits.{Limits}
use Rattle.tl_types.specs.Plain as plain
use Rattle.tl_types.specs.History.{with_floor, at_place, after_body, after_commit, fits, fits_body, fits_floor, has_name, without_floors, rows_of}
use Rattle.tl_types.specs.Resolving.{find_from, find_table}
use Rattle.tl_types.proofs.Lists.{and_left, and_right}
use Rattle.tl_query.specs.declared.ast.AggKind.{AggKind}
use Rattle.tl_query.specs.declared.ast.Name.{Name}
use Rattle.tl_query.specs.declared.ast.Stamp.{Stamp}
use Rattle.tl_query.specs.declared.ast.AsOf.{AsOf}
use Rattle.tl_query.specs.declared.ast.AsOf.TheVariants as as_ofs
use Rattle.tl_query.specs.declared.ast.Over.{Over}
use Rattle.tl_query.specs.declared.ast.Over.TheVariants as over
use Rattle.tl_query.specs.declared.ast.SelectForm.{SelectForm}
use Rattle.tl_query.specs.declared.ast.AggForm.{AggForm}
use Rattle.tl_query.specs.declared.ast.JoinForm.{JoinForm}
use Rattle.tl_query.specs.declared.ast.Query.{Query}
use Rattle.tl_query.specs.declared.ast.Query.TheVariants as query
use Rattle.tl_query.specs.declared.check_faults.CheckFault.{CheckFault}
use Rattle.tl_query.specs.declared.check_faults.CheckFault.TheVariants as fault
use Rattle.tl_query.specs.declared.typed_queries.Span.{Span}
use Rattle.tl_query.specs.declared.typed_queries.Span.TheVariants as span
use Rattle.tl_query.specs.declared.typed_queries.Typed.{Typed}
use Rattle.tl_query.specs.declared.typed_queries.Typed.TheVariants as typed
use Rattle.tl_query.specs.declared.typed_queries.TypedPred.{TypedPred}
use Rattle.tl_query.specs.Passing.{passes}
use Rattle.tl_query.specs.Ordered.{values_of}
use Rattle.tl_query.specs.Aggregates.{standing_at, rows_at, passing_at, has_value, group_at, runs_in, group_runs, aggregate_runs}
use Rattle.tl_query.specs.Joins.{joined_pairs}
use Rattle.tl_query.specs.Answers.{run_fields, pair_fields, answer_of}
use Rattle.tl_query.specs.Checking.{earlier, first_of, fault_if, table_named, floor_named, Times, item_fault, version_fault, forgotten_fault, version_of, typed_items_of}
use Rattle.tl_query.specs.CheckingQueries.{Known, where_known, table_fault, pred_faults, point_fault, is_timeless, over_faults, measure_faults, by_faults, on_faults, versions_fault, end_fault, start_fault, moments_fault, select_faults, agg_faults, join_faults, query_floor, times_for, typed_pred_of, column_place, span_of, select_by_numbers, agg_by_numbers, join_by_numbers, fault_or, select_checked, agg_checked, join_checked, checked_at}
use Rattle.tl_query.proofs.FloorLemmas.{one_answer}
use Rattle.tl_check.proofs.FirstLemmas.{first_of_append, earlier_none}
use Rattle.tl_jobs.specs.Forgetting.{tables_without_floors, IsForget, stated_in, stated_over, stated_at, IsReachedIn, IsReachedOver, IsReachedBy, asked, IsAnsweredAs}

-- ANSWERS ARE OF TABLES ALONE

-- the same tables at another version and with other stamps
module _ (v w : ℕ) (tables : List plain.Table) (s r : List plain.Stamp) where
  abbrev one : plain.Database
  one = record { version = v; tables = tables; stamps = s }

  abbrev two : plain.Database
  two = record { version = w; tables = tables; stamps = r }

  standing_same : (table : ℕ) (moment : ℤ) → standing_at one table moment ≡ standing_at two table moment
  standing_same table (pos version) = refl
  standing_same table (negsuc n) = refl

  rows_at_same : (table : ℕ) (p : Span) (moment : ℤ) → rows_at one table p moment ≡ rows_at two table p moment
  rows_at_same table (span.System from to) moment = standing_same table moment
  rows_at_same table (span.Valid version from to) moment = refl

  passing_same : (table : ℕ) (p : TypedPred) (q : Span) → passing_at one table p q ≡ passing_at two table p q
  passing_same table p q = fun_ext (λ moment. ap (λ rows. filter (passes p) (map (λ r. r.1) rows)) (rows_at_same table q moment))

  group_same : (table : ℕ) (p : TypedPred) (q : Span) (by : ℕ) (value : Cell) → group_at one table p q by value ≡ group_at two table p q by value
  group_same table p q by value = ap (λ (f : ℤ → List plain.Row). λ moment. filter (has_value by value) (f moment)) (passing_same table p q)

  runs_same : (table : ℕ) (kind : AggKind) (column by : Option ℕ) (p : TypedPred) (q : Span) → aggregate_runs one table kind column by p q ≡ aggregate_runs two table kind column by p q
  unfolding aggregate_runs
  runs_same table kind column None p q = ap (runs_in kind column q) (passing_same table p q)
  runs_same table kind column (Some by) p q =
      ap (λ g. flat_map g (values_of by (rows_of one table))) (fun_ext (λ value. ap (λ rows. group_runs kind column q rows value) (group_same table p q by value)))

  pairs_same : (left right : ℕ) (p q : TypedPred) (left_on right_on : ℕ) (n : Span) → joined_pairs one left p right q left_on right_on n ≡ joined_pairs two left p right q left_on right_on n
  unfolding joined_pairs
  pairs_same left right p q left_on right_on n = refl

  at_any_version : (q : Typed) → answer_of one q ≡ answer_of two q
  at_any_version (typed.Select table items p valid_at version) = refl
  at_any_version (typed.Agg table kind column by p q) = ap (map run_fields) (runs_same table kind column by p q)
  at_any_version (typed.Join left p right q left_on right_on n) =
      ap (map (pair_fields (rows_of one left) (rows_of one right))) (pairs_same left right p q left_on right_on n)

pub answer_by_tables : (db other : plain.Database) (q : Typed) → tables_without_floors db ≡ tables_without_floors other → answer_of db q ≡ answer_of other q
answer_by_tables db other q e =
    let here : plain.Database = record { version = other.version; tables = db.tables; stamps = other.stamps } in
    let floors : without_floors here ≡ without_floors other = ap (λ (ts : List plain.Table). record { version = other.version; tables = ts; stamps = other.stamps }) e in
    at_any_version db.version other.version db.tables db.stamps other.stamps q ∙ one_answer here other q floors

-- THE TABLES AFTER A FORGET

floors_alone : (number floor : ℕ) (tables : List plain.Table) → map (with_floor 0) (at_place number (with_floor floor) tables) ≡ map (with_floor 0) tables
floors_alone number floor [] = refl
floors_alone zero floor (t ∷ tables) = refl
floors_alone (suc number) floor (t ∷ tables) = ap (λ ts. with_floor 0 t ∷ ts) (floors_alone number floor tables)

abbrev schema_part : Option (ℕ × plain.Table) → Option (ℕ × plain.Schema)
schema_part None = None
schema_part (Some t) = Some (t.0, t.1.schema)

abbrev floor_part : Option (ℕ × plain.Table) → ℕ
floor_part None = 0
floor_part (Some t) = t.1.floor

named_is : (db : plain.Database) (name : Name) → table_named db name ≡ schema_part (find_table name.text db.tables)
named_is db name = by_found (find_table name.text db.tables) refl where
  by_found : (o : Option (ℕ × plain.Table)) → find_table name.text db.tables ≡ o → table_named db name ≡ schema_part (find_table name.text db.tables)
  by_found None e = rw e refl
  by_found (Some t) e = rw e refl

floor_is : (db : plain.Database) (name : Name) → floor_named db name ≡ floor_part (find_table name.text db.tables)
floor_is db name = by_found (find_table name.text db.tables) refl where
  by_found : (o : Option (ℕ × plain.Table)) → find_table name.text db.tables ≡ o → floor_named db name ≡ floor_part (find_table name.text db.tables)
  by_found None e = rw e refl
  by_found (Some t) e = rw e refl

found_same : (k number floor : ℕ) (name : List ℕ) (tables : List plain.Table) → schema_part (find_from k name (at_place number (with_floor floor) tables)) ≡ schema_part (find_from k name tables)
found_same k number floor name [] = refl
found_same k zero floor name (t ∷ tables) = by_test (has_name name t) refl where
  by_test : (b : Bool) → has_name name t ≡ b → schema_part (find_from k name (with_floor floor t ∷ tables)) ≡ schema_part (find_from k name (t ∷ tables))
  by_test true e = rw e refl
  by_test false e = rw e refl
found_same k (suc number) floor name (t ∷ tables) = by_test (has_name name t) refl (found_same (k + 1) number floor name tables) where
  by_test : (b : Bool) → has_name name t ≡ b → schema_part (find_from (k + 1) name (at_place number (with_floor floor) tables)) ≡ schema_part (find_from (k + 1) name tables)
      → schema_part (find_from k name (t ∷ at_place number (with_floor floor) tables)) ≡ schema_part (find_from k name (t ∷ tables))
  by_test true e h = rw e refl
  by_test false e h = rw e h

raised : (now k number floor : ℕ) (name : List ℕ) (tables : List plain.Table) → fits_floor now floor (slice_get tables number) ≡ true → floor_part (find_from k name tables) ≤ floor_part (find_from k name (at_place number (with_floor floor) tables))
raised now k number floor name [] f = omega arith
raised now k zero floor name (t ∷ tables) f = by_test (has_name name t) refl where
  above : nat_lt t.floor floor ≡ true
  above = and_left (nat_lt t.floor floor) _ f

  by_test : (b : Bool) → has_name name t ≡ b → floor_part (find_from k name (t ∷ tables)) ≤ floor_part (find_from k name (with_floor floor t ∷ tables))
  by_test true e = let less : t.floor ≤ floor = (let a = above in grind (arith, nat_tests)) in rw e less
  by_test false e = rw e (omega arith)
raised now k (suc number) floor name (t ∷ tables) f = by_test (has_name name t) refl (raised now (k + 1) number floor name tables f) where
  by_test : (b : Bool) → has_name name t ≡ b → floor_part (find_from (k + 1) name tables) ≤ floor_part (find_from (k + 1) name (at_place number (with_floor floor) tables))
      → floor_part (find_from k name (t ∷ tables)) ≤ floor_part (find_from k name (t ∷ at_place number (with_floor floor) tables))
  by_test true e h = rw e (omega arith)
  by_test false e h = rw e h

-- THE FIRST FAULT

-- where the first list has no fault, this is the first one of the second
record Leads (old new : List (Option CheckFault)) (r : Option CheckFault) : Type 0 where
  leads : first_of old ≡ None → first_of new ≡ r

leads_front : (xs ys zs : List (Option CheckFault)) (r : Option CheckFault) → Leads ys zs r → Leads (xs ++ ys) (xs ++ zs) r
leads_front xs ys zs r h = record {
  leads = λ e. let n = earlier_none (first_of xs) (first_of ys) (sym (first_of_append xs ys) ∙ e) in
      first_of_append xs zs ∙ ap₂ earlier n.0 (h.leads n.1);
}

no_fault : (b : Bool) (x : CheckFault) → fault_if b x ≡ None → b ≡ false
no_fault true x e = absurd (cc)
no_fault false x e = refl

pair_leads : (b c d f : Bool) (x y z w : CheckFault) → (b ≡ false → d ≡ false) → Leads (fault_if b x ∷ fault_if c y ∷ []) (fault_if d z ∷ fault_if f w ∷ []) (fault_if f w)
pair_leads b c d f x y z w h = record {
  leads = λ e. let n = earlier_none (fault_if b x) (fault_if c y) e in
      let m : fault_if d z ≡ None = ap (λ t. fault_if t z) (h (no_fault b x n.0)) in
      ap (λ o. earlier o (fault_if f w)) m;
}

-- the fault of a version below a floor
abbrev low : Stamp → ℕ → Option CheckFault
low stamp floor = fault_if (nat_lt (nat_abs stamp.value) floor) (fault.Forgotten stamp.at floor)

-- a version that is given as a number, and is not after the one, is not after the other
abbrev StaysIn : ℕ → ℕ → Option AsOf → Type 0
StaysIn now later None = Unit {0}
StaysIn now later (Some (as_ofs.Version stamp)) = nat_lt now (nat_abs stamp.value) ≡ false → nat_lt later (nat_abs stamp.value) ≡ false
StaysIn now later (Some (as_ofs.Moment stamp)) = Unit {0}

abbrev StaysOver : ℕ → ℕ → Over → Type 0
StaysOver now later over.SystemAll = Unit {0}
StaysOver now later (over.System from to) = nat_lt (now + 1) (nat_abs to.value) ≡ false → nat_lt (later + 1) (nat_abs to.value) ≡ false
StaysOver now later (over.Valid at from to as_of) = StaysIn now later as_of

abbrev Stays : ℕ → ℕ → Query → Type 0
Stays now later (query.Select form) = StaysIn now later form.as_of
Stays now later (query.Agg form) = StaysOver now later form.over
Stays now later (query.Join form) = StaysOver now later form.over

in_leads : (t u : Times) (o : Option AsOf) (stamp : Stamp) → stated_in o ≡ Some stamp → StaysIn t.now u.now o → Leads (version_fault t o ∷ forgotten_fault t o ∷ []) (version_fault u o ∷ forgotten_fault u o ∷ []) (low stamp u.floor)
in_leads t u None stamp e h = absurd (cc)
in_leads t u (Some (as_ofs.Moment m)) stamp e h = absurd (cc)
in_leads t u (Some (as_ofs.Version s)) stamp e h =
    let same : s ≡ stamp = cc in
    let o : Option AsOf = Some (as_ofs.Version s) in
    subst (λ n. Leads (version_fault t o ∷ forgotten_fault t o ∷ []) (version_fault u o ∷ forgotten_fault u o ∷ []) (low n u.floor)) same
    (pair_leads (nat_lt t.now (nat_abs s.value)) (nat_lt (nat_abs s.value) t.floor) (nat_lt u.now (nat_abs s.value)) (nat_lt (nat_abs s.value) u.floor)
    (fault.VersionAhead s.at (nat_abs s.value) t.now) (fault.Forgotten s.at t.floor) (fault.VersionAhead s.at (nat_abs s.value) u.now) (fault.Forgotten s.at u.floor) h)

over_leads : (t u : Times) (b : Bool) (o : Over) (stamp : Stamp) → stated_over o ≡ Some stamp → StaysOver t.now u.now o → Leads (over_faults t b o) (over_faults u b o) (low stamp u.floor)
over_leads t u b over.SystemAll stamp e h = absurd (cc)
over_leads t u b (over.System from to) stamp e h =
    let same : from ≡ stamp = cc in
    subst (λ n. Leads (over_faults t b (over.System from to)) (over_faults u b (over.System from to)) (low n u.floor)) same
    (leads_front (versions_fault from to ∷ []) (end_fault t.now to ∷ start_fault t.floor from ∷ []) (end_fault u.now to ∷ start_fault u.floor from ∷ []) (low from u.floor)
    (pair_leads (nat_lt (t.now + 1) (nat_abs to.value)) (nat_lt (nat_abs from.value) t.floor) (nat_lt (u.now + 1) (nat_abs to.value)) (nat_lt (nat_abs from.value) u.floor)
    (fault.VersionAhead to.at (nat_abs to.value) t.now) (fault.Forgotten from.at t.floor) (fault.VersionAhead to.at (nat_abs to.value) u.now) (fault.Forgotten from.at u.floor) h))
over_leads t u b (over.Valid at from to as_of) stamp e h =
    leads_front (fault_if b (fault.NotValidTable at) ∷ moments_fault from to ∷ []) (version_fault t as_of ∷ forgotten_fault t as_of ∷ [])
    (version_fault u as_of ∷ forgotten_fault u as_of ∷ []) (low stamp u.floor) (in_leads t u as_of stamp e h)

-- THE CHECK

-- the query, or the fault where there is one
abbrev or_fault : Option CheckFault → Typed → Result Typed CheckFault
or_fault None q = Ok q
or_fault (Some f) q = Err f

or_ok : (o : Option CheckFault) (t : Option Typed) (name : Name) (q : Typed) → fault_or o t name ≡ Ok q → (o ≡ None) × (t ≡ Some q)
or_ok (Some f) t name q e = absurd (cc)
or_ok None (Some t) name q e = let same : t ≡ q = cc in (refl, ap Some same)
or_ok None None name q e = absurd (cc)

or_done : (r : Option CheckFault) (name : Name) (q : Typed) → fault_or r (Some q) name ≡ or_fault r q
or_done None name q = refl
or_done (Some f) name q = refl

moved_or : (o p : Option CheckFault) (t u : Option Typed) (name : Name) (q : Typed) (r : Option CheckFault) → fault_or o t name ≡ Ok q → (o ≡ None → p ≡ r) → u ≡ t → fault_or p u name ≡ or_fault r q
moved_or o p t u name q r e h s =
    let k = or_ok o t name q e in
    ap₂ (λ (a : Option CheckFault) (b : Option Typed). fault_or a b name) (h k.0) (s ∙ k.1) ∙ or_done r name q

version_same : (t u : Times) (o : Option AsOf) (stamp : Stamp) → stated_in o ≡ Some stamp → version_of u o ≡ version_of t o
version_same t u None stamp e = absurd (cc)
version_same t u (Some (as_ofs.Moment m)) stamp e = absurd (cc)
version_same t u (Some (as_ofs.Version s)) stamp e = refl

span_same : (t u : Times) (o : Over) (stamp : Stamp) → stated_over o ≡ Some stamp → span_of u o ≡ span_of t o
span_same t u over.SystemAll stamp e = absurd (cc)
span_same t u (over.System from to) stamp e = refl
span_same t u (over.Valid at from to as_of) stamp e = ap (λ n. span.Valid n from.value to.value) (version_same t u as_of stamp e)

-- a query over tables that are known, and its times before and after
module _ (t u : Times) (q : Typed) (stamp : Stamp) where
  select_moved : (table : Known) (form : SelectForm) → stated_in form.as_of ≡ Some stamp → StaysIn t.now u.now form.as_of → select_checked t table form ≡ Ok q → select_checked u table form ≡ or_fault (low stamp u.floor) q
  select_moved table form e h ok =
      moved_or (first_of (select_faults t table form)) (first_of (select_faults u table form))
      (option_map (λ x. select_by_numbers t x form) table) (option_map (λ x. select_by_numbers u x form) table) form.table q (low stamp u.floor) ok
      (leads_front (where_known table (λ s. map (item_fault s) form.items) ++ (table_fault table form.table ∷ []) ++ where_known table (λ s. pred_faults s form.pred)) _ _ (low stamp u.floor)
      (leads_front (point_fault (is_timeless table) form.valid_at ∷ []) _ _ (low stamp u.floor) (in_leads t u form.as_of stamp e h))).leads
      (ap (λ n. option_map (λ (x : ℕ × plain.Schema). typed.Select x.0 (typed_items_of x.1 form) (typed_pred_of x.1 form.pred) (option_map (λ p. p.value) form.valid_at) n) table) (version_same t u form.as_of stamp e))

  agg_moved : (table : Known) (form : AggForm) → stated_over form.over ≡ Some stamp → StaysOver t.now u.now form.over → agg_checked t table form ≡ Ok q → agg_checked u table form ≡ or_fault (low stamp u.floor) q
  agg_moved table form e h ok =
      moved_or (first_of (agg_faults t table form)) (first_of (agg_faults u table form))
      (option_map (λ x. agg_by_numbers t x form) table) (option_map (λ x. agg_by_numbers u x form) table) form.table q (low stamp u.floor) ok
      (leads_front (where_known table (λ s. measure_faults s form.column) ++ (table_fault table form.table ∷ []) ++ where_known table (λ s. pred_faults s form.pred) ++ where_known table (λ s. by_faults s form.by)) _ _ (low stamp u.floor)
      (over_leads t u (is_timeless table) form.over stamp e h)).leads
      (ap (λ n. option_map (λ (x : ℕ × plain.Schema). typed.Agg x.0 form.kind (option_map (column_place x.1) form.column) (option_map (column_place x.1) form.by) (typed_pred_of x.1 form.pred) n) table) (span_same t u form.over stamp e))

  join_moved : (left right : Known) (form : JoinForm) → stated_over form.over ≡ Some stamp → StaysOver t.now u.now form.over → join_checked t left right form ≡ Ok q → join_checked u left right form ≡ or_fault (low stamp u.floor) q
  join_moved left right form e h ok =
      moved_or (first_of (join_faults t left right form)) (first_of (join_faults u left right form))
      (option_and_then (λ l. option_map (λ r. join_by_numbers t l r form) right) left) (option_and_then (λ l. option_map (λ r. join_by_numbers u l r form) right) left) form.left q (low stamp u.floor) ok
      (leads_front ((table_fault left form.left ∷ []) ++ where_known left (λ s. pred_faults s form.left_pred) ++ (table_fault right form.right ∷ []) ++ where_known right (λ s. pred_faults s form.right_pred) ++ on_faults left right form) _ _ (low stamp u.floor)
      (over_leads t u (is_timeless left || is_timeless right) form.over stamp e h)).leads
      (ap (λ n. option_and_then (λ (l : ℕ × plain.Schema). option_map (λ (r : ℕ × plain.Schema). typed.Join l.0 (typed_pred_of l.1 form.left_pred) r.0 (typed_pred_of r.1 form.right_pred) (column_place l.1 form.left_on) (column_place r.1 form.right_on) n) right) left) (span_same t u form.over stamp e))

at_moved : (t u : Times) (db other : plain.Database) (q : Query) (p : Typed) (stamp : Stamp) → ((name : Name) → table_named other name ≡ table_named db name) → stated_at q ≡ Some stamp → Stays t.now u.now q → checked_at t db q ≡ Ok p → checked_at u other q ≡ or_fault (low stamp u.floor) p
at_moved t u db other (query.Select form) p stamp same e h ok =
    ap (λ table. select_checked u table form) (same form.table) ∙ select_moved t u p stamp (table_named db form.table) form e h ok
at_moved t u db other (query.Agg form) p stamp same e h ok =
    ap (λ table. agg_checked u table form) (same form.table) ∙ agg_moved t u p stamp (table_named db form.table) form e h ok
at_moved t u db other (query.Join form) p stamp same e h ok =
    ap₂ (λ (l r : Known). join_checked u l r form) (same form.left) (same form.right) ∙ join_moved t u p stamp (table_named db form.left) (table_named db form.right) form e h ok

up_in : (n m : ℕ) (o : Option AsOf) → n ≤ m → StaysIn n m o
up_in n m None h = tt
up_in n m (Some (as_ofs.Moment s)) h = tt
up_in n m (Some (as_ofs.Version s)) h = λ e. grind (arith, nat_tests)

up_over : (n m : ℕ) (o : Over) → n ≤ m → StaysOver n m o
up_over n m over.SystemAll h = tt
up_over n m (over.System from to) h = λ e. grind (arith, nat_tests)
up_over n m (over.Valid at from to as_of) h = up_in n m as_of h

up : (n m : ℕ) (q : Query) → n ≤ m → Stays n m q
up n m (query.Select form) h = up_in n m form.as_of h
up n m (query.Agg form) h = up_over n m form.over h
up n m (query.Join form) h = up_over n m form.over h

down_in : (n m : ℕ) (o : Option AsOf) → IsReachedIn m o → StaysIn n m o
down_in n m None h = tt
down_in n m (Some (as_ofs.Moment s)) h = tt
down_in n m (Some (as_ofs.Version s)) h = λ e. grind (arith, nat_tests)

down_over : (n m : ℕ) (o : Over) → IsReachedOver m o → StaysOver n m o
down_over n m over.SystemAll h = tt
down_over n m (over.System from to) h = λ e. grind (arith, nat_tests)
down_over n m (over.Valid at from to as_of) h = down_in n m as_of h

down : (n m : ℕ) (q : Query) → IsReachedBy m q → Stays n m q
down n m (query.Select form) h = down_in n m form.as_of h
down n m (query.Agg form) h = down_over n m form.over h
down n m (query.Join form) h = down_over n m form.over h

low_ok : (b : Bool) (f : CheckFault) (q : Typed) → or_fault (fault_if b f) q ≡ Ok q → b ≡ false
low_ok true f q e = absurd (cc)
low_ok false f q e = refl

-- A FORGET

-- a database and what a FORGET makes of it
module _ (db : plain.Database) (commit : Commit) (forget : IsForget commit) where
  abbrev after : plain.Database
  after = after_commit db commit

  tables_are : after.tables ≡ at_place forget.0 (with_floor forget.1) db.tables
  tables_are = ap (λ (b : Body). after_body (db.version + 1) b db.tables) forget.2

  named_same : (name : Name) → table_named after name ≡ table_named db name
  named_same name =
      named_is after name ∙ ap (λ ts. schema_part (find_table name.text ts)) tables_are
      ∙ found_same 0 forget.0 forget.1 name.text db.tables ∙ sym (named_is db name)

  answers_same : (q : Typed) → answer_of after q ≡ answer_of db q
  answers_same q = answer_by_tables after db q (ap (map (with_floor 0)) tables_are ∙ floors_alone forget.0 forget.1 db.tables)

  asked_after : (q : Query) (p : Typed) (stamp : Stamp) → stated_at q ≡ Some stamp → asked db q ≡ Ok p → asked after q ≡ or_fault (low stamp (query_floor after q)) p
  asked_after q p stamp e ok =
      at_moved (times_for db.version db q) (times_for after.version after q) db after q p stamp named_same e (up db.version (db.version + 1) q (omega arith)) ok

  pub kept_after : (q : Query) (p : Typed) (stamp : Stamp) → stated_at q ≡ Some stamp → asked db q ≡ Ok p → query_floor after q ≤ nat_abs stamp.value → IsAnsweredAs db after q p
  kept_after q p stamp e ok l =
      let not_low : nat_lt (nat_abs stamp.value) (query_floor after q) ≡ false = grind (arith, nat_tests) in
      (asked_after q p stamp e ok ∙ ap (λ b. or_fault (fault_if b (fault.Forgotten stamp.at (query_floor after q))) p) not_low, answers_same p)

  pub forgotten_after : (q : Query) (p : Typed) (stamp : Stamp) → stated_at q ≡ Some stamp → asked db q ≡ Ok p → nat_abs stamp.value < query_floor after q → asked after q ≡ Err (fault.Forgotten stamp.at (query_floor after q))
  forgotten_after q p stamp e ok l =
      let is_low : nat_lt (nat_abs stamp.value) (query_floor after q) ≡ true = grind (arith, nat_tests) in
      asked_after q p stamp e ok ∙ ap (λ b. or_fault (fault_if b (fault.Forgotten stamp.at (query_floor after q))) p) is_low

  floor_rises : (limits : Limits) → IsTrue (fits limits db commit) → (name : Name) → floor_named db name ≤ floor_named after name
  floor_rises limits f name =
      let body_fits : fits_body limits db commit.body ≡ true = and_right (nat_lt db.version limits.versions) (fits_body limits db commit.body) f in
      let floor_fits : fits_floor db.version forget.1 (slice_get db.tables forget.0) ≡ true = sym (ap (fits_body limits db) forget.2) ∙ body_fits in
      let h = raised db.version 0 forget.0 forget.1 name.text db.tables floor_fits in
      let now : floor_named after name ≡ floor_part (find_table name.text (at_place forget.0 (with_floor forget.1) db.tables)) = floor_is after name ∙ ap (λ ts. floor_part (find_table name.text ts)) tables_are in
      let old = floor_is db name in
      omega (arith, h, now, old)

  rises : (limits : Limits) → IsTrue (fits limits db commit) → (q : Query) → query_floor db q ≤ query_floor after q
  rises limits f (query.Select form) = floor_rises limits f form.table
  rises limits f (query.Agg form) = floor_rises limits f form.table
  rises limits f (query.Join form) =
      let l = floor_rises limits f form.left in
      let r = floor_rises limits f form.right in
      grind (arith)

  pub kept_before : (limits : Limits) (q : Query) (p : Typed) (stamp : Stamp) → IsTrue (fits limits db commit) → stated_at q ≡ Some stamp → IsReachedBy db.version q → asked after q ≡ Ok p → IsAnsweredAs after db q p
  kept_before limits q p stamp f e reached ok =
      let again = at_moved (times_for after.version after q) (times_for after.version after q) after after q p stamp (λ name. refl) e (up after.version after.version q (omega arith)) ok in
      let not_low = low_ok (nat_lt (nat_abs stamp.value) (query_floor after q)) (fault.Forgotten stamp.at (query_floor after q)) p (sym again ∙ ok) in
      let less = rises limits f q in
      let not_low' : nat_lt (nat_abs stamp.value) (query_floor db q) ≡ false = grind (arith, nat_tests) in
      let moved = at_moved (times_for after.version after q) (times_for db.version db q) after db q p stamp (λ name. sym (named_same name)) e (down after.version db.version q reached) ok in
      (moved ∙ ap (λ b. or_fault (fault_if b (fault.Forgotten stamp.at (query_floor db q))) p) not_low', sym (answers_same p))

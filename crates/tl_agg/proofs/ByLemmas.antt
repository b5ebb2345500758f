-- The runs of the groups of all values are those that the plan asks for.
use Rattle.std.proofs.Common.{◌≡◌, ℕ, zero, suc, ◌≤◌, ℤ, pos, negsuc, ◌+ℤ◌, ◌-ℤ◌, ◌≤ℤ◌, ◌<ℤ◌, Bool, true, false, ◌&&◌, ◌||◌, not, cond, nat_lt, List, [], ◌∷◌, ◌++◌, length, map, Option, Some, None, refl, sym, ap, ◌∙◌, arith, subst, append_assoc}
use mathlib.Core.Path.{fun_ext}
use Rattle.std.specs.Prelude.{◌==◌, is_some}
use Rattle.std.specs.List.{filter, filter_map, flat_map, cons_option, AllByRecursion}
use Rattle.std.specs.Map.{lookup}
use Rattle.std.proofs.lemmas.Int.{ints}
use Rattle.std.proofs.lemmas.List.{append-nil}
use Rattle.tl_types.specs.declared.cells.Cell.{Cell}
use Rattle.tl_types.specs.declared.cells.Cell.TheVariants as cell
use Rattle.tl_types.specs.declared.cells.Cmp.TheVariants as cmp
use Rattle.tl_types.specs.declared.answers.Field.{Field}
use Rattle.tl_types.specs.declared.runs.Run.{Run}
use Rattle.tl_types.specs.Plain as plain
use Rattle.tl_types.specs.History.{same_cell, cell_at}
use Rattle.tl_types.specs.Walks.{standing}
use Rattle.tl_types.specs.Runs.{same_field, add_stretch, stretch_of, runs_over, count_of, runs_of}
use Rattle.tl_types.proofs.RunLemmas.{count_is}
use Rattle.tl_query.specs.declared.typed_queries.Span.TheVariants as span
use Rattle.tl_query.specs.Aggregates.{aggregate_of, has_value, in_group, with_rows, runs_in, group_runs}
use Rattle.tl_query.specs.Ordered.{cell_before, values_of, has, Rises}
use Rattle.tl_query.specs.Passing.{compare_cells}
use Rattle.tl_agg.specs.Kept.{both, picked, kept_at}
use Rattle.tl_index.specs.Tables.{rows_in}
use Rattle.tl_agg.specs.Groups.{Wanted, kept_in, kept_value, State, IsNone, IsAdvanced, Tracks, HoldsIn, EachAdvanced, grouped, AreAdvanced}
use Rattle.tl_running.specs.Telling.{has_rows}
use Rattle.tl_agg.specs.Runs.{kept_with, runs_by, system_runs}
use Rattle.tl_agg.specs.Scans.{ScanOf, wanted_of, keep_with, Groups, AreAllAdvanced, TrackBy, AllTrack}
use Rattle.tl_query.proofs.CellOrder.{cell_itself, cell_symm, cell_equal}
use Rattle.tl_query.proofs.ValueOrder.{before_apart, values_same, has_fold, rises_fold}
use Rattle.tl_agg.proofs.GroupLemmas.{past_more, advances_made}
use Rattle.tl_running.proofs.TellLemmas.{has_told}

-- THE GROUPS, ONE BEHIND THE OTHER

each_push : (groups : List (Cell × State)) (to : ℕ) (rs : List (List Run)) (value : Cell) (group : State) (runs : List Run) → EachAdvanced groups to rs → IsAdvanced group to runs → EachAdvanced (groups ++ (value, group) ∷ []) to (rs ++ runs ∷ [])
each_push [] to [] value group runs each advanced = (advanced, tt)
each_push [] to (r ∷ rs) value group runs each advanced = absurd each
each_push (g ∷ groups) to [] value group runs each advanced = absurd each
each_push (g ∷ groups) to (r ∷ rs) value group runs each advanced = (each.0, each_push groups to rs value group runs each.1 advanced)

grouped_push : (groups : List (Cell × State)) (to : ℕ) (rs : List (List Run)) (value : Cell) (group : State) (runs : List Run) → EachAdvanced groups to rs → grouped (groups ++ (value, group) ∷ []) (rs ++ runs ∷ []) ≡ grouped groups rs ++ map (in_group value) runs
grouped_push [] to [] value group runs each = append-nil (map (in_group value) runs)
grouped_push [] to (r ∷ rs) value group runs each = absurd each
grouped_push (g ∷ groups) to [] value group runs each = absurd each
grouped_push (g ∷ groups) to (r ∷ rs) value group runs each = ap (λ xs. map (in_group g.0) r ++ xs) (grouped_push groups to rs value group runs each.1) ∙ sym (append_assoc (map (in_group g.0) r) (grouped groups rs) (map (in_group value) runs))

pub advanced_push : (groups : List (Cell × State)) (to : ℕ) (all new : List Run) (value : Cell) (group : State) (runs : List Run) → AreAdvanced groups to all → IsAdvanced group to runs → new ≡ all ++ map (in_group value) runs → AreAdvanced (groups ++ (value, group) ∷ []) to new
advanced_push groups to all new value group runs are advanced new_is = record {
  runs = are.runs ++ runs ∷ [];
  each = each_push groups to are.runs value group runs are.each advanced;
  all_are = new_is ∙ ap (λ xs. xs ++ map (in_group value) runs) are.all_are ∙ sym (grouped_push groups to are.runs value group runs are.each);
}

-- THE ROWS OF A GROUP

kept_split : (set keep : List Bool) (test : plain.Row → Bool) (rows : List plain.Row) → picked (both set (both keep (map test rows))) rows ≡ filter test (picked (both set keep) rows)
kept_split [] keep test rows = refl
kept_split (s ∷ set) [] test rows = refl
kept_split (s ∷ set) (k ∷ keep) test [] = refl
kept_split (s ∷ set) (k ∷ keep) test (r ∷ rows) = by_tests s k (test r) refl (kept_split set keep test rows) where
  by_tests : (s k t : Bool) → test r ≡ t → picked (both set (both keep (map test rows))) rows ≡ filter test (picked (both set keep) rows)
      → cond (s && (k && t)) (r ∷ picked (both set (both keep (map test rows))) rows) (picked (both set (both keep (map test rows))) rows) ≡ filter test (cond (s && k) (r ∷ picked (both set keep) rows) (picked (both set keep) rows))
  by_tests true true true e h = rw e (ap (λ rs. r ∷ rs) h)
  by_tests true true false e h = rw e h
  by_tests true false t e h = h
  by_tests false k t e h = h

rows_with : (scan : ScanOf) (by : ℕ) (value : Cell) (moment : ℤ) → kept_at (rows_in scan.table) (keep_with scan by value) moment ≡ kept_with (rows_in scan.table) scan.keep by value moment
rows_with scan by value (pos version) = kept_split (standing (rows_in scan.table) version) scan.keep (has_value by value) (rows_in scan.table)
rows_with scan by value (negsuc n) = refl

-- THE VALUES OF RUNS

abbrev pub IsRunOf : (ℤ → Field) → ℤ → ℤ → Run → Type 0
IsRunOf f from to run = (from ≤ℤ run.from) × (run.from <ℤ to) × (run.value ≡ f run.from)

abbrev pub AreRunsOf : (ℤ → Field) → ℤ → ℤ → List Run → Type 0
AreRunsOf f from to [] = Unit {0}
AreRunsOf f from to (run ∷ runs) = IsRunOf f from to run × AreRunsOf f from to runs

runs_add : (f : ℤ → Field) (from to : ℤ) (runs : List Run) (s : Run) → AreRunsOf f from to runs → IsRunOf f from to s → AreRunsOf f from to (add_stretch runs s)
runs_add f from to [] s are is = (is, tt)
runs_add f from to (run ∷ []) s are is = by_test (same_field run.value s.value) where
  by_test : (b : Bool) → AreRunsOf f from to (cond b (record run { to = s.to } ∷ []) (run ∷ s ∷ []))
  by_test true = (are.0, tt)
  by_test false = (are.0, (is, tt))
runs_add f from to (run ∷ next ∷ runs) s are is = (are.0, runs_add f from to (next ∷ runs) s are.1 is)

runs_wider : (f : ℤ → Field) (from to later : ℤ) (runs : List Run) → to ≤ℤ later → AreRunsOf f from to runs → AreRunsOf f from later runs
runs_wider f from to later [] l are = tt
runs_wider f from to later (run ∷ runs) l are = let a = are.0.1 in let b : run.from <ℤ later = omega (arith, ints) in ((are.0.0, b, are.0.2), runs_wider f from to later runs l are.1)

runs_are_over : (f : ℤ → Field) (from : ℤ) (n : ℕ) → AreRunsOf f from (from +ℤ pos n) (runs_over f from n)
unfolding runs_over
runs_are_over f from zero = tt
runs_are_over f from (suc n) =
    let l : (from +ℤ pos n) ≤ℤ (from +ℤ pos (suc n)) = omega (arith, ints) in
    let a : from ≤ℤ (from +ℤ pos n) = omega (arith, ints) in
    let b : (from +ℤ pos n) <ℤ (from +ℤ pos (suc n)) = omega (arith, ints) in
    runs_add f from (from +ℤ pos (suc n)) (runs_over f from n) (stretch_of (from +ℤ pos n) (from +ℤ pos n +ℤ pos 1) (f (from +ℤ pos n))) (runs_wider f from (from +ℤ pos n) (from +ℤ pos (suc n)) (runs_over f from n) l (runs_are_over f from n)) (a, b, refl)

pub runs_are : (f : ℤ → Field) (from to : ℤ) → from ≤ℤ to → AreRunsOf f from to (runs_of f from to)
runs_are f from to l =
    let n = count_is (to -ℤ from) (omega (arith, ints)) in
    let e : from +ℤ pos (count_of (to -ℤ from)) ≡ to = omega (arith, ints) in
    subst (λ z. AreRunsOf f from z (runs_of f from to)) e (runs_are_over f from (count_of (to -ℤ from)))

pub filter_same : (f : ℤ → Field) (from to : ℤ) (P Q : Run → Bool) (runs : List Run) → AreRunsOf f from to runs → ((run : Run) → IsRunOf f from to run → P run ≡ Q run) → filter P runs ≡ filter Q runs
filter_same f from to P Q [] are same = refl
filter_same f from to P Q (run ∷ runs) are same = ap (λ b. cond b (run ∷ filter P runs) (filter P runs)) (same run are.0) ∙ ap (λ xs. cond (Q run) (run ∷ xs) xs) (filter_same f from to P Q runs are.1 same)

-- THE RUNS OF A GROUP

-- those that the plan asks for of a value
abbrev pub runs_with : ScanOf → ℕ → Cell → List Run
runs_with scan by value = group_runs scan.plan.kind scan.plan.column (span.System scan.from scan.to) (kept_with (rows_in scan.table) scan.keep by value) value

group_told : (scan : ScanOf) (by : ℕ) (value : Cell) (set : List Bool) (group : State) (runs : List Run) → is_some scan.plan.by ≡ true → scan.from ≤ scan.to → Tracks (wanted_of scan (keep_with scan by value)) set scan.to group → IsAdvanced group scan.to runs → map (in_group value) runs ≡ runs_with scan by value
group_told scan by value set group runs gaps l tracks advanced = ap (map (in_group value)) (made ∙ filled ∙ functions) where
  wanted : Wanted
  wanted = wanted_of scan (keep_with scan by value)

  rows : ℤ → List plain.Row
  rows = kept_with (rows_in scan.table) scan.keep by value

  P : Run → Bool
  P run = has_rows scan.plan.kind run.value

  Q : Run → Bool
  Q run = not (length (rows run.from) == 0)

  made : runs ≡ filter P (runs_of (kept_value wanted) (pos scan.from) (pos scan.to))
  made = advanced.runs_are ∙ advances_made wanted set scan.to group advanced.state tracks advanced.advances
      ∙ ap (λ b. cond b (filter P (runs_of (kept_value wanted) (pos scan.from) (pos scan.to))) (runs_of (kept_value wanted) (pos scan.from) (pos scan.to))) gaps

  at_moment : (z : ℤ) → pos scan.from ≤ℤ z → z <ℤ pos scan.to → has_rows scan.plan.kind (kept_value wanted z) ≡ not (length (rows z) == 0)
  at_moment (pos version) a b =
      has_told scan.plan.kind scan.plan.column (kept_in wanted (standing (rows_in scan.table) version)) (past_more wanted set scan.to group tracks version (omega (arith, ints)) (omega (arith, ints)))
      ∙ ap (λ rs. not (length rs == 0)) (rows_with scan by value (pos version))
  at_moment (negsuc n) a b = absurd (omega (arith, ints))

  filled : filter P (runs_of (kept_value wanted) (pos scan.from) (pos scan.to)) ≡ filter Q (runs_of (kept_value wanted) (pos scan.from) (pos scan.to))
  filled = filter_same (kept_value wanted) (pos scan.from) (pos scan.to) P Q (runs_of (kept_value wanted) (pos scan.from) (pos scan.to)) (runs_are (kept_value wanted) (pos scan.from) (pos scan.to) (omega (arith, ints)))
      (λ run is. ap (has_rows scan.plan.kind) is.2 ∙ at_moment run.from is.0 is.1)

  functions : filter Q (runs_of (kept_value wanted) (pos scan.from) (pos scan.to)) ≡ with_rows rows (runs_in scan.plan.kind scan.plan.column (span.System scan.from scan.to) rows)
  functions = ap (λ (f : ℤ → Field). filter Q (runs_of f (pos scan.from) (pos scan.to))) (fun_ext (λ moment. ap (aggregate_of scan.plan.kind scan.plan.column) (rows_with scan by value moment)))

-- a value that no group has
abbrev fresh : ScanOf → State
fresh scan = record { running = record { kind = scan.plan.kind; count = 0; sum = pos 0; bag = [] }; since = scan.from; runs = []; gaps = true }

fresh_none : (scan : ScanOf) → is_some scan.plan.by ≡ true → IsNone (fresh scan) scan.plan.kind (is_some scan.plan.by) scan.from
fresh_none scan gaps = record { kind_is = refl; gaps_is = sym gaps; since_is = refl; none = refl; stands = λ column. record { count = refl; sum = refl; short = tt; bag = λ ordered v. refl } }

fresh_advanced : (scan : ScanOf) → IsAdvanced (fresh scan) scan.to []
fresh_advanced scan = record {
  state = record { running = record { kind = scan.plan.kind; count = 0; sum = pos 0; bag = [] }; since = scan.to; runs = []; gaps = true };
  advances = record { running = refl; gaps = refl; since = λ l. refl; runs = λ column rows stands suits. either [] (nat_lt scan.from scan.to) };
  runs_are = refl;
} where
  either : (none : List Run) (b : Bool) → none ≡ cond b none none
  either none true = refl
  either none false = refl

none_told : (scan : ScanOf) (by : ℕ) (value : Cell) (set : List Bool) → is_some scan.plan.by ≡ true → scan.from ≤ scan.to → HoldsIn (wanted_of scan (keep_with scan by value)) set scan.to None → runs_with scan by value ≡ []
none_told scan by value set gaps l holds = sym (group_told scan by value set (fresh scan) [] gaps l (holds (fresh scan) (fresh_none scan gaps)) (fresh_advanced scan))

-- a value that no row has
filter_none : (Q : Run → Bool) (runs : List Run) → ((run : Run) → Q run ≡ false) → filter Q runs ≡ []
filter_none Q [] none = refl
filter_none Q (run ∷ runs) none = rw (none run) (filter_none Q runs none)

compare_same : (x y : Cell) → compare_cells cmp.Eq x y ≡ same_cell x y
compare_same (cell.Int i) (cell.Int j) = refl
compare_same (cell.Int i) (cell.Text t) = refl
compare_same (cell.Text s) (cell.Int j) = refl
compare_same (cell.Text s) (cell.Text t) = refl

or_none : (a b : Bool) → (a || b) ≡ false → (a ≡ false) × (b ≡ false)
or_none true b h = absurd (cc)
or_none false b h = (refl, h)

absent_row : (by : ℕ) (value : Cell) (r : plain.Row) (rest : List Cell) → has (cons_option (cell_at r.cells by) rest) value ≡ false → (has_value by value r ≡ false) × (has rest value ≡ false)
absent_row by value r rest out = by_cell (cell_at r.cells by) refl out where
  by_cell : (o : Option Cell) → cell_at r.cells by ≡ o → has (cons_option o rest) value ≡ false → (has_value by value r ≡ false) × (has rest value ≡ false)
  by_cell None e h = (rw e refl, h)
  by_cell (Some x) e h = let both = or_none (same_cell x value) (has rest value) h in (rw e (compare_same x value ∙ both.0), both.1)

absent_rows : (by : ℕ) (value : Cell) (set : List Bool) (rows : List plain.Row) → has (filter_map (λ (row : plain.Row). cell_at row.cells by) rows) value ≡ false → filter (has_value by value) (picked set rows) ≡ []
absent_rows by value [] rows out = refl
absent_rows by value (s ∷ set) [] out = refl
absent_rows by value (s ∷ set) (r ∷ rows) out =
    let parts = absent_row by value r (filter_map (λ (row : plain.Row). cell_at row.cells by) rows) out in
    by_test s parts.0 (absent_rows by value set rows parts.1) where
      by_test : (b : Bool) → has_value by value r ≡ false → filter (has_value by value) (picked set rows) ≡ [] → filter (has_value by value) (cond b (r ∷ picked set rows) (picked set rows)) ≡ []
      by_test true e h = rw e h
      by_test false e h = h

absent_told : (scan : ScanOf) (by : ℕ) (value : Cell) → has (values_of by (rows_in scan.table)) value ≡ false → runs_with scan by value ≡ []
absent_told scan by value out = ap (map (in_group value)) (filter_none (λ run. not (length (rows run.from) == 0)) (runs_in scan.plan.kind scan.plan.column (span.System scan.from scan.to) rows) (λ run. ap (λ rs. not (length rs == 0)) (none run.from))) where
  rows : ℤ → List plain.Row
  rows = kept_with (rows_in scan.table) scan.keep by value

  cells : List Cell
  cells = filter_map (λ (row : plain.Row). cell_at row.cells by) (rows_in scan.table)

  or_false : (b : Bool) → (b || false) ≡ false → b ≡ false
  or_false true h = h
  or_false false h = refl

  out_of : has cells value ≡ false
  out_of = or_false (has cells value) (sym (has_fold value [] cells) ∙ out)

  none : (z : ℤ) → rows z ≡ []
  none (pos version) = absent_rows by value (both (standing (rows_in scan.table) version) scan.keep) (rows_in scan.table) out_of
  none (negsuc n) = refl

-- LISTS OF VALUES THAT GIVE THE SAME

abbrev some : List Run → Bool
some [] = false
some (x ∷ xs) = true

no_gives : (a g : Bool) → g ≡ false → (a && g) ≡ g
no_gives true g e = refl
no_gives false g e = sym e

module _ (f : Cell → List Run) where
  abbrev gives : Cell → Bool
  gives value = some (f value)

  abbrev given : List Cell → List Cell
  given values = filter gives values

  nothing : (value : Cell) → gives value ≡ false → f value ≡ []
  nothing value e = by_list (f value) e where
    by_list : (rs : List Run) → some rs ≡ false → rs ≡ []
    by_list [] h = refl
    by_list (r ∷ rs) h = absurd (cc)

  flat_given : (values : List Cell) → flat_map f values ≡ flat_map f (given values)
  flat_given [] = refl
  flat_given (x ∷ values) = by_test (gives x) refl (flat_given values) where
    by_test : (b : Bool) → gives x ≡ b → flat_map f values ≡ flat_map f (filter gives values) → f x ++ flat_map f values ≡ flat_map f (cond b (x ∷ filter gives values) (filter gives values))
    by_test true e h = ap (λ rs. f x ++ rs) h
    by_test false e h = ap (λ rs. rs ++ flat_map f values) (nothing x e) ∙ h

  all_given : (P : Cell → Type 0) (values : List Cell) → AllByRecursion P values → AllByRecursion P (given values)
  all_given P [] all = tt
  all_given P (x ∷ values) all = by_test (gives x) (all_given P values all.1) where
    by_test : (b : Bool) → AllByRecursion P (filter gives values) → AllByRecursion P (cond b (x ∷ filter gives values) (filter gives values))
    by_test true h = (all.0, h)
    by_test false h = h

  rises_given : (values : List Cell) → Rises values → Rises (given values)
  rises_given [] up = tt
  rises_given (x ∷ values) up = by_test (gives x) (rises_given values up.1) where
    by_test : (b : Bool) → Rises (filter gives values) → Rises (cond b (x ∷ filter gives values) (filter gives values))
    by_test true h = (all_given (λ y. cell_before x y ≡ true) values up.0, h)
    by_test false h = h

  has_given : (values : List Cell) (z : Cell) → has (given values) z ≡ (has values z && gives z)
  has_given [] z = refl
  has_given (x ∷ values) z = by_tests (gives x) (same_cell x z) refl refl (has_given values z) where
    same_gives : same_cell x z ≡ true → gives z ≡ gives x
    same_gives e = ap gives (sym (cell_equal x z e))

    by_tests : (b t : Bool) → gives x ≡ b → same_cell x z ≡ t → has (filter gives values) z ≡ (has values z && gives z) → has (cond b (x ∷ filter gives values) (filter gives values)) z ≡ ((t || has values z) && gives z)
    by_tests true true e d h = rw d (sym (same_gives d ∙ e))
    by_tests true false e d h = rw d h
    by_tests false true e d h = h ∙ no_gives (has values z) (gives z) (same_gives d ∙ e)
    by_tests false false e d h = h

  -- two lists in order give the same where each value that one of them lacks gives nothing
  pub flat_same : (xs ys : List Cell) → Rises xs → Rises ys → ((z : Cell) → has xs z ≡ false → f z ≡ []) → ((z : Cell) → has ys z ≡ false → f z ≡ []) → flat_map f xs ≡ flat_map f ys
  flat_same xs ys up high hx hy =
      flat_given xs ∙ ap (flat_map f) (values_same (given xs) (given ys) (rises_given xs up) (rises_given ys high) (λ z.
      has_given xs z ∙ within (has xs z) (gives z) (λ e. ap some (hx z e)) ∙ sym (within (has ys z) (gives z) (λ e. ap some (hy z e))) ∙ sym (has_given ys z)))
      ∙ sym (flat_given ys) where
        within : (a g : Bool) → (a ≡ false → g ≡ false) → (a && g) ≡ g
        within true g h = refl
        within false g h = sym (h refl)

-- THE GROUPS THAT ARE FOUND

abbrev AllFound : List (Cell × State) → List (Cell × State) → Type 0
AllFound all [] = Unit {0}
AllFound all (e ∷ es) = (lookup (same_cell e.0) all ≡ Some e.1) × AllFound all es

found_behind : (first : Cell × State) (all es : List (Cell × State)) → AllByRecursion (λ y. cell_before first.0 y ≡ true) (map (λ (e : Cell × State). e.0) es) → AllFound all es → AllFound (first ∷ all) es
found_behind first all [] later found = tt
found_behind first all (e ∷ es) later found = (rw (before_apart first.0 e.0 later.0) found.0, found_behind first all es later.1 found.1)

all_found : (es : List (Cell × State)) → Rises (map (λ (e : Cell × State). e.0) es) → AllFound es es
all_found [] up = tt
all_found (e ∷ es) up = (rw (cell_itself e.0) refl, found_behind e es es up.0 (all_found es up.1))

not_found : (es : List (Cell × State)) (z : Cell) → has (map (λ (e : Cell × State). e.0) es) z ≡ false → lookup (same_cell z) es ≡ None
not_found [] z out = refl
not_found (e ∷ es) z out =
    let both = or_none (same_cell e.0 z) (has (map (λ (e : Cell × State). e.0) es) z) out in
    rw (cell_symm z e.0 ∙ both.0) (not_found es z both.1)

-- ALL VALUES

grouped_told : (scan : ScanOf) (by : ℕ) (set : List Bool) (groups all es : List (Cell × State)) (rs : List (List Run)) → is_some scan.plan.by ≡ true → scan.from ≤ scan.to → ((value : Cell) → HoldsIn (wanted_of scan (keep_with scan by value)) set scan.to (lookup (same_cell value) groups))
    → ((value : Cell) → lookup (same_cell value) all ≡ lookup (same_cell value) groups) → AllFound all es → EachAdvanced es scan.to rs
    → grouped es rs ≡ flat_map (runs_with scan by) (map (λ (e : Cell × State). e.0) es)
grouped_told scan by set groups all [] [] gaps l tracks same found each = refl
grouped_told scan by set groups all [] (r ∷ rs) gaps l tracks same found each = absurd each
grouped_told scan by set groups all (e ∷ es) [] gaps l tracks same found each = absurd each
grouped_told scan by set groups all (e ∷ es) (r ∷ rs) gaps l tracks same found each =
    let own : Tracks (wanted_of scan (keep_with scan by e.0)) set scan.to e.1 = subst (HoldsIn (wanted_of scan (keep_with scan by e.0)) set scan.to) (sym (same e.0) ∙ found.0) (tracks e.0) in
    ap (λ xs. xs ++ grouped es rs) (group_told scan by e.0 set e.1 r gaps l own each.0)
    ∙ ap (λ xs. runs_with scan by e.0 ++ xs) (grouped_told scan by set groups all es rs gaps l tracks same found.1 each.1)

pub groups_told : (scan : ScanOf) (by : ℕ) (set : List Bool) (groups : Groups) (runs : List Run) → scan.plan.by ≡ Some by → scan.from ≤ scan.to → AllTrack scan set scan.to groups → AreAllAdvanced groups.by scan.to runs
    → runs ≡ system_runs scan.plan (rows_in scan.table) scan.keep scan.from scan.to
groups_told scan by set groups runs by_is l tracks all =
    let gaps = ap is_some by_is in
    let rows = rows_in scan.table in
    let sorted = all.sorted in
    let up = all.are.rises in
    let are = all.advanced in
    let keys = map (λ (e : Cell × State). e.0) sorted in
    let own : TrackBy (Some by) scan set scan.to groups = subst (λ b. TrackBy b scan set scan.to groups) by_is tracks in
    are.all_are
    ∙ grouped_told scan by set groups.by sorted sorted are.runs gaps l own.1 all.are.same (all_found sorted up) are.each
    ∙ flat_same (runs_with scan by) keys (values_of by rows) up (rises_fold [] (filter_map (λ (row : plain.Row). cell_at row.cells by) rows) tt)
    (λ z out. none_told scan by z set gaps l (subst (HoldsIn (wanted_of scan (keep_with scan by z)) set scan.to) (sym (all.are.same z) ∙ not_found sorted z out) (own.1 z)))
    (λ z out. absent_told scan by z out)
    ∙ ap (λ b. runs_by scan.plan.kind scan.plan.column b rows scan.keep scan.from scan.to) (sym by_is)

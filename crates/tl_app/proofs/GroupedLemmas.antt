-- The runs of all groups are those of the definition.
use Rattle.std.proofs.Common.{◌≡◌, ℕ, zero, suc, ◌<◌, ◌≤◌, ◌++◌, get_or, arith, ℤ, Bool, true, false, ◌&&◌, ◌||◌, not, cond, List, [], ◌∷◌, length, map, Option, Some, None, refl, sym, ap, ◌∙◌, subst, slice_get}
use Rattle.std.specs.Prelude.{◌==◌}
use Rattle.std.specs.List.{All, filter, filter_map, flat_map}
use Rattle.std.proofs.Math.Path.{fun_ext}
use Rattle.tl_types.specs.declared.cells.Cell.{Cell}
use Rattle.tl_types.specs.declared.cells.Cell.TheVariants as cell
use Rattle.tl_types.specs.declared.cells.Cmp.TheVariants as cmp
use Rattle.tl_types.specs.declared.events.ValidEvent.{ValidEvent}
use Rattle.tl_types.specs.declared.runs.Run.{Run}
use Rattle.tl_types.specs.Plain as plain
use Rattle.tl_types.specs.Checkpoints.{valid_events_in}
use Rattle.tl_types.specs.History.{rows_of, same_cell, cell_at}
use Rattle.tl_types.specs.Runs.{runs_of}
use Rattle.tl_query.specs.Aggregates.{in_group, has_value, group_at, group_runs, aggregate_runs}
use Rattle.tl_query.specs.Ordered.{values_of, has}
use Rattle.tl_query.specs.Passing.{passes, compare_cells}
use Rattle.tl_query.specs.declared.typed_queries.AggPlan.{AggPlan}
use Rattle.tl_query.specs.declared.typed_queries.Span.TheVariants as span
use Rattle.tl_query.specs.declared.typed_queries.TypedPred.{TypedPred}
use Rattle.tl_store.specs.Reading.{cell_of_row}
use Rattle.tl_bits.specs.Sets.{is_member}
use Rattle.tl_query.proofs.CellOrder.{cell_symm}
use Rattle.tl_app.specs.declared.keyed.KeyGroup.{KeyGroup}
use Rattle.tl_app.specs.Groups.{is_value, has_cell, group_of, has_key, event_count, AreGroupsOf, grouped_runs, runs_of_groups}
use Rattle.tl_app.specs.Opening.{open_rows, up_to, Alternate}
use Rattle.tl_app.specs.Parts.{kept_events, part_of, IsPart, planned_runs}
use Rattle.tl_app.specs.Scans.{open_value}
use Rattle.tl_app.proofs.HoldLemmas.{none_open}
use Rattle.tl_app.proofs.PartLemmas.{alternate_part, open_is, member_is}
use Rattle.tl_query.proofs.ValueOrder.{given_by_both}
use Rattle.tl_app.proofs.KeyLemmas.{filter_twice, AreTheirs, are_theirs, values_rise, values_once}
use Rattle.tl_app.proofs.GroupLemmas.{count_few}

-- THE EVENTS OF A GROUP

group_part : (rows : List plain.Row) (column : ℕ) (value : Cell) (chooses : ℕ → Bool) (version : ℕ) → group_of rows column value (part_of chooses rows version) ≡ part_of (λ id. chooses id && has_cell rows column value id) rows version
group_part rows column value chooses version = filter_twice (λ (e : ValidEvent). has_cell rows column value e.row) (λ (e : ValidEvent). chooses e.row) (valid_events_in rows version)

pub all_alternate : (rows : List plain.Row) (column : ℕ) (events : List ValidEvent) (groups : List KeyGroup) → IsPart rows events → AreGroupsOf rows column events groups → All (λ (g : KeyGroup). Alternate rows g.events.items) groups
all_alternate rows column events groups part are = λ i d l. of_each groups (are_theirs rows column events groups are) i d l where
  of_each : (gs : List KeyGroup) → AreTheirs rows column events gs → (i : ℕ) (d : KeyGroup) → i < length gs → Alternate rows (get_or gs i d).events.items
  of_each [] theirs i d l = absurd (omega arith)
  of_each (g ∷ gs) theirs zero d l = subst (Alternate rows) (sym (theirs.0 ∙ ap (group_of rows column g.key) part.are ∙ group_part rows column g.key part.chooses part.version)) (alternate_part (λ id. part.chooses id && has_cell rows column g.key id) rows part.version)
  of_each (g ∷ gs) theirs (suc i) d l = of_each gs theirs.1 i d (omega arith)

-- THE ROWS OF A GROUP

equal_is : (x y : Cell) → same_cell y x ≡ compare_cells cmp.Eq x y
equal_is (cell.Int i) (cell.Int j) = cell_symm (cell.Int j) (cell.Int i)
equal_is (cell.Int i) (cell.Text t) = refl
equal_is (cell.Text s) (cell.Int j) = refl
equal_is (cell.Text s) (cell.Text t) = cell_symm (cell.Text t) (cell.Text s)

value_told : (by : ℕ) (value : Cell) (r : plain.Row) → is_value value (cell_at r.cells by) ≡ has_value by value r
value_told by value r = by_cell (cell_at r.cells by) refl where
  by_cell : (o : Option Cell) → cell_at r.cells by ≡ o → is_value value (cell_at r.cells by) ≡ has_value by value r
  by_cell None e = rw e refl
  by_cell (Some x) e = rw e (equal_is x value)

module _ (db : plain.Database) (plan : AggPlan) (pred : TypedPred) (version by : ℕ) (from to : ℤ) (keep : List Bool) (keep_is : keep ≡ map (passes pred) (rows_of db plan.table)) where
  chosen_is : (value : Cell) (i : ℕ) (r : plain.Row) → slice_get (rows_of db plan.table) i ≡ Some r → (is_member keep i && has_cell (rows_of db plan.table) by value i) ≡ (passes pred r && has_value by value r)
  chosen_is value i r is =
      ap (λ b. b && has_cell (rows_of db plan.table) by value i) (ap (λ k. is_member k i) keep_is ∙ member_is (passes pred) (rows_of db plan.table) i r is)
      ∙ ap (λ o. passes pred r && is_value value (cell_of_row by o)) is ∙ ap (λ b. passes pred r && b) (value_told by value r)

  rows_at_moment : (value : Cell) (m : ℤ) → open_rows (rows_of db plan.table) (up_to (group_of (rows_of db plan.table) by value (kept_events keep (valid_events_in (rows_of db plan.table) version))) m) ≡ group_at db plan.table pred (span.Valid version from to) by value m
  rows_at_moment value m =
      ap (λ es. open_rows (rows_of db plan.table) (up_to es m)) (group_part (rows_of db plan.table) by value (is_member keep) version)
      ∙ open_is (λ id. is_member keep id && has_cell (rows_of db plan.table) by value id) (rows_of db plan.table) version (λ r. passes pred r && has_value by value r) m (chosen_is value)
      ∙ sym (filter_twice (has_value by value) (passes pred) _)

  group_told : (value : Cell) → grouped_runs (rows_of db plan.table) plan from to value (group_of (rows_of db plan.table) by value (kept_events keep (valid_events_in (rows_of db plan.table) version)))
      ≡ group_runs plan.kind plan.column (span.Valid version from to) (group_at db plan.table pred (span.Valid version from to) by value) value
  group_told value = ap (λ (f : ℤ → List plain.Row). group_runs plan.kind plan.column (span.Valid version from to) f value) (fun_ext (rows_at_moment value))

-- A GROUP WITHOUT EVENTS

none_with : (value : Cell) (runs : List Run) → map (in_group value) (filter (λ (run : Run). false) runs) ≡ []
none_with value [] = refl
none_with value (run ∷ runs) = none_with value runs

pub nothing_given : (rows : List plain.Row) (plan : AggPlan) (from to : ℤ) (value : Cell) (events : List ValidEvent) → events ≡ [] → grouped_runs rows plan from to value events ≡ []
nothing_given rows plan from to value events is =
    ap (grouped_runs rows plan from to value) is
    ∙ ap (λ (p : Run → Bool). map (in_group value) (filter p (runs_of (open_value rows plan []) from to))) (fun_ext (λ run. ap (λ rs. not (length rs == 0)) (none_open rows)))
    ∙ none_with value (runs_of (open_value rows plan []) from to)

no_group : (value : Cell) (groups : List KeyGroup) → has (map (λ (g : KeyGroup). g.key) groups) value ≡ false → filter (has_key value) groups ≡ []
no_group value [] h = refl
no_group value (g ∷ groups) h = by_tests (same_cell g.key value) refl h (no_group value groups) where
  by_tests : (b : Bool) → same_cell g.key value ≡ b → (b || has (map (λ (g : KeyGroup). g.key) groups) value) ≡ false → (has (map (λ (g : KeyGroup). g.key) groups) value ≡ false → filter (has_key value) groups ≡ []) → filter (has_key value) (g ∷ groups) ≡ []
  by_tests true e h later = absurd (cc)
  by_tests false e h later = let f : same_cell value g.key ≡ false = cell_symm value g.key ∙ e in rw f (later h)

-- A VALUE THAT NO ROW HAS

value_in : (column i : ℕ) (value : Cell) (rows : List plain.Row) → has_cell rows column value i ≡ true → has (filter_map (λ (row : plain.Row). cell_at row.cells column) rows) value ≡ true
value_in column i value [] h = absurd (cc)
value_in column zero value (r ∷ rows) h = by_cell (cell_at r.cells column) refl h where
  by_cell : (o : Option Cell) → cell_at r.cells column ≡ o → is_value value o ≡ true → has (filter_map (λ (row : plain.Row). cell_at row.cells column) (r ∷ rows)) value ≡ true
  by_cell None e g = absurd (cc)
  by_cell (Some x) e g = rw e (ap (λ b. b || has (filter_map (λ (row : plain.Row). cell_at row.cells column) rows) value) (cell_symm x value ∙ g))
value_in column (suc i) value (r ∷ rows) h = by_cell (cell_at r.cells column) refl (value_in column i value rows h) where
  or_true : (b : Bool) → (b || true) ≡ true
  or_true true = refl
  or_true false = refl

  by_cell : (o : Option Cell) → cell_at r.cells column ≡ o → has (filter_map (λ (row : plain.Row). cell_at row.cells column) rows) value ≡ true → has (filter_map (λ (row : plain.Row). cell_at row.cells column) (r ∷ rows)) value ≡ true
  by_cell None e g = rw e g
  by_cell (Some x) e g = rw e (ap (λ b. same_cell x value || b) g ∙ or_true (same_cell x value))

no_event : (rows : List plain.Row) (column : ℕ) (value : Cell) (events : List ValidEvent) → has (filter_map (λ (row : plain.Row). cell_at row.cells column) rows) value ≡ false → group_of rows column value events ≡ []
no_event rows column value [] none = refl
no_event rows column value (e ∷ events) none = by_test (has_cell rows column value e.row) refl (no_event rows column value events none) where
  by_test : (b : Bool) → has_cell rows column value e.row ≡ b → group_of rows column value events ≡ [] → cond b (e ∷ group_of rows column value events) (group_of rows column value events) ≡ []
  by_test true is later = absurd (let f = value_in column e.row value rows is in cc)
  by_test false is later = later

-- ALL GROUPS

by_values : (rows : List plain.Row) (plan : AggPlan) (column : ℕ) (from to : ℤ) (events : List ValidEvent) (groups : List KeyGroup) → AreTheirs rows column events groups
    → runs_of_groups rows plan from to groups ≡ flat_map (λ v. grouped_runs rows plan from to v (group_of rows column v events)) (map (λ (g : KeyGroup). g.key) groups)
by_values rows plan column from to events [] theirs = refl
by_values rows plan column from to events (g ∷ groups) theirs =
    ap (λ es. grouped_runs rows plan from to g.key es ++ runs_of_groups rows plan from to groups) theirs.0
    ∙ ap (λ rs. grouped_runs rows plan from to g.key (group_of rows column g.key events) ++ rs) (by_values rows plan column from to events groups theirs.1)

pub groups_told : (db : plain.Database) (plan : AggPlan) (pred : TypedPred) (version by : ℕ) (from to : ℤ) (keep : List Bool) (events : List ValidEvent) (groups : List KeyGroup) → plan.by ≡ Some by → keep ≡ map (passes pred) (rows_of db plan.table)
    → events ≡ kept_events keep (valid_events_in (rows_of db plan.table) version) → AreGroupsOf (rows_of db plan.table) by events groups
    → runs_of_groups (rows_of db plan.table) plan from to groups ≡ planned_runs db plan pred (span.Valid version from to)
unfolding aggregate_runs
groups_told db plan pred version by from to keep events groups by_is keep_is events_are are =
    by_values (rows_of db plan.table) plan by from to events groups (are_theirs (rows_of db plan.table) by events groups are)
    ∙ ap (flat_map (λ v. grouped_runs (rows_of db plan.table) plan from to v (group_of (rows_of db plan.table) by v events))) (sym (values_once groups (values_rise groups are.ascend are.alone)))
    ∙ given_by_both (λ v. grouped_runs (rows_of db plan.table) plan from to v (group_of (rows_of db plan.table) by v events)) (map (λ (g : KeyGroup). g.key) groups) (filter_map (λ (row : plain.Row). cell_at row.cells by) (rows_of db plan.table))
    (λ v h. nothing_given (rows_of db plan.table) plan from to v (group_of (rows_of db plan.table) by v events) (sym (are.found v) ∙ ap (flat_map (λ (g : KeyGroup). g.events.items)) (no_group v groups h)))
    (λ v h. nothing_given (rows_of db plan.table) plan from to v (group_of (rows_of db plan.table) by v events) (no_event (rows_of db plan.table) by v events h))
    ∙ ap (λ (f : Cell → List Run). flat_map f (values_of by (rows_of db plan.table))) (fun_ext (λ v. ap (grouped_runs (rows_of db plan.table) plan from to v) (ap (group_of (rows_of db plan.table) by v) events_are) ∙ group_told db plan pred version by from to keep keep_is v))
    ∙ ap (λ b. aggregate_runs db plan.table plan.kind plan.column b pred (span.Valid version from to)) (sym by_is)

-- STEPS

pub steps_few : (rows : List plain.Row) (column : ℕ) (events : List ValidEvent) (groups : List KeyGroup) → AreGroupsOf rows column events groups → event_count groups ≤ length events
steps_few rows column events groups are = count_few rows column events groups (are_theirs rows column events groups are) (values_rise groups are.ascend are.alone)

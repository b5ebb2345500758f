-- What is told of what is kept are the values over the rows.
use Rattle.std.proofs.Common.{◌≡◌, ℕ, Bool, true, false, ◌||◌, cond, List, [], ◌∷◌, ◌++◌, length, map, Option, Some, None, refl, sym, ap, ◌∙◌, arith, subst, append_assoc}
use Rattle.std.specs.Prelude.{is_some}
use Rattle.std.specs.List.{filter, filter_map, cons_option}
use Rattle.std.proofs.lemmas.List.{length-map}
use Rattle.tl_types.specs.declared.answers.Field.{Field}
use Rattle.tl_types.specs.declared.cells.Cell.{Cell}
use Rattle.tl_types.specs.Plain as plain
use Rattle.tl_types.specs.History.{same_cell, cell_at}
use Rattle.tl_query.specs.declared.ast.AggKind.{AggKind}
use Rattle.tl_query.specs.Aggregates.{aggregate_of, has_value}
use Rattle.tl_query.specs.Ordered.{cell_before, values_of, has, Rises}
use Rattle.tl_running.specs.Standing.{Kept, number_in, StandsFor, Suits}
use Rattle.tl_watch.specs.declared.standings.Standing.{Standing}
use Rattle.tl_watch.specs.declared.plans.WatchPlan.{WatchPlan}
use Rattle.tl_watch.specs.Standings.{value_over, values_over}
use Rattle.tl_watch.specs.Groups.{group_of, HoldsRows, GroupsStand, TellsValue, TellsGroup, TellGroups, TellsAll}
use Rattle.tl_watch.specs.States.{State, StandsAs, Stands}
use Rattle.tl_query.proofs.CellOrder.{cell_symm, cell_itself}
use Rattle.tl_query.proofs.ValueOrder.{values_same, has_fold, rises_fold, of_member, before_apart}
use Rattle.tl_watch.proofs.GroupLemmas.{has_key}
use Rattle.tl_running.proofs.TellLemmas.{suits_none}
use Rattle.tl_watch.proofs.SuitLemmas.{suits_filter}

-- ONE

made : (s : Standing) (g : Option Cell) (v : Field) (n : ℕ) → s.group ≡ g → s.value ≡ v → s.count ≡ n → s ≡ record { group = g; value = v; count = n }
made s g v n a b c = rw (← a, ← b, ← c) refl

told_of : (kept : Kept) (k : AggKind) (column : Option ℕ) (group : Option Cell) (rows : List plain.Row) (s : Standing) → kept.kind ≡ k → StandsFor kept column rows → Suits k column rows → s.group ≡ group → s.count ≡ kept.count → TellsValue kept s.value → s ≡ value_over k column group rows
told_of kept k column group rows s is stands suits group_is count_is value_is =
    made s group (aggregate_of k column rows) (length rows) group_is
    (value_is column rows stands (subst (λ j. Suits j column rows) (sym is) suits) ∙ ap (λ j. aggregate_of j column rows) is)
    (count_is ∙ stands.count ∙ length-map rows (number_in column))

pub all_told : (kept : Kept) (k : AggKind) (column : Option ℕ) (rows : List plain.Row) (told : List Standing) → kept.kind ≡ k → StandsFor kept column rows → Suits k column rows → TellsAll kept told → told ≡ values_over k column None rows
all_told kept k column rows [] is stands suits tells = absurd tells
all_told kept k column rows (s ∷ []) is stands suits tells = ap (λ t. t ∷ []) (told_of kept k column None rows s is stands suits tells.0 tells.1 tells.2)
all_told kept k column rows (s ∷ t ∷ others) is stands suits tells = absurd tells

-- THE VALUES THAT HAVE A GROUP

abbrev pub keys_of : List (Cell × Kept) → List Cell
keys_of groups = map (λ (g : Cell × Kept). g.0) groups

has_keys : (groups : List (Cell × Kept)) (z : Cell) → has (keys_of groups) z ≡ is_some (group_of groups z)
has_keys [] z = refl
has_keys (g ∷ groups) z = by_test (same_cell z g.0) (cell_symm g.0 z) (has_keys groups z) where
  by_test : (b : Bool) → same_cell g.0 z ≡ b → has (keys_of groups) z ≡ is_some (group_of groups z) → (same_cell g.0 z || has (keys_of groups) z) ≡ is_some (cond b (Some g.1) (group_of groups z))
  by_test true e later = rw e refl
  by_test false e later = rw e later

abbrev cells_in : ℕ → List plain.Row → List Cell
cells_in by rows = filter_map (λ (row : plain.Row). cell_at row.cells by) rows

abbrev some_rows : List plain.Row → Bool
some_rows [] = false
some_rows (r ∷ rows) = true

has_cells : (by : ℕ) (z : Cell) (rows : List plain.Row) → has (cells_in by rows) z ≡ some_rows (filter (has_value by z) rows)
has_cells by z [] = refl
has_cells by z (r ∷ rows) = by_cell (cell_at r.cells by) refl (has_cells by z rows) where
  goal : Option Cell → Bool → Type 0
  goal o b = has (cons_option o (cells_in by rows)) z ≡ some_rows (cond b (r ∷ filter (has_value by z) rows) (filter (has_value by z) rows))

  by_test : (x : Cell) (b : Bool) → same_cell x z ≡ b → has (cells_in by rows) z ≡ some_rows (filter (has_value by z) rows) → (same_cell x z || has (cells_in by rows) z) ≡ some_rows (cond b (r ∷ filter (has_value by z) rows) (filter (has_value by z) rows))
  by_test x true e later = rw e refl
  by_test x false e later = rw e later

  by_cell : (o : Option Cell) → cell_at r.cells by ≡ o → has (cells_in by rows) z ≡ some_rows (filter (has_value by z) rows) → has (cons_option (cell_at r.cells by) (cells_in by rows)) z ≡ some_rows (cond (has_value by z r) (r ∷ filter (has_value by z) rows) (filter (has_value by z) rows))
  by_cell None e later = rw e later
  by_cell (Some x) e later = subst (goal (cell_at r.cells by)) (sym (has_key by z x r e)) (subst (λ o. goal o (same_cell x z)) (sym e) (by_test x (same_cell x z) refl later))

held_some : (o : Option Kept) (k : AggKind) (column : Option ℕ) (rows : List plain.Row) → HoldsRows o k column rows → is_some o ≡ some_rows rows
held_some None k column rows h = rw h refl
held_some (Some kept) k column [] h = absurd (let l = h.1 in omega arith)
held_some (Some kept) k column (r ∷ rows) h = refl

or_false : (b : Bool) → (b || false) ≡ b
or_false true = refl
or_false false = refl

keys_are : (groups : List (Cell × Kept)) (k : AggKind) (column : Option ℕ) (by : ℕ) (rows : List plain.Row) → GroupsStand groups k column by rows → Rises (keys_of groups) → keys_of groups ≡ values_of by rows
keys_are groups k column by rows stands rises = values_same (keys_of groups) (values_of by rows) rises (rises_fold [] (cells_in by rows) tt)
    (λ z. has_keys groups z ∙ held_some (group_of groups z) k column (filter (has_value by z) rows) (stands z) ∙ sym (has_cells by z rows) ∙ sym (has_fold z [] (cells_in by rows) ∙ or_false (has (cells_in by rows) z)))

-- EACH GROUP

told_each : (groups : List (Cell × Kept)) (k : AggKind) (column : Option ℕ) (by : ℕ) (rows : List plain.Row) (told : List Standing) → Rises (keys_of groups) → ((z : Cell) → has (keys_of groups) z ≡ true → HoldsRows (group_of groups z) k column (filter (has_value by z) rows))
    → Suits k column rows → TellGroups groups told → told ≡ map (λ value. value_over k column (Some value) (filter (has_value by value) rows)) (keys_of groups)
told_each [] k column by rows [] rises holds suits tells = refl
told_each [] k column by rows (s ∷ told) rises holds suits tells = absurd tells
told_each (g ∷ groups) k column by rows [] rises holds suits tells = absurd tells
told_each (g ∷ groups) k column by rows (s ∷ told) rises holds suits tells = both (told_each groups k column by rows told rises.1 later suits tells.1) where
  P : plain.Row → Bool
  P = has_value by g.0

  self : same_cell g.0 g.0 ≡ true
  self = cell_itself g.0

  here : HoldsRows (Some g.1) k column (filter P rows)
  here = subst (λ b. HoldsRows (cond b (Some g.1) (group_of groups g.0)) k column (filter P rows)) self (holds g.0 (rw self refl))

  later : (z : Cell) → has (keys_of groups) z ≡ true → HoldsRows (group_of groups z) k column (filter (has_value by z) rows)
  later z h =
      let before = of_member (λ y. cell_before g.0 y ≡ true) z (keys_of groups) rises.0 h in
      let apart : same_cell z g.0 ≡ false = before_apart g.0 z before in
      let there : has (keys_of (g ∷ groups)) z ≡ true = either (same_cell g.0 z) (has (keys_of groups) z) h in
      subst (λ b. HoldsRows (cond b (Some g.1) (group_of groups z)) k column (filter (has_value by z) rows)) apart (holds z there) where
        either : (a b : Bool) → b ≡ true → (a || b) ≡ true
        either true b e = refl
        either false b e = e

  both : told ≡ map (λ value. value_over k column (Some value) (filter (has_value by value) rows)) (keys_of groups)
      → s ∷ told ≡ value_over k column (Some g.0) (filter P rows) ∷ map (λ value. value_over k column (Some value) (filter (has_value by value) rows)) (keys_of groups)
  both e =
      let first = told_of g.1 k column (Some g.0) (filter P rows) s here.0 here.2 (suits_filter k column P rows suits) tells.0.group_is tells.0.count_is tells.0.value_is in
      ap (λ t. t ∷ told) first ∙ ap (λ ts. value_over k column (Some g.0) (filter P rows) ∷ ts) e

pub groups_told : (groups : List (Cell × Kept)) (k : AggKind) (column : Option ℕ) (by : ℕ) (rows : List plain.Row) (told : List Standing) → GroupsStand groups k column by rows → Rises (keys_of groups) → Suits k column rows → TellGroups groups told → told ≡ values_over k column (Some by) rows
groups_told groups k column by rows told stands rises suits tells =
    told_each groups k column by rows told rises (λ z h. stands z) suits tells
    ∙ ap (map (λ value. value_over k column (Some value) (filter (has_value by value) rows))) (keys_are groups k column by rows stands rises)

-- ONE GROUP MORE IS TOLD

pub told_turn : (entries rest later : List (Cell × Kept)) (e : Cell × Kept) (all : List Standing) (x : Standing) → ((more : List Standing) → TellGroups rest more → TellGroups entries (all ++ more)) → rest ≡ e ∷ later → TellsGroup e x
    → (more : List Standing) → TellGroups later more → TellGroups entries ((all ++ x ∷ []) ++ more)
told_turn entries rest later e all x so_far is one more tells =
    subst (TellGroups entries) (sym (append_assoc all (x ∷ []) more)) (so_far (x ∷ more) (subst (λ r. TellGroups r (x ∷ more)) (sym is) (one, tells)))

pub told_end : (entries rest : List (Cell × Kept)) (all : List Standing) → ((more : List Standing) → TellGroups rest more → TellGroups entries (all ++ more)) → rest ≡ [] → TellGroups entries all
told_end entries rest all so_far is = subst (TellGroups entries) (nil all) (so_far [] (subst (λ r. TellGroups r []) (sym is) tt)) where
  nil : (xs : List Standing) → xs ++ [] ≡ xs
  nil [] = refl
  nil (x ∷ xs) = ap (λ ys. x ∷ ys) (nil xs)

-- NO ROW

none_as : (by column : Option ℕ) (k : AggKind) (kept : Kept) (groups : List (Cell × Kept)) → kept.kind ≡ k → ((column : Option ℕ) → StandsFor kept column []) → groups ≡ [] → StandsAs k column by (record { all = kept; groups = groups }) []
none_as None column k kept groups is stands none = (is, stands column)
none_as (Some by) column k kept groups is stands none = rw none (λ value. refl)

pub none_stands : (plan : WatchPlan) (kept : Kept) (groups : List (Cell × Kept)) (k : AggKind) → plan.kind ≡ k → kept.kind ≡ k → ((column : Option ℕ) → StandsFor kept column []) → groups ≡ [] → Stands plan (record { all = kept; groups = groups }) []
none_stands plan kept groups k is kind_is stands none = record {
  kept = none_as plan.by plan.column plan.kind kept groups (kind_is ∙ sym is) stands none;
  suits = suits_none plan.kind plan.column;
}

sums_as : (by column : Option ℕ) (k : AggKind) (kept : Kept) (groups : List (Cell × Kept)) (rows : List plain.Row) → by ≡ None → kept.kind ≡ k → StandsFor kept column rows → StandsAs k column by (record { all = kept; groups = groups }) rows
sums_as None column k kept groups rows by_is kind_is stands = (kind_is, stands)
sums_as (Some by) column k kept groups rows by_is kind_is stands = absurd (cc)

pub sums_stand : (plan : WatchPlan) (kept : Kept) (groups : List (Cell × Kept)) (rows : List plain.Row) (k : AggKind) → plan.by ≡ None → kept.kind ≡ k → plan.kind ≡ k → StandsFor kept plan.column rows → Suits plan.kind plan.column rows → Stands plan (record { all = kept; groups = groups }) rows
sums_stand plan kept groups rows k by_is kept_is plan_is stands suits = record { kept = sums_as plan.by plan.column plan.kind kept groups rows by_is (kept_is ∙ sym plan_is) stands; suits = suits }

-- BY A PLAN

pub told_all : (plan : WatchPlan) (state : State) (rows : List plain.Row) (told : List Standing) → plan.by ≡ None → TellsAll state.all told → Stands plan state rows → told ≡ values_over plan.kind plan.column plan.by rows
told_all plan state rows told is tells stands =
    let s : StandsAs plan.kind plan.column None state rows = subst (λ b. StandsAs plan.kind plan.column b state rows) is stands.kept in
    all_told state.all plan.kind plan.column rows told s.0 s.1 stands.suits tells ∙ ap (λ b. values_over plan.kind plan.column b rows) (sym is)

pub told_groups : (plan : WatchPlan) (state : State) (rows : List plain.Row) (told : List Standing) (by : ℕ) → plan.by ≡ Some by → TellGroups state.groups told → Rises (map (λ (g : Cell × Kept). g.0) state.groups) → Stands plan state rows → told ≡ values_over plan.kind plan.column plan.by rows
told_groups plan state rows told by is tells rises stands =
    let s : StandsAs plan.kind plan.column (Some by) state rows = subst (λ b. StandsAs plan.kind plan.column b state rows) is stands.kept in
    groups_told state.groups plan.kind plan.column by rows told s rises stands.suits tells ∙ ap (λ b. values_over plan.kind plan.column b rows) (sym is)

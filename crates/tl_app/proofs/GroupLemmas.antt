-- The runs of groups, one behind the other, and the steps that they take.
use Rattle.std.proofs.Common.{◌≡◌, ℕ, zero, suc, ◌+◌, ◌≤◌, ◌<◌, ℤ, Bool, not, cond, List, [], ◌∷◌, ◌++◌, length, map, take, get_or, Option, Some, None, refl, sym, ap, ◌∙◌, arith, subst}
use Rattle.std.specs.Prelude.{◌==◌}
use Rattle.std.specs.List.{filter, AllByRecursion}
use Rattle.std.proofs.lemmas.List.{take_more, append-nil}
use Rattle.std.proofs.lemmas.Grind.{flat_map-append}
use Rattle.tl_types.specs.declared.cells.Cell.{Cell}
use Rattle.tl_types.specs.declared.events.ValidEvent.{ValidEvent}
use Rattle.tl_types.specs.declared.runs.Run.{Run}
use Rattle.tl_types.specs.Plain as plain
use Rattle.tl_types.specs.Runs.{runs_of}
use Rattle.tl_query.specs.Aggregates.{in_group}
use Rattle.tl_query.specs.declared.typed_queries.AggPlan.{AggPlan}
use Rattle.tl_app.specs.declared.keyed.KeyGroup.{KeyGroup}
use Rattle.tl_app.specs.Groups.{key_of, is_value, has_cell, group_of, event_count, runs_with, grouped_runs, runs_of_groups}
use Rattle.tl_app.specs.Opening.{open_rows, up_to}
use Rattle.tl_app.specs.Scans.{open_value, Tells}
use Rattle.tl_running.specs.Telling.{has_rows}
use Rattle.tl_query.specs.Ordered.{Rises}
use Rattle.tl_app.proofs.ValueLemmas.{total, one_if, none_owed, count_once, owed}
use Rattle.tl_app.proofs.KeyLemmas.{AreTheirs}

-- ONE GROUP

filter_same : {X : Type 0} (P Q : X → Bool) (xs : List X) → AllByRecursion (λ x. P x ≡ Q x) xs → filter P xs ≡ filter Q xs
filter_same P Q [] all = refl
filter_same P Q (x ∷ xs) all = ap (λ b. cond b (x ∷ filter P xs) (filter P xs)) all.0 ∙ ap (λ ys. cond (Q x) (x ∷ ys) ys) (filter_same P Q xs all.1)

pub runs_told : (rows : List plain.Row) (plan : AggPlan) (from to : ℤ) (value : Cell) (events : List ValidEvent) (runs : List Run) → runs ≡ runs_of (open_value rows plan events) from to → AllByRecursion (Tells rows plan events) runs → runs_with plan.kind value runs ≡ grouped_runs rows plan from to value events
runs_told rows plan from to value events runs is tells =
    ap (map (in_group value)) (filter_same (λ (run : Run). has_rows plan.kind run.value) (λ (run : Run). not (length (open_rows rows (up_to events run.from)) == 0)) runs tells
    ∙ ap (filter (λ (run : Run). not (length (open_rows rows (up_to events run.from)) == 0))) is)

-- ALL GROUPS

pub groups_more : (rows : List plain.Row) (plan : AggPlan) (from to : ℤ) (groups : List KeyGroup) (i : ℕ) (group : KeyGroup) (runs more all : List Run) → i < length groups → group ≡ get_or groups i group
    → runs ≡ runs_of_groups rows plan from to (take i groups) → more ≡ grouped_runs rows plan from to group.key group.events.items → all ≡ runs ++ more → all ≡ runs_of_groups rows plan from to (take (i + 1) groups)
groups_more rows plan from to groups i group runs more all inside is before here behind =
    behind ∙ ap (λ rs. rs ++ more) before ∙ ap (λ rs. runs_of_groups rows plan from to (take i groups) ++ rs) (here ∙ sym (append-nil (grouped_runs rows plan from to group.key group.events.items)))
    ∙ sym (flat_map-append (λ (g : KeyGroup). grouped_runs rows plan from to g.key g.events.items) (take i groups) (group ∷ []))
    ∙ ap (runs_of_groups rows plan from to) (ap (λ g. take i groups ++ g ∷ []) is ∙ sym (take_more groups i group inside))

-- STEPS

count_append : (groups : List KeyGroup) (group : KeyGroup) → event_count (groups ++ group ∷ []) ≡ event_count groups + length group.events.items
count_append [] group = omega arith
count_append (g ∷ groups) group = let later = count_append groups group in omega arith

pub count_more : (groups : List KeyGroup) (i : ℕ) (group : KeyGroup) → i < length groups → group ≡ get_or groups i group → event_count (take (i + 1) groups) ≡ event_count (take i groups) + length group.events.items
count_more groups i group inside is = ap event_count (take_more groups i group inside ∙ ap (λ g. take i groups ++ g ∷ []) (sym is)) ∙ count_append (take i groups) group

pub count_part : (groups : List KeyGroup) (i : ℕ) → event_count (take i groups) ≤ event_count groups
count_part [] zero = omega arith
count_part [] (suc i) = omega arith
count_part (g ∷ groups) zero = omega arith
count_part (g ∷ groups) (suc i) = let later = count_part groups i in omega arith

count_each : (rows : List plain.Row) (column : ℕ) (events : List ValidEvent) (groups : List KeyGroup) → AreTheirs rows column events groups → event_count groups ≡ total (λ v. length (group_of rows column v events)) (map (λ (g : KeyGroup). g.key) groups)
count_each rows column events [] theirs = refl
count_each rows column events (g ∷ groups) theirs =
    let here = ap length theirs.0 in
    let later = count_each rows column events groups theirs.1 in
    omega arith

once : (o : Option Cell) (values : List Cell) → Rises values → total (λ v. one_if (is_value v o)) values ≤ 1
once None values up = let none = none_owed values in omega arith
once (Some c) values up = count_once c values up

-- the groups have no more events than there are
pub count_few : (rows : List plain.Row) (column : ℕ) (events : List ValidEvent) (groups : List KeyGroup) → AreTheirs rows column events groups → Rises (map (λ (g : KeyGroup). g.key) groups) → event_count groups ≤ length events
count_few rows column events groups theirs up =
    let each = count_each rows column events groups theirs in
    let few = owed (λ v (e : ValidEvent). has_cell rows column v e.row) (map (λ (g : KeyGroup). g.key) groups) events (λ e. once (key_of rows column e) (map (λ (g : KeyGroup). g.key) groups) up) in
    subst (λ n. n ≤ length events) (sym each) few

-- The runs of two pieces put together group by group are those of both.
use Rattle.std.proofs.Common.{◌≡◌, ℕ, zero, suc, ◌+◌, ◌≤◌, ℤ, pos, negsuc, ◌≤ℤ◌, Bool, true, false, not, cond, List, [], ◌∷◌, ◌++◌, length, get_or, reverse, map, fold, Option, Some, None, refl, sym, ap, ◌∙◌, subst, arith, append_assoc}
use Rattle.std.specs.Prelude.{◌==◌, is_some}
use Rattle.std.specs.List.{filter, flat_map, filter_map, AllByRecursion}
use Rattle.std.proofs.lemmas.Int.{ints}
use Rattle.std.proofs.lemmas.List.{append-nil, reverse-reverse}
use Rattle.tl_types.specs.declared.answers.Field.{Field}
use Rattle.tl_types.specs.declared.cells.Cell.{Cell}
use Rattle.tl_types.specs.declared.runs.Run.{Run}
use Rattle.tl_types.specs.Plain as plain
use Rattle.tl_types.specs.History.{same_cell, cell_at}
use Rattle.tl_types.specs.Walks.{standing}
use Rattle.tl_types.specs.Runs.{same_field, add_stretch, runs_over, runs_of, seam}
use Rattle.tl_types.proofs.SeamLemmas.{seam_runs}
use Rattle.tl_query.specs.declared.ast.AggKind.{AggKind}
use Rattle.tl_query.specs.declared.ast.AggKind.TheVariants as kind
use Rattle.tl_query.specs.declared.typed_queries.AggPlan.{AggPlan}
use Rattle.tl_query.specs.declared.typed_queries.Span.TheVariants as span
use Rattle.tl_query.specs.Aggregates.{aggregate_of, has_value, in_group, with_rows, runs_in, group_runs}
use Rattle.tl_query.specs.Ordered.{cell_before, values_of, Rises}
use Rattle.tl_running.specs.Standing.{HaveNumbers, Suits}
use Rattle.tl_running.specs.Touching.{goes_on_as, add_touching}
use Rattle.tl_running.proofs.TouchLemmas.{cover_runs, seam_touching}
use Rattle.tl_running.specs.Telling.{has_rows}
use Rattle.tl_agg.specs.Kept.{both, picked, kept_at}
use Rattle.tl_agg.specs.Runs.{kept_with, runs_by, system_runs}
use Rattle.tl_agg.specs.Seams.{same_group, stands_behind, ends_with_group, add_grouped, front_upto, rest_behind, seam_behind, have_groups, seam_of}
use Rattle.tl_agg.proofs.ByLemmas.{runs_are, filter_same}
use Rattle.tl_query.proofs.CellOrder.{cell_itself, cell_symm, cell_ranks}
use Rattle.tl_query.proofs.ValueOrder.{before_apart, rises_fold}
use Rattle.tl_running.proofs.TellLemmas.{has_told}
use Rattle.tl_agg.proofs.JoinLemmas.{pieces_joined}

-- RUNS OF ONE GROUP

-- each run is of the group of the value
abbrev AllIn : Cell → List Run → Type 0
AllIn value [] = Unit {0}
AllIn value (run ∷ runs) = (run.group ≡ Some value) × AllIn value runs

-- each run is of a group behind that of the value
abbrev AllBehind : Cell → List Run → Type 0
AllBehind value [] = Unit {0}
AllBehind value (run ∷ runs) = (stands_behind run.group (Some value) ≡ true) × AllBehind value runs

-- no run is of a group behind that of the value
abbrev NoneBehind : Cell → List Run → Type 0
NoneBehind value [] = Unit {0}
NoneBehind value (run ∷ runs) = (stands_behind run.group (Some value) ≡ false) × NoneBehind value runs

all_in : (value : Cell) (runs : List Run) → AllIn value (map (in_group value) runs)
all_in value [] = tt
all_in value (run ∷ runs) = (refl, all_in value runs)

not_before_self : (x : Cell) → cell_before x x ≡ false
not_before_self x = by_test (cell_before x x) refl where
  by_test : (b : Bool) → cell_before x x ≡ b → b ≡ false
  by_test true e = absurd (let f = before_apart x x e in let g = cell_itself x in cc)
  by_test false e = refl

-- runs of a group are not behind it, nor behind a later one
none_behind : (value other : Cell) (runs : List Run) → cell_before other value ≡ false → AllIn value runs → NoneBehind other runs
none_behind value other [] e all = tt
none_behind value other (run ∷ runs) e all = (ap (λ g. stands_behind g (Some other)) all.0 ∙ e, none_behind value other runs e all.1)

all_behind : (value other : Cell) (runs : List Run) → cell_before value other ≡ true → AllIn other runs → AllBehind value runs
all_behind value other [] e all = tt
all_behind value other (run ∷ runs) e all = (ap (λ g. stands_behind g (Some value)) all.0 ∙ e, all_behind value other runs e all.1)

behind_append : (value : Cell) (xs ys : List Run) → AllBehind value xs → AllBehind value ys → AllBehind value (xs ++ ys)
behind_append value [] ys a b = b
behind_append value (x ∷ xs) ys a b = (a.0, behind_append value xs ys a.1 b)

behind_all : (f : Cell → List Run) (all : (v : Cell) → AllIn v (f v)) (value : Cell) (values : List Cell) → AllByRecursion (λ v. cell_before value v ≡ true) values → AllBehind value (flat_map f values)
behind_all f all value [] later = tt
behind_all f all value (v ∷ values) later = behind_append value (f v) (flat_map f values) (all_behind value v (f v) later.0 (all v)) (behind_all f all value values later.1)

-- WHAT IS MOVED BEFORE A RUN

upto_front : (run : Run) (value : Cell) (front back : List Run) → run.group ≡ Some value → NoneBehind value front → front_upto run (front ++ back) ≡ front ++ front_upto run back
upto_front run value [] back is none = refl
upto_front run value (x ∷ front) back is none =
    let e : stands_behind x.group run.group ≡ false = ap (stands_behind x.group) is ∙ none.0 in
    rw e (ap (λ rs. x ∷ rs) (upto_front run value front back is none.1))

behind_front : (run : Run) (value : Cell) (front back : List Run) → run.group ≡ Some value → NoneBehind value front → rest_behind run (front ++ back) ≡ rest_behind run back
behind_front run value [] back is none = refl
behind_front run value (x ∷ front) back is none =
    let e : stands_behind x.group run.group ≡ false = ap (stands_behind x.group) is ∙ none.0 in
    rw e (behind_front run value front back is none.1)

upto_none : (run : Run) (value : Cell) (back : List Run) → run.group ≡ Some value → AllBehind value back → front_upto run back ≡ []
upto_none run value [] is all = refl
upto_none run value (x ∷ back) is all = let e : stands_behind x.group run.group ≡ true = ap (stands_behind x.group) is ∙ all.0 in rw e refl

behind_none : (run : Run) (value : Cell) (back : List Run) → run.group ≡ Some value → AllBehind value back → rest_behind run back ≡ back
behind_none run value [] is all = refl
behind_none run value (x ∷ back) is all = let e : stands_behind x.group run.group ≡ true = ap (stands_behind x.group) is ∙ all.0 in rw e refl

-- A RUN MORE OF A GROUP

ends_append : (done : List Run) (x : Run) (xs : List Run) (group : Option Cell) → ends_with_group (done ++ x ∷ xs) group ≡ ends_with_group (x ∷ xs) group
ends_append [] x xs group = refl
ends_append (d ∷ []) x xs group = refl
ends_append (d ∷ e ∷ done) x xs group = ends_append (e ∷ done) x xs group

ends_all : (value other : Cell) (x : Run) (xs : List Run) → AllIn value (x ∷ xs) → ends_with_group (x ∷ xs) (Some other) ≡ same_cell value other
ends_all value other x [] all = ap (λ g. same_group g (Some other)) all.0
ends_all value other x (y ∷ xs) all = ends_all value other y xs all.1

touching_append : (done : List Run) (x : Run) (xs : List Run) (run : Run) → add_touching (done ++ x ∷ xs) run ≡ done ++ add_touching (x ∷ xs) run
touching_append [] x xs run = refl
touching_append (d ∷ []) x xs run = refl
touching_append (d ∷ e ∷ done) x xs run = ap (λ rs. d ∷ rs) (touching_append (e ∷ done) x xs run)

add_group : (value : Cell) (done acc : List Run) (run : Run) → ends_with_group done (Some value) ≡ false → AllIn value acc → run.group ≡ Some value → add_grouped (done ++ acc) run ≡ done ++ add_touching acc run
add_group value done [] run out all is =
    let e : ends_with_group (done ++ []) run.group ≡ false = ap (λ rs. ends_with_group rs run.group) (append-nil done) ∙ ap (ends_with_group done) is ∙ out in
    rw e (ap (λ rs. rs ++ run ∷ []) (append-nil done))
add_group value done (x ∷ acc) run out all is =
    let e : ends_with_group (done ++ x ∷ acc) run.group ≡ true = ends_append done x acc run.group ∙ ap (ends_with_group (x ∷ acc)) is ∙ ends_all value value x acc all ∙ cell_itself value in
    rw e (touching_append done x acc run)

in_touching : (value : Cell) (acc : List Run) (run : Run) → AllIn value acc → run.group ≡ Some value → AllIn value (add_touching acc run)
in_touching value [] run all is = (is, tt)
in_touching value (x ∷ []) run all is = by_test (goes_on_as x run) where
  by_test : (b : Bool) → AllIn value (cond b (record x { to = run.to } ∷ []) (x ∷ run ∷ []))
  by_test true = (all.0, tt)
  by_test false = (all.0, (is, tt))
in_touching value (x ∷ y ∷ acc) run all is = (all.0, in_touching value (y ∷ acc) run all.1 is)

in_fold : (value : Cell) (acc runs : List Run) → AllIn value acc → AllIn value runs → AllIn value (fold add_touching acc runs)
in_fold value acc [] all more = all
in_fold value acc (run ∷ runs) all more = in_fold value (add_touching acc run) runs (in_touching value acc run all more.0) more.1

-- ONE GROUP

rest_of_group : (value : Cell) (done acc runs left right : List Run) → ends_with_group done (Some value) ≡ false → AllIn value acc → AllIn value runs → AllBehind value left
    → seam_behind (done ++ acc) left (runs ++ right) ≡ seam_behind (done ++ fold add_touching acc runs) left right
rest_of_group value done acc [] left right out all more later = refl
rest_of_group value done acc (run ∷ runs) left right out all more later =
    ap (λ rs. seam_behind (add_grouped ((done ++ acc) ++ rs) run) (rest_behind run left) (runs ++ right)) (upto_none run value left more.0 later)
    ∙ ap (λ rs. seam_behind (add_grouped ((done ++ acc) ++ []) run) rs (runs ++ right)) (behind_none run value left more.0 later)
    ∙ ap (λ rs. seam_behind (add_grouped rs run) left (runs ++ right)) (append-nil (done ++ acc))
    ∙ ap (λ rs. seam_behind rs left (runs ++ right)) (add_group value done acc run out all more.0)
    ∙ rest_of_group value done (add_touching acc run) runs left right out (in_touching value acc run all more.0) more.1 later

-- a run whose group is not before that of the value, and which is not before any of the moved runs
move_group : (value : Cell) (done moved left right : List Run) (run : Run) (other : Cell) → run.group ≡ Some other → NoneBehind other moved
    → seam_behind done (moved ++ left) (run ∷ right) ≡ seam_behind (done ++ moved) left (run ∷ right)
move_group value done moved left right run other is none =
    ap (λ rs. seam_behind (add_grouped (done ++ rs) run) (rest_behind run (moved ++ left)) right) (upto_front run other moved left is none)
    ∙ ap (λ rs. seam_behind (add_grouped (done ++ (moved ++ front_upto run left)) run) rs right) (behind_front run other moved left is none)
    ∙ ap (λ rs. seam_behind (add_grouped rs run) (rest_behind run left) right) (sym (append_assoc done moved (front_upto run left)))

-- the first run of a list in order of groups behind a value
move_later : (value : Cell) (done moved left right : List Run) → AllIn value moved → AllBehind value right → seam_behind done (moved ++ left) right ≡ seam_behind (done ++ moved) left right
move_later value done moved left [] all later = sym (append_assoc done moved left)
move_later value done moved left (run ∷ right) all later = by_group run.group refl later.0 where
  by_group : (g : Option Cell) → run.group ≡ g → stands_behind g (Some value) ≡ true → seam_behind done (moved ++ left) (run ∷ right) ≡ seam_behind (done ++ moved) left (run ∷ right)
  by_group None is e = absurd (cc)
  by_group (Some other) is e = move_group value done moved left right run other is (none_behind value other moved (cell_ranks.one_way value other e) all)

one_group : (value : Cell) (done own more left right : List Run) → ends_with_group done (Some value) ≡ false → AllIn value own → AllIn value more → AllBehind value left → AllBehind value right
    → seam_behind done (own ++ left) (more ++ right) ≡ seam_behind (done ++ fold add_touching own more) left right
one_group value done own [] left right out all some low high = move_later value done own left right all high
one_group value done own (run ∷ more) left right out all some low high =
    move_group value done own left (more ++ right) run value some.0 (none_behind value value own (not_before_self value) all)
    ∙ rest_of_group value done own (run ∷ more) left right out all some low

-- ALL GROUPS

ends_then : (value other : Cell) (done own : List Run) → AllIn value own → ends_with_group done (Some other) ≡ false → same_cell value other ≡ false → ends_with_group (done ++ own) (Some other) ≡ false
ends_then value other done [] all out apart = ap (λ rs. ends_with_group rs (Some other)) (append-nil done) ∙ out
ends_then value other done (x ∷ own) all out apart = ends_append done x own (Some other) ∙ ends_all value other x own all ∙ apart

all_out : (value : Cell) (done own : List Run) (values : List Cell) → AllIn value own → AllByRecursion (λ v. cell_before value v ≡ true) values → AllByRecursion (λ v. ends_with_group done (Some v) ≡ false) values → AllByRecursion (λ v. ends_with_group (done ++ own) (Some v) ≡ false) values
all_out value done own [] all later out = tt
all_out value done own (v ∷ values) all later out = (ends_then value v done own all out.0 (cell_symm value v ∙ before_apart value v later.0), all_out value done own values all later.1 out.1)

module _ (f g : Cell → List Run) (own : (v : Cell) → AllIn v (f v)) (more : (v : Cell) → AllIn v (g v)) where
  abbrev pub whole : Cell → List Run
  whole value = fold add_touching (f value) (g value)

  pub all_groups : (done : List Run) (values : List Cell) → Rises values → AllByRecursion (λ v. ends_with_group done (Some v) ≡ false) values → seam_behind done (flat_map f values) (flat_map g values) ≡ done ++ flat_map whole values
  all_groups done [] up out = refl
  all_groups done (v ∷ values) up out =
      one_group v done (f v) (g v) (flat_map f values) (flat_map g values) out.0 (own v) (more v) (behind_all f own v values up.0) (behind_all g more v values up.0)
      ∙ all_groups (done ++ whole v) values up.1 (all_out v done (whole v) values (in_fold v (f v) (g v) (own v) (more v)) up.0 out.1)
      ∙ append_assoc done (whole v) (flat_map whole values)

-- THE RUNS OF ONE VALUE

map_touching : (value : Cell) (runs : List Run) (run : Run) → map (in_group value) (add_touching runs run) ≡ add_touching (map (in_group value) runs) (in_group value run)
map_touching value [] run = refl
map_touching value (x ∷ []) run = by_test (goes_on_as x run) where
  by_test : (b : Bool) → map (in_group value) (cond b (record x { to = run.to } ∷ []) (x ∷ run ∷ [])) ≡ cond b (record (in_group value x) { to = run.to } ∷ []) (in_group value x ∷ in_group value run ∷ [])
  by_test true = refl
  by_test false = refl
map_touching value (x ∷ y ∷ runs) run = ap (λ rs. in_group value x ∷ rs) (map_touching value (y ∷ runs) run)

map_fold : (value : Cell) (runs more : List Run) → map (in_group value) (fold add_touching runs more) ≡ fold add_touching (map (in_group value) runs) (map (in_group value) more)
map_fold value runs [] = refl
map_fold value runs (run ∷ more) = map_fold value (add_touching runs run) more ∙ ap (λ rs. fold add_touching rs (map (in_group value) more)) (map_touching value runs run)

have_picked : (column : Option ℕ) (set : List Bool) (rows : List plain.Row) → HaveNumbers column rows → HaveNumbers column (picked set rows)
have_picked column [] rows have = tt
have_picked column (s ∷ set) [] have = tt
have_picked column (s ∷ set) (r ∷ rows) have = by_test s (have_picked column set rows have.1) where
  by_test : (b : Bool) → HaveNumbers column (picked set rows) → HaveNumbers column (cond b (r ∷ picked set rows) (picked set rows))
  by_test true h = (have.0, h)
  by_test false h = h

have_filter : (column : Option ℕ) (test : plain.Row → Bool) (rows : List plain.Row) → HaveNumbers column rows → HaveNumbers column (filter test rows)
have_filter column test [] have = tt
have_filter column test (r ∷ rows) have = by_test (test r) (have_filter column test rows have.1) where
  by_test : (b : Bool) → HaveNumbers column (filter test rows) → HaveNumbers column (cond b (r ∷ filter test rows) (filter test rows))
  by_test true h = (have.0, h)
  by_test false h = h

have_some : (column : Option ℕ) (rows : List plain.Row) (keep : List Bool) (by : ℕ) (value : Cell) (moment : ℤ) → HaveNumbers column rows → HaveNumbers column (kept_with rows keep by value moment)
have_some column rows keep by value (pos version) have = have_filter column (has_value by value) (picked (both (standing rows version) keep) rows) (have_picked column (both (standing rows version) keep) rows have)
have_some column rows keep by value (negsuc n) have = tt

suits_some : (k : AggKind) (column : Option ℕ) (rows : List plain.Row) (keep : List Bool) (by : ℕ) (value : Cell) (moment : ℤ) → Suits k column rows → Suits k column (kept_with rows keep by value moment)
suits_some kind.Count column rows keep by value moment suits = tt
suits_some kind.Sum column rows keep by value moment suits = have_some column rows keep by value moment suits
suits_some kind.Avg column rows keep by value moment suits = have_some column rows keep by value moment suits
suits_some kind.Min column rows keep by value moment suits = have_some column rows keep by value moment suits
suits_some kind.Max column rows keep by value moment suits = have_some column rows keep by value moment suits

module _ (k : AggKind) (column : Option ℕ) (rows : List plain.Row) (keep : List Bool) (by : ℕ) (suits : Suits k column rows) (value : Cell) where
  abbrev of_value : ℤ → List plain.Row
  of_value = kept_with rows keep by value

  abbrev field_at : ℤ → Field
  field_at moment = aggregate_of k column (of_value moment)

  abbrev having : List Run → List Run
  having runs = filter (λ (run : Run). has_rows k run.value) runs

  pub runs_with : ℕ → ℕ → List Run
  runs_with from to = group_runs k column (span.System from to) of_value value

  told : (from to : ℤ) → from ≤ℤ to → having (runs_of field_at from to) ≡ with_rows of_value (runs_of field_at from to)
  told from to l =
      filter_same field_at from to (λ (run : Run). has_rows k run.value) (λ (run : Run). not (length (of_value run.from) == 0)) (runs_of field_at from to) (runs_are field_at from to l)
      (λ run is. ap (has_rows k) is.2 ∙ has_told k column (of_value run.from) (suits_some k column rows keep by value run.from suits))

  -- those of two pieces, put together
  pub value_joined : (from middle to : ℕ) → from ≤ middle → middle ≤ to
      → fold add_touching (group_runs k column (span.System from middle) of_value value) (group_runs k column (span.System middle to) of_value value) ≡ group_runs k column (span.System from to) of_value value
  value_joined from middle to l h =
      let lower : pos from ≤ℤ pos middle = omega (arith, ints) in
      let upper : pos middle ≤ℤ pos to = omega (arith, ints) in
      let all : pos from ≤ℤ pos to = omega (arith, ints) in
      sym (map_fold value (with_rows of_value (runs_of field_at (pos from) (pos middle))) (with_rows of_value (runs_of field_at (pos middle) (pos to))))
      ∙ ap (map (in_group value)) (
      ap (λ rs. fold add_touching rs (with_rows of_value (runs_of field_at (pos middle) (pos to)))) (sym (told (pos from) (pos middle) lower))
      ∙ ap (fold add_touching (having (runs_of field_at (pos from) (pos middle)))) (sym (told (pos middle) (pos to) upper))
      ∙ sym (seam_touching (has_rows k) (pos from) (pos middle) (pos to) (runs_of field_at (pos from) (pos middle)) (runs_of field_at (pos middle) (pos to)) (cover_runs field_at (pos from) (pos middle) lower) (cover_runs field_at (pos middle) (pos to) upper))
      ∙ ap having (seam_runs field_at (pos from) (pos middle) (pos to) lower upper)
      ∙ told (pos from) (pos to) all)

-- PIECES

flat_equal : (f g : Cell → List Run) (values : List Cell) → ((v : Cell) → f v ≡ g v) → flat_map f values ≡ flat_map g values
flat_equal f g [] same = refl
flat_equal f g (v ∷ values) same = ap (λ rs. rs ++ flat_map f values) (same v) ∙ ap (λ rs. g v ++ rs) (flat_equal f g values same)

no_ends : (values : List Cell) → AllByRecursion (λ v. ends_with_group [] (Some v) ≡ false) values
no_ends [] = tt
no_ends (v ∷ values) = (refl, no_ends values)

grouped_joined : (k : AggKind) (column : Option ℕ) (by : ℕ) (rows : List plain.Row) (keep : List Bool) (from middle to : ℕ) → Suits k column rows → from ≤ middle → middle ≤ to
    → seam_behind [] (runs_by k column (Some by) rows keep from middle) (runs_by k column (Some by) rows keep middle to) ≡ runs_by k column (Some by) rows keep from to
grouped_joined k column by rows keep from middle to suits l h =
    let before : Cell → List Run = λ value. group_runs k column (span.System from middle) (kept_with rows keep by value) value in
    let after : Cell → List Run = λ value. group_runs k column (span.System middle to) (kept_with rows keep by value) value in
    let both : Cell → List Run = λ value. group_runs k column (span.System from to) (kept_with rows keep by value) value in
    let values = values_of by rows in
    all_groups before after (λ value. all_in value (with_rows (kept_with rows keep by value) (runs_in k column (span.System from middle) (kept_with rows keep by value))))
    (λ value. all_in value (with_rows (kept_with rows keep by value) (runs_in k column (span.System middle to) (kept_with rows keep by value))))
    [] values (rises_fold [] (filter_map (λ (row : plain.Row). cell_at row.cells by) rows) tt) (no_ends values)
    ∙ flat_equal (λ value. fold add_touching (before value) (after value)) both values (λ value. value_joined k column rows keep by suits value from middle to l h)

-- WHETHER THERE ARE GROUPS

abbrev NoGroup : List Run → Type 0
NoGroup [] = Unit {0}
NoGroup (run ∷ runs) = (run.group ≡ None) × NoGroup runs

none_add : (runs : List Run) (s : Run) → s.group ≡ None → NoGroup runs → NoGroup (add_stretch runs s)
none_add [] s is none = (is, tt)
none_add (run ∷ []) s is none = by_test (same_field run.value s.value) where
  by_test : (b : Bool) → NoGroup (cond b (record run { to = s.to } ∷ []) (run ∷ s ∷ []))
  by_test true = (none.0, tt)
  by_test false = (none.0, (is, tt))
none_add (run ∷ next ∷ runs) s is none = (none.0, none_add (next ∷ runs) s is none.1)

none_over : (f : ℤ → Field) (from : ℤ) (n : ℕ) → NoGroup (runs_over f from n)
unfolding runs_over
none_over f from zero = tt
none_over f from (suc n) = none_add (runs_over f from n) _ refl (none_over f from n)

none_first : (runs : List Run) → NoGroup runs → have_groups runs ≡ false
none_first [] none = refl
none_first (run ∷ runs) none = ap is_some none.0

-- each run has a group
abbrev HaveGroup : List Run → Type 0
HaveGroup [] = Unit {0}
HaveGroup (run ∷ runs) = (is_some run.group ≡ true) × HaveGroup runs

have_append : (xs ys : List Run) → HaveGroup xs → HaveGroup ys → HaveGroup (xs ++ ys)
have_append [] ys a b = b
have_append (x ∷ xs) ys a b = (a.0, have_append xs ys a.1 b)

have_mapped : (value : Cell) (runs : List Run) → HaveGroup (map (in_group value) runs)
have_mapped value [] = tt
have_mapped value (run ∷ runs) = (refl, have_mapped value runs)

have_all : (f : Cell → List Run) (all : (v : Cell) → HaveGroup (f v)) (values : List Cell) → HaveGroup (flat_map f values)
have_all f all [] = tt
have_all f all (v ∷ values) = have_append (f v) (flat_map f values) (all v) (have_all f all values)

-- where both lists have groups, their seam is that by groups
seam_grouped : (left right : List Run) → HaveGroup left → HaveGroup right → seam_of left right ≡ seam_behind [] left right
seam_grouped [] [] a b = refl
seam_grouped [] (run ∷ right) a b = rw b.0 refl
seam_grouped (run ∷ left) right a b = rw a.0 refl

seam_single : (left right : List Run) → NoGroup left → NoGroup right → seam_of left right ≡ seam left right
seam_single left right a b = rw (none_first left a, none_first right b) refl

single_none : (k : AggKind) (column by : Option ℕ) (rows : List plain.Row) (keep : List Bool) (from to : ℕ) → by ≡ None → NoGroup (runs_by k column by rows keep from to)
single_none k column None rows keep from to is = none_over (λ moment. aggregate_of k column (kept_at rows keep moment)) (pos from) _
single_none k column (Some by) rows keep from to is = absurd (cc)

pub single_pieces : (plan : AggPlan) (rows : List plain.Row) (keep : List Bool) (from middle to : ℕ) (left right runs : List Run) → plan.by ≡ None → from ≤ middle → middle ≤ to
    → left ≡ system_runs plan rows keep from middle → right ≡ system_runs plan rows keep middle to → runs ≡ seam_of left right → runs ≡ system_runs plan rows keep from to
single_pieces plan rows keep from middle to left right runs is l h left_is right_is runs_is =
    pieces_joined plan rows keep from middle to left right runs is l h left_is right_is
    (runs_is ∙ seam_single left right (subst NoGroup (sym left_is) (single_none plan.kind plan.column plan.by rows keep from middle is)) (subst NoGroup (sym right_is) (single_none plan.kind plan.column plan.by rows keep middle to is)))

pieces_by : (k : AggKind) (column by : Option ℕ) (rows : List plain.Row) (keep : List Bool) (from middle to : ℕ) → Suits k column rows → from ≤ middle → middle ≤ to
    → seam_of (runs_by k column by rows keep from middle) (runs_by k column by rows keep middle to) ≡ runs_by k column by rows keep from to
pieces_by k column None rows keep from middle to suits l h =
    seam_single (runs_by k column None rows keep from middle) (runs_by k column None rows keep middle to) (single_none k column None rows keep from middle refl) (single_none k column None rows keep middle to refl)
    ∙ seam_runs (λ moment. aggregate_of k column (kept_at rows keep moment)) (pos from) (pos middle) (pos to) (omega (arith, ints)) (omega (arith, ints))
pieces_by k column (Some by) rows keep from middle to suits l h =
    seam_grouped (runs_by k column (Some by) rows keep from middle) (runs_by k column (Some by) rows keep middle to)
    (have_all (λ value. group_runs k column (span.System from middle) (kept_with rows keep by value) value) (λ value. have_mapped value (with_rows (kept_with rows keep by value) (runs_in k column (span.System from middle) (kept_with rows keep by value)))) (values_of by rows))
    (have_all (λ value. group_runs k column (span.System middle to) (kept_with rows keep by value) value) (λ value. have_mapped value (with_rows (kept_with rows keep by value) (runs_in k column (span.System middle to) (kept_with rows keep by value)))) (values_of by rows))
    ∙ grouped_joined k column by rows keep from middle to suits l h

pub grouped_pieces : (plan : AggPlan) (rows : List plain.Row) (keep : List Bool) (from middle to : ℕ) (left right runs : List Run) → Suits plan.kind plan.column rows → from ≤ middle → middle ≤ to
    → left ≡ system_runs plan rows keep from middle → right ≡ system_runs plan rows keep middle to → runs ≡ seam_of left right → runs ≡ system_runs plan rows keep from to
grouped_pieces plan rows keep from middle to left right runs suits l h left_is right_is runs_is =
    runs_is ∙ ap (λ x. seam_of x right) left_is ∙ ap (seam_of (system_runs plan rows keep from middle)) right_is ∙ pieces_by plan.kind plan.column plan.by rows keep from middle to suits l h

-- THE STEPS OF THE CODE

-- the last run tells the group in which they end
pub last_group : (runs : List Run) (group : Option Cell) (run : Run) (i : ℕ) → i + 1 ≡ length runs → run ≡ get_or runs i run → ends_with_group runs group ≡ same_group run.group group
last_group [] group run i last is = absurd (omega arith)
last_group (r ∷ []) group run zero last is = ap (λ (x : Run). same_group x.group group) (sym is)
last_group (r ∷ []) group run (suc i) last is = absurd (omega arith)
last_group (r ∷ next ∷ runs) group run zero last is = absurd (omega arith)
last_group (r ∷ next ∷ runs) group run (suc i) last is = last_group (next ∷ runs) group run i (omega arith) is

-- when all runs of the right are taken
pub groups_end : (left right back rest start done last new : List Run) → back ≡ reverse left → start ≡ [] → ((more : List Run) → seam_behind done (reverse rest) more ≡ seam_behind start (reverse back) (right ++ more)) → last ≡ reverse rest → new ≡ done ++ last → new ≡ seam_behind [] left right
groups_end left right back rest start done last new turned none so rest_is new_is =
    new_is ∙ ap (λ rs. done ++ rs) rest_is ∙ so [] ∙ ap (seam_behind start (reverse back)) (append-nil right) ∙ ap (λ rs. seam_behind rs (reverse back) right) none ∙ ap (λ rs. seam_behind [] (reverse rs) right) turned ∙ ap (λ rs. seam_behind [] rs right) (reverse-reverse left)

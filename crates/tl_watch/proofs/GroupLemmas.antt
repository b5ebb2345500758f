-- The groups stand for the rows when one comes or goes.
use Rattle.std.proofs.Common.{◌≡◌, ℕ, suc, ◌+◌, ◌-◌, ◌^◌, ◌<◌, ◌≤◌, Bool, true, false, cond, ◌==◌, List, [], ◌∷◌, ◌++◌, length, Option, Some, None, refl, sym, ap, ◌∙◌, arith, subst}
use Rattle.std.specs.List.{filter}
use Rattle.std.proofs.lemmas.Bool.Decides.{nat_tests}
use Rattle.std.proofs.lemmas.List.Elements.{filter-append}
use Rattle.std.proofs.lemmas.List.{length-map}
use Rattle.tl_types.specs.declared.cells.Cell.{Cell}
use Rattle.tl_types.specs.declared.cells.Cell.TheVariants as cell
use Rattle.tl_types.specs.declared.cells.Cmp.TheVariants as cmp
use Rattle.tl_types.specs.Plain as plain
use Rattle.tl_types.specs.History.{same_cell, cell_at}
use Rattle.tl_query.specs.declared.ast.AggKind.{AggKind}
use Rattle.tl_query.specs.Aggregates.{has_value}
use Rattle.tl_query.specs.Passing.{compare_cells}
use Rattle.tl_running.specs.Standing.{Kept, number_in, IsShort, StandsFor, Inserts}
use Rattle.tl_running.proofs.StandingLemmas.{has_room, row_enters, can_leave, row_leaves}
use Rattle.tl_running.proofs.SumLemmas.{inserts_length}
use Rattle.tl_watch.specs.Groups.{group_of, HoldsRows, GroupsStand, IsOne, HasRoomAt, CanLeaveAt, EntersGroup, with_rows, LeavesGroup}
use Rattle.tl_query.proofs.CellOrder.{cell_symm, cell_equal, cell_itself}

-- ROWS THAT PASS A TEST

pub filter_in : (p : plain.Row → Bool) (r : plain.Row) (fewer more : List plain.Row) → p r ≡ true → Inserts r fewer more → Inserts r (filter p fewer) (filter p more)
filter_in p r fewer more yes_it ins = record {
  front = filter p ins.front;
  back = filter p ins.back;
  without = ap (filter p) ins.without ∙ filter-append p ins.front ins.back;
  with = ap (filter p) ins.with ∙ filter-append p ins.front (r ∷ ins.back) ∙ ap (λ b. filter p ins.front ++ cond b (r ∷ filter p ins.back) (filter p ins.back)) yes_it;
}

pub filter_out : (p : plain.Row → Bool) (r : plain.Row) (fewer more : List plain.Row) → p r ≡ false → Inserts r fewer more → filter p more ≡ filter p fewer
filter_out p r fewer more not_it ins =
    ap (filter p) ins.with ∙ filter-append p ins.front (r ∷ ins.back) ∙ ap (λ b. filter p ins.front ++ cond b (r ∷ filter p ins.back) (filter p ins.back)) not_it
    ∙ sym (ap (filter p) ins.without ∙ filter-append p ins.front ins.back)

pub filter_few : (p : plain.Row → Bool) (rows : List plain.Row) → length (filter p rows) ≤ length rows
filter_few p [] = omega arith
filter_few p (r ∷ rows) = by_test (p r) (filter_few p rows) where
  by_test : (b : Bool) → length (filter p rows) ≤ length rows → length (cond b (r ∷ filter p rows) (filter p rows)) ≤ suc (length rows)
  by_test true l = omega arith
  by_test false l = omega arith

-- the row has the value in the column
pub has_key : (by : ℕ) (value key : Cell) (r : plain.Row) → cell_at r.cells by ≡ Some key → has_value by value r ≡ same_cell key value
has_key by value key r is = rw is (same key value) where
  same : (x y : Cell) → compare_cells cmp.Eq x y ≡ same_cell x y
  same (cell.Int i) (cell.Int j) = refl
  same (cell.Int i) (cell.Text t) = refl
  same (cell.Text s) (cell.Int j) = refl
  same (cell.Text s) (cell.Text t) = refl

pub inserted_long : (r : plain.Row) (fewer more : List plain.Row) → Inserts r fewer more → length more ≡ length fewer + 1
inserted_long r fewer more ins = inserts_length r fewer more ins

none_long : (rows : List plain.Row) → length rows ≡ 0 → rows ≡ []
none_long [] e = refl
none_long (r ∷ rows) e = absurd (omega arith)

-- ONE GROUP

one_stands : (found : Option Kept) (k : AggKind) (column : Option ℕ) (rows : List plain.Row) (was : Kept) → HoldsRows found k column rows → IsOne found k was → (was.kind ≡ k) × StandsFor was column rows
one_stands None k column rows was none one = (one.0, subst (StandsFor was column) (sym none) (one.1 column))
one_stands (Some kept) k column rows was holds one = rw one (holds.0, holds.2)

some_stands : (k : AggKind) (column : Option ℕ) (rows : List plain.Row) (now : Kept) → now.kind ≡ k → StandsFor now column rows → HoldsRows (with_rows now) k column rows
some_stands k column rows now is stands = by_count (now.count == 0) refl where
  long : now.count ≡ length rows
  long = stands.count ∙ length-map rows (number_in column)

  by_count : (b : Bool) → (now.count == 0) ≡ b → HoldsRows (cond b None (Some now)) k column rows
  by_count true e = none_long rows (let l = long in grind (arith, nat_tests))
  by_count false e = (is, (let l = long in grind (arith, nat_tests)), stands)

-- ALL GROUPS

pub groups_come : (old new : List (Cell × Kept)) (k : AggKind) (column : Option ℕ) (by : ℕ) (key : Cell) (r : plain.Row) (fewer more : List plain.Row) → GroupsStand old k column by fewer → cell_at r.cells by ≡ Some key → IsShort (number_in column r)
    → Inserts r fewer more → EntersGroup k key old new (number_in column r) → GroupsStand new k column by more
groups_come old new k column by key r fewer more stands key_is short ins enters value = by_test (same_cell value key) refl where
  held : (b : Bool) → same_cell value key ≡ b → HoldsRows (cond b (Some enters.now) (group_of old value)) k column (filter (has_value by value) more) → HoldsRows (group_of new value) k column (filter (has_value by value) more)
  held b e h = subst (λ o. HoldsRows o k column (filter (has_value by value) more)) (sym (enters.groups value ∙ ap (λ t. cond t (Some enters.now) (group_of old value)) e)) h

  by_test : (b : Bool) → same_cell value key ≡ b → HoldsRows (group_of new value) k column (filter (has_value by value) more)
  by_test true e =
      let same : value ≡ key = cell_equal value key e in
      let before = one_stands (group_of old value) k column (filter (has_value by value) fewer) enters.was (stands value) (subst (λ x. IsOne (group_of old x) k enters.was) (sym same) enters.one) in
      let there = filter_in (has_value by value) r fewer more (has_key by value key r key_is ∙ cell_symm key value ∙ e) ins in
      let long = inserted_long r (filter (has_value by value) fewer) (filter (has_value by value) more) there in
      held true e (enters.enters.kind ∙ before.0, omega arith, row_enters enters.was enters.now column r (filter (has_value by value) fewer) (filter (has_value by value) more) short before.1 there enters.enters)
  by_test false e =
      let left = filter_out (has_value by value) r fewer more (has_key by value key r key_is ∙ cell_symm key value ∙ e) ins in
      held false e (subst (HoldsRows (group_of old value) k column) (sym left) (stands value))

pub groups_go : (old new : List (Cell × Kept)) (k : AggKind) (column : Option ℕ) (by : ℕ) (key : Cell) (r : plain.Row) (fewer more : List plain.Row) → GroupsStand old k column by more → cell_at r.cells by ≡ Some key
    → Inserts r fewer more → LeavesGroup key old new (number_in column r) → GroupsStand new k column by fewer
groups_go old new k column by key r fewer more stands key_is ins leaves value = by_test (same_cell value key) refl where
  held : (b : Bool) → same_cell value key ≡ b → HoldsRows (cond b (with_rows leaves.now) (group_of old value)) k column (filter (has_value by value) fewer) → HoldsRows (group_of new value) k column (filter (has_value by value) fewer)
  held b e h = subst (λ o. HoldsRows o k column (filter (has_value by value) fewer)) (sym (leaves.groups value ∙ ap (λ t. cond t (with_rows leaves.now) (group_of old value)) e)) h

  by_test : (b : Bool) → same_cell value key ≡ b → HoldsRows (group_of new value) k column (filter (has_value by value) fewer)
  by_test true e =
      let same : value ≡ key = cell_equal value key e in
      let before : HoldsRows (Some leaves.was) k column (filter (has_value by value) more) = subst (λ o. HoldsRows o k column (filter (has_value by value) more)) (ap (group_of old) same ∙ leaves.there) (stands value) in
      let there = filter_in (has_value by value) r fewer more (has_key by value key r key_is ∙ cell_symm key value ∙ e) ins in
      held true e (some_stands k column (filter (has_value by value) fewer) leaves.now (sym leaves.leaves.kind ∙ before.0) (row_leaves leaves.was leaves.now column r (filter (has_value by value) fewer) (filter (has_value by value) more) before.2 there leaves.leaves))
  by_test false e =
      let left = filter_out (has_value by value) r fewer more (has_key by value key r key_is ∙ cell_symm key value ∙ e) ins in
      held false e (subst (HoldsRows (group_of old value) k column) left (stands value))

pub group_can_come : (groups : List (Cell × Kept)) (k : AggKind) (column : Option ℕ) (by : ℕ) (key : Cell) (rows : List plain.Row) → GroupsStand groups k column by rows → length rows < 2 ^ 32 - 1 → HasRoomAt (group_of groups key)
group_can_come groups k column by key rows stands few = by_found (group_of groups key) (stands key) where
  by_found : (o : Option Kept) → HoldsRows o k column (filter (has_value by key) rows) → HasRoomAt o
  by_found None h = tt
  by_found (Some kept) h = let l = filter_few (has_value by key) rows in has_room kept column (filter (has_value by key) rows) h.2 (omega arith)

pub group_can_go : (groups : List (Cell × Kept)) (k : AggKind) (column : Option ℕ) (by : ℕ) (key : Cell) (r : plain.Row) (fewer more : List plain.Row) → GroupsStand groups k column by more → cell_at r.cells by ≡ Some key → Inserts r fewer more → length more < 2 ^ 32
    → CanLeaveAt (group_of groups key) (number_in column r)
group_can_go groups k column by key r fewer more stands key_is ins few = by_found (group_of groups key) (stands key) where
  there : Inserts r (filter (has_value by key) fewer) (filter (has_value by key) more)
  there = filter_in (has_value by key) r fewer more (has_key by key key r key_is ∙ cell_itself key) ins

  by_found : (o : Option Kept) → HoldsRows o k column (filter (has_value by key) more) → CanLeaveAt o (number_in column r)
  by_found None h = absurd (let long = inserted_long r (filter (has_value by key) fewer) (filter (has_value by key) more) there in let e : length (filter (has_value by key) more) ≡ 0 = ap length h in omega arith)
  by_found (Some kept) h = let l = filter_few (has_value by key) more in can_leave kept column r (filter (has_value by key) fewer) (filter (has_value by key) more) h.2 there (omega arith)

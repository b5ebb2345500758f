-- What is kept of a plan when it begins: the rows that stand and pass come one by one.
use Rattle.std.proofs.Common.{◌≡◌, ℕ, zero, suc, ◌+◌, ◌*◌, ◌<◌, ◌≤◌, ℤ, pos, Bool, true, false, ◌&&◌, cond, List, [], ◌∷◌, length, map, set, Option, Some, None, refl, sym, ap, ◌∙◌, arith, subst, slice_get}
use Rattle.std.specs.Prelude.{IsTrue}
use Rattle.std.specs.List.{filter, enumerate_from}
use Rattle.std.proofs.lemmas.List.{length-map}
use Rattle.std.proofs.lemmas.List.Sums.{sum_by-append}
use Rattle.tl_types.specs.declared.cells.Cell.{Cell}
use Rattle.tl_types.specs.declared.commits.Commit.{Commit}
use Rattle.tl_types.specs.declared.commits.Entry.{Entry}
use Rattle.tl_types.specs.Plain as plain
use Rattle.tl_types.specs.Entries.{commits_of}
use Rattle.tl_types.specs.History.{database_of, rows_of, is_visible}
use Rattle.tl_types.specs.Legality.{are_legal}
use Rattle.tl_types.specs.Walks.{standing}
use Rattle.tl_query.specs.declared.ast.AggKind.{AggKind}
use Rattle.tl_query.specs.declared.ast.AggKind.TheVariants as kind
use Rattle.tl_query.specs.declared.typed_queries.TypedPred.{TypedPred}
use Rattle.tl_query.specs.Passing.{passes}
use Rattle.tl_bits.specs.Sets.{is_member, IsFree, IsNext}
use Rattle.tl_store.specs.Reading.{columns_of}
use Rattle.tl_running.specs.Standing.{HaveNumbers, Suits, IsShort, number_in, Inserts}
use Rattle.tl_agg.specs.Kept.{picked, below, size}
use Rattle.tl_agg.proofs.StartLemmas.{next_turns, next_below, rest_below}
use Rattle.tl_agg.proofs.TypedLemmas.{plans_suit}
use Rattle.tl_lanes.specs.Masks.{words_for}
use Rattle.tl_travel.specs.Bounds.{events_after_mark, begun_words, map_digits}
use Rattle.tl_filter.specs.Selecting.{rows_that_pass}
use Rattle.tl_watch.specs.declared.plans.WatchPlan.{WatchPlan}
use Rattle.tl_watch.specs.Standings.{standing_rows, tests_in}
use Rattle.tl_watch.specs.Sums.{AddsUp, numbers_in, IsCounted, IsSummed}
use Rattle.tl_watch.specs.Reading.{RowAt, IsRow, IsWithin}
use Rattle.tl_watch.specs.States.{State, Stands, IsKey, CanCome, Comes}
use Rattle.tl_watch.specs.Follows.{IsTaking, TakesRow, IsBeginning, rows_begun}
use Rattle.tl_watch.specs.Watches.{IsOfQuery, IsPlanFor, StandsOver, start_steps}
use Rattle.tl_watch.proofs.PlanLemmas.{plan_is}
use Rattle.tl_watch.proofs.ReadyLemmas.{column_within}
use Rattle.tl_watch.proofs.StandLemmas.{can_come, row_comes}
use Rattle.tl_watch.proofs.StepLemmas.{row_there}
use Rattle.tl_watch.proofs.SumLemmas.{none_add}

-- ONE ROW

pub taking_can : (plan : WatchPlan) (state : State) (at : RowAt) (key : Option Cell) → IsTaking plan state at → ((row : plain.Row) → IsRow at row → IsKey plan.by row key) → CanCome key state
taking_can plan state at key t key_is = can_come plan state t.rows t.row key t.stands (key_is t.row t.there) t.few

pub takes_row : (plan : WatchPlan) (old new : State) (at : RowAt) (n : ℤ) (key : Option Cell) → IsShort n → ((row : plain.Row) → IsRow at row → number_in plan.column row ≡ n) → ((row : plain.Row) → IsRow at row → IsKey plan.by row key) → Comes plan.kind key old new n → TakesRow plan old new at
takes_row plan old new at n key short number_is key_is comes row fewer more there suits stands ins =
    row_comes plan old new fewer more row n key stands (record { number_is = number_is row there; short = short; suits = suits; key_is = key_is row there }) ins comes

have_at : (column : Option ℕ) (rows : List plain.Row) (id : ℕ) (r : plain.Row) → slice_get rows id ≡ Some r → HaveNumbers column rows → HaveNumbers column (r ∷ [])
have_at column [] id r e h = absurd (cc)
have_at column (x ∷ rows) zero r e h = let s : x ≡ r = cc in subst (λ y. HaveNumbers column (y ∷ [])) s (h.0, tt)
have_at column (x ∷ rows) (suc id) r e h = have_at column rows id r e h.1

have_picked : (column : Option ℕ) (members : List Bool) (rows : List plain.Row) → HaveNumbers column rows → HaveNumbers column (picked members rows)
have_picked column [] rows h = tt
have_picked column (b ∷ members) [] h = tt
have_picked column (b ∷ members) (r ∷ rows) h = by_test b (have_picked column members rows h.1) where
  by_test : (t : Bool) → HaveNumbers column (picked members rows) → HaveNumbers column (cond t (r ∷ picked members rows) (picked members rows))
  by_test true later = (h.0, later)
  by_test false later = later

suits_at : (k : AggKind) (column : Option ℕ) (rows : List plain.Row) (id : ℕ) (r : plain.Row) → slice_get rows id ≡ Some r → Suits k column rows → Suits k column (r ∷ [])
suits_at kind.Count column rows id r e s = tt
suits_at kind.Sum column rows id r e s = have_at column rows id r e s
suits_at kind.Avg column rows id r e s = have_at column rows id r e s
suits_at kind.Min column rows id r e s = have_at column rows id r e s
suits_at kind.Max column rows id r e s = have_at column rows id r e s

-- a row that comes into a set
row_in : (members : List Bool) (rows : List plain.Row) (i : ℕ) (row : plain.Row) → slice_get rows i ≡ Some row → slice_get members i ≡ Some false → Inserts row (picked members rows) (picked (set members i true) rows)
row_in [] rows i row is out = absurd (cc)
row_in (s ∷ members) [] i row is out = absurd (cc)
row_in (s ∷ members) (r ∷ rows) zero row is out =
    let e : r ≡ row = cc in
    let f : s ≡ false = cc in
    rw f (record { front = []; back = picked members rows; without = refl; with = ap (λ x. x ∷ picked members rows) e })
row_in (s ∷ members) (r ∷ rows) (suc i) row is out = behind s (row_in members rows i row is out) where
  behind : (b : Bool) → Inserts row (picked members rows) (picked (set members i true) rows) → Inserts row (cond b (r ∷ picked members rows) (picked members rows)) (cond b (r ∷ picked (set members i true) rows) (picked (set members i true) rows))
  behind true h = record { front = r ∷ h.front; back = h.back; without = ap (λ xs. r ∷ xs) h.without; with = ap (λ xs. r ∷ xs) h.with }
  behind false h = h

picked_few : (members : List Bool) (rows : List plain.Row) → length (picked members rows) ≤ length rows
picked_few [] rows = omega arith
picked_few (s ∷ members) [] = omega arith
picked_few (s ∷ members) (r ∷ rows) = by_test s (picked_few members rows) where
  by_test : (b : Bool) → length (picked members rows) ≤ length rows → length (cond b (r ∷ picked members rows) (picked members rows)) ≤ suc (length rows)
  by_test true h = omega arith
  by_test false h = omega arith

-- THE ROWS OF THE SET

pub begun_none : (plan : WatchPlan) (db : plain.Database) (members : List Bool) (state : State) → Stands plan state [] → Stands plan state (rows_begun plan db members 0)
begun_none plan db members state stands = subst (λ rows. Stands plan state rows) (sym (none members (rows_of db plan.table))) stands where
  none : (bs : List Bool) (rows : List plain.Row) → picked (below 0 bs) rows ≡ []
  none [] rows = refl
  none (b ∷ bs) [] = refl
  none (b ∷ bs) (r ∷ rows) = none bs rows

pub next_within : (plan : WatchPlan) (db : plain.Database) (members : List Bool) (from id : ℕ) → IsBeginning plan db members → IsNext members from id → id < length (rows_of db plan.table)
next_within plan db members from id b next = let l = next.inside in let e = b.long in omega arith

pub begun_taking : (plan : WatchPlan) (db : plain.Database) (members : List Bool) (from id : ℕ) (state : State) (at : RowAt) → IsBeginning plan db members → IsNext members from id → at ≡ record { db = db; table = plan.table; id = id }
    → Stands plan state (rows_begun plan db members from) → IsTaking plan state at
begun_taking plan db members from id state at b next at_is stands =
    let found = row_there (rows_of db plan.table) id (next_within plan db members from id b next) in record {
      row = found.0;
      rows = rows_begun plan db members from;
      there = rw at_is found.1;
      stands = stands;
      few = let l = picked_few (below from members) (rows_of db plan.table) in let f = b.few in omega arith;
    }

pub begun_more : (plan : WatchPlan) (db : plain.Database) (members : List Bool) (from id : ℕ) (old new : State) (at : RowAt) → IsBeginning plan db members → IsNext members from id → at ≡ record { db = db; table = plan.table; id = id }
    → Stands plan old (rows_begun plan db members from) → TakesRow plan old new at → Stands plan new (rows_begun plan db members (id + 1))
begun_more plan db members from id old new at b next at_is stands takes =
    let found = row_there (rows_of db plan.table) id (next_within plan db members from id b next) in
    let there : IsRow at found.0 = rw at_is found.1 in
    takes found.0 (rows_begun plan db members from) (rows_begun plan db members (id + 1)) there (suits_at plan.kind plan.column (rows_of db plan.table) id found.0 found.1 b.suits) stands
    (subst (λ bs. Inserts found.0 (picked (below from members) (rows_of db plan.table)) (picked bs (rows_of db plan.table))) (next_below members from id next)
    (row_in (below from members) (rows_of db plan.table) id found.0 found.1 (next_turns (rows_of db plan.table) members from id b.long next).turn))

pub begun_all : (plan : WatchPlan) (db : plain.Database) (members : List Bool) (from : ℕ) (state : State) → from ≤ length members → IsFree members from (length members) → Stands plan state (rows_begun plan db members from) → Stands plan state (picked members (rows_of db plan.table))
begun_all plan db members from state l free stands = subst (λ bs. Stands plan state (picked bs (rows_of db plan.table))) (rest_below members from l free) stands

-- THE SET

pub picked_standing : (v n : ℕ) (pred : TypedPred) (members : List Bool) (rows : List plain.Row) → length members ≡ length rows → ((row : ℕ) → is_member members row ≡ (is_member (map (is_visible v) rows) row && is_member (map (passes pred) rows) row))
    → picked members rows ≡ filter (passes pred) (map (λ (r : ℕ × plain.Row). r.1) (filter (λ (r : ℕ × plain.Row). is_visible v r.1) (enumerate_from n rows)))
picked_standing v n pred [] [] long told = refl
picked_standing v n pred [] (r ∷ rows) long told = absurd (omega arith)
picked_standing v n pred (s ∷ members) [] long told = absurd (omega arith)
picked_standing v n pred (s ∷ members) (r ∷ rows) long told = by_tests s (is_visible v r) (told 0) (picked_standing v (n + 1) pred members rows (omega arith) (λ row. told (suc row))) where
  shown : List (ℕ × plain.Row)
  shown = filter (λ (r : ℕ × plain.Row). is_visible v r.1) (enumerate_from (n + 1) rows)

  by_tests : (s a : Bool) → s ≡ (a && passes pred r) → picked members rows ≡ filter (passes pred) (map (λ (r : ℕ × plain.Row). r.1) shown)
      → cond s (r ∷ picked members rows) (picked members rows) ≡ filter (passes pred) (map (λ (r : ℕ × plain.Row). r.1) (cond a ((n, r) ∷ shown) shown))
  by_tests s true e later = rw e (ap (λ xs. cond (passes pred r) (r ∷ xs) xs) later)
  by_tests s false e later = rw e later

pub set_stands : (entries : List Entry) (cs : List Commit) (version table : ℕ) (pred : TypedPred) (found members : List Bool) → cs ≡ commits_of entries → version ≡ (database_of cs).version → found ≡ standing (rows_of (database_of (commits_of entries)) table) version
    → length members ≡ length found → ((row : ℕ) → is_member members row ≡ (is_member found row && is_member (rows_that_pass (database_of (commits_of entries)) table pred) row))
    → picked members (rows_of (database_of (commits_of entries)) table) ≡ standing_rows (database_of (commits_of entries)) table pred
set_stands entries cs version table pred found members same version_is found_is long told =
    let now : version ≡ (database_of (commits_of entries)).version = version_is ∙ ap (λ xs. (database_of xs).version) same in
    let stands : found ≡ standing (rows_of (database_of (commits_of entries)) table) (database_of (commits_of entries)).version = found_is ∙ ap (standing (rows_of (database_of (commits_of entries)) table)) now in
    picked_standing (database_of (commits_of entries)).version 0 pred members (rows_of (database_of (commits_of entries)) table)
    (long ∙ ap length stands ∙ length-map (rows_of (database_of (commits_of entries)) table) (is_visible (database_of (commits_of entries)).version))
    (λ row. told row ∙ ap (λ bs. is_member bs row && is_member (rows_that_pass (database_of (commits_of entries)) table pred) row) stands)

size_first : (b : Bool) (bs : List Bool) → size (b ∷ bs) ≡ cond b 1 0 + size bs
size_first b bs = let z : 0 + cond b 1 0 ≡ cond b 1 0 = omega arith in sum_by-append (λ (n : Bool). cond n 1 0) (b ∷ []) bs ∙ ap (λ n. n + size bs) z

pub size_picked : (members : List Bool) (rows : List plain.Row) → length members ≡ length rows → size members ≡ length (picked members rows)
size_picked [] rows long = refl
size_picked (b ∷ members) [] long = absurd (omega arith)
size_picked (b ∷ members) (r ∷ rows) long = size_first b members ∙ by_test b (size_picked members rows (omega arith)) where
  by_test : (b : Bool) → size members ≡ length (picked members rows) → cond b 1 0 + size members ≡ length (cond b (r ∷ picked members rows) (picked members rows))
  by_test true h = omega arith
  by_test false h = omega arith

-- THE WHOLE

table_suits : (plan : WatchPlan) (entries : List Entry) → IsTrue (are_legal entries) → IsPlanFor plan (database_of (commits_of entries)) → Suits plan.kind plan.column (rows_of (database_of (commits_of entries)) plan.table)
table_suits plan entries legal is =
    plans_suit entries (record { table = plan.table; kind = plan.kind; column = plan.column; by = plan.by }) legal
    (record { column = is.column; kind = is.kind; by = λ c e. within plan.by c is.by e }) where
      columns : ℕ
      columns = length (columns_of (database_of (commits_of entries)) plan.table)

      within : (by : Option ℕ) (c : ℕ) → IsWithin by columns → by ≡ Some c → c < columns
      within None c w e = absurd (cc)
      within (Some d) c w e = let s : d ≡ c = cc in subst (λ x. x < columns) s w

pub begins : (plan : WatchPlan) (entries : List Entry) (cs : List Commit) (members : List Bool) → IsOfQuery plan (database_of (commits_of entries)) → IsTrue (are_legal entries) → cs ≡ commits_of entries
    → length members ≡ length (rows_of (database_of (commits_of entries)) plan.table) → length (rows_of (database_of (commits_of entries)) plan.table) ≤ 16777216 → IsBeginning plan (database_of cs) members
begins plan entries cs members query legal same long few =
    let is = plan_is plan (database_of (commits_of entries)) query in
    subst (λ xs. IsBeginning plan (database_of xs) members) (sym same) (record {
      there = is.there;
      column = column_within (columns_of (database_of (commits_of entries)) plan.table) plan.column is.column;
      ints = is.column;
      by = is.by;
      suits = table_suits plan entries legal is;
      long = long;
      few = few;
    })

pub started : (plan : WatchPlan) (entries : List Entry) (cs : List Commit) (members : List Bool) (state : State) → IsOfQuery plan (database_of (commits_of entries)) → IsTrue (are_legal entries) → cs ≡ commits_of entries
    → picked members (rows_of (database_of (commits_of entries)) plan.table) ≡ standing_rows (database_of (commits_of entries)) plan.table plan.pred → Stands plan state (picked members (rows_of (database_of cs) plan.table))
    → StandsOver (record { plan = plan; state = state }) (database_of (commits_of entries))
started plan entries cs members state query legal same rows_are stands =
    let is = plan_is plan (database_of (commits_of entries)) query in record {
      plan = is;
      suits = table_suits plan entries legal is;
      stands = subst (λ rows. Stands plan state rows) (ap (λ xs. picked members (rows_of (database_of xs) plan.table)) same ∙ rows_are) stands;
    }

pub few_rows : (n : ℕ) (cs : List Commit) (entries : List Entry) (table : ℕ) → cs ≡ commits_of entries → n ≡ length (rows_of (database_of cs) table) → n ≤ 16777216 → length (rows_of (database_of (commits_of entries)) table) ≤ 16777216
few_rows n cs entries table same is few = subst (λ xs. length (rows_of (database_of xs) table) ≤ 16777216) same (let e = is in omega arith)

-- SUMS

suits_picked : (k : AggKind) (column : Option ℕ) (members : List Bool) (rows : List plain.Row) → Suits k column rows → Suits k column (picked members rows)
suits_picked kind.Count column members rows s = tt
suits_picked kind.Sum column members rows s = have_picked column members rows s
suits_picked kind.Avg column members rows s = have_picked column members rows s
suits_picked kind.Min column members rows s = have_picked column members rows s
suits_picked kind.Max column members rows s = have_picked column members rows s

pub counted_stands : (plan : WatchPlan) (db : plain.Database) (members : List Bool) (count : ℕ) (state : State) → IsBeginning plan db members → IsCounted plan → count ≡ size members
    → ((p : WatchPlan) (rows : List plain.Row) → p.kind ≡ plan.kind → p.by ≡ None → Suits p.kind p.column rows → count ≡ length rows → AddsUp (map (number_in p.column) rows) (pos 0) → Stands p state rows) → Stands plan state (picked members (rows_of db plan.table))
counted_stands plan db members count state b counted count_is stands =
    stands plan (picked members (rows_of db plan.table)) refl counted.by (suits_picked plan.kind plan.column members (rows_of db plan.table) b.suits) (count_is ∙ size_picked members (rows_of db plan.table) b.long)
    (subst (λ c. AddsUp (map (number_in c) (picked members (rows_of db plan.table))) (pos 0)) (sym counted.column_is) (none_add (picked members (rows_of db plan.table))))

pub summed_stands : (plan : WatchPlan) (db : plain.Database) (members : List Bool) (column count : ℕ) (sum : ℤ) (state : State) → IsBeginning plan db members → IsSummed plan column → count ≡ size members → AddsUp (numbers_in column members (rows_of db plan.table)) sum
    → ((p : WatchPlan) (rows : List plain.Row) → p.kind ≡ plan.kind → p.by ≡ None → Suits p.kind p.column rows → count ≡ length rows → AddsUp (map (number_in p.column) rows) sum → Stands p state rows) → Stands plan state (picked members (rows_of db plan.table))
summed_stands plan db members column count sum state b summed count_is adds stands =
    stands plan (picked members (rows_of db plan.table)) refl summed.by (suits_picked plan.kind plan.column members (rows_of db plan.table) b.suits) (count_is ∙ size_picked members (rows_of db plan.table) b.long)
    (subst (λ c. AddsUp (map (number_in c) (picked members (rows_of db plan.table))) sum) (sym summed.column_is) adds)

-- STEPS

steps_sum : (e w s p r size words before middle after : ℕ) → middle ≤ before + e + w + 2 * s + (p * w + w) → after ≤ middle + (3 * size + 3 * words) → size ≡ r → words ≡ w → after ≤ before + (e + (p + 5) * w + 2 * s + 3 * r)
steps_sum e w s p r size words before middle after h l i j =
    let m : (p + 5) * w ≡ p * w + 5 * w = grind arith in
    omega arith

pub start_within : (plan : WatchPlan) (entries : List Entry) (members : List Bool) (before middle after : ℕ) → length members ≡ length (rows_of (database_of (commits_of entries)) plan.table)
    → picked members (rows_of (database_of (commits_of entries)) plan.table) ≡ standing_rows (database_of (commits_of entries)) plan.table plan.pred
    → middle ≤ before + events_after_mark entries plan.table (database_of (commits_of entries)).version + begun_words (database_of (commits_of entries)) plan.table + 2 * map_digits (database_of (commits_of entries)) plan.table + (tests_in plan.pred * begun_words (database_of (commits_of entries)) plan.table + begun_words (database_of (commits_of entries)) plan.table)
    → after ≤ middle + (3 * size members + 3 * words_for (length members)) → after ≤ before + start_steps entries plan
start_within plan entries members before middle after long rows_are h l =
    let db = database_of (commits_of entries) in
    steps_sum (events_after_mark entries plan.table db.version) (begun_words db plan.table) (map_digits db plan.table) (tests_in plan.pred) (length (standing_rows db plan.table plan.pred)) (size members) (words_for (length members)) before middle after h l
    (size_picked members (rows_of db plan.table) long ∙ ap length rows_are) (ap words_for long)

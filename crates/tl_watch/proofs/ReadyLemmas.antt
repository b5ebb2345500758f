-- A plan over commits that fit, and one commit more.
use Rattle.std.proofs.Common.{◌≡◌, ℕ, ℤ, zero, suc, ◌+◌, ◌<◌, true, ◌&&◌, nat_lt, nat_le, List, [], ◌∷◌, ◌++◌, length, map, take, get_or, All, Option, Some, None, refl, sym, ap, ◌∙◌, arith, subst, slice_get}
use Rattle.std.specs.Prelude.{IsTrue, ◌≢◌, is_some}
use Rattle.std.specs.Bool.{beq}
use Rattle.std.specs.List.{filter, list_all}
use Rattle.std.proofs.lemmas.Bool.Decides.{nat_tests}
use Rattle.tl_types.proofs.Lists.{and_left, and_right}
use Rattle.tl_types.proofs.EntryLemmas.{tables_grow}
use Rattle.tl_types.specs.Plain as plain
use Rattle.tl_types.specs.Facts.{AscendFrom}
use Rattle.tl_types.specs.declared.cells.Cell.{Cell}
use Rattle.tl_types.specs.declared.schemas.Column.{Column}
use Rattle.tl_types.specs.declared.commits.Commit.{Commit}
use Rattle.tl_types.specs.declared.commits.Body.{Body}
use Rattle.tl_types.specs.declared.commits.Body.TheVariants as body
use Rattle.tl_types.specs.History.{table_after, at_place, after_commit, database_of, fits, fits_body, fits_table, is_of_kind, is_open_at, match_columns, matches, rows_of, new_row, new_table, with_floor}
use Rattle.tl_types.specs.Legality.{FitInTurn}
use Rattle.tl_types.specs.Limits.{standard_limits}
use Rattle.tl_query.specs.Passing.{passes}
use Rattle.tl_store.specs.Reading.{columns_of, columns_of_table, IsIntColumn}
use Rattle.tl_running.specs.Standing.{Suits}
use Rattle.tl_watch.specs.declared.plans.WatchPlan.{WatchPlan}
use Rattle.tl_watch.specs.Standings.{standing_rows, left_rows}
use Rattle.tl_watch.specs.Reading.{IsWithin}
use Rattle.tl_watch.specs.Follows.{IsReady, rows_closing, rows_opening}
use Rattle.tl_watch.specs.States.{State, Stands}
use Rattle.tl_watch.specs.Watches.{Watched, IsPlanFor, StandsOver, AllStand}
use Rattle.tl_watch.proofs.AfterLemmas.{one_more, standing_is, standing_changed, standing_same, changed_rows, other_rows, made_rows, stated_rows, forgot_rows, table_there}
use Rattle.tl_watch.proofs.TypedLemmas.{opens_suit, suits_after}

-- THE COLUMNS STAY

changed_columns : (w i j : ℕ) (change : plain.Change) (tables : List plain.Table) → columns_of_table (slice_get (at_place i (table_after w change) tables) j) ≡ columns_of_table (slice_get tables j)
changed_columns w i j change [] = refl
changed_columns w zero zero change (t ∷ tables) = refl
changed_columns w zero (suc j) change (t ∷ tables) = refl
changed_columns w (suc i) zero change (t ∷ tables) = refl
changed_columns w (suc i) (suc j) change (t ∷ tables) = changed_columns w i j change tables

floored_columns : (i j floor : ℕ) (tables : List plain.Table) → columns_of_table (slice_get (at_place i (with_floor floor) tables) j) ≡ columns_of_table (slice_get tables j)
floored_columns i j floor [] = refl
floored_columns zero zero floor (t ∷ tables) = refl
floored_columns zero (suc j) floor (t ∷ tables) = refl
floored_columns (suc i) zero floor (t ∷ tables) = refl
floored_columns (suc i) (suc j) floor (t ∷ tables) = floored_columns i j floor tables

made_columns : (tables : List plain.Table) (x : plain.Table) (j : ℕ) → j < length tables → columns_of_table (slice_get (tables ++ x ∷ []) j) ≡ columns_of_table (slice_get tables j)
made_columns [] x j l = absurd (omega arith)
made_columns (y ∷ tables) x zero l = refl
made_columns (y ∷ tables) x (suc j) l = made_columns tables x j (omega arith)

columns_stay : (db : plain.Database) (c : Commit) (table : ℕ) → table < length db.tables → columns_of (after_commit db c) table ≡ columns_of db table
columns_stay db c table l = by_body c.body where
  by_body : (b : Body) → columns_of (after_commit db (record { author = c.author; body = b })) table ≡ columns_of db table
  by_body (body.Create schema) = made_columns db.tables (new_table schema) table l
  by_body (body.Change change) = changed_columns (db.version + 1) change.table table change db.tables
  by_body (body.Moment moment) = refl
  by_body (body.Forget number floor) = floored_columns number table floor db.tables

table_stays : (db : plain.Database) (c : Commit) (table : ℕ) → table < length db.tables → table < length (after_commit db c).tables
table_stays db c table l = let m = tables_grow db c in omega arith

plan_from : (plan : WatchPlan) (db other : plain.Database) → plan.table < length other.tables → columns_of other plan.table ≡ columns_of db plan.table → IsPlanFor plan db → IsPlanFor plan other
plan_from plan db other l same is = record {
  there = l;
  tests = rw same is.tests;
  column = λ c e. rw same (is.column c e);
  kind = is.kind;
  by = rw same is.by;
}

pub plan_stays : (plan : WatchPlan) (cs : List Commit) (c : Commit) → IsPlanFor plan (database_of cs) → IsPlanFor plan (database_of (cs ++ c ∷ []))
plan_stays plan cs c is =
    subst (IsPlanFor plan) (sym (one_more cs c)) (plan_from plan (database_of cs) (after_commit (database_of cs) c) (table_stays (database_of cs) c plan.table is.there) (columns_stay (database_of cs) c plan.table is.there) is)

-- WHAT A CHANGE THAT FITS KEEPS

match_long : (columns : List Column) (cells : List Cell) → match_columns columns cells ≡ true → length cells ≡ length columns
match_long [] [] m = refl
match_long [] (x ∷ cells) m = absurd (cc)
match_long (k ∷ columns) [] m = absurd (cc)
match_long (k ∷ columns) (x ∷ cells) m = ap suc (match_long columns cells (and_right (is_of_kind k.kind x) (match_columns columns cells) m))

opens_long : (schema : plain.Schema) (opens : List plain.Opened) → list_all (matches schema) opens ≡ true → All (λ (o : plain.Opened). length o.cells ≡ length schema.columns) opens
opens_long schema [] h = λ k d l. absurd (omega arith)
opens_long schema (o ∷ opens) h =
    let one = and_left (matches schema o) (list_all (matches schema) opens) h in
    let here = match_long schema.columns o.cells (and_left (match_columns schema.columns o.cells) (beq schema.valid (is_some o.period)) one) in
    let later = opens_long schema opens (and_right (matches schema o) (list_all (matches schema) opens) h) in
    λ k d l. at k d l here later where
      at : (k : ℕ) (d : plain.Opened) → k < length (o ∷ opens) → length o.cells ≡ length schema.columns → All (λ (o : plain.Opened). length o.cells ≡ length schema.columns) opens → length (get_or (o ∷ opens) k d).cells ≡ length schema.columns
      at zero d l here later = here
      at (suc k) d l here later = later k d (omega arith)

pub column_within : (columns : List Column) (column : Option ℕ) → ((c : ℕ) → column ≡ Some c → IsIntColumn columns c) → IsWithin column (length columns)
column_within columns None is = tt
column_within columns (Some c) is = within columns c (is c refl) where
  within : (columns : List Column) (c : ℕ) → IsIntColumn columns c → c < length columns
  within [] c h = absurd (cc)
  within (k ∷ columns) zero h = omega arith
  within (k ∷ columns) (suc c) h = let l = within columns c h in omega arith

pub ready_of : (plan : WatchPlan) (cs : List Commit) (change : plain.Change) (author : ℕ) → FitInTurn standard_limits cs → IsTrue (fits standard_limits (database_of cs) (record { author = author; body = body.Change change })) → change.table ≡ plan.table → IsPlanFor plan (database_of cs) → Suits plan.kind plan.column (rows_of (database_of cs) plan.table) → AscendFrom 0 change.closes
    → IsReady plan (database_of cs) change
ready_of plan cs change author fit one is plan_is suits ascends =
    let found = table_there db.tables plan.table plan_is.there in
    with_table found.0 found.1 (and_right (nat_lt db.version standard_limits.versions) (fits_body standard_limits db (body.Change change)) one) where
      db : plain.Database
      db = database_of cs

      with_table : (t : plain.Table) → slice_get db.tables plan.table ≡ Some t → fits_table standard_limits change (slice_get db.tables change.table) ≡ true → IsReady plan db change
      with_table t there fits_it =
          let there_too : slice_get db.tables change.table ≡ Some t = ap (slice_get db.tables) is ∙ there in
          let f : ((list_all (is_open_at t.rows) change.closes && list_all (matches t.schema) change.opens) && nat_le (length t.rows + length change.opens) 16777216) ≡ true = subst (λ o. fits_table standard_limits change o ≡ true) there_too fits_it in
          let rows_are : rows_of db plan.table ≡ t.rows = rw there refl in
          let columns_are : columns_of db plan.table ≡ t.schema.columns = rw there refl in record {
            table = is;
            there = plan_is.there;
            tests = plan_is.tests;
            column = column_within (columns_of db plan.table) plan.column plan_is.column;
            by = plan_is.by;
            suits = suits;
            opens_suit = opens_suit (db.version + 1) t.schema plan.kind plan.column change.opens (and_right (list_all (is_open_at t.rows) change.closes) (list_all (matches t.schema) change.opens) (and_left (list_all (is_open_at t.rows) change.closes && list_all (matches t.schema) change.opens) (nat_le (length t.rows + length change.opens) 16777216) f))
                (λ c e. rw (← columns_are) (plan_is.column c e)) plan_is.kind;
            opens_long = rw columns_are (opens_long t.schema change.opens (and_right (list_all (is_open_at t.rows) change.closes) (list_all (matches t.schema) change.opens) (and_left (list_all (is_open_at t.rows) change.closes && list_all (matches t.schema) change.opens) (nat_le (length t.rows + length change.opens) 16777216) f)));
            closes = rw rows_are (and_left (list_all (is_open_at t.rows) change.closes) (list_all (matches t.schema) change.opens) (and_left (list_all (is_open_at t.rows) change.closes && list_all (matches t.schema) change.opens) (nat_le (length t.rows + length change.opens) 16777216) f));
            ascends = ascends;
            few = rw rows_are (let g = and_right (list_all (is_open_at t.rows) change.closes && list_all (matches t.schema) change.opens) (nat_le (length t.rows + length change.opens) 16777216) f in grind (arith, nat_tests));
          }

-- WHAT IS KEPT STANDS OVER ONE COMMIT MORE

pub before_change : (plan : WatchPlan) (state : State) (cs : List Commit) (change : plain.Change) → FitInTurn standard_limits cs → Stands plan state (standing_rows (database_of cs) plan.table plan.pred) → Stands plan state (rows_closing plan (database_of cs) change 0)
before_change plan state cs change fit stands = subst (Stands plan state) (standing_is cs plan.table plan.pred fit) stands

pub over_change : (plan : WatchPlan) (state : State) (cs : List Commit) (change : plain.Change) (author : ℕ) → FitInTurn standard_limits cs → IsTrue (fits standard_limits (database_of cs) (record { author = author; body = body.Change change })) → change.table ≡ plan.table → IsPlanFor plan (database_of cs)
    → Stands plan state (rows_opening plan (database_of cs) change (length change.opens)) → Stands plan state (standing_rows (database_of (cs ++ record { author = author; body = body.Change change } ∷ [])) plan.table plan.pred)
over_change plan state cs change author fit one is plan_is stands =
    subst (Stands plan state)
    (ap (λ os. left_rows plan.pred change.closes (rows_of (database_of cs) plan.table) ++ filter (passes plan.pred) (map (new_row ((database_of cs).version + 1)) os)) (take_whole change.opens)
    ∙ sym (standing_changed cs change author plan.table plan.pred fit one is plan_is.there)) stands where
      take_whole : (os : List plain.Opened) → take (length os) os ≡ os
      take_whole [] = refl
      take_whole (x ∷ os) = ap (λ ys. x ∷ ys) (take_whole os)

-- so it does where the plan's table changes
pub over_changed : (watched : Watched) (state : State) (cs : List Commit) (change : plain.Change) (author : ℕ) → FitInTurn standard_limits cs → IsTrue (fits standard_limits (database_of cs) (record { author = author; body = body.Change change })) → change.table ≡ watched.plan.table → StandsOver watched (database_of cs)
    → IsReady watched.plan (database_of cs) change → Stands watched.plan state (rows_opening watched.plan (database_of cs) change (length change.opens)) → StandsOver (record { plan = watched.plan; state = state }) (database_of (cs ++ record { author = author; body = body.Change change } ∷ []))
over_changed watched state cs change author fit one is over ready stands = record {
  plan = plan_stays watched.plan cs (record { author = author; body = body.Change change }) over.plan;
  suits = subst (Suits watched.plan.kind watched.plan.column) (sym (ap (λ d. rows_of d watched.plan.table) (one_more cs (record { author = author; body = body.Change change })) ∙ changed_rows (database_of cs) change author watched.plan.table is over.plan.there))
      (suits_after ((database_of cs).version + 1) 0 watched.plan.kind watched.plan.column change.closes (rows_of (database_of cs) watched.plan.table) (map (new_row ((database_of cs).version + 1)) change.opens) ready.suits ready.opens_suit);
  stands = over_change watched.plan state cs change author fit one is over.plan stands;
}

-- and where it stays
pub over_other : (watched : Watched) (cs : List Commit) (c : Commit) → FitInTurn standard_limits cs → IsTrue (fits standard_limits (database_of cs) c) → rows_of (after_commit (database_of cs) c) watched.plan.table ≡ rows_of (database_of cs) watched.plan.table → StandsOver watched (database_of cs) → StandsOver watched (database_of (cs ++ c ∷ []))
over_other watched cs c fit one same over = record {
  plan = plan_stays watched.plan cs c over.plan;
  suits = subst (Suits watched.plan.kind watched.plan.column) (sym (ap (λ d. rows_of d watched.plan.table) (one_more cs c) ∙ same)) over.suits;
  stands = subst (Stands watched.plan watched.state) (sym (standing_same cs c watched.plan.table watched.plan.pred fit one same)) over.stands;
}

pub over_another : (watched : Watched) (cs : List Commit) (change : plain.Change) (author : ℕ) → FitInTurn standard_limits cs → IsTrue (fits standard_limits (database_of cs) (record { author = author; body = body.Change change })) → change.table ≢ watched.plan.table → StandsOver watched (database_of cs) → StandsOver watched (database_of (cs ++ record { author = author; body = body.Change change } ∷ []))
over_another watched cs change author fit one other over = over_other watched cs (record { author = author; body = body.Change change }) fit one (other_rows (database_of cs) change author watched.plan.table other) over

-- EACH PLAN

-- a commit that leaves the rows of each table as they were
all_other : (plans : List Watched) (cs : List Commit) (c : Commit) → FitInTurn standard_limits cs → IsTrue (fits standard_limits (database_of cs) c) → ((table : ℕ) → table < length (database_of cs).tables → rows_of (after_commit (database_of cs) (record { author = c.author; body = c.body })) table ≡ rows_of (database_of cs) table) → AllStand plans (database_of cs)
    → AllStand plans (database_of (cs ++ c ∷ []))
all_other plans cs c fit one same all i w there = let over = all i w there in over_other w cs c fit one (same w.plan.table over.plan.there) over

abbrev RowsStay : plain.Database → ℕ → Body → Type 0
RowsStay db author b = (table : ℕ) → table < length db.tables → rows_of (after_commit db (record { author = author; body = b })) table ≡ rows_of db table

pub all_made : (plans : List Watched) (cs : List Commit) (c : Commit) (schema : plain.Schema) → c.body ≡ body.Create schema → FitInTurn standard_limits cs → IsTrue (fits standard_limits (database_of cs) c) → AllStand plans (database_of cs) → AllStand plans (database_of (cs ++ c ∷ []))
all_made plans cs c schema is fit one all = all_other plans cs c fit one (subst (RowsStay (database_of cs) c.author) (sym is) (λ table l. made_rows (database_of cs) schema c.author table l)) all

pub all_stated : (plans : List Watched) (cs : List Commit) (c : Commit) (moment : ℤ) → c.body ≡ body.Moment moment → FitInTurn standard_limits cs → IsTrue (fits standard_limits (database_of cs) c) → AllStand plans (database_of cs) → AllStand plans (database_of (cs ++ c ∷ []))
all_stated plans cs c moment is fit one all = all_other plans cs c fit one (subst (RowsStay (database_of cs) c.author) (sym is) (λ table l. stated_rows (database_of cs) moment c.author table)) all

pub all_forgot : (plans : List Watched) (cs : List Commit) (c : Commit) (number floor : ℕ) → c.body ≡ body.Forget number floor → FitInTurn standard_limits cs → IsTrue (fits standard_limits (database_of cs) c) → AllStand plans (database_of cs) → AllStand plans (database_of (cs ++ c ∷ []))
all_forgot plans cs c number floor is fit one all = all_other plans cs c fit one (subst (RowsStay (database_of cs) c.author) (sym is) (λ table l. forgot_rows (database_of cs) number floor c.author table l)) all

pub all_changed : (plans : List Watched) (cs : List Commit) (c : Commit) (change : plain.Change) → c.body ≡ body.Change change → AllStand plans (database_of (cs ++ record { author = c.author; body = body.Change change } ∷ [])) → AllStand plans (database_of (cs ++ c ∷ []))
all_changed plans cs c change is all = subst (λ b. AllStand plans (database_of (cs ++ record { author = c.author; body = b } ∷ []))) (sym is) all

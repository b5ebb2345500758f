-- A log with one commit more.
use Rattle.std.proofs.Common.{◌≡◌, ◌≢◌, ℕ, zero, suc, ◌+◌, ◌<◌, ◌≤◌, Bool, true, false, ◌&&◌, ◌||◌, not, cond, nat_eq, nat_lt, ℤ, List, [], ◌∷◌, ◌++◌, length, map, get_or, set, take, drop, fold, Option, Some, None, refl, sym, ap, ◌∙◌, subst, arith, slice_get, length-append, append-nil}
use Rattle.std.specs.List.{insert, remove, list_any, enumerate_from, position_from}
use Rattle.std.specs.Option.{option_map}
use Rattle.std.proofs.lemmas.Option.{slice_get-get_or, slice_get-map}
use Rattle.std.proofs.lemmas.List.{length-map, length-set, length-drop, length_push, map_push, map-append, map-set, take-map, drop-map, drop_at, take-append-le, drop-append-le, take_all, get_or_append_left, get_or_at, get_or-set_same, get_or-set_other, get_or-map, get_or_default}
use Rattle.std.proofs.lemmas.List.FromFn.{length-enumerate_from}
use Rattle.std.proofs.lemmas.List.Sums.{fold-append}
use Rattle.std.proofs.lemmas.Bool.Decides.{nat_tests}
use Rattle.tl_types.specs.declared.commits.Commit.{Commit}
use Rattle.tl_types.specs.declared.commits.Body.{Body}
use Rattle.tl_types.specs.declared.commits.Body.TheVariants as body
use Rattle.tl_types.specs.Facts.{IsChange}
use Rattle.tl_types.specs.Resolving.{find_from, find_table}
use Rattle.tl_types.specs.History.{database_of, database_at, nothing, after_commit, after_body, stamps_of, table_after, with_floor, at_place, row_after, new_row, fits, fits_body, fits_table, fits_floor, has_name, version_at_moment}
use Rattle.tl_types.specs.Legality.{FitFrom}
use Rattle.tl_types.specs.Limits.{standard_limits}
use Rattle.tl_types.specs.declared.limits.Limits.{Limits}
use Rattle.tl_types.specs.Plain as plain
use Rattle.tl_store.specs.declared.log.Deed.{Deed}
use Rattle.tl_store.specs.declared.log.Deed.TheVariants as deed
use Rattle.tl_store.specs.declared.log.LogEntry.{LogEntry}
use Rattle.tl_store.specs.Kept.{Kept, table_of, kept_new, kept_after, kept_floored, kept_none}
use Rattle.tl_store.specs.Reading.{columns_of, columns_of_table, has_periods, has_periods_table}
use Rattle.tl_store.specs.Log.{opened_of, part, body_of, kept_at, commit_of, history_of, IsPart, IsDeed, AreEntries, database_with, IsHistory, deed_of}
use Rattle.tl_types.specs.WellFormed.{Rise}
use Rattle.tl_types.proofs.EntryLemmas.{fit_more}
use Rattle.tl_types.proofs.TimeLemmas.{history_timed, history_moment}
use Rattle.tl_types.proofs.Lists.{and_left, and_right, at_place-set}

-- COMMITS THAT FIT

pub fit_at : (db : plain.Database) (commits : List Commit) (k : ℕ) (d : Commit) → FitFrom standard_limits db commits → k < length commits → fits standard_limits (fold after_commit db (take k commits)) (get_or commits k d) ≡ true
fit_at db [] k d h l = absurd (omega arith)
fit_at db (c ∷ cs) zero d h l = h.0
fit_at db (c ∷ cs) (suc k) d h l = fit_at (after_commit db c) cs k d h.1 (omega arith)

-- WHAT STAYS OF A TABLE

-- the second keeps what the first has, and has more behind it
pub record Grows (kept more : Kept) : Type 0 where
  pub schema : more.schema ≡ kept.schema
  pub ids : List ℕ
  pub closed : more.closed ≡ kept.closed ++ ids
  pub opens : List plain.Opened
  pub rows : map opened_of more.rows ≡ map opened_of kept.rows ++ opens

pub grows_same : (kept more : Kept) → more ≡ kept → Grows kept more
grows_same kept more e = record { schema = ap (λ (k : Kept). k.schema) e; ids = []; closed = ap (λ (k : Kept). k.closed) e ∙ sym (nil kept.closed); opens = []; rows = ap (λ (k : Kept). map opened_of k.rows) e ∙ sym (nil (map opened_of kept.rows)) } where
  nil : {X : Type 0} (xs : List X) → xs ++ [] ≡ xs
  nil [] = refl
  nil (x ∷ xs) = ap (λ t. x ∷ t) (nil xs)

part_front : {X : Type 0} (xs ys : List X) (from count : ℕ) → from + count ≤ length xs → part from count (xs ++ ys) ≡ part from count xs
part_front xs ys from count h =
    ap (take count) (drop-append-le from xs ys (omega arith)) ∙ take-append-le count (drop from xs) ys (omega (arith, length-drop from xs))

part_map : {X Y : Type 0} (f : X → Y) (xs : List X) (from count : ℕ) → map f (part from count xs) ≡ part from count (map f xs)
part_map f xs from count = sym (ap (take count) (drop-map f from xs) ∙ take-map f count (drop from xs))

part_back : {X : Type 0} (xs ys : List X) (from count : ℕ) → length xs ≡ from → length ys ≡ count → part from count (xs ++ ys) ≡ ys
part_back xs ys from count h l = ap (take count) (drop_at xs ys from h) ∙ take_all count ys (omega arith)

length_rows : (kept more : Kept) → Grows kept more → length kept.rows ≤ length more.rows
length_rows kept more g = omega (arith, ap length g.rows, length-append (map opened_of kept.rows) g.opens, length-map kept.rows opened_of, length-map more.rows opened_of)

length_closed : (kept more : Kept) → Grows kept more → length kept.closed ≤ length more.closed
length_closed kept more g = omega (arith, ap length g.closed, length-append kept.closed g.ids)

closes_kept : (kept more : Kept) (from count : ℕ) → Grows kept more → from + count ≤ length kept.closed → part from count more.closed ≡ part from count kept.closed
closes_kept kept more from count g h = ap (part from count) g.closed ∙ part_front kept.closed g.ids from count h

change_kept : (table first_close closes first_open opens : ℕ) (kept more : Kept) → Grows kept more → IsPart first_close closes first_open opens kept → body_of table (deed.Change first_close closes first_open opens) more ≡ body_of table (deed.Change first_close closes first_open opens) kept
change_kept table first_close closes first_open opens kept more g h =
    let ids = closes_kept kept more first_close closes g h.0 in
    let rows : map opened_of (part first_open opens more.rows) ≡ map opened_of (part first_open opens kept.rows) =
    part_map opened_of more.rows first_open opens ∙ ap (part first_open opens) g.rows ∙ part_front (map opened_of kept.rows) g.opens first_open opens (omega (arith, h.1, length-map kept.rows opened_of)) ∙ sym (part_map opened_of kept.rows first_open opens) in
    rw (ids, rows) refl

parts_kept : (first_close closes first_open opens : ℕ) (kept more : Kept) → Grows kept more → IsPart first_close closes first_open opens kept → IsPart first_close closes first_open opens more
parts_kept first_close closes first_open opens kept more g h =
    (omega (arith, h.0, length_closed kept more g), omega (arith, h.1, length_rows kept more g), h.2, h.3, rw (closes_kept kept more first_close closes g h.0) h.4)

module _ (tables more : List Kept) (grow : (i : ℕ) → i < length tables → Grows (kept_at tables i) (kept_at more i)) (long : length tables ≤ length more) where
  body_kept : (table : ℕ) (what : Deed) → IsDeed tables table what → body_of table what (kept_at more table) ≡ body_of table what (kept_at tables table)
  body_kept table deed.Create h = ap body.Create (grow table h).schema
  body_kept table (deed.Change first_close closes first_open opens) h = change_kept table first_close closes first_open opens (kept_at tables table) (kept_at more table) (grow table h.0) h.1
  body_kept table (deed.Moment moment) h = refl
  body_kept table (deed.Forget floor) h = refl

  deed_kept : (table : ℕ) (what : Deed) → IsDeed tables table what → IsDeed more table what
  deed_kept table deed.Create h = omega (arith, h, long)
  deed_kept table (deed.Change first_close closes first_open opens) h = (omega (arith, h.0, long), parts_kept first_close closes first_open opens (kept_at tables table) (kept_at more table) (grow table h.0) h.1)
  deed_kept table (deed.Moment moment) h = tt
  deed_kept table (deed.Forget floor) h = tt

  pub history_kept : (log : List LogEntry) → AreEntries tables log → history_of more log ≡ history_of tables log
  history_kept [] h = refl
  history_kept (entry ∷ log) h =
      let what = body_kept entry.table entry.deed h.0 in
      let later = history_kept log h.1 in
      rw (what, later) refl

  pub entries_kept : (log : List LogEntry) (entry : LogEntry) → AreEntries tables log → IsDeed more entry.table entry.deed → AreEntries more (log ++ entry ∷ [])
  entries_kept [] entry h what = (what, tt)
  entries_kept (e ∷ log) entry h what = (deed_kept e.table e.deed h.0, entries_kept log entry h.1 what)

-- A HISTORY

-- the tables and the stamps that a store shows
pub stands_for : (tables : List Kept) (log : List LogEntry) (stamps : List plain.Stamp) (commits : List Commit) → IsHistory tables log stamps → history_of tables log ≡ commits → database_of commits ≡ database_with (length log) tables stamps
stands_for tables log stamps commits history is = sym (ap database_of is) ∙ history.stands

pub stamps_rise : (tables : List Kept) (log : List LogEntry) (stamps : List plain.Stamp) → IsHistory tables log stamps → Rise None stamps
stamps_rise tables log stamps history =
    subst (λ (db : plain.Database). Rise None db.stamps) history.stands (history_timed (history_of tables log) history.fitting).rise

pub moment_within : (tables : List Kept) (log : List LogEntry) (stamps : List plain.Stamp) (moment : ℤ) → IsHistory tables log stamps → version_at_moment (length log) stamps moment ≤ length log
moment_within tables log stamps moment history =
    subst (λ (db : plain.Database). version_at_moment db.version db.stamps moment ≤ db.version) history.stands (history_moment (history_of tables log) moment history.fitting)

-- ONE COMMIT MORE

module _ (tables : List Kept) (log : List LogEntry) (stamps : List plain.Stamp) (history : IsHistory tables log stamps) (commit : Commit) (fit : fits standard_limits (database_of (history_of tables log)) commit ≡ true) where
  fit_here : fits standard_limits (database_with (length log) tables stamps) commit ≡ true
  fit_here = subst (λ (db : plain.Database). fits standard_limits db commit ≡ true) history.stands fit

  pub room : length log < 16777215
  room =
      let test : nat_lt (length log) 16777215 ≡ true = and_left (nat_lt (length log) 16777215) (fits_body standard_limits (database_with (length log) tables stamps) commit.body) fit_here in
      grind (arith, nat_tests)

  pub body_fits : fits_body standard_limits (database_with (length log) tables stamps) commit.body ≡ true
  body_fits = and_right (nat_lt (length log) 16777215) (fits_body standard_limits (database_with (length log) tables stamps) commit.body) fit_here

  module _ (more : List Kept) (entry : LogEntry) (more_stamps : List plain.Stamp) (grow : (i : ℕ) → i < length tables → Grows (kept_at tables i) (kept_at more i)) (long : length tables ≤ length more) (what : IsDeed more entry.table entry.deed) (is : commit_of more entry ≡ commit) (after : after_body (length log + 1) commit.body (map table_of tables) ≡ map table_of more) (stamped : stamps ++ stamps_of (length log + 1) commit.body ≡ more_stamps) (few : length more ≤ 64) where
    pub history_more : history_of more (log ++ entry ∷ []) ≡ history_of tables log ++ commit ∷ []
    history_more =
        map_push (commit_of more) log entry
        ∙ ap (λ t. t ++ commit_of more entry ∷ []) (history_kept tables more grow long log history.entries)
        ∙ ap (λ c. history_of tables log ++ c ∷ []) is

    pub is_history_more : IsHistory more (log ++ entry ∷ []) more_stamps
    is_history_more =
        let longer : length (log ++ entry ∷ []) ≡ length log + 1 = length_push log entry in
        let step : database_of (history_of tables log ++ commit ∷ []) ≡ after_commit (database_of (history_of tables log)) commit = fold-append after_commit nothing (history_of tables log) (commit ∷ []) in
        let made : after_commit (database_of (history_of tables log)) commit ≡ database_with (length (log ++ entry ∷ [])) more more_stamps =
        ap (λ db. after_commit db commit) history.stands ∙ rw (after, stamped, longer) refl in
        record {
          stands = ap database_of history_more ∙ step ∙ made;
          fitting = rw history_more (fit_more standard_limits nothing (history_of tables log) commit history.fitting fit);
          entries = entries_kept tables more grow long log entry history.entries what;
          few_tables = few;
          few_commits = omega (arith, longer, room);
        }

-- ONE TABLE MORE

kept_front : (tables : List Kept) (kept : Kept) (i : ℕ) → i < length tables → kept_at (tables ++ kept ∷ []) i ≡ kept_at tables i
kept_front tables kept i h = get_or_append_left tables (kept ∷ []) kept_none i h

kept_last : (tables : List Kept) (kept : Kept) → kept_at (tables ++ kept ∷ []) (length tables) ≡ kept
kept_last tables kept = get_or_at tables kept [] kept_none (length tables) refl

module _ (tables : List Kept) (log : List LogEntry) (stamps : List plain.Stamp) (history : IsHistory tables log stamps) (author : ℕ) (schema : plain.Schema) (fit : fits standard_limits (database_of (history_of tables log)) (record { author = author; body = body.Create schema }) ≡ true) (more : List Kept) (entry : LogEntry) (more_is : more ≡ tables ++ kept_new schema ∷ []) (entry_is : entry ≡ record { author = author; table = length tables; deed = deed.Create }) where
  abbrev created : Commit
  created = record { author = author; body = body.Create schema }

  abbrev with_one : List Kept
  with_one = tables ++ kept_new schema ∷ []

  abbrev made_entry : LogEntry
  made_entry = record { author = author; table = length tables; deed = deed.Create }

  few_with : length with_one ≤ 64
  few_with =
      let all = body_fits tables log stamps history created fit in
      let test : nat_lt (length (map table_of tables)) 64 ≡ true = and_right (not (list_any (has_name schema.name) (map table_of tables))) (nat_lt (length (map table_of tables)) 64) all in
      let few : length (map table_of tables) < 64 = grind (arith, nat_tests) in
      omega (arith, few, length-map tables table_of, length_push tables (kept_new schema))

  grow_one : (i : ℕ) → i < length tables → Grows (kept_at tables i) (kept_at with_one i)
  grow_one i h = grows_same (kept_at tables i) (kept_at with_one i) (kept_front tables (kept_new schema) i h)

  commit_one : commit_of with_one made_entry ≡ created
  commit_one = ap (λ (k : Kept). record { author = author; body = body.Create k.schema }) (kept_last tables (kept_new schema))

  after_one : after_body (length log + 1) (body.Create schema) (map table_of tables) ≡ map table_of with_one
  after_one = sym (map_push table_of tables (kept_new schema))

  pub created_list : history_of more (log ++ entry ∷ []) ≡ history_of tables log ++ record { author = author; body = body.Create schema } ∷ []
  created_list = rw (more_is, entry_is) (history_more tables log stamps history created fit with_one made_entry stamps grow_one (omega (arith, length_push tables (kept_new schema))) (omega (arith, length_push tables (kept_new schema))) commit_one after_one (append-nil stamps) few_with)

  pub created_history : IsHistory more (log ++ entry ∷ []) stamps
  created_history = rw (more_is, entry_is) (is_history_more tables log stamps history created fit with_one made_entry stamps grow_one (omega (arith, length_push tables (kept_new schema))) (omega (arith, length_push tables (kept_new schema))) commit_one after_one (append-nil stamps) few_with)

-- ONE TABLE CHANGED

pub table_there : (limits : Limits) (change : plain.Change) (tables : List plain.Table) (i : ℕ) → fits_table limits change (slice_get tables i) ≡ true → i < length tables
table_there limits change [] i h = absurd cc
table_there limits change (t ∷ ts) zero h = omega arith
table_there limits change (t ∷ ts) (suc i) h = let later = table_there limits change ts i h in omega arith

pub table_read : (change : plain.Change) (tables : List plain.Table) (i : ℕ) (d : plain.Table) → fits_table standard_limits change (slice_get tables i) ≡ true → fits_table standard_limits change (Some (get_or tables i d)) ≡ true
table_read change [] i d h = absurd cc
table_read change (t ∷ ts) zero d h = h
table_read change (t ∷ ts) (suc i) d h = table_read change ts i d h

opened_back : (v : ℕ) (opens : List plain.Opened) → map opened_of (map (new_row v) opens) ≡ opens
opened_back v [] = refl
opened_back v (o ∷ os) = ap (λ t. o ∷ t) (opened_back v os)

opened_kept : (v : ℕ) (ids : List ℕ) (n : ℕ) (rows : List plain.Row) → map opened_of (map (row_after v ids) (enumerate_from n rows)) ≡ map opened_of rows
opened_kept v ids n [] = refl
opened_kept v ids n (row ∷ rows) =
    let later = opened_kept v ids (n + 1) rows in
    let head : opened_of (row_after v ids (n, row)) ≡ opened_of row = by_test (list_any (λ x. nat_eq x n) ids) in
    cc where
      by_test : (b : Bool) → opened_of (cond b (record row { to = v }) row) ≡ opened_of row
      by_test true = refl
      by_test false = refl

pub grows_changed : (v : ℕ) (change : plain.Change) (kept : Kept) → Grows kept (kept_after v change kept)
grows_changed v change kept = record {
  schema = refl;
  ids = change.closes;
  closed = refl;
  opens = change.opens;
  rows =
      map-append opened_of (map (row_after v change.closes) (enumerate_from 0 kept.rows)) (map (new_row v) change.opens)
      ∙ ap (λ t. t ++ map opened_of (map (new_row v) change.opens)) (opened_kept v change.closes 0 kept.rows)
      ∙ ap (λ t. map opened_of kept.rows ++ t) (opened_back v change.opens);
}

long_ended : (v : ℕ) (change : plain.Change) (kept : Kept) → length (map (row_after v change.closes) (enumerate_from 0 kept.rows)) ≡ length kept.rows
long_ended v change kept = length-map (enumerate_from 0 kept.rows) (row_after v change.closes) ∙ length-enumerate_from 0 kept.rows

changed_ids : (v : ℕ) (change : plain.Change) (kept : Kept) → part (length kept.closed) (length change.closes) (kept_after v change kept).closed ≡ change.closes
changed_ids v change kept = part_back kept.closed change.closes (length kept.closed) (length change.closes) refl refl

changed_body : (table v : ℕ) (change : plain.Change) (kept : Kept) → table ≡ change.table → body_of table (deed_of kept change) (kept_after v change kept) ≡ body.Change change
changed_body table v change kept same =
    let rows : map opened_of (part (length kept.rows) (length change.opens) (kept_after v change kept).rows) ≡ change.opens =
    ap (map opened_of) (part_back (map (row_after v change.closes) (enumerate_from 0 kept.rows)) (map (new_row v) change.opens) (length kept.rows) (length change.opens) (long_ended v change kept) (length-map change.opens (new_row v))) ∙ opened_back v change.opens in
    rw (same, changed_ids v change kept, rows) refl

changed_part : (v : ℕ) (change : plain.Change) (kept : Kept) → IsChange change → IsPart (length kept.closed) (length change.closes) (length kept.rows) (length change.opens) (kept_after v change kept)
changed_part v change kept is = (
  omega (arith, length-append kept.closed change.closes),
  omega (arith, length-append (map (row_after v change.closes) (enumerate_from 0 kept.rows)) (map (new_row v) change.opens), long_ended v change kept, length-map change.opens (new_row v)),
  is.few_closes,
  is.few_opens,
  rw (changed_ids v change kept) is.ascending,
)

-- a table that another one takes the place of, with all that it has
module _ (tables : List Kept) (number : ℕ) (there : number < length tables) (kept next : Kept) (kept_is : kept ≡ get_or tables number kept) (grows : Grows kept next) where
  abbrev pub with_next : List Kept
  with_next = set tables number next

  kept_here : kept_at tables number ≡ kept
  kept_here = get_or_default tables number kept_none kept there ∙ sym kept_is

  pub next_read : kept_at with_next number ≡ next
  next_read = get_or-set_same tables number next kept_none there

  pub grow_next : (i : ℕ) → i < length tables → Grows (kept_at tables i) (kept_at with_next i)
  grow_next i h = by_test (nat_eq i number) refl where
    by_test : (b : Bool) → nat_eq i number ≡ b → Grows (kept_at tables i) (kept_at with_next i)
    by_test true e =
        let same : i ≡ number = grind (arith, nat_tests) in
        rw (same, next_read, kept_here) grows
    by_test false e =
        let apart : i ≢ number = λ s. absurd (let f : nat_eq i number ≡ true = grind (arith, nat_tests) in cc) in
        grows_same (kept_at tables i) (kept_at with_next i) (get_or-set_other tables number i next kept_none apart)

  pub long_next : length with_next ≡ length tables
  long_next = length-set tables number next

  pub after_next : (f : plain.Table → plain.Table) → table_of next ≡ f (table_of kept) → at_place number f (map table_of tables) ≡ map table_of with_next
  after_next f made =
      let low : number < length (map table_of tables) = omega (arith, there, length-map tables table_of) in
      let same : get_or (map table_of tables) number (table_of kept) ≡ table_of kept = get_or-map table_of tables number kept (table_of kept) there ∙ ap table_of (sym kept_is) in
      at_place-set (map table_of tables) number f (table_of kept) low
      ∙ ap (λ t. set (map table_of tables) number (f t)) same
      ∙ ap (set (map table_of tables) number) (sym made)
      ∙ sym (map-set table_of tables number next)

module _ (tables : List Kept) (log : List LogEntry) (stamps : List plain.Stamp) (history : IsHistory tables log stamps) (author : ℕ) (change : plain.Change) (fit : fits standard_limits (database_of (history_of tables log)) (record { author = author; body = body.Change change }) ≡ true) (kept : Kept) (kept_is : kept ≡ get_or tables change.table kept) where
  change_here : fits_table standard_limits change (slice_get (map table_of tables) change.table) ≡ true
  change_here = body_fits tables log stamps history (record { author = author; body = body.Change change }) fit

  pub number_there : change.table < length tables
  number_there = omega (arith, table_there standard_limits change (map table_of tables) change.table change_here, length-map tables table_of)

  pub fits_kept : fits_table standard_limits change (Some (table_of kept)) ≡ true
  fits_kept =
      let read = table_read change (map table_of tables) change.table (table_of kept) change_here in
      let same : get_or (map table_of tables) change.table (table_of kept) ≡ table_of kept = get_or-map table_of tables change.table kept (table_of kept) number_there ∙ ap table_of (sym kept_is) in
      rw same at read

  module _ (more : List Kept) (entry : LogEntry) (is : IsChange change) (more_is : more ≡ set tables change.table (kept_after (length log + 1) change kept)) (entry_is : entry ≡ record { author = author; table = change.table; deed = deed_of kept change }) where
    abbrev next : Kept
    next = kept_after (length log + 1) change kept

    abbrev changed_tables : List Kept
    changed_tables = set tables change.table next

    abbrev changed_entry : LogEntry
    changed_entry = record { author = author; table = change.table; deed = deed_of kept change }

    grows_next : Grows kept next
    grows_next = grows_changed (length log + 1) change kept

    read_next : kept_at changed_tables change.table ≡ next
    read_next = next_read tables change.table number_there kept next kept_is grows_next

    long_changed : length changed_tables ≡ length tables
    long_changed = length-set tables change.table next

    commit_next : commit_of changed_tables changed_entry ≡ record { author = author; body = body.Change change }
    commit_next = rw (read_next, changed_body change.table (length log + 1) change kept refl) refl

    deed_next : IsDeed changed_tables change.table (deed_of kept change)
    deed_next = (omega (arith, long_changed, number_there), rw read_next (changed_part (length log + 1) change kept is))

    few_next : length changed_tables ≤ 64
    few_next = omega (arith, long_changed, history.few_tables)

    pub changed_list : history_of more (log ++ entry ∷ []) ≡ history_of tables log ++ record { author = author; body = body.Change change } ∷ []
    changed_list = rw (more_is, entry_is) (history_more tables log stamps history (record { author = author; body = body.Change change }) fit changed_tables changed_entry stamps (grow_next tables change.table number_there kept next kept_is grows_next) (omega (arith, long_changed)) deed_next commit_next (after_next tables change.table number_there kept next kept_is grows_next (table_after (length log + 1) change) refl) (append-nil stamps) few_next)

    pub changed_history : IsHistory more (log ++ entry ∷ []) stamps
    changed_history = rw (more_is, entry_is) (is_history_more tables log stamps history (record { author = author; body = body.Change change }) fit changed_tables changed_entry stamps (grow_next tables change.table number_there kept next kept_is grows_next) (omega (arith, long_changed)) deed_next commit_next (after_next tables change.table number_there kept next kept_is grows_next (table_after (length log + 1) change) refl) (append-nil stamps) few_next)

-- A FLOOR SET

floor_there : (now floor : ℕ) (tables : List plain.Table) (i : ℕ) → fits_floor now floor (slice_get tables i) ≡ true → i < length tables
floor_there now floor [] i h = absurd cc
floor_there now floor (t ∷ ts) zero h = omega arith
floor_there now floor (t ∷ ts) (suc i) h = let later = floor_there now floor ts i h in omega arith

grows_floored : (floor : ℕ) (kept : Kept) → Grows kept (kept_floored floor kept)
grows_floored floor kept = record { schema = refl; ids = []; closed = sym (append-nil kept.closed); opens = []; rows = sym (append-nil (map opened_of kept.rows)) }

module _ (tables : List Kept) (log : List LogEntry) (stamps : List plain.Stamp) (history : IsHistory tables log stamps) (author number floor : ℕ) (fit : fits standard_limits (database_of (history_of tables log)) (record { author = author; body = body.Forget number floor }) ≡ true) where
  abbrev forgot : Commit
  forgot = record { author = author; body = body.Forget number floor }

  abbrev floor_entry : LogEntry
  floor_entry = record { author = author; table = number; deed = deed.Forget floor }

  pub floor_number : number < length tables
  floor_number = omega (arith, floor_there (length log) floor (map table_of tables) number (body_fits tables log stamps history forgot fit), length-map tables table_of)

  module _ (kept : Kept) (kept_is : kept ≡ get_or tables number kept) (more : List Kept) (entry : LogEntry) (more_is : more ≡ set tables number (kept_floored floor kept)) (entry_is : entry ≡ record { author = author; table = number; deed = deed.Forget floor }) where
    abbrev floored : Kept
    floored = kept_floored floor kept

    long_floored : length (set tables number floored) ≡ length tables
    long_floored = length-set tables number floored

    pub floored_list : history_of more (log ++ entry ∷ []) ≡ history_of tables log ++ record { author = author; body = body.Forget number floor } ∷ []
    floored_list = rw (more_is, entry_is) (history_more tables log stamps history forgot fit (set tables number floored) floor_entry stamps (grow_next tables number floor_number kept floored kept_is (grows_floored floor kept)) (omega (arith, long_floored)) tt refl (after_next tables number floor_number kept floored kept_is (grows_floored floor kept) (with_floor floor) refl) (append-nil stamps) (omega (arith, long_floored, history.few_tables)))

    pub floored_history : IsHistory more (log ++ entry ∷ []) stamps
    floored_history = rw (more_is, entry_is) (is_history_more tables log stamps history forgot fit (set tables number floored) floor_entry stamps (grow_next tables number floor_number kept floored kept_is (grows_floored floor kept)) (omega (arith, long_floored)) tt refl (after_next tables number floor_number kept floored kept_is (grows_floored floor kept) (with_floor floor) refl) (append-nil stamps) (omega (arith, long_floored, history.few_tables)))

-- A MOMENT STATED

module _ (tables : List Kept) (log : List LogEntry) (stamps : List plain.Stamp) (history : IsHistory tables log stamps) (author : ℕ) (moment : ℤ) (fit : fits standard_limits (database_of (history_of tables log)) (record { author = author; body = body.Moment moment }) ≡ true) (entry : LogEntry) (more_stamps : List plain.Stamp) (entry_is : entry ≡ record { author = author; table = 0; deed = deed.Moment moment }) (stamps_are : more_stamps ≡ stamps ++ record { version = length log + 1; moment = moment } ∷ []) where
  abbrev stated : Commit
  stated = record { author = author; body = body.Moment moment }

  abbrev moment_entry : LogEntry
  moment_entry = record { author = author; table = 0; deed = deed.Moment moment }

  pub stated_list : history_of tables (log ++ entry ∷ []) ≡ history_of tables log ++ record { author = author; body = body.Moment moment } ∷ []
  stated_list = rw entry_is (history_more tables log stamps history stated fit tables moment_entry more_stamps (λ i h. grows_same (kept_at tables i) (kept_at tables i) refl) (omega arith) tt refl refl (sym stamps_are) history.few_tables)

  pub stated_history : IsHistory tables (log ++ entry ∷ []) more_stamps
  stated_history = rw entry_is (is_history_more tables log stamps history stated fit tables moment_entry more_stamps (λ i h. grows_same (kept_at tables i) (kept_at tables i) refl) (omega arith) tt refl refl (sym stamps_are) history.few_tables)

-- AS THE CODE HAS IT

abbrev pub mk_stamp : ℕ → ℤ → plain.Stamp
mk_stamp version moment = record { version = version; moment = moment }

abbrev pub mk_entry : ℕ → ℕ → Deed → LogEntry
mk_entry author table what = record { author = author; table = table; deed = what }

pub kept_read : (tables : List Kept) (number i : ℕ) (shared kept : Kept) → shared ≡ get_or tables number shared → kept ≡ shared → number ≡ i → kept ≡ get_or tables i kept
kept_read tables number i shared kept read same at = same ∙ read ∙ ap (λ (k : Kept). get_or tables number k) (sym same) ∙ ap (λ n. get_or tables n kept) at

-- an item that is taken out, and another one put in its place
pub put_back : {X : Type 0} (xs : List X) (i : ℕ) (x : X) → i < length xs → insert (remove xs i) i x ≡ set xs i x
put_back [] i x h = absurd (omega arith)
put_back (y ∷ xs) zero x h = refl
put_back (y ∷ xs) (suc i) x h = ap (λ t. y ∷ t) (put_back xs i x (omega arith))

pub entry_is : (author number : ℕ) (change : plain.Change) (kept : Kept) (what : Deed) → number ≡ change.table → what ≡ deed_of kept change → mk_entry author number what ≡ mk_entry author change.table (deed_of kept change)
entry_is author number change kept what at same = rw (at, same) refl

pub any_name : (name : List ℕ) (tables : List Kept) → list_any (has_name name) (map table_of tables) ≡ list_any (λ kept. has_name name (table_of kept)) tables
any_name name [] = refl
any_name name (t ∷ ts) = ap (λ b. has_name name (table_of t) || b) (any_name name ts)

pub create_fits : (limits : Limits) (tables : List Kept) (schema : plain.Schema) (name : List ℕ) (named room : Bool) → named ≡ list_any (λ kept. has_name name (table_of kept)) tables → name ≡ schema.name → room ≡ nat_lt (length tables) limits.tables → (not named && room) ≡ fits_body limits (database_with 0 tables []) (body.Create schema)
create_fits limits tables schema name named room is same few =
    let all : list_any (has_name schema.name) (map table_of tables) ≡ named = any_name schema.name tables ∙ ap (λ n. list_any (λ kept. has_name n (table_of kept)) tables) (sym same) ∙ sym is in
    rw (all, length-map tables table_of, few) refl

pub change_fits : (limits : Limits) (tables : List Kept) (change : plain.Change) (number : ℕ) (found : Option Kept) (fit : Bool) → number ≡ change.table → found ≡ slice_get tables number → fit ≡ fits_table limits change (option_map table_of found) → fit ≡ fits_body limits (database_with 0 tables []) (body.Change change)
change_fits limits tables change number found fit same is fits_it =
    fits_it ∙ ap (λ f. fits_table limits change (option_map table_of f)) (is ∙ ap (slice_get tables) same) ∙ ap (fits_table limits change) (sym (slice_get-map table_of tables change.table))

pub find_number : (n : ℕ) (name : List ℕ) (tables : List Kept) → option_map (λ found. found.0) (find_from n name (map table_of tables)) ≡ position_from (λ kept. has_name name (table_of kept)) n tables
find_number n name [] = refl
find_number n name (t ∷ ts) =
    let later = find_number (n + 1) name ts in
    elim (has_name name (table_of t)) as (λ b. option_map (λ found. found.0) (cond b (Some (n, table_of t)) (find_from (n + 1) name (map table_of ts))) ≡ cond b (Some n) (position_from (λ kept. has_name name (table_of kept)) (n + 1) ts)) [ true ↦ refl | false ↦ later ]

pub found_number : (name : List ℕ) (tables : List Kept) (log : List LogEntry) (stamps : List plain.Stamp) (commits : List Commit) (found : Option ℕ) → IsHistory tables log stamps → history_of tables log ≡ commits → found ≡ position_from (λ kept. has_name name (table_of kept)) 0 tables → found ≡ option_map (λ found. found.0) (find_table name (database_of commits).tables)
found_number name tables log stamps commits found history is e =
    e ∙ sym (find_number 0 name tables) ∙ ap (λ ts. option_map (λ found. found.0) (find_table name ts)) (sym (ap (λ (db : plain.Database). db.tables) history.stands) ∙ ap (λ cs. (database_of cs).tables) is)

pub floor_fits : (now floor : ℕ) (tables : List Kept) (i number : ℕ) (found : Option Kept) (fit : Bool) → i ≡ number → found ≡ slice_get tables i → fit ≡ fits_floor now floor (option_map table_of found) → fit ≡ fits_floor now floor (slice_get (map table_of tables) number)
floor_fits now floor tables i number found fit same is fits_it =
    fits_it ∙ ap (λ f. fits_floor now floor (option_map table_of f)) (is ∙ ap (slice_get tables) same) ∙ ap (fits_floor now floor) (sym (slice_get-map table_of tables number))

pub entry_at : (tables : List Kept) (log : List LogEntry) (k : ℕ) (e : LogEntry) → AreEntries tables log → k < length log → e ≡ get_or log k e → IsDeed tables e.table e.deed
entry_at tables [] k e h l is = absurd (omega arith)
entry_at tables (f ∷ log) zero e h l is = rw is h.0
entry_at tables (f ∷ log) (suc k) e h l is = entry_at tables log k e h.1 (omega arith) is

abbrev pub mk_commit : ℕ → Body → Commit
mk_commit author what = record { author = author; body = what }

pub commit_there : (tables : List Kept) (log : List LogEntry) (stamps : List plain.Stamp) (commits : List Commit) (k : ℕ) (e : LogEntry) (what : Body) → IsHistory tables log stamps → history_of tables log ≡ commits → k < length log → e ≡ get_or log k e → what ≡ body_of e.table e.deed (kept_at tables e.table) → (Some (mk_commit e.author what) ≡ slice_get commits k) × (fits standard_limits (database_at commits k) (mk_commit e.author what) ≡ true)
commit_there tables log stamps commits k e what history is low read what_is =
    let made : mk_commit e.author what ≡ commit_of tables e = ap (mk_commit e.author) what_is in
    let item : get_or (history_of tables log) k (commit_of tables e) ≡ commit_of tables e = get_or-map (commit_of tables) log k e (commit_of tables e) low ∙ ap (commit_of tables) (sym read) in
    let there : k < length (history_of tables log) = omega (arith, low, length-map log (commit_of tables)) in
    let fit : fits standard_limits (database_at (history_of tables log) k) (get_or (history_of tables log) k (commit_of tables e)) ≡ true = fit_at nothing (history_of tables log) k (commit_of tables e) history.fitting there in (
      ap Some made ∙ ap Some (sym item) ∙ sym (slice_get-get_or (history_of tables log) k (commit_of tables e) there) ∙ ap (λ cs. slice_get cs k) is,
      subst (λ (cs : List Commit). fits standard_limits (database_at cs k) (mk_commit e.author what) ≡ true) is (subst (λ (c : Commit). fits standard_limits (database_at (history_of tables log) k) c ≡ true) (item ∙ sym made) fit),
    )

pub schema_shown : (tables : List Kept) (log : List LogEntry) (stamps : List plain.Stamp) (commits : List Commit) (number : ℕ) (shared kept : Kept) (schema : plain.Schema) → IsHistory tables log stamps → history_of tables log ≡ commits → number < length (database_of commits).tables → shared ≡ get_or tables number shared → kept ≡ shared → schema ≡ kept.schema → (schema.columns ≡ columns_of (database_of commits) number) × (schema.valid ≡ has_periods (database_of commits) number)
schema_shown tables log stamps commits number shared kept schema history is low read same shown =
    let made : (database_of commits).tables ≡ map table_of tables = sym (ap (λ cs. (database_of cs).tables) is) ∙ ap (λ (db : plain.Database). db.tables) history.stands in
    let there : number < length tables = omega (arith, low, ap length made, length-map tables table_of) in
    let found : slice_get (database_of commits).tables number ≡ Some (table_of shared) =
    ap (λ ts. slice_get ts number) made ∙ slice_get-map table_of tables number ∙ ap (option_map table_of) (slice_get-get_or tables number shared there ∙ ap Some (sym read)) in
    let is_schema : schema ≡ shared.schema = shown ∙ ap (λ (k : Kept). k.schema) same in
    (ap (λ (s : plain.Schema). s.columns) is_schema ∙ ap columns_of_table (sym found), ap (λ (s : plain.Schema). s.valid) is_schema ∙ ap has_periods_table (sym found))

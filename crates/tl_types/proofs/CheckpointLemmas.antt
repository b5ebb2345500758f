-- A checkpoint stays that of its version under every later commit.
use Rattle.std.proofs.Common.{◌≡◌, ℕ, zero, suc, ◌+◌, ◌<◌, ◌≤◌, Bool, true, false, ◌&&◌, ◌||◌, cond, nat_eq, nat_le, nat_lt, List, [], ◌∷◌, ◌++◌, length, map, fold, Some, ◌⊎◌, inl, inr, refl, sym, ap, ◌∙◌, arith, slice_get, length-append}
use Rattle.std.specs.List.{filter, list_all, enumerate_from}
use Rattle.std.proofs.lemmas.Bool.{eqb-true, ne_eqb, lt-ltb, lt-leb, ltb-true}
use Rattle.tl_types.proofs.Lists.{and_left, and_right, get-at_place-unseen}
use Rattle.tl_types.specs.Plain as plain
use Rattle.tl_types.specs.declared.commits.Commit.{Commit}
use Rattle.tl_types.specs.declared.commits.Body.{Body}
use Rattle.tl_types.specs.declared.commits.Body.TheVariants as body
use Rattle.tl_types.specs.declared.commits.Entry.{Entry}
use Rattle.tl_types.specs.Entries.{commits_of}
use Rattle.tl_types.specs.Legality.{FitFrom, database_behind, has_table, are_legal}
use Rattle.tl_types.specs.History.{new_table, open_end, is_open, has_id, row_after, new_row, table_after, at_place, after_body, after_commit, is_open_at, matches, fits_table, fits_body, fits, with_floor, is_visible}
use Rattle.tl_types.specs.Events.{ids_where, invalidation, activation, events_at, events_of, place_of, checkpoint_rows}
use Rattle.tl_types.specs.Limits.{standard_limits}
use Rattle.tl_types.specs.declared.events.ValidEvent.{ValidEvent}
use Rattle.tl_types.specs.Checkpoints.{ends_of, ends_of_rows, in_order, valid_events_of, Checkpoint, checkpoint_of, checkpoint_at}
use Rattle.tl_types.proofs.EntryLemmas.{commits_of-append, database_behind-append, version_behind, tables_grow, fit_behind, legal_behind-append, commits_few}

-- ROWS THAT GO ON

-- up to the version the second row stands where the first does
abbrev pub SameRow : ℕ → plain.Row → plain.Row → Type 0
SameRow v r s = (s.period ≡ r.period) × (s.from ≡ r.from) × ((s.to ≡ r.to) ⊎ ((v < r.to) × (v < s.to)))

-- up to the version the rows stand where the first ones do, and those behind them begin later
abbrev pub SameRows : ℕ → List plain.Row → List plain.Row → Type 0
SameRows v [] [] = Unit {0}
SameRows v [] (s ∷ more) = (v < s.from) × (v < s.to) × SameRows v [] more
SameRows v (r ∷ rows) [] = ⊥
SameRows v (r ∷ rows) (s ∷ more) = SameRow v r s × SameRows v rows more

-- a test tells the same of a row that goes on, and does not pass a row that begins later
pub record TellsSame (v : ℕ) (test : plain.Row → Bool) : Type 0 where
  pub same : (r s : plain.Row) → SameRow v r s → test s ≡ test r
  pub later : (s : plain.Row) → v < s.from → v < s.to → test s ≡ false

ids_step : (b : Bool) (n : ℕ) (r s : plain.Row) (xs ys : List (ℕ × plain.Row)) → map (λ (r : ℕ × plain.Row). r.0) ys ≡ map (λ (r : ℕ × plain.Row). r.0) xs → map (λ (r : ℕ × plain.Row). r.0) (cond b ((n, s) ∷ ys) ys) ≡ map (λ (r : ℕ × plain.Row). r.0) (cond b ((n, r) ∷ xs) xs)
ids_step true n r s xs ys h = ap (λ t. n ∷ t) h
ids_step false n r s xs ys h = h

ends_step : (b : Bool) (n : ℕ) (r s : plain.Row) (xs ys : List (ℕ × plain.Row)) → s.period ≡ r.period → ends_of_rows ys ≡ ends_of_rows xs → ends_of_rows (cond b ((n, s) ∷ ys) ys) ≡ ends_of_rows (cond b ((n, r) ∷ xs) xs)
ends_step true n r s xs ys p h = ap (λ t. ends_of n s.period ++ t) h ∙ ap (λ t. ends_of n t ++ ends_of_rows xs) p
ends_step false n r s xs ys p h = h

module _ (v : ℕ) (test : plain.Row → Bool) (tells : TellsSame v test) where
  pub ids_kept : (n : ℕ) (rows more : List plain.Row) → SameRows v rows more → map (λ (r : ℕ × plain.Row). r.0) (filter (λ (r : ℕ × plain.Row). test r.1) (enumerate_from n more)) ≡ map (λ (r : ℕ × plain.Row). r.0) (filter (λ (r : ℕ × plain.Row). test r.1) (enumerate_from n rows))
  ids_kept n [] [] h = refl
  ids_kept n [] (s ∷ more) h =
      let e = tells.later s h.0 h.1 in
      let ih = ids_kept (n + 1) [] more h.2 in
      rw e ih
  ids_kept n (r ∷ rows) [] h = absurd h
  ids_kept n (r ∷ rows) (s ∷ more) h =
      let e = tells.same r s h.0 in
      let ih = ids_kept (n + 1) rows more h.1 in
      rw e (ids_step (test r) n r s (filter (λ (r : ℕ × plain.Row). test r.1) (enumerate_from (n + 1) rows)) (filter (λ (r : ℕ × plain.Row). test r.1) (enumerate_from (n + 1) more)) ih)

  pub ends_kept : (n : ℕ) (rows more : List plain.Row) → SameRows v rows more → ends_of_rows (filter (λ (r : ℕ × plain.Row). test r.1) (enumerate_from n more)) ≡ ends_of_rows (filter (λ (r : ℕ × plain.Row). test r.1) (enumerate_from n rows))
  ends_kept n [] [] h = refl
  ends_kept n [] (s ∷ more) h =
      let e = tells.later s h.0 h.1 in
      let ih = ends_kept (n + 1) [] more h.2 in
      rw e ih
  ends_kept n (r ∷ rows) [] h = absurd h
  ends_kept n (r ∷ rows) (s ∷ more) h =
      let e = tells.same r s h.0 in
      let ih = ends_kept (n + 1) rows more h.1 in
      rw e (ends_step (test r) n r s (filter (λ (r : ℕ × plain.Row). test r.1) (enumerate_from (n + 1) rows)) (filter (λ (r : ℕ × plain.Row). test r.1) (enumerate_from (n + 1) more)) h.0.0 ih)

-- TESTS

ends_at : (v u : ℕ) → u ≤ v → TellsSame v (λ row. nat_eq row.to u)
ends_at v u l = record { same = same; later = later } where
  same : (r s : plain.Row) → SameRow v r s → nat_eq s.to u ≡ nat_eq r.to u
  same r s h = elim h.2 [ inl e ↦ ap (λ t. nat_eq t u) e | inr w ↦ ne_eqb s.to u (λ e. omega (arith, e, w.1)) ∙ sym (ne_eqb r.to u (λ e. omega (arith, e, w.0))) ]

  later : (s : plain.Row) → v < s.from → v < s.to → nat_eq s.to u ≡ false
  later s f t = ne_eqb s.to u (λ e. omega (arith, e))

begins_at : (v u : ℕ) → u ≤ v → TellsSame v (λ row. nat_eq row.from u)
begins_at v u l = record { same = λ r s h. ap (λ t. nat_eq t u) h.1; later = λ s f t. ne_eqb s.from u (λ e. omega (arith, e)) }

begins_by : (v : ℕ) → TellsSame v (λ row. nat_le row.from v)
begins_by v = record { same = λ r s h. ap (λ t. nat_le t v) h.1; later = λ s f t. lt-leb s.from v f }

stands_at : (v : ℕ) → TellsSame v (is_visible v)
stands_at v = record { same = same; later = later } where
  same : (r s : plain.Row) → SameRow v r s → is_visible v s ≡ is_visible v r
  same r s h =
      let ends : nat_lt v s.to ≡ nat_lt v r.to = elim h.2 [ inl e ↦ ap (λ t. nat_lt v t) e | inr w ↦ lt-ltb v s.to w.1 ∙ sym (lt-ltb v r.to w.0) ] in
      ap (λ b. b && nat_lt v s.to) (ap (λ t. nat_le t v) h.1) ∙ ap (λ b. nat_le r.from v && b) ends

  later : (s : plain.Row) → v < s.from → v < s.to → is_visible v s ≡ false
  later s f t = ap (λ b. b && nat_lt v s.to) (lt-leb s.from v f)

-- CHECKPOINTS

pub events_kept : (v u : ℕ) (rows more : List plain.Row) → SameRows v rows more → u ≤ v → events_of more u ≡ events_of rows u
events_kept v zero rows more h l = refl
events_kept v (suc u) rows more h l =
    let before = events_kept v u rows more h (omega arith) in
    let ends = ids_kept v (λ row. nat_eq row.to (suc u)) (ends_at v (suc u) l) 0 rows more h in
    let begins = ids_kept v (λ row. nat_eq row.from (suc u)) (begins_at v (suc u) l) 0 rows more h in
    ap (λ t. t ++ events_at more (suc u)) before
    ∙ ap (λ t. events_of rows u ++ (map invalidation t ++ map activation (ids_where (λ row. nat_eq row.from (suc u)) more))) ends
    ∙ ap (λ t. events_of rows u ++ (map invalidation (ids_where (λ row. nat_eq row.to (suc u)) rows) ++ map activation t)) begins

same_checkpoint : (number v : ℕ) (schema : plain.Schema) (floor : ℕ) (rows more : List plain.Row) → SameRows v rows more → checkpoint_of number v (Some (record { schema = schema; floor = floor; rows = more })) ≡ checkpoint_of number v (Some (record { schema = schema; floor = floor; rows = rows }))
same_checkpoint number v schema floor rows more h =
    let place = ap length (events_kept v v rows more h (omega arith)) in
    let begun = ap length (ids_kept v (λ row. nat_le row.from v) (begins_by v) 0 rows more h) in
    let ids = ids_kept v (is_visible v) (stands_at v) 0 rows more h in
    let ends = ends_kept v (is_visible v) (stands_at v) 0 rows more h in
    let events = ap (λ t. cond schema.valid (in_order t) []) ends in
    parts (place_of more v) (place_of rows v) (length (ids_where (λ row. nat_le row.from v) more)) (length (ids_where (λ row. nat_le row.from v) rows)) (checkpoint_rows more v) (checkpoint_rows rows v) (valid_events_of (record { schema = schema; floor = floor; rows = more }) v) (valid_events_of (record { schema = schema; floor = floor; rows = rows }) v) place begun ids events where
      parts : (p q a b : ℕ) (xs ys : List ℕ) (es fs : List ValidEvent) → p ≡ q → a ≡ b → xs ≡ ys → es ≡ fs → ◌≡◌ {A = Checkpoint} (record { table = number; version = v; place = p; begun = a; rows = xs; valid_events = es }) (record { table = number; version = v; place = q; begun = b; rows = ys; valid_events = fs })
      parts p q a b xs ys es fs e f g h = rw (e, f, g, h) refl

-- ONE COMMIT MORE

begin_later : (v w : ℕ) (opens : List plain.Opened) → v < w → v < open_end → SameRows v [] (map (new_row w) opens)
begin_later v w [] l o = tt
begin_later v w (p ∷ opens) l o = (l, o, begin_later v w opens l o)

end_later : (v w : ℕ) (r : plain.Row) (b : Bool) → v < w → v < open_end → (b ≡ true → is_open r ≡ true) → SameRow v r (cond b (record r { to = w }) r)
end_later v w r true l o h = let e = eqb-true r.to open_end (h refl) in (refl, refl, inr (rw e o, l))
end_later v w r false l o h = (refl, refl, inl refl)

pub rows_go_on : (v w : ℕ) (closes : List ℕ) (opens : List plain.Opened) (n : ℕ) (rows : List plain.Row) → v < w → v < open_end → ((k j : ℕ) → n + k ≡ j → has_id closes j ≡ true → is_open_at rows k ≡ true) → SameRows v rows (map (row_after w closes) (enumerate_from n rows) ++ map (new_row w) opens)
rows_go_on v w closes opens n [] l o h = begin_later v w opens l o
rows_go_on v w closes opens n (r ∷ rows) l o h =
    (end_later v w r (has_id closes n) l o (h 0 n (omega arith)), rows_go_on v w closes opens (n + 1) rows l o (λ k j e. h (suc k) j (omega (arith, e))))

pub closed_are_open : (rows : List plain.Row) (closes : List ℕ) (j : ℕ) → list_all (is_open_at rows) closes ≡ true → has_id closes j ≡ true → is_open_at rows j ≡ true
closed_are_open rows [] j h i = absurd cc
closed_are_open rows (x ∷ closes) j h i =
    by_test (nat_eq x j) (eqb-true x j) (λ i. closed_are_open rows closes j (and_right (is_open_at rows x) (list_all (is_open_at rows) closes) h) i) i where
      by_test : (b : Bool) → (b ≡ true → x ≡ j) → (has_id closes j ≡ true → is_open_at rows j ≡ true) → (b || has_id closes j) ≡ true → is_open_at rows j ≡ true
      by_test true e ih i = let s : x ≡ j = e refl in rw (← s) (and_left (is_open_at rows x) (list_all (is_open_at rows) closes) h)
      by_test false e ih i = ih i

changed_table : (v w number : ℕ) (change : plain.Change) (table : plain.Table) → v < w → v < open_end → fits_table standard_limits change (Some table) ≡ true → checkpoint_of number v (Some (table_after w change table)) ≡ checkpoint_of number v (Some table)
changed_table v w number change table l o f =
    let closes = and_left (list_all (is_open_at table.rows) change.closes) (list_all (matches table.schema) change.opens) (and_left (list_all (is_open_at table.rows) change.closes && list_all (matches table.schema) change.opens) (nat_le (length table.rows + length change.opens) 16777216) f) in
    same_checkpoint number v table.schema table.floor table.rows (table_after w change table).rows
    (rows_go_on v w change.closes change.opens 0 table.rows l o (λ k j e i. let s : k ≡ j = omega (arith, e) in rw s (closed_are_open table.rows change.closes j closes i)))

pub changed_at : (v w number : ℕ) (change : plain.Change) (tables : List plain.Table) (k t : ℕ) → v < w → v < open_end → fits_table standard_limits change (slice_get tables k) ≡ true → checkpoint_of number v (slice_get (at_place k (table_after w change) tables) t) ≡ checkpoint_of number v (slice_get tables t)
changed_at v w number change [] k t l o f = absurd cc
changed_at v w number change (x ∷ tables) zero zero l o f = changed_table v w number change x l o f
changed_at v w number change (x ∷ tables) zero (suc t) l o f = refl
changed_at v w number change (x ∷ tables) (suc k) zero l o f = refl
changed_at v w number change (x ∷ tables) (suc k) (suc t) l o f = changed_at v w number change tables k t l o f

pub get_front : {X : Type 0} (xs ys : List X) (t : ℕ) → t < length xs → slice_get (xs ++ ys) t ≡ slice_get xs t
get_front [] ys t l = absurd (omega arith)
get_front (x ∷ xs) ys zero l = refl
get_front (x ∷ xs) ys (suc t) l = get_front xs ys t (omega arith)

step_kept : (v t w : ℕ) (db : plain.Database) (b : Body) → v < w → v < open_end → t < length db.tables → fits_body standard_limits db b ≡ true → checkpoint_of t v (slice_get (after_body w b db.tables) t) ≡ checkpoint_of t v (slice_get db.tables t)
step_kept v t w db (body.Create schema) l o s f = ap (checkpoint_of t v) (get_front db.tables (new_table schema ∷ []) t s)
step_kept v t w db (body.Change change) l o s f = changed_at v w t change db.tables change.table t l o f
step_kept v t w db (body.Moment moment) l o s f = refl
step_kept v t w db (body.Forget number floor) l o s f = get-at_place-unseen (checkpoint_of t v) (with_floor floor) (λ x. refl) db.tables number t

pub commit_kept : (v t : ℕ) (db : plain.Database) (c : Commit) → v ≤ db.version → v < open_end → t < length db.tables → fits standard_limits db c ≡ true → checkpoint_at (after_commit db c) t v ≡ checkpoint_at db t v
commit_kept v t db c l o s f =
    step_kept v t (db.version + 1) db c.body (omega arith) o s (and_right (nat_lt db.version 16777215) (fits_body standard_limits db c.body) f)

-- a checkpoint at a version that a database has is that of every later database
pub checkpoint_kept : (v t : ℕ) (db : plain.Database) (cs : List Commit) → v ≤ db.version → v < open_end → t < length db.tables → FitFrom standard_limits db cs → checkpoint_at (fold after_commit db cs) t v ≡ checkpoint_at db t v
checkpoint_kept v t db [] l o s f = refl
checkpoint_kept v t db (c ∷ cs) l o s f =
    checkpoint_kept v t (after_commit db c) cs (omega arith) o (omega (arith, s, tables_grow db c)) f.1
    ∙ commit_kept v t db c l o s f.0

-- ENTRIES

-- a checkpoint at a version that some entries have stands over every longer legal list
pub checkpoint_stands : (before more : List Entry) (table version : ℕ) → are_legal (before ++ more) ≡ true → has_table before table ≡ true → version ≤ length (commits_of before) → checkpoint_at (database_behind (before ++ more)) table version ≡ checkpoint_at (database_behind before) table version
checkpoint_stands before more table version h t l =
    let db = database_behind before in
    let reached : version ≤ db.version = omega (arith, version_behind before, l) in
    let longer = ap length (commits_of-append before more) ∙ length-append (commits_of before) (commits_of more) in
    let few : version < open_end = omega (arith, commits_few (before ++ more) h, l, longer) in
    let there = ltb-true table (length db.tables) t in
    ap (λ db. checkpoint_at db table version) (database_behind-append before more)
    ∙ checkpoint_kept version table db (commits_of more) reached few there (fit_behind before more (legal_behind-append [] before more h))

-- What a commit makes of the open rows of each key.
use Rattle.std.proofs.Common.{subst, ◌≡◌, ℕ, ℤ, zero, suc, ◌+◌, ◌<◌, ◌≤◌, Bool, true, false, ◌&&◌, ◌||◌, not, cond, nat_eq, List, [], ◌∷◌, ◌++◌, length, get_or, slice_get, slice_set, length-append, length-set, option_map, Option, Some, None, is_some, map, refl, sym, ap, ◌∙◌, arith, unwrap_or, Result, Ok, Err}
use Rattle.std.specs.List.{list_all, enumerate_from, All}
use Rattle.std.specs.Bool.{beq}
use Rattle.std.proofs.lemmas.Bool.{and_parts, and_from}
use Rattle.std.specs.Result.{OnErr}
use Rattle.std.proofs.lemmas.List.Sums.{AllPass-from_list_all}
use Rattle.std.proofs.lemmas.Option.{slice_get_within, slice_get_past, slice_get_read}
use Rattle.tl_types.specs.declared.cells.Cell.{Cell}
use Rattle.tl_types.specs.declared.schemas.Column.{Column}
use Rattle.tl_types.specs.Limits.{standard_limits}
use Rattle.tl_types.specs.declared.commits.Body.{Body}
use Rattle.tl_types.specs.declared.commits.Body.TheVariants as body
use Rattle.tl_types.specs.Plain as plain
use Rattle.tl_types.specs.History.{open_end, with_ids, row_after, new_row, new_table, table_after, at_place, with_floor, after_commit, nothing, matches, match_columns, is_of_kind, rows_of, is_open_at, fits_body, has_id}
use Rattle.tl_types.proofs.Lists.{length-at_place, get-at_place-unseen}
use Rattle.tl_batch.specs.KeyIndex.{IdsByKey, has_row}
use Rattle.tl_batch.specs.Standing.{opens_with, has_key, is_open_with, table_has, rows_match, index_at, is_made, IsIndexIfMade, IsIndexOfTable, StandFor, after_doing}
use Rattle.tl_batch.proofs.IndexedRows.{opens_from}

-- ONE TABLE

begun_open : (key version n : ℕ) (opens : List plain.Opened) (x : Cell) (i : ℕ) → is_open_with key x (slice_get (map (new_row version) opens) i) ≡ opens_with key n opens x (n + i)
begun_open key version n [] x i = refl
begun_open key version n (o ∷ opens) x zero = grind (arith, opens_from key (n + 1) opens x (n + 0) (omega arith))
begun_open key version n (o ∷ opens) x (suc i) = grind (arith, begun_open key version (n + 1) opens x i)

-- a row after the commit is current and has the key exactly where it was so and is not closed, or is opened
pub rows_after : (key version n : ℕ) (closes : List ℕ) (rows : List plain.Row) (opens : List plain.Opened) (x : Cell) (i : ℕ) → nat_eq version open_end ≡ false
    → is_open_with key x (slice_get (map (row_after version closes) (enumerate_from n rows) ++ map (new_row version) opens) i) ≡ ((not (has_id closes (n + i)) && is_open_with key x (slice_get rows i)) || opens_with key (n + length rows) opens x (n + i))
rows_after key version n closes [] opens x i apart = grind (arith, begun_open key version n opens x i)
rows_after key version n closes (r ∷ rows) opens x zero apart = grind (arith, opens_from key (n + suc (length rows)) opens x n (omega arith))
rows_after key version n closes (r ∷ rows) opens x (suc i) apart =
    let number : n + 1 + i ≡ n + suc i = omega arith in
    let end : n + 1 + length rows ≡ n + suc (length rows) = omega arith in
    rows_after key version (n + 1) closes rows opens x i apart ∙ (ap (λ m. (not (has_id closes m) && is_open_with key x (slice_get rows i)) || opens_with key (n + 1 + length rows) opens x m) number ∙ ap (λ m. (not (has_id closes (n + suc i)) && is_open_with key x (slice_get rows i)) || opens_with key m opens x (n + suc i)) end)

rows_after_all : (key version : ℕ) (closes : List ℕ) (rows : List plain.Row) (opens : List plain.Opened) (x : Cell) (i : ℕ) → nat_eq version open_end ≡ false
    → is_open_with key x (slice_get (map (row_after version closes) (with_ids rows) ++ map (new_row version) opens) i) ≡ ((not (has_id closes i) && is_open_with key x (slice_get rows i)) || opens_with key (length rows) opens x i)
rows_after_all key version closes rows opens x i apart = grind (arith, rows_after key version 0 closes rows opens x i apart)

open_within : (rows : List plain.Row) (n : ℕ) → is_open_at rows n ≡ true → n < length rows
open_within [] n e = absurd (cc)
open_within (r ∷ rows) zero e = omega arith
open_within (r ∷ rows) (suc n) e = let h = open_within rows n e in omega arith

closed_within : (rows : List plain.Row) (closes : List ℕ) (n : ℕ) → list_all (is_open_at rows) closes ≡ true → has_id closes n ≡ true → n < length rows
closed_within rows [] n all e = absurd (cc)
closed_within rows (id ∷ closes) n all e = by_test (nat_eq id n) refl (closed_within rows closes n parts.1) e where
  parts : (is_open_at rows id ≡ true) × (list_all (is_open_at rows) closes ≡ true)
  parts = and_parts (is_open_at rows id) (list_all (is_open_at rows) closes) all

  by_test : (b : Bool) → nat_eq id n ≡ b → (has_id closes n ≡ true → n < length rows) → (b || has_id closes n) ≡ true → n < length rows
  by_test true f later g = let same : id ≡ n = grind arith in let h = open_within rows id parts.0 in omega arith
  by_test false f later g = later g

has_with : (key : ℕ) (x : Cell) (row : Option plain.Row) → is_open_with key x row ≡ true → has_key key x row ≡ true
has_with key x None e = absurd (cc)
has_with key x (Some r) e = grind arith

joint : (h k o w : Bool) → (w ≡ true → k ≡ true) → (h ≡ true → o ≡ false) → (not (h && k) && (o || w)) ≡ ((not h && w) || o)
joint h k o w f g = grind arith

-- the index of a table after a change that fits
new_after : (version : ℕ) (change : plain.Change) (t : plain.Table) (old : IdsByKey) (closing : Cell → ℕ → Bool) (new : IdsByKey) → nat_eq version open_end ≡ false → list_all (is_open_at t.rows) change.closes ≡ true
    → ((x : Cell) (n : ℕ) → has_row old x n ≡ is_open_with t.schema.key x (slice_get t.rows n))
    → ((x : Cell) (n : ℕ) → closing x n ≡ (has_id change.closes n && has_key t.schema.key x (slice_get t.rows n)))
    → ((x : Cell) (n : ℕ) → has_row new x n ≡ (not (closing x n) && (opens_with t.schema.key (length t.rows) change.opens x n || has_row old x n)))
    → (x : Cell) (n : ℕ) → has_row new x n ≡ is_open_with t.schema.key x (slice_get (table_after version change t).rows n)
new_after version change t old closing new apart current was gone left x n =
    let key : ℕ = t.schema.key in
    let opened : Bool = opens_with key (length t.rows) change.opens x n in
    let row : Option plain.Row = slice_get t.rows n in
    let late : has_id change.closes n ≡ true → opened ≡ false = λ e. opens_from key (length t.rows) change.opens x n (closed_within t.rows change.closes n current e) in
    left x n
    ∙ (ap (λ v. not v && (opened || has_row old x n)) (gone x n)
    ∙ (ap (λ v. not (has_id change.closes n && has_key key x row) && (opened || v)) (was x n)
    ∙ (joint (has_id change.closes n) (has_key key x row) opened (is_open_with key x row) (has_with key x row) late
    ∙ sym (rows_after_all key version change.closes t.rows change.opens x n apart))))

-- each row after a change matches
ended_match : (schema : plain.Schema) (version n : ℕ) (closes : List ℕ) (rows : List plain.Row) → list_all (λ r. matches schema (record { cells = r.cells; period = r.period })) rows ≡ true
    → list_all (λ r. matches schema (record { cells = r.cells; period = r.period })) (map (row_after version closes) (enumerate_from n rows)) ≡ true
ended_match schema version n closes [] all = refl
ended_match schema version n closes (r ∷ rows) all = and_from _ _ (by_close (has_id closes n)) (ended_match schema version (n + 1) closes rows parts.1) where
  one : plain.Row → Bool
  one r = matches schema (record { cells = r.cells; period = r.period })

  parts : (one r ≡ true) × (list_all one rows ≡ true)
  parts = and_parts (one r) (list_all one rows) all

  by_close : (b : Bool) → matches schema (record { cells = (cond b (record r { to = version }) r).cells; period = (cond b (record r { to = version }) r).period }) ≡ true
  by_close true = parts.0
  by_close false = parts.0

begun_match : (schema : plain.Schema) (version : ℕ) (opens : List plain.Opened) → list_all (matches schema) opens ≡ true → list_all (λ r. matches schema (record { cells = r.cells; period = r.period })) (map (new_row version) opens) ≡ true
begun_match schema version [] all = refl
begun_match schema version (o ∷ opens) all =
    let parts = and_parts (matches schema o) (list_all (matches schema) opens) all in
    and_from _ _ parts.0 (begun_match schema version opens parts.1)

pub all_joined : {X : Type 0} (test : X → Bool) (xs ys : List X) → list_all test xs ≡ true → list_all test ys ≡ true → list_all test (xs ++ ys) ≡ true
all_joined test [] ys e f = f
all_joined test (x ∷ xs) ys e f = let parts = and_parts (test x) (list_all test xs) e in and_from _ _ parts.0 (all_joined test xs ys parts.1 f)

pub match_after : (version : ℕ) (change : plain.Change) (t : plain.Table) → list_all (matches t.schema) change.opens ≡ true → rows_match (Some t) ≡ true → rows_match (Some (table_after version change t)) ≡ true
match_after version change t opened all = all_joined (λ r. matches t.schema (record { cells = r.cells; period = r.period })) (map (row_after version change.closes) (with_ids t.rows)) (map (new_row version) change.opens) (ended_match t.schema version 0 change.closes t.rows all) (begun_match t.schema version change.opens opened)

-- THE TABLES

-- no table
pub stands_empty : StandFor [] nothing
stands_empty = record { tables = refl; ids = λ table. tt; matching = λ table. refl }

-- a table more
table_more : (keys : List (Option IdsByKey)) (tables : List plain.Table) (schema : plain.Schema) → length keys ≡ length tables
    → ((t : ℕ) → IsIndexIfMade (index_at keys t) (slice_get tables t))
    → (t : ℕ) → IsIndexIfMade (index_at (keys ++ None ∷ []) t) (slice_get (tables ++ new_table schema ∷ []) t)
table_more [] [] schema same old zero = tt
table_more [] [] schema same old (suc t) = tt
table_more [] (s ∷ tables) schema same old t = absurd (omega (arith, same))
table_more (k ∷ keys) [] schema same old t = absurd (omega (arith, same))
table_more (k ∷ keys) (s ∷ tables) schema same old zero = old zero
table_more (k ∷ keys) (s ∷ tables) schema same old (suc t) = table_more keys tables schema (omega (arith, same)) (λ u. old (suc u)) t

match_more : (tables : List plain.Table) (schema : plain.Schema) → ((t : ℕ) → rows_match (slice_get tables t) ≡ true) → (t : ℕ) → rows_match (slice_get (tables ++ new_table schema ∷ []) t) ≡ true
match_more [] schema old zero = refl
match_more [] schema old (suc t) = refl
match_more (s ∷ tables) schema old zero = old zero
match_more (s ∷ tables) schema old (suc t) = match_more tables schema (λ u. old (suc u)) t

pub stands_created : (keys : List (Option IdsByKey)) (db : plain.Database) (author : ℕ) (schema : plain.Schema) → StandFor keys db
    → StandFor (keys ++ None ∷ []) (after_commit db (record { author = author; body = body.Create schema }))
stands_created keys db author schema old = record {
  tables = length-append keys (None ∷ []) ∙ (ap (λ n. n + 1) old.tables ∙ sym (length-append db.tables (new_table schema ∷ [])));
  ids = table_more keys db.tables schema old.tables old.ids;
  matching = match_more db.tables schema old.matching;
}

pub stands_more : (keys new : List (Option IdsByKey)) (db : plain.Database) (schema : plain.Schema) (b : Body) → StandFor keys db → new ≡ keys ++ None ∷ [] → b ≡ body.Create schema
    → StandFor new (after_doing db b)
stands_more keys new db schema b old made is =
    subst (λ (q : Body). StandFor new (after_doing db q)) (sym is)
    (subst (λ (ks : List (Option IdsByKey)). StandFor ks (after_doing db (body.Create schema))) (sym made)
    (stands_created keys db 0 schema old))

-- the table more has no ids that are made
none_more : (keys : List (Option IdsByKey)) (t : ℕ) → is_made (keys ++ None ∷ []) t ≡ is_made keys t
none_more [] zero = refl
none_more [] (suc t) = refl
none_more (k ∷ keys) zero = refl
none_more (k ∷ keys) (suc t) = none_more keys t

pub made_more : (keys new : List (Option IdsByKey)) → new ≡ keys ++ None ∷ [] → (t : ℕ) → is_made new t ≡ is_made keys t
made_more keys new made t = ap (λ (ks : List (Option IdsByKey)). is_made ks t) made ∙ none_more keys t

-- a table changed
table_changed : (keys : List (Option IdsByKey)) (at : ℕ) (index : Option IdsByKey) (tables : List plain.Table) (f : plain.Table → plain.Table) → length keys ≡ length tables
    → IsIndexIfMade index (slice_get (at_place at f tables) at)
    → ((t : ℕ) → IsIndexIfMade (index_at keys t) (slice_get tables t))
    → (t : ℕ) → IsIndexIfMade (index_at (slice_set keys at index) t) (slice_get (at_place at f tables) t)
table_changed [] at index [] f same here old t = tt
table_changed [] at index (s ∷ tables) f same here old t = absurd (omega (arith, same))
table_changed (k ∷ keys) at index [] f same here old t = absurd (omega (arith, same))
table_changed (k ∷ keys) zero index (s ∷ tables) f same here old zero = here
table_changed (k ∷ keys) zero index (s ∷ tables) f same here old (suc t) = old (suc t)
table_changed (k ∷ keys) (suc at) index (s ∷ tables) f same here old zero = old zero
table_changed (k ∷ keys) (suc at) index (s ∷ tables) f same here old (suc t) = table_changed keys at index tables f (omega (arith, same)) here (λ u. old (suc u)) t

place_length : (at : ℕ) (tables : List plain.Table) (f : plain.Table → plain.Table) → length (at_place at f tables) ≡ length tables
place_length at [] f = refl
place_length zero (s ∷ tables) f = refl
place_length (suc at) (s ∷ tables) f = ap suc (place_length at tables f)

match_changed : (at : ℕ) (tables : List plain.Table) (f : plain.Table → plain.Table) → ((t : plain.Table) → slice_get tables at ≡ Some t → rows_match (Some (f t)) ≡ true)
    → ((t : ℕ) → rows_match (slice_get tables t) ≡ true) → (t : ℕ) → rows_match (slice_get (at_place at f tables) t) ≡ true
match_changed at [] f here old t = refl
match_changed zero (s ∷ tables) f here old zero = here s refl
match_changed zero (s ∷ tables) f here old (suc t) = old (suc t)
match_changed (suc at) (s ∷ tables) f here old zero = old zero
match_changed (suc at) (s ∷ tables) f here old (suc t) = match_changed at tables f here (λ u. old (suc u)) t

-- each row matches after a change of a table that is there
match_there : (db : plain.Database) (change : plain.Change) (t : plain.Table) → ((u : ℕ) → rows_match (slice_get db.tables u) ≡ true)
    → slice_get db.tables change.table ≡ Some t → list_all (matches t.schema) change.opens ≡ true
    → (u : ℕ) → rows_match (slice_get (at_place change.table (table_after (db.version + 1) change) db.tables) u) ≡ true
match_there db change t old found opened = match_changed change.table db.tables (table_after (db.version + 1) change) matched old where
  only : (s : plain.Table) → slice_get db.tables change.table ≡ Some s → s ≡ t
  only s e = ap (λ (o : Option plain.Table). unwrap_or o t) (sym e ∙ found)

  matched : (s : plain.Table) → slice_get db.tables change.table ≡ Some s → rows_match (Some (table_after (db.version + 1) change s)) ≡ true
  matched s e = grind (arith, only s e, match_after (db.version + 1) change t opened (ap rows_match (sym found) ∙ old change.table))

-- a commit that changes no row leaves them as they are
pub stands_stated : (keys : List (Option IdsByKey)) (db : plain.Database) (moment : ℤ) (b : Body) → StandFor keys db → b ≡ body.Moment moment → StandFor keys (after_doing db b)
stands_stated keys db moment b old is = subst (λ (q : Body). StandFor keys (after_doing db q)) (sym is) (record { tables = old.tables; ids = old.ids; matching = old.matching })

-- another floor changes nothing of the rows
floored : (keys : List (Option IdsByKey)) (at floor : ℕ) (tables : List plain.Table) → length keys ≡ length tables
    → ((t : ℕ) → IsIndexIfMade (index_at keys t) (slice_get tables t))
    → (t : ℕ) → IsIndexIfMade (index_at keys t) (slice_get (at_place at (with_floor floor) tables) t)
floored [] at floor [] same old t = tt
floored [] at floor (s ∷ tables) same old t = absurd (omega (arith, same))
floored (k ∷ keys) at floor [] same old t = absurd (omega (arith, same))
floored (None ∷ keys) zero floor (s ∷ tables) same old zero = tt
floored (Some k ∷ keys) zero floor (s ∷ tables) same old zero = old zero
floored (k ∷ keys) zero floor (s ∷ tables) same old (suc t) = old (suc t)
floored (k ∷ keys) (suc at) floor (s ∷ tables) same old zero = old zero
floored (k ∷ keys) (suc at) floor (s ∷ tables) same old (suc t) = floored keys at floor tables (omega (arith, same)) (λ u. old (suc u)) t

pub stands_floored : (keys : List (Option IdsByKey)) (db : plain.Database) (number floor : ℕ) (b : Body) → StandFor keys db → b ≡ body.Forget number floor → StandFor keys (after_doing db b)
stands_floored keys db number floor b old is = subst (λ (q : Body). StandFor keys (after_doing db q)) (sym is) (record {
  tables = old.tables ∙ sym (length-at_place number (with_floor floor) db.tables);
  ids = floored keys number floor db.tables old.tables old.ids;
  matching = λ table. get-at_place-unseen rows_match (with_floor floor) (λ t. refl) db.tables number table ∙ old.matching table;
})

-- A CHANGE THAT FITS

-- what is known of a change that fits, and of its table
pub record Fitting (db : plain.Database) (change : plain.Change) : Type 0 where
  pub table : plain.Table
  pub at : slice_get db.tables change.table ≡ Some table
  pub current : list_all (is_open_at table.rows) change.closes ≡ true
  pub opened : list_all (matches table.schema) change.opens ≡ true
  pub few : length table.rows + length change.opens ≤ 16777216

pub fitting : (db : plain.Database) (change : plain.Change) → fits_body standard_limits db (body.Change change) ≡ true → Fitting db change
fitting db change = grind arith

rows_are : (version : ℕ) (stamps : List plain.Stamp) (tables : List plain.Table) (n : ℕ) (t : plain.Table) → slice_get tables n ≡ Some t → rows_of (record { version = version; tables = tables; stamps = stamps }) n ≡ t.rows
rows_are version stamps [] n t at = absurd (cc)
rows_are version stamps (u ∷ tables) zero t at = let e : u ≡ t = cc in ap (λ v. v.rows) e
rows_are version stamps (u ∷ tables) (suc n) t at = rows_are version stamps tables n t at

pub fitting-rows : (db : plain.Database) (change : plain.Change) (f : Fitting db change) → rows_of db change.table ≡ f.table.rows
fitting-rows db change f = rows_are db.version db.stamps db.tables change.table f.table f.at

pub fitting-within : (db : plain.Database) (change : plain.Change) → Fitting db change → change.table < length db.tables
fitting-within db change f = slice_get_within db.tables change.table f.table f.at

pub fitting-closes : (db : plain.Database) (change : plain.Change) → Fitting db change → All (λ id. id < length (rows_of db change.table)) change.closes
fitting-closes db change f = λ k d l.
    let here : is_open_at f.table.rows (get_or change.closes k d) ≡ true = AllPass-from_list_all (is_open_at f.table.rows) change.closes f.current k d l in
    let h = open_within f.table.rows (get_or change.closes k d) here in
    let e = ap length (fitting-rows db change f) in
    omega arith

pub schema_is : (o : Option plain.Table) (t : plain.Table) (schema : plain.Schema) → o ≡ Some t → Some schema ≡ option_map (λ u. u.schema) o → schema ≡ t.schema
schema_is None t schema at e = absurd (cc)
schema_is (Some u) t schema at e = cc

pub fitting-place : (db : plain.Database) (change : plain.Change) (f : Fitting db change) (schema : plain.Schema) (place : ℕ) → Some schema ≡ option_map (λ u. u.schema) (slice_get db.tables change.table) → place ≡ schema.key → place ≡ f.table.schema.key
fitting-place db change f schema place e h = h ∙ ap (λ s. s.key) (schema_is (slice_get db.tables change.table) f.table schema f.at e)

pub cells_number : (columns : List Column) (cells : List Cell) → match_columns columns cells ≡ true → length columns ≡ length cells
cells_number [] [] m = refl
cells_number [] (x ∷ cells) m = absurd (cc)
cells_number (c ∷ columns) [] m = absurd (cc)
cells_number (c ∷ columns) (x ∷ cells) m = ap suc (cells_number columns cells (and_parts (is_of_kind c.kind x) (match_columns columns cells) m).1)

pub fitting-keyed : (db : plain.Database) (change : plain.Change) (f : Fitting db change) (schema : plain.Schema) (place : ℕ) → Some schema ≡ option_map (λ u. u.schema) (slice_get db.tables change.table) → place ≡ schema.key → schema.key < length schema.columns
    → All (λ o. place < length o.cells) change.opens
fitting-keyed db change f schema place e h among = λ k d l.
    let row : plain.Opened = get_or change.opens k d in
    let same = schema_is (slice_get db.tables change.table) f.table schema f.at e in
    let this : matches f.table.schema row ≡ true = AllPass-from_list_all (matches f.table.schema) change.opens f.opened k d l in
    let cells = cells_number f.table.schema.columns row.cells (and_parts (match_columns f.table.schema.columns row.cells) (beq f.table.schema.valid (is_some row.period)) this).0 in
    let columns = ap (λ (s : plain.Schema). length s.columns) same in
    omega arith

-- the index at a place
pub index_there : (keys : List (Option IdsByKey)) (n : ℕ) (index : Option IdsByKey) → n < length keys → index ≡ get_or keys n index → index_at keys n ≡ index
index_there keys n index h e = ap (λ (o : Option (Option IdsByKey)). unwrap_or o None) (slice_get_read keys (length keys) n index refl h e)

-- what stands at the place of a change that fits
pub fitting-there : (keys : List (Option IdsByKey)) (db : plain.Database) (change : plain.Change) (index : Option IdsByKey) → Fitting db change → StandFor keys db → index ≡ get_or keys change.table index
    → IsIndexIfMade index (slice_get db.tables change.table)
fitting-there keys db change index f old is =
    let within = fitting-within db change f in
    let same = old.tables in
    let here : index_at keys change.table ≡ index = index_there keys change.table index (omega arith) is in
    subst (λ (o : Option IdsByKey). IsIndexIfMade o (slice_get db.tables change.table)) here (old.ids change.table)

-- what the ids by key were before the change
pub fitting-index : (db : plain.Database) (change : plain.Change) (f : Fitting db change) (index : IdsByKey) → IsIndexOfTable index (slice_get db.tables change.table)
    → (x : Cell) (n : ℕ) → has_row index x n ≡ is_open_with f.table.schema.key x (slice_get f.table.rows n)
fitting-index db change f index is x n = is x n ∙ ap (λ o. table_has o x n) f.at

pub fitting-below : (db : plain.Database) (change : plain.Change) (f : Fitting db change) (index : IdsByKey) (first : ℕ) → IsIndexOfTable index (slice_get db.tables change.table) → first ≡ length (rows_of db change.table)
    → (x : Cell) (n : ℕ) → first ≤ n → has_row index x n ≡ false
fitting-below db change f index first is number x n h =
    let rows = ap length (fitting-rows db change f) in
    fitting-index db change f index is x n ∙ ap (is_open_with f.table.schema.key x) (slice_get_past f.table.rows n (omega arith))

-- ids by key that have not changed
pub index_kept : (index new : IdsByKey) (t : Option plain.Table) → IsIndexOfTable index t → ((x : Cell) (n : ℕ) → has_row new x n ≡ has_row index x n) → IsIndexOfTable new t
index_kept index new t is same = λ x n. same x n ∙ is x n

-- the table after a change, at its place
changed_at : (tables : List plain.Table) (at : ℕ) (f : plain.Table → plain.Table) (t : plain.Table) → slice_get tables at ≡ Some t → slice_get (at_place at f tables) at ≡ Some (f t)
changed_at [] at f t e = absurd (cc)
changed_at (s ∷ tables) zero f t e = let same : s ≡ t = cc in ap (λ u. Some (f u)) same
changed_at (s ∷ tables) (suc at) f t e = changed_at tables at f t e

-- the ids by key after the change
pub fitting-after : (db : plain.Database) (change : plain.Change) (f : Fitting db change) (index : IdsByKey) (closing : Cell → ℕ → Bool) (new : IdsByKey) (place first : ℕ) → db.version < 16777215 → IsIndexOfTable index (slice_get db.tables change.table)
    → first ≡ length (rows_of db change.table) → place ≡ f.table.schema.key
    → ((x : Cell) (n : ℕ) → closing x n ≡ (has_id change.closes n && has_key place x (slice_get (rows_of db change.table) n)))
    → ((x : Cell) (n : ℕ) → has_row new x n ≡ (not (closing x n) && (opens_with place first change.opens x n || has_row index x n)))
    → IsIndexOfTable new (slice_get (after_doing db (body.Change change)).tables change.table)
fitting-after db change f index closing new place first version is number at gone left = λ x n.
    new_after (db.version + 1) change f.table index closing new apart f.current (fitting-index db change f index is)
    (λ y m. gone y m ∙ (ap (λ p. has_id change.closes m && has_key p y (slice_get (rows_of db change.table) m)) at ∙ ap (λ rs. has_id change.closes m && has_key f.table.schema.key y (slice_get rs m)) rows))
    (λ y m. left y m ∙ (ap (λ p. not (closing y m) && (opens_with p first change.opens y m || has_row index y m)) at ∙ ap (λ q. not (closing y m) && (opens_with f.table.schema.key q change.opens y m || has_row index y m)) (number ∙ ap length rows))) x n
    ∙ sym (ap (λ o. table_has o x n) (changed_at db.tables change.table (table_after (db.version + 1) change) f.table f.at)) where
      rows : rows_of db change.table ≡ f.table.rows
      rows = fitting-rows db change f

      apart : nat_eq (db.version + 1) open_end ≡ false
      apart = grind arith

-- the keys after the change
pub fitting-stands : (keys new : List (Option IdsByKey)) (db : plain.Database) (change : plain.Change) (index : Option IdsByKey) → Fitting db change → StandFor keys db → new ≡ slice_set keys change.table index
    → IsIndexIfMade index (slice_get (after_doing db (body.Change change)).tables change.table)
    → StandFor new (after_doing db (body.Change change))
fitting-stands keys new db change index f old made is = subst (λ (ks : List (Option IdsByKey)). StandFor ks (after_doing db (body.Change change))) (sym made) (record {
  tables = length-set keys change.table index ∙ (old.tables ∙ sym (place_length change.table db.tables (table_after (db.version + 1) change)));
  ids = table_changed keys change.table index db.tables (table_after (db.version + 1) change) old.tables is old.ids;
  matching = match_there db change f.table old.matching f.at f.opened;
})

-- another index at a place, for the same tables
index_set : (keys : List (Option IdsByKey)) (at : ℕ) (index : Option IdsByKey) (tables : List plain.Table) → IsIndexIfMade index (slice_get tables at)
    → ((t : ℕ) → IsIndexIfMade (index_at keys t) (slice_get tables t))
    → (t : ℕ) → IsIndexIfMade (index_at (slice_set keys at index) t) (slice_get tables t)
index_set [] at index tables is old t = tt
index_set (k ∷ keys) zero index tables is old zero = is
index_set (k ∷ keys) zero index tables is old (suc t) = old (suc t)
index_set (k ∷ keys) (suc at) index tables is old zero = old zero
index_set (k ∷ keys) (suc at) index [] is old (suc t) = index_set keys at index [] is (λ u. old (suc u)) t
index_set (k ∷ keys) (suc at) index (s ∷ tables) is old (suc t) = index_set keys at index tables is (λ u. old (suc u)) t

pub stands_set : (keys new : List (Option IdsByKey)) (db : plain.Database) (at : ℕ) (index : Option IdsByKey) → StandFor keys db → new ≡ slice_set keys at index → IsIndexIfMade index (slice_get db.tables at) → StandFor new db
stands_set keys new db at index old made is = subst (λ (ks : List (Option IdsByKey)). StandFor ks db) (sym made) (record {
  tables = length-set keys at index ∙ old.tables;
  ids = index_set keys at index db.tables is old.ids;
  matching = old.matching;
})

-- what is made once the index at a place is another
set_at : (keys : List (Option IdsByKey)) (at : ℕ) (index : Option IdsByKey) → at < length keys → index_at (slice_set keys at index) at ≡ index
set_at [] at index h = absurd (omega arith)
set_at (k ∷ keys) zero index h = refl
set_at (k ∷ keys) (suc at) index h = set_at keys at index (omega arith)

made_set : (keys : List (Option IdsByKey)) (at : ℕ) (index : Option IdsByKey) → (is_made keys at ≡ true → is_some index ≡ true) → (t : ℕ) → is_made keys t ≡ true → is_made (slice_set keys at index) t ≡ true
made_set [] at index some t e = e
made_set (k ∷ keys) zero index some zero e = some e
made_set (k ∷ keys) zero index some (suc t) e = e
made_set (k ∷ keys) (suc at) index some zero e = e
made_set (k ∷ keys) (suc at) index some (suc t) e = made_set keys at index some t e

pub made_there : (keys new : List (Option IdsByKey)) (at : ℕ) (index : IdsByKey) → new ≡ slice_set keys at (Some index) → at < length keys → is_made new at ≡ true
made_there keys new at index made h = ap (λ (ks : List (Option IdsByKey)). is_made ks at) made ∙ ap (λ (o : Option IdsByKey). is_some o) (set_at keys at (Some index) h)

pub made_still : (keys new : List (Option IdsByKey)) (at : ℕ) (index : IdsByKey) → new ≡ slice_set keys at (Some index) → (t : ℕ) → is_made keys t ≡ true → is_made new t ≡ true
made_still keys new at index made t e = ap (λ (ks : List (Option IdsByKey)). is_made ks t) made ∙ made_set keys at (Some index) (λ h. refl) t e

made_same : (keys : List (Option IdsByKey)) (at : ℕ) (index : Option IdsByKey) → at < length keys → is_some index ≡ is_made keys at → (t : ℕ) → is_made (slice_set keys at index) t ≡ is_made keys t
made_same [] at index h e t = absurd (omega arith)
made_same (k ∷ keys) zero index h e zero = e
made_same (k ∷ keys) zero index h e (suc t) = refl
made_same (k ∷ keys) (suc at) index h e zero = refl
made_same (k ∷ keys) (suc at) index h e (suc t) = made_same keys at index (omega arith) e t

-- an index that follows is made where it was
pub fitting-made : (keys new : List (Option IdsByKey)) (db : plain.Database) (change : plain.Change) (index later : Option IdsByKey) → Fitting db change → StandFor keys db → index ≡ get_or keys change.table index → new ≡ slice_set keys change.table later
    → is_some later ≡ is_some index → (t : ℕ) → is_made new t ≡ is_made keys t
fitting-made keys new db change index later f old is made same t =
    let within = fitting-within db change f in
    let as_many = old.tables in
    let h : change.table < length keys = omega arith in
    let here : index_at keys change.table ≡ index = index_there keys change.table index h is in
    ap (λ (ks : List (Option IdsByKey)). is_made ks t) made ∙ made_same keys change.table later h (same ∙ ap (λ (o : Option IdsByKey). is_some o) (sym here)) t

-- what holds anyway holds of a result
pub on_err : {T F : Type 0} (P : Type 0) (r : Result T F) → P → OnErr r P
on_err P (Ok x) p = tt
on_err P (Err e) p = p

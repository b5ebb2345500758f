-- What an outline tells of the databases that have it, and what a commit makes of it.
use Rattle.std.proofs.Common.{◌≡◌, ℕ, zero, suc, ◌+◌, ◌<◌, ◌≤◌, ℤ, Bool, true, false, not, ◌&&◌, ◌||◌, nat_eq, nat_le, nat_lt, List, [], ◌∷◌, ◌++◌, length, map, get_or, set, replicate, All, Option, Some, None, refl, sym, ap, ◌∙◌, subst, arith, slice_get, if◌then◌else◌, length-append}
use Rattle.std.specs.List.{list_all, list_any, enumerate_from, last_or}
use Rattle.std.specs.Option.{option_map}
use Rattle.std.proofs.lemmas.Bool.{ltb-true}
use Rattle.std.proofs.lemmas.Bool.Decides.{nat_tests}
use Rattle.std.proofs.lemmas.List.{length-map, length-set, set-append_left, map-append, append-nil}
use Rattle.tl_types.specs.declared.commits.Body.{Body}
use Rattle.tl_types.specs.declared.commits.Body.TheVariants as body
use Rattle.tl_types.specs.declared.commits.Commit.{Commit}
use Rattle.tl_types.specs.declared.limits.Limits.{Limits}
use Rattle.tl_types.specs.History.{open_end, is_open, is_open_at, has_id, has_name, row_after, new_row, new_table, table_after, after_body, after_commit, stamps_of, at_place, with_floor, last_moment, is_later, matches, fits, fits_body, fits_floor, fits_table}
use Rattle.tl_types.specs.Limits.{standard_limits}
use Rattle.tl_types.specs.Plain as plain
use Rattle.tl_types.proofs.Lists.{and_left, and_right, open_ids_within, at_place-set}
use Rattle.tl_outline.specs.Outlines.{OutlineTable, Outline, outline_of_table, outline_of, row_shown, table_shown, stamps_shown, database_shown, outline_changed, outline_floored, after_closes, outline_after}

-- WHICH ROWS ARE CURRENT

open_shown : (b : Bool) → is_open (row_shown b) ≡ b
open_shown true = refl
open_shown false = refl

pub open_read : (bits : List Bool) (id : ℕ) (d b : Bool) → id < length bits → b ≡ get_or bits id d → b ≡ is_open_at (map row_shown bits) id
open_read [] id d b h e = absurd (omega arith)
open_read (x ∷ bits) zero d b h e = e ∙ sym (open_shown x)
open_read (x ∷ bits) (suc id) d b h e = open_read bits id d b (omega arith) e

pub open_past : (bits : List Bool) (id : ℕ) → length bits ≤ id → is_open_at (map row_shown bits) id ≡ false
open_past [] id h = refl
open_past (x ∷ bits) zero h = absurd (omega arith)
open_past (x ∷ bits) (suc id) h = open_past bits id (omega arith)

open_seen : (rows : List plain.Row) (id : ℕ) → is_open_at (map row_shown (map is_open rows)) id ≡ is_open_at rows id
open_seen [] id = refl
open_seen (row ∷ rows) zero = open_shown (is_open row)
open_seen (row ∷ rows) (suc id) = open_seen rows id

all_open_seen : (rows : List plain.Row) (ids : List ℕ) → list_all (is_open_at (map row_shown (map is_open rows))) ids ≡ list_all (is_open_at rows) ids
all_open_seen rows [] = refl
all_open_seen rows (id ∷ ids) = let one = open_seen rows id in let later = all_open_seen rows ids in cc

-- WHAT FITS

pub any_named : (name : List ℕ) (tables : List OutlineTable) → list_any (has_name name) (map table_shown tables) ≡ list_any (λ table. has_name name (table_shown table)) tables
any_named name [] = refl
any_named name (t ∷ tables) = ap (λ b. has_name name (table_shown t) || b) (any_named name tables)

pub create_fits : (limits : Limits) (tables : List OutlineTable) (schema : plain.Schema) (name : List ℕ) (named room : Bool) → named ≡ list_any (λ table. has_name name (table_shown table)) tables → name ≡ schema.name → room ≡ nat_lt (length tables) limits.tables → (not named && room) ≡ fits_body limits (database_shown (record { version = 0; tables = tables; last = None })) (body.Create schema)
create_fits limits tables schema name named room is same few =
    let all : list_any (has_name schema.name) (map table_shown tables) ≡ named = any_named schema.name tables ∙ ap (λ n. list_any (λ (table : OutlineTable). has_name n (table_shown table)) tables) (sym same) ∙ sym is in
    rw (all, length-map tables table_shown, few) refl

named_seen : (name : List ℕ) (tables : List plain.Table) → list_any (has_name name) (map table_shown (map outline_of_table tables)) ≡ list_any (has_name name) tables
named_seen name [] = refl
named_seen name (t ∷ tables) = ap (λ b. has_name name t || b) (named_seen name tables)

table_seen : {Y : Type 0} (g : Option plain.Table → Y) → ((t : plain.Table) → g (Some (table_shown (outline_of_table t))) ≡ g (Some t)) → (tables : List plain.Table) (number : ℕ) → g (slice_get (map table_shown (map outline_of_table tables)) number) ≡ g (slice_get tables number)
table_seen g h [] number = refl
table_seen g h (t ∷ tables) zero = h t
table_seen g h (t ∷ tables) (suc number) = table_seen g h tables number

change_seen : (limits : Limits) (change : plain.Change) (t : plain.Table) → fits_table limits change (Some (table_shown (outline_of_table t))) ≡ fits_table limits change (Some t)
change_seen limits change t =
    let open_ids = all_open_seen t.rows change.closes in
    let many : length (map row_shown (map is_open t.rows)) ≡ length t.rows = length-map (map is_open t.rows) row_shown ∙ length-map t.rows is_open in
    rw (open_ids, many) refl

last_seen : (last : Option ℤ) → last_moment (stamps_shown last) ≡ last
last_seen None = refl
last_seen (Some moment) = refl

body_seen : (limits : Limits) (db : plain.Database) (b : Body) → fits_body limits (database_shown (outline_of db)) b ≡ fits_body limits db b
body_seen limits db (body.Create schema) =
    let named = named_seen schema.name db.tables in
    let many : length (map table_shown (map outline_of_table db.tables)) ≡ length db.tables = length-map (map outline_of_table db.tables) table_shown ∙ length-map db.tables outline_of_table in
    rw (named, many) refl
body_seen limits db (body.Change change) = table_seen (fits_table limits change) (change_seen limits change) db.tables change.table
body_seen limits db (body.Moment moment) = ap (is_later moment) (last_seen (last_moment db.stamps))
body_seen limits db (body.Forget number floor) = table_seen (fits_floor db.version floor) (λ t. refl) db.tables number

-- a commit fits each database of the outline alike
pub fits_seen : (limits : Limits) (outline : Outline) (commit : Commit) (db : plain.Database) → outline ≡ outline_of db → fits limits (database_shown outline) commit ≡ fits limits db commit
fits_seen limits outline commit db is =
    ap (λ o. fits limits (database_shown o) commit) is ∙ ap (λ b. nat_lt db.version limits.versions && b) (body_seen limits db commit.body)

-- CLOSED ROWS

abbrev pub outlined : plain.Schema → ℕ → List Bool → OutlineTable
outlined schema floor current = record { schema = schema; floor = floor; current = current }

pub closes_within : (limits : Limits) (t : OutlineTable) (change : plain.Change) → fits_table limits change (Some (table_shown t)) ≡ true → All (λ id. id < length t.current) change.closes
closes_within limits t change fit =
    let rows = map row_shown t.current in
    let opened = and_left (list_all (is_open_at rows) change.closes) (list_all (matches t.schema) change.opens) (and_left (list_all (is_open_at rows) change.closes && list_all (matches t.schema) change.opens) (nat_le (length rows + length change.opens) limits.rows) fit) in
    λ k d h. omega (arith, open_ids_within rows change.closes opened k d h, length-map t.current row_shown)

pub closes_before : (bits new : List Bool) (ids : List ℕ) → All (λ id. id < length bits) ids → after_closes (bits ++ new) ids ≡ after_closes bits ids ++ new
closes_before bits new [] h = refl
closes_before bits new (id ∷ ids) h =
    let here : id < length bits = h 0 id (omega arith) in
    ap (λ b. after_closes b ids) (set-append_left bits new id false here)
    ∙ closes_before (set bits id false) new ids (λ k d l. omega (arith, h (suc k) d (omega arith), length-set bits id false))

pub rows_within : (schema : plain.Schema) (floor count : ℕ) (bits opened : List Bool) (ids : List ℕ) (t : OutlineTable) (change : plain.Change) → outlined schema floor bits ≡ t → fits_table standard_limits change (Some (table_shown t)) ≡ true → ids ≡ change.closes → opened ≡ bits ++ replicate count true → All (λ id. id < length opened) ids
rows_within schema floor count bits opened ids t change is fit closes made =
    let within = closes_within standard_limits t change fit in
    subst (λ xs. All (λ id. id < length opened) xs) (sym closes) (λ k d h. omega (arith, within k d h, ap (λ (t : OutlineTable). length t.current) is, ap length made, length-append bits (replicate count true)))

pub rows_changed : (schema : plain.Schema) (floor count : ℕ) (bits opened closed : List Bool) (ids : List ℕ) (t : OutlineTable) (change : plain.Change) → outlined schema floor bits ≡ t → fits_table standard_limits change (Some (table_shown t)) ≡ true → ids ≡ change.closes → opened ≡ bits ++ replicate count true → count ≡ length change.opens → closed ≡ after_closes opened ids → outlined schema floor closed ≡ outline_changed change t
rows_changed schema floor count bits opened closed ids t change is fit closes made many done =
    let within = subst (λ bs. All (λ id. id < length bs) change.closes) (sym (ap (λ (t : OutlineTable). t.current) is)) (closes_within standard_limits t change fit) in
    let rows : closed ≡ after_closes bits change.closes ++ replicate (length change.opens) true =
    done ∙ ap (after_closes opened) closes ∙ ap (λ bs. after_closes bs change.closes) (made ∙ ap (λ n. bits ++ replicate n true) many) ∙ closes_before bits (replicate (length change.opens) true) change.closes within in
    ap (outlined schema floor) rows ∙ ap (outline_changed change) is

-- the bits of rows from this id on, once rows with these ids are closed
abbrev still : ℕ → List ℕ → List Bool → List Bool
still n ids [] = []
still n ids (b ∷ bits) = (if has_id ids n then false else b) ∷ still (n + 1) ids bits

still_none : (n : ℕ) (bits : List Bool) → still n [] bits ≡ bits
still_none n [] = refl
still_none n (b ∷ bits) = ap (λ bs. b ∷ bs) (still_none (n + 1) bits)

still_before : (n id : ℕ) (ids : List ℕ) (bits : List Bool) → id < n → still n (id ∷ ids) bits ≡ still n ids bits
still_before n id ids [] h = refl
still_before n id ids (b ∷ bits) h =
    let apart : nat_eq id n ≡ false = grind (arith, nat_tests) in
    let later = still_before (n + 1) id ids bits (omega arith) in
    rw (apart, later) refl

still_set : (n k id : ℕ) (ids : List ℕ) (bits : List Bool) → n + k ≡ id → still n ids (set bits k false) ≡ still n (id ∷ ids) bits
still_set n k id ids [] e = refl
still_set n zero id ids (b ∷ bits) e =
    let same : nat_eq id n ≡ true = grind (arith, nat_tests) in
    let later = still_before (n + 1) id ids bits (omega arith) in
    rw (same, later) (elim (has_id ids n) as (λ t. (if t then false else false) ∷ still (n + 1) ids bits ≡ false ∷ still (n + 1) ids bits) [ true ↦ refl | false ↦ refl ])
still_set n (suc k) id ids (b ∷ bits) e =
    let apart : nat_eq id n ≡ false = grind (arith, nat_tests) in
    let later = still_set (n + 1) k id ids bits (omega arith) in
    rw (apart, later) refl

still_all : (bits : List Bool) (ids : List ℕ) → after_closes bits ids ≡ still 0 ids bits
still_all bits [] = sym (still_none 0 bits)
still_all bits (id ∷ ids) = still_all (set bits id false) ids ∙ still_set 0 id id ids bits (omega arith)

ended_bit : (v : ℕ) (ids : List ℕ) (n : ℕ) (row : plain.Row) → v < open_end → is_open (row_after v ids (n, row)) ≡ (if has_id ids n then false else is_open row)
ended_bit v ids n row h =
    let ended : nat_eq v open_end ≡ false = grind (arith, nat_tests) in
    elim (has_id ids n) as (λ t. is_open (if t then record row { to = v } else row) ≡ (if t then false else is_open row)) [ true ↦ ended | false ↦ refl ]

kept_bits : (v : ℕ) (ids : List ℕ) (n : ℕ) (rows : List plain.Row) → v < open_end → map is_open (map (row_after v ids) (enumerate_from n rows)) ≡ still n ids (map is_open rows)
kept_bits v ids n [] h = refl
kept_bits v ids n (row ∷ rows) h = let one = ended_bit v ids n row h in let later = kept_bits v ids (n + 1) rows h in cc

new_bits : (v : ℕ) (opens : List plain.Opened) → map is_open (map (new_row v) opens) ≡ replicate (length opens) true
new_bits v [] = refl
new_bits v (o ∷ opens) = ap (λ bs. true ∷ bs) (new_bits v opens)

table_changed : (v : ℕ) (change : plain.Change) (t : plain.Table) → v < open_end → outline_of_table (table_after v change t) ≡ outline_changed change (outline_of_table t)
table_changed v change t h =
    let bits = map-append is_open (map (row_after v change.closes) (enumerate_from 0 t.rows)) (map (new_row v) change.opens)
    ∙ ap (λ bs. bs ++ map is_open (map (new_row v) change.opens)) (kept_bits v change.closes 0 t.rows h ∙ sym (still_all (map is_open t.rows) change.closes))
    ∙ ap (λ bs. after_closes (map is_open t.rows) change.closes ++ bs) (new_bits v change.opens) in
    ap (outlined t.schema t.floor) bits

-- ONE COMMIT MORE

mapped_at : {X Y : Type 0} (f : X → Y) (g : X → X) (h : Y → Y) → ((x : X) → f (g x) ≡ h (f x)) → (xs : List X) (i : ℕ) → map f (at_place i g xs) ≡ at_place i h (map f xs)
mapped_at f g h e [] i = refl
mapped_at f g h e (x ∷ xs) zero = ap (λ y. y ∷ map f xs) (e x)
mapped_at f g h e (x ∷ xs) (suc i) = ap (λ ys. f x ∷ ys) (mapped_at f g h e xs i)

last_more : (o : Option plain.Stamp) (stamps : List plain.Stamp) (s : plain.Stamp) → last_or o (stamps ++ s ∷ []) ≡ Some s
last_more o [] s = refl
last_more o (x ∷ stamps) s = last_more (Some x) stamps s

after_seen : (db : plain.Database) (b : Body) → db.version < 16777215 → (map outline_of_table (after_body (db.version + 1) b db.tables) ≡ (outline_after b (outline_of db)).tables) × (last_moment (db.stamps ++ stamps_of (db.version + 1) b) ≡ (outline_after b (outline_of db)).last)
after_seen db (body.Create schema) h = (map-append outline_of_table db.tables (new_table schema ∷ []), ap last_moment (append-nil db.stamps))
after_seen db (body.Change change) h = (mapped_at outline_of_table (table_after (db.version + 1) change) (outline_changed change) (λ t. table_changed (db.version + 1) change t (omega arith)) db.tables change.table, ap last_moment (append-nil db.stamps))
after_seen db (body.Moment moment) h = (refl, ap (option_map (λ (s : plain.Stamp). s.moment)) (last_more None db.stamps (record { version = db.version + 1; moment = moment })))
after_seen db (body.Forget number floor) h = (mapped_at outline_of_table (with_floor floor) (outline_floored floor) (λ t. refl) db.tables number, ap last_moment (append-nil db.stamps))

abbrev whole : ℕ → List OutlineTable → Option ℤ → Outline
whole version tables last = record { version = version; tables = tables; last = last }

-- the outline after a commit is that of each database of the outline after it
pub applied : (old new : Outline) (commit : Commit) (b : Body) → old.version < 16777215 → commit.body ≡ b → new ≡ outline_after b old → (db : plain.Database) → old ≡ outline_of db → new ≡ outline_of (after_commit db commit)
applied old new commit b few is made db shows =
    let low : db.version < 16777215 = omega (arith, few, ap (λ (o : Outline). o.version) shows) in
    let seen = after_seen db commit.body low in
    made ∙ ap (λ x. outline_after x old) (sym is) ∙ ap (outline_after commit.body) shows
    ∙ sym (ap (λ ts. whole (db.version + 1) ts (last_moment (db.stamps ++ stamps_of (db.version + 1) commit.body))) seen.0 ∙ ap (whole (db.version + 1) (outline_after commit.body (outline_of db)).tables) seen.1)

-- WHAT A COMMIT THAT FITS TELLS

-- the outline is that of a database that the commit fits
abbrev pub Suits : Outline → Commit → Type 0
Suits outline commit = (db : plain.Database) × (outline ≡ outline_of db) × (fits standard_limits db commit ≡ true)

pub few_versions : (outline : Outline) (commit : Commit) → fits standard_limits (database_shown outline) commit ≡ true → outline.version < 16777215
few_versions outline commit fit = ltb-true outline.version 16777215 (and_left (nat_lt outline.version 16777215) (fits_body standard_limits (database_shown outline) commit.body) fit)

pub body_fits : (outline : Outline) (commit : Commit) (b : Body) → fits standard_limits (database_shown outline) commit ≡ true → commit.body ≡ b → fits_body standard_limits (database_shown outline) b ≡ true
body_fits outline commit b fit is = subst (λ x. fits_body standard_limits (database_shown outline) x ≡ true) is (and_right (nat_lt outline.version 16777215) (fits_body standard_limits (database_shown outline) commit.body) fit)

pub table_there : (version floor number : ℕ) (tables : List OutlineTable) → fits_floor version floor (slice_get (map table_shown tables) number) ≡ true → number < length tables
table_there version floor number [] fit = absurd (cc)
table_there version floor zero (t ∷ tables) fit = omega arith
table_there version floor (suc number) (t ∷ tables) fit = let later = table_there version floor number tables fit in omega arith

pub change_there : (change : plain.Change) (number : ℕ) (tables : List OutlineTable) → fits_table standard_limits change (slice_get (map table_shown tables) number) ≡ true → number < length tables
change_there change number [] fit = absurd (cc)
change_there change zero (t ∷ tables) fit = omega arith
change_there change (suc number) (t ∷ tables) fit = let later = change_there change number tables fit in omega arith

pub put_at : (tables : List OutlineTable) (at number : ℕ) (f : OutlineTable → OutlineTable) (found new : OutlineTable) → at ≡ number → number < length tables → found ≡ get_or tables at found → new ≡ f found → set tables at new ≡ at_place number f tables
put_at tables at number f found new same there read made =
    ap (set tables at) (made ∙ ap f read) ∙ ap (λ n. set tables n (f (get_or tables n found))) same ∙ sym (at_place-set tables number f found there)

pub shown_fits : (outline : Outline) (commit : Commit) → Suits outline commit → fits standard_limits (database_shown outline) commit ≡ true
shown_fits outline commit suits = fits_seen standard_limits outline commit suits.0 suits.1 ∙ suits.2

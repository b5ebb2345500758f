-- Each row of a history has a cell for each column of its table.
use Rattle.std.proofs.Common.{◌≡◌, ℕ, zero, suc, ◌+◌, ◌≤◌, Bool, true, false, ◌&&◌, cond, nat_le, List, [], ◌∷◌, ◌++◌, length, map, take, Option, Some, None, refl, ap, sym, subst, ◌∙◌, arith, slice_get}
use Rattle.std.specs.List.{enumerate_from, list_all, AllByRecursion}
use Rattle.std.proofs.lemmas.List.{take_more, map-append, take_all, append_assoc}
use Rattle.std.proofs.lemmas.Option.{slice_get_within, get_or_from_slice_get}
use Rattle.tl_types.proofs.BodyLemmas.{IsKept, commits_kept}
use Rattle.tl_types.proofs.Lists.{and_left, and_right}
use Rattle.tl_types.specs.Plain as plain
use Rattle.tl_types.specs.declared.answers.Field.{Field}
use Rattle.tl_types.specs.declared.cells.Cell.{Cell}
use Rattle.tl_types.specs.declared.schemas.Column.{Column}
use Rattle.tl_types.specs.declared.commits.Commit.{Commit}
use Rattle.tl_types.specs.History.{has_id, row_after, new_row, table_after, nothing, database_of, fits_table, is_of_kind, is_open_at, match_columns, matches, rows_of}
use Rattle.tl_types.specs.Limits.{standard_limits}
use Rattle.std.specs.Bool.{beq}
use Rattle.std.specs.Prelude.{is_some, IsTrue}
use Rattle.tl_types.specs.Legality.{FitInTurn, are_legal}
use Rattle.tl_types.specs.declared.commits.Entry.{Entry}
use Rattle.tl_types.specs.Entries.{commits_of}
use Rattle.tl_types.proofs.EntryLemmas.{fit_behind}
use Rattle.tl_query.specs.Fields.{cell_field}
use Rattle.tl_query.specs.Answers.{cells_of, cells_with}
use Rattle.tl_store.specs.Reading.{columns_of, row_of, cell_of, cell_of_row}

-- each of the rows has so many cells
abbrev pub AreFull : ℕ → List plain.Row → Type 0
AreFull n [] = Unit {0}
AreFull n (row ∷ rows) = (length row.cells ≡ n) × AreFull n rows

-- each row of the table has a cell for each column
abbrev pub HasFullRows : plain.Table → Type 0
HasFullRows table = AreFull (length table.schema.columns) table.rows

-- so has each row of each table
abbrev pub HaveFullRows : List plain.Table → Type 0
HaveFullRows tables = AllByRecursion HasFullRows tables

match_length : (cs : List Column) (xs : List Cell) → match_columns cs xs ≡ true → length xs ≡ length cs
match_length [] [] h = refl
match_length [] (x ∷ xs) h = absurd (cc)
match_length (c ∷ cs) [] h = absurd (cc)
match_length (c ∷ cs) (x ∷ xs) h = ap (λ n. suc n) (match_length cs xs (and_right (is_of_kind c.kind x) (match_columns cs xs) h))

opened_full : (w : ℕ) (schema : plain.Schema) (opens : List plain.Opened) → list_all (matches schema) opens ≡ true → AreFull (length schema.columns) (map (new_row w) opens)
opened_full w schema [] h = tt
opened_full w schema (o ∷ opens) h =
    let one = and_left (matches schema o) (list_all (matches schema) opens) h in
    (match_length schema.columns o.cells (and_left (match_columns schema.columns o.cells) (beq schema.valid (is_some o.period)) one), opened_full w schema opens (and_right (matches schema o) (list_all (matches schema) opens) h))

changed_full : (w n : ℕ) (schema : plain.Schema) (closes : List ℕ) (opens : List plain.Opened) (rows : List plain.Row) → list_all (matches schema) opens ≡ true → AreFull (length schema.columns) rows
    → AreFull (length schema.columns) (map (row_after w closes) (enumerate_from n rows) ++ map (new_row w) opens)
changed_full w n schema closes opens [] m h = opened_full w schema opens m
changed_full w n schema closes opens (r ∷ rows) m h = (closed (has_id closes n), changed_full w (n + 1) schema closes opens rows m h.1) where
  closed : (b : Bool) → length (cond b (record r { to = w }) r).cells ≡ length schema.columns
  closed true = h.0
  closed false = h.0

table_full : (w : ℕ) (change : plain.Change) (t : plain.Table) → fits_table standard_limits change (Some t) ≡ true → HasFullRows t → HasFullRows (table_after w change t)
table_full w change t f h =
    let both = and_left (list_all (is_open_at t.rows) change.closes && list_all (matches t.schema) change.opens) (nat_le (length t.rows + length change.opens) standard_limits.rows) f in
    changed_full w 0 t.schema change.closes change.opens t.rows (and_right (list_all (is_open_at t.rows) change.closes) (list_all (matches t.schema) change.opens) both) h

-- it stays so, whatever a commit does
full_kept : (v : ℕ) → IsKept v HasFullRows HasFullRows
full_kept v = record { made = λ schema. tt; changed = table_full (v + 1); floored = λ floor t f h. h; left = λ t h. h }

full_at : (tables : List plain.Table) (i : ℕ) (t : plain.Table) → HaveFullRows tables → slice_get tables i ≡ Some t → AreFull (length t.schema.columns) t.rows
full_at [] i t h e = absurd (cc)
full_at (x ∷ tables) zero t h e = let s : x ≡ t = cc in rw (← s) h.0
full_at (x ∷ tables) (suc i) t h e = full_at tables i t h.1 e

row_full : (n : ℕ) (rows : List plain.Row) (j : ℕ) (r : plain.Row) → AreFull n rows → slice_get rows j ≡ Some r → length r.cells ≡ n
row_full n [] j r h e = absurd (cc)
row_full n (x ∷ rows) zero r h e = let s : x ≡ r = cc in rw (← s) h.0
row_full n (x ∷ rows) (suc j) r h e = row_full n rows j r h.1 e

full_in : (db : plain.Database) (table row : ℕ) (r : plain.Row) → HaveFullRows db.tables → row_of db table row ≡ Some r → length r.cells ≡ length (columns_of db table)
full_in db table row r full there = by_table (slice_get db.tables table) refl there where
  by_table : (o : Option plain.Table) → slice_get db.tables table ≡ o → slice_get (rows_of db table) row ≡ Some r → length r.cells ≡ length (columns_of db table)
  by_table None e h = absurd (let f = rw e at h in cc)
  by_table (Some t) e h = let f : slice_get t.rows row ≡ Some r = rw e at h in rw e (row_full (length t.schema.columns) t.rows row r (full_at db.tables table t full e) f)

-- a row of a history has a cell for each column
pub full_row : (cs : List Commit) (table row : ℕ) (r : plain.Row) → FitInTurn standard_limits cs → row_of (database_of cs) table row ≡ Some r → length r.cells ≡ length (columns_of (database_of cs) table)
full_row cs table row r f there = full_in (database_of cs) table row r (commits_kept (λ v. HasFullRows) (λ v l. full_kept v) nothing cs tt f) there

-- one cell more
pub cell_more : (db : plain.Database) (table row i : ℕ) (r : plain.Row) (start out new : List Field) (field : Field) (cell : Cell)
    → row_of db table row ≡ Some r → Some cell ≡ cell_of db table row i → out ≡ start ++ map cell_field (take i r.cells) → field ≡ cell_field cell → new ≡ out ++ field ∷ []
    → new ≡ start ++ map cell_field (take (i + 1) r.cells)
cell_more db table row i r start out new field cell there shown was is step =
    let at : slice_get r.cells i ≡ Some cell = sym (shown ∙ ap (cell_of_row i) there) in
    let within = slice_get_within r.cells i cell at in
    let same = get_or_from_slice_get r.cells i cell cell at in
    let more : take (i + 1) r.cells ≡ take i r.cells ++ cell ∷ [] = take_more r.cells i cell within ∙ ap (λ c. take i r.cells ++ c ∷ []) same in
    let front = take i r.cells in
    step ∙ ap (λ f. out ++ f ∷ []) is ∙ ap (λ fs. fs ++ cell_field cell ∷ []) was ∙ append_assoc start (map cell_field front) (cell_field cell ∷ [])
    ∙ ap (λ fs. start ++ fs) (sym (map-append cell_field front (cell ∷ []))) ∙ ap (λ cs. start ++ map cell_field cs) (sym more)

-- all cells
pub cells_all : (start out : List Field) (cells : List Cell) (n : ℕ) → length cells ≤ n → out ≡ start ++ map cell_field (take n cells) → out ≡ start ++ map cell_field cells
cells_all start out cells n all is = is ∙ ap (λ cs. start ++ map cell_field cs) (take_all n cells all)

-- the cells of the row with an id
pub cells_there : (rows : List plain.Row) (id : ℕ) (r : plain.Row) → slice_get rows id ≡ Some r → cells_with rows id ≡ r.cells
cells_there rows id r there = ap cells_of there

-- no row stands past the end
pub no_cells : (rows : List plain.Row) (id : ℕ) → length rows ≤ id → cells_with rows id ≡ []
no_cells [] id h = refl
no_cells (row ∷ rows) zero h = absurd (omega arith)
no_cells (row ∷ rows) (suc id) h = no_cells rows id (omega arith)

-- the commits among entries that are legal fit in turn
pub fitting : (entries : List Entry) (store : List Commit) → IsTrue (are_legal entries) → store ≡ commits_of entries → FitInTurn standard_limits store
fitting entries store legal is = subst (FitInTurn standard_limits) (sym is) (fit_behind [] entries legal)

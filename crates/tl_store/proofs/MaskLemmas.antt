-- Which rows pass a test, by the cells of a column.
use Rattle.std.proofs.Common.{◌≡◌, ℕ, ◌+◌, ◌*◌, ◌<◌, ◌≤◌, pos, Bool, true, false, ◌==◌, ◌⊎◌, inl, inr, zero, suc, take, drop, subst, slice_get, List, [], ◌∷◌, length, map, get_or, Some, None, refl, sym, ap, ◌∙◌, arith}
use Rattle.std.specs.Prelude.{ℤ}
use Rattle.std.proofs.lemmas.List.{length-map, get_or-map, ext_get_or, take-map, drop-map}
use Rattle.std.specs.Option.{option_map}
use Rattle.std.proofs.lemmas.Bool.{cases_lt}
use Rattle.std.proofs.lemmas.Option.{slice_get-get_or, slice_get-map, slice_get_past}
use Rattle.std.proofs.lemmas.Simd.{map-map}
use Rattle.std.proofs.lemmas.Nat.Bits.{bit_at-zero}
use Rattle.tl_types.specs.declared.cells.Cell.{Cell}
use Rattle.tl_types.specs.declared.cells.Cell.TheVariants as cell
use Rattle.tl_types.specs.declared.cells.Cmp.{Cmp}
use Rattle.tl_types.specs.declared.cells.Cmp.TheVariants as cmp
use Rattle.tl_types.specs.declared.cells.ColumnKind.{ColumnKind}
use Rattle.tl_types.specs.declared.cells.ColumnKind.TheVariants.{IntKind, TextKind}
use Rattle.tl_types.specs.declared.schemas.Column.{Column}
use Rattle.tl_types.specs.declared.commits.Commit.{Commit}
use Rattle.tl_types.specs.History.{cell_at, database_of, rows_of}
use Rattle.tl_types.specs.Plain as plain
use Rattle.tl_query.specs.declared.typed_queries.TypedTest.{TypedTest}
use Rattle.tl_query.specs.Passing.{cell_passes, compare_numbers, compare_texts, compare_cells}
use Rattle.tl_lanes.specs.Masks.{passes, IsWordOf}
use Rattle.tl_column.specs.Dictionary.{dictionary_of}
use Rattle.tl_column.specs.Masks.{lane_cmp, code_for}
use Rattle.tl_column.proofs.WordLemmas.{texts_by_code}
use Rattle.tl_store.specs.declared.columns.ColumnData.{ColumnData}
use Rattle.tl_store.specs.declared.columns.ColumnData.TheVariants as held
use Rattle.tl_store.specs.declared.log.LogEntry.{LogEntry}
use Rattle.tl_store.specs.declared.ready.Asked.{Asked}
use Rattle.tl_store.specs.declared.ready.Asked.TheVariants as ask
use Rattle.tl_store.specs.Kept.{Kept, table_of}
use Rattle.tl_store.specs.Log.{history_of, IsHistory}
use Rattle.tl_store.specs.Columns.{cells_in, cell_in, column_length, row_in, rows_in, HoldsKind, AreColumns}
use Rattle.tl_store.specs.Reading.{column_cells, rows_passing, columns_of, columns_of_table, IsIntColumn, some_int}
use Rattle.tl_store.specs.Ready.{passing, number_asked, number_asked_by, text_asked, text_asked_by, code_asked}
use Rattle.tl_store.proofs.RowLemmas.{length-rows_in, rows_in_at, cell_in_row}

-- ROWS BY A COLUMN

length-cells_in : (column : ColumnData) → length (cells_in column) ≡ column_length column
length-cells_in (held.Ints numbers) = length-map numbers cell.Int
length-cells_in (held.Texts texts) = length-map texts cell.Text

cells_in_at : (column : ColumnData) (k : ℕ) (d : Cell) → k < column_length column → get_or (cells_in column) k d ≡ cell_in k column
cells_in_at (held.Ints numbers) k d h = get_or-map cell.Int numbers k (pos 0) d h
cells_in_at (held.Texts texts) k d h = get_or-map cell.Text texts k [] d h

-- what the rows have in a column are the column's cells
pub cells_of_rows : (cs : List ColumnData) (ps : List plain.Period) (fs ts : List ℕ) (place : ℕ) (column : ColumnData) → length ts ≡ length fs → column_length column ≡ length fs → place < length cs → column ≡ get_or cs place column → column_cells (rows_in cs ps 0 fs ts) place ≡ map Some (cells_in column)
cells_of_rows cs ps fs ts place column even long there is =
    let rows = rows_in cs ps 0 fs ts in
    let cells = cells_in column in
    let many : length rows ≡ length fs = length-rows_in cs ps 0 fs ts even in
    ext_get_or None (column_cells rows place) (map Some cells)
    (length-map rows (λ row. cell_at row.cells place) ∙ many ∙ sym long ∙ sym (length-cells_in column) ∙ sym (length-map cells Some))
    (λ k below.
    let inside : k < length rows = let e = length-map rows (λ row. cell_at row.cells place) in omega arith in
    let d = row_in cs ps k (get_or fs k 0) (get_or ts k 0) in
    let low : k < length fs = omega (arith, inside, many) in
    let in_cells : k < length cells = omega (arith, low, long, length-cells_in column) in
    get_or-map (λ row. cell_at row.cells place) rows k d None inside
    ∙ ap (λ row. cell_at row.cells place) (rows_in_at cs ps 0 fs ts k k d 0 0 even low (omega arith))
    ∙ cell_in_row cs k place column there is
    ∙ ap Some (sym (cells_in_at column k (cell_in k column) (omega (arith, low, long))))
    ∙ sym (get_or-map Some cells k (cell_in k column) None in_cells))

-- which rows pass is which cells of the column do
pub passing_rows : (cs : List ColumnData) (ps : List plain.Period) (fs ts : List ℕ) (place : ℕ) (column : ColumnData) (test : TypedTest) → length ts ≡ length fs → column_length column ≡ length fs → place < length cs → column ≡ get_or cs place column → map (λ c. cell_passes test (Some c)) (cells_in column) ≡ rows_passing (rows_in cs ps 0 fs ts) place test
passing_rows cs ps fs ts place column test even long there is =
    sym (map-map (cell_passes test) Some (cells_in column))
    ∙ ap (map (cell_passes test)) (sym (cells_of_rows cs ps fs ts place column even long there is))
    ∙ map-map (cell_passes test) (λ row. cell_at row.cells place) (rows_in cs ps 0 fs ts)

-- WHAT IS ASKED

same_compare : (c : Cmp) (x bound : ℤ) → passes (lane_cmp c) x bound ≡ compare_numbers c x bound
same_compare cmp.Eq x bound = refl
same_compare cmp.Ne x bound = refl
same_compare cmp.Lt x bound = refl
same_compare cmp.Le x bound = refl
same_compare cmp.Gt x bound = refl
same_compare cmp.Ge x bound = refl

compare_each : (c : Cmp) (bound : ℤ) (xs : List ℤ) → map (λ x. passes (lane_cmp c) x bound) xs ≡ map (λ x. compare_numbers c x bound) xs
compare_each c bound [] = refl
compare_each c bound (x ∷ xs) =
    ap (λ b. b ∷ map (λ y. passes (lane_cmp c) y bound) xs) (same_compare c x bound)
    ∙ ap (λ t. compare_numbers c x bound ∷ t) (compare_each c bound xs)

asked_by_number : (c : Cmp) (value : Cell) (xs : List ℤ) → passing (held.Ints xs) (number_asked_by c value) ≡ map (λ x. compare_cells c (cell.Int x) value) xs
asked_by_number c (cell.Int bound) xs = compare_each c bound xs
asked_by_number c (cell.Text text) xs = refl

pub asked_of_numbers : (test : TypedTest) (xs : List ℤ) → passing (held.Ints xs) (number_asked test) ≡ map (λ c. cell_passes test (Some c)) (cells_in (held.Ints xs))
asked_of_numbers test xs =
    asked_by_number test.cmp test.value xs ∙ sym (map-map (λ c. cell_passes test (Some c)) cell.Int xs)

compare_by_code : (c : Cmp) (text : List ℕ) (xs : List (List ℕ)) → passing (held.Texts xs) (code_asked c (code_for (dictionary_of xs) text)) ≡ map (λ x. compare_texts c x text) xs
compare_by_code cmp.Eq text xs = texts_by_code true text xs
compare_by_code cmp.Ne text xs = texts_by_code false text xs
compare_by_code cmp.Lt text xs = refl
compare_by_code cmp.Le text xs = refl
compare_by_code cmp.Gt text xs = refl
compare_by_code cmp.Ge text xs = refl

asked_by_text : (c : Cmp) (value : Cell) (xs : List (List ℕ)) → passing (held.Texts xs) (text_asked_by (code_for (dictionary_of xs)) c value) ≡ map (λ x. compare_cells c (cell.Text x) value) xs
asked_by_text c (cell.Int bound) xs = refl
asked_by_text c (cell.Text text) xs = compare_by_code c text xs

pub asked_of_texts : (test : TypedTest) (xs : List (List ℕ)) → passing (held.Texts xs) (text_asked (code_for (dictionary_of xs)) test) ≡ map (λ c. cell_passes test (Some c)) (cells_in (held.Texts xs))
asked_of_texts test xs =
    asked_by_text test.cmp test.value xs ∙ sym (map-map (λ c. cell_passes test (Some c)) cell.Text xs)

none_set : {X : Type 0} (xs : List X) (n : ℕ) → get_or (map (λ x. false) xs) n false ≡ false
none_set [] n = refl
none_set (x ∷ xs) zero = refl
none_set (x ∷ xs) (suc n) = none_set xs n

-- no bit is set where nothing passes
nothing_passes : {X : Type 0} (xs : List X) (i : ℕ) → IsWordOf (map (λ x. false) xs) i 0
nothing_passes xs i k below = ap (λ b. b == 1) (bit_at-zero k) ∙ sym (none_set xs (64 * i + k))

pub no_number : (column : ColumnData) (what : Asked) (numbers : List ℤ) (equal : Bool) (code i : ℕ) → column ≡ held.Ints numbers → what ≡ ask.Code equal code → IsWordOf (passing column what) i 0
no_number column what numbers equal code i is asks = rw (is, asks) (nothing_passes numbers i)

pub no_other_number : (column : ColumnData) (what : Asked) (numbers : List ℤ) (i : ℕ) → column ≡ held.Ints numbers → what ≡ ask.Other → IsWordOf (passing column what) i 0
no_other_number column what numbers i is asks = rw (is, asks) (nothing_passes numbers i)

pub no_text : (column : ColumnData) (what : Asked) (texts : List (List ℕ)) (c : Cmp) (bound : ℤ) (i : ℕ) → column ≡ held.Texts texts → what ≡ ask.Number c bound → IsWordOf (passing column what) i 0
no_text column what texts c bound i is asks = rw (is, asks) (nothing_passes texts i)

pub no_other_text : (column : ColumnData) (what : Asked) (texts : List (List ℕ)) (i : ℕ) → column ≡ held.Texts texts → what ≡ ask.Other → IsWordOf (passing column what) i 0
no_other_text column what texts i is asks = rw (is, asks) (nothing_passes texts i)

pub numbers_asked : (column : ColumnData) (what : Asked) (numbers : List ℤ) (test : TypedTest) → column ≡ held.Ints numbers → what ≡ number_asked test → passing column what ≡ map (λ c. cell_passes test (Some c)) (cells_in column)
numbers_asked column what numbers test is asks = rw (is, asks) (asked_of_numbers test numbers)

pub texts_asked : (column : ColumnData) (what : Asked) (texts : List (List ℕ)) (test : TypedTest) → column ≡ held.Texts texts → what ≡ text_asked (code_for (dictionary_of texts)) test → passing column what ≡ map (λ c. cell_passes test (Some c)) (cells_in column)
texts_asked column what texts test is asks = rw (is, asks) (asked_of_texts test texts)

-- NUMBERS IN ONE PIECE

-- a part of a column's numbers, as cells
pub ints_shown : (column : ColumnData) (numbers part : List ℤ) (n row : ℕ) → column ≡ held.Ints numbers → part ≡ take n (drop row numbers) → map cell.Int part ≡ take n (drop row (cells_in column))
ints_shown column numbers part n row is shown =
    ap (map cell.Int) shown
    ∙ sym (take-map cell.Int n (drop row numbers))
    ∙ ap (take n) (sym (drop-map cell.Int row numbers))
    ∙ ap (λ c. take n (drop row (cells_in c))) (sym is)

pub no_ints : (column : ColumnData) (texts : List (List ℕ)) → column ≡ held.Texts texts → HoldsKind IntKind column → ⊥
no_ints column texts is kind = subst (λ c. HoldsKind IntKind c) is kind

-- a part of a column's cells, as what rows have
pub ints_of_rows : (rows : List plain.Row) (place : ℕ) (cells : List Cell) (part : List ℤ) (n row : ℕ) → column_cells rows place ≡ map Some cells → map cell.Int part ≡ take n (drop row cells) → map some_int part ≡ take n (drop row (column_cells rows place))
ints_of_rows rows place cells part n row is shown =
    sym (map-map Some cell.Int part)
    ∙ ap (map Some) shown
    ∙ sym (take-map Some n (drop row cells))
    ∙ ap (take n) (sym (drop-map Some row cells))
    ∙ ap (λ t. take n (drop row t)) (sym is)

-- and all of them
pub all_ints_of_rows : (rows : List plain.Row) (place : ℕ) (cells : List Cell) (all : List ℤ) → column_cells rows place ≡ map Some cells → map cell.Int all ≡ cells → map some_int all ≡ column_cells rows place
all_ints_of_rows rows place cells all is shown = sym (map-map Some cell.Int all) ∙ ap (map Some) shown ∙ sym is

-- a column of numbers is there
pub kind_there : (columns : List Column) (place : ℕ) → IsIntColumn columns place → place < length columns
kind_there [] place h = absurd cc
kind_there (column ∷ columns) zero h = omega arith
kind_there (column ∷ columns) (suc place) h = let later = kind_there columns place h in omega arith

same_kind : (k : ColumnKind) (column : ColumnData) → Some k ≡ Some IntKind → HoldsKind k column → HoldsKind IntKind column
same_kind IntKind column e h = h
same_kind TextKind column e h = absurd (cc)

-- a column that the schema says holds numbers does so
pub int_column : (n : ℕ) (names : List Column) (cs : List ColumnData) (place : ℕ) (column : ColumnData) → AreColumns n names cs → IsIntColumn names place → column ≡ get_or cs place column → HoldsKind IntKind column
int_column n [] cs place column h kind is = absurd cc
int_column n (name ∷ names) [] place column h kind is = absurd h
int_column n (name ∷ names) (c ∷ cs) zero column h kind is = subst (λ x. HoldsKind IntKind x) (sym is) (same_kind name.kind c kind h.0)
int_column n (name ∷ names) (c ∷ cs) (suc place) column h kind is = int_column n names cs place column h.2 kind is

-- TABLES OF A STORE

-- a table is shown as what is kept of it
pub record Shown (commits : List Commit) (number : ℕ) (kept : Kept) : Type 0 where
  pub columns : columns_of (database_of commits) number ≡ kept.schema.columns
  pub rows : rows_of (database_of commits) number ≡ kept.rows

module _ (tables : List Kept) (log : List LogEntry) (stamps : List plain.Stamp) (commits : List Commit) (number : ℕ) (history : IsHistory tables log stamps) (is : history_of tables log ≡ commits) where
  made : (database_of commits).tables ≡ map table_of tables
  made = sym (ap (λ cs. (database_of cs).tables) is) ∙ ap (λ (db : plain.Database). db.tables) history.stands

  missing : length tables ≤ number → slice_get (database_of commits).tables number ≡ None
  missing past = ap (λ ts. slice_get ts number) made ∙ slice_get_past (map table_of tables) number (omega (arith, past, length-map tables table_of))

  -- a table that has columns is there
  pub columns_there : 0 < length (columns_of (database_of commits) number) → number < length tables
  columns_there some = by_place (cases_lt number (length tables)) where
    by_place : (number < length tables) ⊎ (length tables ≤ number) → number < length tables
    by_place (inl below) = below
    by_place (inr past) =
        let none : length (columns_of (database_of commits) number) ≡ 0 = ap (λ t. length (columns_of_table t)) (missing past) in
        absurd (omega (arith, none, some))

  -- one that has rows is there
  pub rows_there : 0 < length (rows_of (database_of commits) number) → number < length tables
  rows_there some = by_place (cases_lt number (length tables)) where
    by_place : (number < length tables) ⊎ (length tables ≤ number) → number < length tables
    by_place (inl below) = below
    by_place (inr past) =
        let none : length (rows_of (database_of commits) number) ≡ 0 = rw (missing past) refl in
        absurd (omega (arith, none, some))

  pub table_shown : (shared kept : Kept) → number < length tables → shared ≡ get_or tables number shared → kept ≡ shared → Shown commits number kept
  table_shown shared kept there read same =
      let found : slice_get (database_of commits).tables number ≡ Some (table_of kept) =
      ap (λ ts. slice_get ts number) made
      ∙ slice_get-map table_of tables number
      ∙ ap (option_map table_of) (slice_get-get_or tables number shared there ∙ ap Some (sym read))
      ∙ ap (λ k. Some (table_of k)) (sym same) in
      record { columns = ap columns_of_table found; rows = rw found refl }

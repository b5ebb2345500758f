-- The table of a store that has a number.
use Rattle.std.proofs.Common.{◌≡◌, ℕ, zero, suc, ◌+◌, ◌<◌, ◌≤◌, true, List, [], ◌∷◌, ◌++◌, append_assoc, take, length, slice_get, Option, Some, None, refl, sym, ap, ◌∙◌, arith}
use Rattle.std.specs.Option.{option_map, unwrap_or}
use Rattle.tl_types.specs.declared.cells.Cell.{Cell}
use Rattle.tl_types.specs.declared.commits.Commit.{Commit}
use Rattle.tl_types.specs.Plain as plain
use Rattle.tl_types.specs.History.{database_of, new_table, rows_of}
use Rattle.tl_store.specs.Reading.{cell_of, cell_of_row, row_of}
use Rattle.tl_batch.specs.KeyIndex.{IdsByKey, has_row}
use Rattle.tl_batch.specs.OpenTables.{table_at, IsOpenTable}
use Rattle.tl_batch.specs.Standing.{table_has, rows_match}
use Rattle.tl_batch.proofs.AffectLemmas.{row-cells}

there : (tables : List plain.Table) (n : ℕ) (d : plain.Table) → n < length tables → slice_get tables n ≡ Some (unwrap_or (slice_get tables n) d)
there [] n d h = absurd (omega arith)
there (t ∷ tables) zero d h = refl
there (t ∷ tables) (suc n) d h = there tables n d (omega arith)

schema_same : (o : Option plain.Table) (t : plain.Table) (schema : plain.Schema) → o ≡ Some t → Some schema ≡ option_map (λ u. u.schema) o → schema ≡ t.schema
schema_same None t schema at e = absurd (cc)
schema_same (Some u) t schema at e = cc

pub table_there : (commits : List Commit) (number : ℕ) (schema : plain.Schema) (index : IdsByKey) → number < length (database_of commits).tables → rows_match (slice_get (database_of commits).tables number) ≡ true
    → ((x : Cell) (n : ℕ) → has_row index x n ≡ table_has (slice_get (database_of commits).tables number) x n) → Some schema ≡ option_map (λ t. t.schema) (slice_get (database_of commits).tables number)
    → IsOpenTable commits number schema index
table_there commits number schema index within matching ids known = record {
  at = at;
  same = same;
  matching = sym (ap rows_match at) ∙ matching;
  ids = λ x n. ids x n ∙ (ap (λ o. table_has o x n) at ∙ ap (λ place. Rattle.tl_batch.specs.Standing.is_open_with place x (slice_get (table_at commits number schema).rows n)) (ap (λ s. s.key) (sym same)));
} where
  at : slice_get (database_of commits).tables number ≡ Some (table_at commits number schema)
  at = there (database_of commits).tables number (new_table schema) within

  same : schema ≡ (table_at commits number schema).schema
  same = schema_same (slice_get (database_of commits).tables number) (table_at commits number schema) schema at known

-- the cells of a row of the table, by the store's number of it
pub cells_at : (db : plain.Database) (number row : ℕ) (t : plain.Table) (cells : List Cell) → slice_get db.tables number ≡ Some t → rows_match (Some t) ≡ true → Some cells ≡ option_map (λ (r : plain.Row). r.cells) (row_of db number row) → length cells ≡ length t.schema.columns
cells_at db number row t cells at matching e = row-cells t row cells matching (e ∙ ap (λ rs. option_map (λ (r : plain.Row). r.cells) (slice_get rs row)) rows) where
  rows : rows_of db number ≡ t.rows
  rows = rw at refl

-- CELLS OF A ROW, ONE AFTER THE OTHER

-- a row has a cell for each column
pub row_number : (u t : plain.Table) (row : ℕ) (r : plain.Row) → rows_match (Some u) ≡ true → u ≡ t → slice_get t.rows row ≡ Some r → length r.cells ≡ length t.schema.columns
row_number u t row r matching view e = row-cells t row r.cells (ap (λ v. rows_match (Some v)) (sym view) ∙ matching) (sym (ap (option_map (λ (q : plain.Row). q.cells)) e))

take_read : (xs : List Cell) (i : ℕ) (x : Cell) → slice_get xs i ≡ Some x → take (suc i) xs ≡ take i xs ++ x ∷ []
take_read [] i x e = absurd (cc)
take_read (y ∷ xs) zero x e = let f : y ≡ x = cc in ap (λ z. z ∷ []) f
take_read (y ∷ xs) (suc i) x e = ap (λ zs. y ∷ zs) (take_read xs i x e)

take_whole : (xs : List Cell) (i : ℕ) → length xs ≤ i → take i xs ≡ xs
take_whole [] zero h = refl
take_whole [] (suc i) h = refl
take_whole (x ∷ xs) zero h = absurd (omega arith)
take_whole (x ∷ xs) (suc i) h = ap (λ ys. x ∷ ys) (take_whole xs i (omega arith))

-- the cell of one column more
pub cell_more : (db : plain.Database) (number row column : ℕ) (u t : plain.Table) (cell copy : Cell) (start before after : List Cell) → slice_get db.tables number ≡ Some u → u ≡ t → Some cell ≡ cell_of db number row column → copy ≡ cell → after ≡ before ++ copy ∷ []
    → ((r : plain.Row) → slice_get t.rows row ≡ Some r → before ≡ start ++ take column r.cells) → (r : plain.Row) → slice_get t.rows row ≡ Some r → after ≡ start ++ take (column + 1) r.cells
cell_more db number row column u t cell copy start before after at view is same made e r there =
    made ∙ (ap (λ x. before ++ x ∷ []) same ∙ (ap (λ xs. xs ++ cell ∷ []) (e r there) ∙ (append_assoc start (take column r.cells) (cell ∷ []) ∙ ap (λ xs. start ++ xs) (sym next)))) where
      rows : rows_of db number ≡ t.rows
      rows = rows_here ∙ ap (λ (v : plain.Table). v.rows) view where
        rows_here : rows_of db number ≡ u.rows
        rows_here = rw at refl

      read : slice_get r.cells column ≡ Some cell
      read = sym (is ∙ ap (cell_of_row column) (ap (λ rs. slice_get rs row) rows ∙ there))

      next : take (column + 1) r.cells ≡ take column r.cells ++ cell ∷ []
      next = let s : column + 1 ≡ suc column = omega arith in rw s (take_read r.cells column cell read)

-- the cells of all columns
pub cells_all : (u t : plain.Table) (row i : ℕ) (start now : List Cell) → rows_match (Some u) ≡ true → u ≡ t → length t.schema.columns ≤ i → ((r : plain.Row) → slice_get t.rows row ≡ Some r → now ≡ start ++ take i r.cells)
    → (r : plain.Row) → slice_get t.rows row ≡ Some r → now ≡ start ++ r.cells
cells_all u t row i start now matching view h e r there = e r there ∙ ap (λ xs. start ++ xs) (take_whole r.cells i (let n = row_number u t row r matching view there in omega arith))

-- Rows that are compared with lines, cell by cell and by their periods.
use Rattle.std.proofs.Common.{◌≡◌, ℕ, zero, suc, pos, ◌+◌, ◌<◌, ◌≤◌, Bool, true, false, ◌&&◌, not, List, [], ◌∷◌, length, drop, get_or, slice_get, Option, Some, None, is_some, subst, refl, sym, ap, ◌∙◌, arith}
use Rattle.std.specs.Bool.{beq}
use Rattle.std.specs.List.{list_all}
use Rattle.std.specs.Cmp.Lexicographic.{pointwise}
use Rattle.std.proofs.lemmas.Bool.{and_parts}
use Rattle.std.proofs.lemmas.Option.{slice_get_read}
use Rattle.tl_types.specs.declared.cells.Cell.{Cell}
use Rattle.tl_types.specs.Plain as plain
use Rattle.tl_types.specs.History.{matches, match_columns, same_cell, rows_of}
use Rattle.tl_store.specs.Reading.{cell_of, cell_of_row, row_of}
use Rattle.tl_batch.specs.Standing.{rows_match}
use Rattle.tl_types.specs.Resolving.{same_period}
use Rattle.tl_batch.specs.Syncing.{as_opened, start_of}
use Rattle.tl_batch.proofs.OpenTableLemmas.{row_number}

-- PERIODS

pub row_fits : (t : plain.Table) (row : ℕ) (r : plain.Row) → rows_match (Some t) ≡ true → slice_get t.rows row ≡ Some r → matches t.schema (as_opened r) ≡ true
row_fits t row r matching e = at t.rows row matching e where
  at : (rs : List plain.Row) (i : ℕ) → list_all (λ q. matches t.schema (as_opened q)) rs ≡ true → slice_get rs i ≡ Some r → matches t.schema (as_opened r) ≡ true
  at [] i all f = absurd (cc)
  at (q ∷ rs) zero all f = let same : q ≡ r = cc in ap (λ s. matches t.schema (as_opened s)) (sym same) ∙ (and_parts (matches t.schema (as_opened q)) (list_all (λ s. matches t.schema (as_opened s)) rs) all).0
  at (q ∷ rs) (suc i) all f = at rs i (and_parts (matches t.schema (as_opened q)) (list_all (λ s. matches t.schema (as_opened s)) rs) all).1 f

in_time : (t : plain.Table) (row : ℕ) (r : plain.Row) → rows_match (Some t) ≡ true → slice_get t.rows row ≡ Some r → beq t.schema.valid (is_some r.period) ≡ true
in_time t row r matching e = (and_parts (match_columns t.schema.columns r.cells) (beq t.schema.valid (is_some r.period)) (row_fits t row r matching e)).1

none_is : (p : Option plain.Period) → beq false (is_some p) ≡ true → p ≡ None
none_is None e = refl
none_is (Some p) e = absurd (cc)

-- a row of a table without valid time has no period
pub untimed_row : (u t : plain.Table) (schema : plain.Schema) (valid : Bool) (row : ℕ) (r : plain.Row) → rows_match (Some u) ≡ true → u ≡ t → schema ≡ u.schema → valid ≡ schema.valid → valid ≡ false → slice_get t.rows row ≡ Some r → r.period ≡ None
untimed_row u t schema valid row r matching view same read is e =
    let off : t.schema.valid ≡ false = ap (λ (v : plain.Table). v.schema.valid) (sym view) ∙ (ap (λ (s : plain.Schema). s.valid) (sym same) ∙ (sym read ∙ is)) in
    none_is r.period (ap (λ b. beq b (is_some r.period)) (sym off) ∙ in_time t row r (ap (λ v. rows_match (Some v)) (sym view) ∙ matching) e)

some_differs : (p : Option plain.Period) → beq true (is_some p) ≡ true → same_period p None ≡ false
some_differs None e = absurd (cc)
some_differs (Some p) e = refl

-- a row of a table with valid time has one
pub timed_row : (u t : plain.Table) (schema : plain.Schema) (valid : Bool) (row : ℕ) (r : plain.Row) → rows_match (Some u) ≡ true → u ≡ t → schema ≡ u.schema → valid ≡ schema.valid → valid ≡ true → slice_get t.rows row ≡ Some r → same_period r.period None ≡ false
timed_row u t schema valid row r matching view same read is e =
    let on : t.schema.valid ≡ true = ap (λ (v : plain.Table). v.schema.valid) (sym view) ∙ (ap (λ (s : plain.Schema). s.valid) (sym same) ∙ (sym read ∙ is)) in
    some_differs r.period (ap (λ b. beq b (is_some r.period)) (sym on) ∙ in_time t row r (ap (λ v. rows_match (Some v)) (sym view) ∙ matching) e)

-- CELLS

-- lists of other lengths are not the same
pub lengths_differ : (xs ys : List Cell) → (length xs ≡ length ys → ⊥) → pointwise same_cell xs ys ≡ false
lengths_differ [] [] apart = absurd (apart refl)
lengths_differ [] (y ∷ ys) apart = refl
lengths_differ (x ∷ xs) [] apart = refl
lengths_differ (x ∷ xs) (y ∷ ys) apart = let later = lengths_differ xs ys (λ e. apart (ap suc e)) in rw later (off (same_cell x y)) where
  off : (b : Bool) → (b && false) ≡ false
  off true = refl
  off false = refl

drop_read : (xs : List Cell) (i : ℕ) (x : Cell) → slice_get xs i ≡ Some x → drop i xs ≡ x ∷ drop (i + 1) xs
drop_read [] i x e = absurd (cc)
drop_read (y ∷ xs) zero x e = let f : y ≡ x = cc in ap (λ z. z ∷ xs) f
drop_read (y ∷ xs) (suc i) x e = let s : suc i + 1 ≡ suc (i + 1) = omega arith in drop_read xs i x e ∙ ap (λ k. x ∷ drop k (y ∷ xs)) (sym s)

-- one cell more
pub cells_step : (xs ys : List Cell) (i : ℕ) (x y : Cell) → slice_get xs i ≡ Some x → i < length ys → y ≡ get_or ys i y → pointwise same_cell (drop i xs) (drop i ys) ≡ (same_cell x y && pointwise same_cell (drop (i + 1) xs) (drop (i + 1) ys))
cells_step xs ys i x y at h there =
    ap (λ zs. pointwise same_cell zs (drop i ys)) (drop_read xs i x at) ∙ ap (pointwise same_cell (x ∷ drop (i + 1) xs)) (drop_read ys i y (slice_get_read ys (length ys) i y refl h there))

-- the cell that the store shows
pub shown_at : (db : plain.Database) (number row column : ℕ) (u t : plain.Table) (cell : Cell) → slice_get db.tables number ≡ Some u → u ≡ t → Some cell ≡ cell_of db number row column → (r : plain.Row) → slice_get t.rows row ≡ Some r → slice_get r.cells column ≡ Some cell
shown_at db number row column u t cell at view is r there = sym (is ∙ ap (cell_of_row column) (ap (λ rs. slice_get rs row) rows ∙ there)) where
  rows : rows_of db number ≡ t.rows
  rows = here ∙ ap (λ (v : plain.Table). v.rows) view where
    here : rows_of db number ≡ u.rows
    here = rw at refl

drop_whole : (xs : List Cell) (i : ℕ) → length xs ≤ i → drop i xs ≡ []
drop_whole [] zero h = refl
drop_whole [] (suc i) h = refl
drop_whole (x ∷ xs) zero h = absurd (omega arith)
drop_whole (x ∷ xs) (suc i) h = drop_whole xs i (omega arith)

-- no cell more
pub cells_end : (xs ys : List Cell) (i : ℕ) → length xs ≤ i → length ys ≤ i → pointwise same_cell (drop i xs) (drop i ys) ≡ true
cells_end xs ys i h k = ap (λ zs. pointwise same_cell zs (drop i ys)) (drop_whole xs i h) ∙ ap (pointwise same_cell []) (drop_whole ys i k)

-- no period is the same as none alone
pub no_period : (q p : Option plain.Period) (b : Bool) → q ≡ None → is_some p ≡ not b → b ≡ same_period q p
no_period q None true is e = ap (λ s. same_period s None) (sym is)
no_period q None false is e = absurd (cc)
no_period q (Some p) true is e = absurd (cc)
no_period q (Some p) false is e = ap (λ s. same_period s (Some p)) (sym is)

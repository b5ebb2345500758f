-- The rows of a block are rows of its table.
use Rattle.std.proofs.Common.{◌≡◌, ℕ, zero, suc, ◌+◌, ◌≤◌, ◌==◌, nat_le, nat_lt, ℤ, Bool, true, false, ◌&&◌, cond, List, [], ◌∷◌, length, map, take, drop, get_or, codes, is_some, slice_get, Option, Some, None, Result, Ok, Err, refl, ap, ◌∙◌, arith}
use Rattle.std.specs.List.{find, list_all, zip}
use Rattle.std.specs.Option.{ok_or}
use Rattle.std.specs.Bool.{beq}
use Rattle.std.specs.Str.{is_utf8}
use Rattle.std.proofs.lemmas.Bool.Decides.{nat_tests}
use Rattle.std.proofs.lemmas.List.{length-map}
use Rattle.std.proofs.lemmas.Option.{get_or_from_slice_get, slice_get-get_or}
use Rattle.tl_types.specs.declared.cells.Cell.{Cell}
use Rattle.tl_types.specs.declared.cells.Cell.TheVariants as cell
use Rattle.tl_types.specs.declared.cells.ColumnKind.{ColumnKind}
use Rattle.tl_types.specs.declared.cells.ColumnKind.TheVariants.{IntKind, TextKind}
use Rattle.tl_types.specs.declared.schemas.Column.{Column}
use Rattle.tl_types.specs.declared.limits.Limits.{Limits}
use Rattle.tl_types.specs.declared.batches.Batch.{Batch}
use Rattle.tl_types.specs.Facts.{are_distinct, names_of}
use Rattle.tl_types.specs.History.{match_columns, is_of_kind}
use Rattle.tl_types.specs.Plain as plain
use Rattle.tl_csv.specs.declared.faults.CsvFault.{CsvFault}
use Rattle.tl_csv.specs.declared.faults.CsvFault.TheVariants as fault
use Rattle.tl_csv.specs.declared.layouts.PeriodPlaces.{PeriodPlaces}
use Rattle.tl_csv.specs.declared.needs.BatchKind.{BatchKind}
use Rattle.tl_csv.specs.declared.needs.BatchKind.TheVariants.{PutKind, RemoveKind, SyncKind}
use Rattle.tl_csv.specs.declared.needs.FieldKind.{FieldKind}
use Rattle.tl_csv.specs.declared.needs.FieldKind.TheVariants as kinds
use Rattle.tl_csv.specs.Layouts.{Layout}
use Rattle.tl_csv.specs.Numbers.{integer_of}
use Rattle.tl_csv.specs.Faults.{◌>>=◌, each_from, unless}
use Rattle.tl_csv.specs.Header.{columns_of, has_name, is_named, kind_at, kind_needed, layout_of, not_utf8, period_at, place_at, place_named, place_of}
use Rattle.tl_csv.specs.Block.{batch_with, cell_at, cell_in, cell_of, first_cell, int_cell, is_key_for, key_line, line_of, period_between, period_of, row_of, row_with, rows_of, IsBatchFor}
use Rattle.tl_csv.proofs.LayoutLemmas.{each_at, first_ok, place_name, place_within, then_ok, there_ok}
use Rattle.tl_csv.proofs.NameLemmas.{AreFirst, are_first}

unless_ok : {X : Type 0} (e : Option CsvFault) (r : Result X CsvFault) (x : X) → unless e r ≡ Ok x → r ≡ Ok x
unless_ok None r x h = h
unless_ok (Some e) r x h = absurd (cc)

eq_true : (a b : ℕ) → (a == b) ≡ true → a ≡ b
eq_true a b h = grind (arith, nat_tests)

-- what a layout was made of
pub record IsLaidOut (schema : plain.Schema) (kind : BatchKind) (header : List (List ℕ)) (layout : Layout) : Type 0 where
  pub kinds : each_from (kind_at schema kind header) 0 header ≡ Ok layout.kinds
  pub columns : each_from (place_at header) 0 (columns_of schema kind) ≡ Ok layout.columns
  pub period : period_at header (length layout.columns) schema.valid ≡ Ok layout.period

laid_out : (schema : plain.Schema) (kind : BatchKind) (header : List (List ℕ)) (layout : Layout) → layout_of schema kind header ≡ Ok layout → IsLaidOut schema kind header layout
laid_out schema kind header layout h =
    let (kinds, known, more) = then_ok (each_from (kind_at schema kind header) 0 header) _ layout (unless_ok (not_utf8 header) _ layout h) in
    let (columns, placed, others) = then_ok (each_from (place_at header) 0 (columns_of schema kind)) _ layout more in
    let (period, timed, last) = then_ok (period_at header (length columns) schema.valid) _ layout others in
    let same : record { kinds = kinds; columns = columns; period = period } ≡ layout = cc in
    rw (← same) (record { kinds = known; columns = placed; period = timed })

-- CELLS OF THEIR COLUMNS

int_cell_kind : (rec i : ℕ) (o : Option ℤ) (x : Cell) → int_cell rec i o ≡ Ok x → is_of_kind IntKind x ≡ true
int_cell_kind rec i None x h = absurd (cc)
int_cell_kind rec i (Some z) (cell.Int y) h = refl
int_cell_kind rec i (Some z) (cell.Text t) h = absurd (cc)

text_cell_kind : (t : Bool) (e : CsvFault) (field : List ℕ) (x : Cell) → cond t (Err e) (Ok (cell.Text field)) ≡ Ok x → is_of_kind TextKind x ≡ true
text_cell_kind true e field x h = absurd (cc)
text_cell_kind false e field (cell.Int y) h = absurd (cc)
text_cell_kind false e field (cell.Text t) h = refl

cell_kind : (limits : Limits) (rec i : ℕ) (kind : ColumnKind) (field : List ℕ) (x : Cell) → cell_of limits rec i (kinds.Cell kind) field ≡ Ok x → is_of_kind kind x ≡ true
cell_kind limits rec i kind field x h = by_test (is_utf8 field) refl where
  by_kind : (k : ColumnKind) → is_utf8 field ≡ true → cell_of limits rec i (kinds.Cell k) field ≡ Ok x → is_of_kind k x ≡ true
  by_kind IntKind e g = int_cell_kind rec i (integer_of field) x (rw e at g)
  by_kind TextKind e g = text_cell_kind (nat_lt limits.text (length field)) _ field x (rw e at g)

  by_test : (t : Bool) → is_utf8 field ≡ t → is_of_kind kind x ≡ true
  by_test true e = by_kind kind e h
  by_test false e = absurd (let g = rw e at h in cc)

-- what a field is whose name is that of a column
kind_found : (o : Option FieldKind) (t : Bool) (i : ℕ) (k known : FieldKind) → o ≡ Some known → (ok_or o (fault.HeaderName (i + 1)) >>= λ k. cond t (Err (fault.HeaderTwice (i + 1))) (Ok k)) ≡ Ok k → k ≡ known
kind_found None t i k known e h = absurd (cc)
kind_found (Some l) true i k known e h = absurd (cc)
kind_found (Some l) false i k known e h = cc

column_needed : (schema : plain.Schema) (kind : BatchKind) (c : Column) → find (has_name c.name) (columns_of schema kind) ≡ Some c → kind_needed schema kind c.name ≡ Some (kinds.Cell c.kind)
column_needed schema kind c h = rw h refl

named_needed : (schema : plain.Schema) (kind : BatchKind) (c : Column) (name : List ℕ) → name ≡ c.name → find (has_name c.name) (columns_of schema kind) ≡ Some c → kind_needed schema kind name ≡ Some (kinds.Cell c.kind)
named_needed schema kind c name e h = ap (kind_needed schema kind) e ∙ column_needed schema kind c h

known_kind : (schema : plain.Schema) (kind : BatchKind) (header : List (List ℕ)) (layout : Layout) (c : Column) (place : ℕ) → IsLaidOut schema kind header layout
    → find (has_name c.name) (columns_of schema kind) ≡ Some c → place_of c.name header ≡ Some place → slice_get layout.kinds place ≡ Some (kinds.Cell c.kind)
known_kind schema kind header layout c place l f h =
    let name : List ℕ = get_or header place [] in
    let there : slice_get header place ≡ Some name = slice_get-get_or header place [] (place_within c.name header place h) in
    let (k, stands, known) = each_at (kind_at schema kind header) 0 place header layout.kinds name l.kinds there in
    let same : k ≡ kinds.Cell c.kind = kind_found (kind_needed schema kind name) (is_named name (take (0 + place) header)) (0 + place) k (kinds.Cell c.kind) (named_needed schema kind c name (place_name c.name header place h) f) known in
    stands ∙ ap Some same

-- a field stands beside its kind
beside : (known : List FieldKind) (fields : List (List ℕ)) (i : ℕ) (k : FieldKind) → length fields ≡ length known → slice_get known i ≡ Some k → (field : List ℕ) × (slice_get (zip known fields) i ≡ Some (k, field))
beside [] fields i k n h = absurd (cc)
beside (j ∷ known) [] i k n h = absurd (omega (arith, n))
beside (j ∷ known) (field ∷ fields) zero k n h = let same : j ≡ k = cc in (field, rw same refl)
beside (j ∷ known) (field ∷ fields) (suc i) k n h = beside known fields i k (omega (arith, n)) h

cell_fits : (schema : plain.Schema) (kind : BatchKind) (header : List (List ℕ)) (layout : Layout) (limits : Limits) (rec : ℕ) (fields : List (List ℕ)) (cells : List Cell) (c : Column) (place : ℕ) → IsLaidOut schema kind header layout
    → length fields ≡ length layout.kinds → each_from (cell_at limits rec) 0 (zip layout.kinds fields) ≡ Ok cells
    → find (has_name c.name) (columns_of schema kind) ≡ Some c → place_of c.name header ≡ Some place → is_of_kind c.kind (cell_in cells place) ≡ true
cell_fits schema kind header layout limits rec fields cells c place l n read f h =
    let (field, there) = beside layout.kinds fields place (kinds.Cell c.kind) n (known_kind schema kind header layout c place l f h) in
    let (x, stands, found) = each_at (cell_at limits rec) 0 place (zip layout.kinds fields) cells (kinds.Cell c.kind, field) read there in
    let same : cell_in cells place ≡ x = get_or_from_slice_get cells place x _ stands in
    ap (is_of_kind c.kind) same ∙ cell_kind limits rec (0 + place) c.kind field x found

-- ROWS OF THEIR TABLE

match_more : (c : Column) (columns : List Column) (cells : List Cell) (places rest : List ℕ) (place : ℕ) → places ≡ place ∷ rest → is_of_kind c.kind (cell_in cells place) ≡ true → match_columns columns (map (cell_in cells) rest) ≡ true → match_columns (c ∷ columns) (map (cell_in cells) places) ≡ true
match_more c columns cells places rest place e h g = rw e (rw (h, g) refl)

cells_match : (schema : plain.Schema) (kind : BatchKind) (header : List (List ℕ)) (layout : Layout) (limits : Limits) (rec n : ℕ) (fields : List (List ℕ)) (cells : List Cell) (columns : List Column) (places : List ℕ) → IsLaidOut schema kind header layout
    → length fields ≡ length layout.kinds → each_from (cell_at limits rec) 0 (zip layout.kinds fields) ≡ Ok cells
    → AreFirst (columns_of schema kind) columns → each_from (place_at header) n columns ≡ Ok places → match_columns columns (map (cell_in cells) places) ≡ true
cells_match schema kind header layout limits rec n fields cells [] [] l number read f h = refl
cells_match schema kind header layout limits rec n fields cells [] (p ∷ places) l number read f h = absurd (cc)
cells_match schema kind header layout limits rec n fields cells (c ∷ columns) places l number read f h =
    let (p, ps, found, more, same) = first_ok (place_at header n c) (each_from (place_at header) (n + 1) columns) places h in
    let here = there_ok (place_of c.name header) (fault.HeaderMissing (n + 1)) p found in
    match_more c columns cells places ps p same
    (cell_fits schema kind header layout limits rec fields cells c p l number read f.0 here)
    (cells_match schema kind header layout limits rec (n + 1) fields cells columns ps l number read f.1 more)

-- there is a period exactly where the table has valid time
some_ok : (r : Result plain.Period CsvFault) (o : Option plain.Period) → (r >>= λ p. Ok (Some p)) ≡ Ok o → is_some o ≡ true
some_ok (Err e) o h = absurd (cc)
some_ok (Ok p) None h = absurd (cc)
some_ok (Ok p) (Some q) h = refl

places_there : (header : List (List ℕ)) (n : ℕ) (places : Option PeriodPlaces) → period_at header n true ≡ Ok places → is_some places ≡ true
places_there header n places h =
    let (from, begins, more) = then_ok (place_named header n (codes "valid_from")) _ places h in
    let (to, ends, last) = then_ok (place_named header (n + 1) (codes "valid_to")) _ places more in
    let same : Some (record { from = from; to = to }) ≡ places = cc in
    rw (← same) refl

period_there : (header : List (List ℕ)) (rec n : ℕ) (valid : Bool) (cells : List Cell) (places : Option PeriodPlaces) (o : Option plain.Period) → period_at header n valid ≡ Ok places → period_of rec cells places ≡ Ok o → beq valid (is_some o) ≡ true
period_there header rec n false cells None None h g = refl
period_there header rec n false cells None (Some p) h g = absurd (cc)
period_there header rec n false cells (Some places) o h g = absurd (cc)
period_there header rec n true cells None o h g = absurd (let e = places_there header n None h in cc)
period_there header rec n true cells (Some places) o h g = rw (some_ok (period_between rec (cell_in cells places.from) (cell_in cells places.to)) o g) refl

-- the row is one of these columns, with a period exactly where the table has valid time
abbrev is_row : Bool → List Column → plain.Opened → Bool
is_row valid columns row = match_columns columns row.cells && beq valid (is_some row.period)

row_matches : (schema : plain.Schema) (kind : BatchKind) (header : List (List ℕ)) (limits : Limits) (layout : Layout) (rec : ℕ) (fields : List (List ℕ)) (o : plain.Opened) → AreFirst (columns_of schema kind) (columns_of schema kind)
    → IsLaidOut schema kind header layout → row_of limits layout rec fields ≡ Ok o → is_row schema.valid (columns_of schema kind) o ≡ true
row_matches schema kind header limits layout rec fields o f l h = by_test (length fields == length layout.kinds) refl where
  by_test : (t : Bool) → (length fields == length layout.kinds) ≡ t → is_row schema.valid (columns_of schema kind) o ≡ true
  by_test false e = absurd (let g = rw e at h in cc)
  by_test true e =
      let (cells, read, more) = then_ok (each_from (cell_at limits rec) 0 (zip layout.kinds fields)) (row_with layout rec) o (rw e at h) in
      let (period, timely, last) = then_ok (period_of rec cells layout.period) _ o more in
      let same : record { cells = map (cell_in cells) layout.columns; period = period } ≡ o = cc in
      let number = eq_true (length fields) (length layout.kinds) e in
      let there = cells_match schema kind header layout limits rec 0 fields cells (columns_of schema kind) layout.columns l number read f l.columns in
      let when = period_there header rec (length layout.columns) schema.valid cells layout.period period l.period timely in
      rw (← same) (rw (there, when) refl)

line_fits : (schema : plain.Schema) (kind : BatchKind) (header : List (List ℕ)) (limits : Limits) (layout : Layout) (i : ℕ) (fields : List (List ℕ)) (o : plain.Opened) → AreFirst (columns_of schema kind) (columns_of schema kind)
    → IsLaidOut schema kind header layout → line_of limits layout i fields ≡ Ok o → (is_row schema.valid (columns_of schema kind) o ≡ true) × (i + 1 ≤ limits.batch)
line_fits schema kind header limits layout i fields o f l h = by_test (nat_le limits.batch i) refl where
  by_test : (t : Bool) → nat_le limits.batch i ≡ t → (is_row schema.valid (columns_of schema kind) o ≡ true) × (i + 1 ≤ limits.batch)
  by_test true e = absurd (let g = rw e at h in cc)
  by_test false e = (row_matches schema kind header limits layout (i + 2) fields o f l (rw e at h), grind (arith, nat_tests))

lines_fit : (schema : plain.Schema) (kind : BatchKind) (header : List (List ℕ)) (limits : Limits) (layout : Layout) (n : ℕ) (behind : List (List (List ℕ))) (rows : List plain.Opened) → AreFirst (columns_of schema kind) (columns_of schema kind)
    → IsLaidOut schema kind header layout → n ≤ limits.batch → each_from (line_of limits layout) n behind ≡ Ok rows
    → (list_all (is_row schema.valid (columns_of schema kind)) rows ≡ true) × (n + length rows ≤ limits.batch)
lines_fit schema kind header limits layout n [] [] f l few h = (refl, omega (arith, few))
lines_fit schema kind header limits layout n [] (o ∷ rows) f l few h = absurd (cc)
lines_fit schema kind header limits layout n (fields ∷ behind) rows f l few h =
    let (o, os, found, more, same) = first_ok (line_of limits layout n fields) (each_from (line_of limits layout) (n + 1) behind) rows h in
    let first = line_fits schema kind header limits layout n fields o f l found in
    let others = lines_fit schema kind header limits layout (n + 1) behind os f l first.1 more in
    rw same (rw (first.0, others.0) refl, omega (arith, others.1))

rows_fit : (schema : plain.Schema) (kind : BatchKind) (limits : Limits) (all : List (List (List ℕ))) (rows : List plain.Opened) → are_distinct (names_of (columns_of schema kind)) ≡ true
    → rows_of limits schema kind all ≡ Ok rows → (list_all (is_row schema.valid (columns_of schema kind)) rows ≡ true) × (length rows ≤ limits.batch)
rows_fit schema kind limits [] rows d h = absurd (cc)
rows_fit schema kind limits (header ∷ behind) rows d h =
    let (layout, laid, more) = then_ok (layout_of schema kind header) (λ layout. each_from (line_of limits layout) 0 behind) rows h in
    let fit = lines_fit schema kind header limits layout 0 behind rows (are_first (columns_of schema kind) d) (laid_out schema kind header layout laid) (omega arith) more in
    (fit.0, omega (arith, fit.1))

-- BATCHES OF THEIR TABLE

and_both : (a b : Bool) → (a && b) ≡ true → (a ≡ true) × (b ≡ true)
and_both true b h = (refl, h)
and_both false b h = absurd (cc)

-- a row of one cell is a key
one_cell : (valid t : Bool) (column : Column) (x y : Cell) (xs : List Cell) (p : Option plain.Period) → is_of_kind column.kind x ≡ t
    → is_row valid (column ∷ []) (record { cells = x ∷ y ∷ xs; period = p }) ≡ true → is_row valid (column ∷ []) (record { cells = x ∷ []; period = p }) ≡ true
one_cell valid true column x y xs p e h = absurd (let g = rw e at h in cc)
one_cell valid false column x y xs p e h = absurd (let g = rw e at h in cc)

cells_fit : (valid : Bool) (columns : List Column) (cells : List Cell) (p : Option plain.Period) → 1 ≤ length (take 1 columns)
    → is_row valid (take 1 columns) (record { cells = cells; period = p }) ≡ true → is_row valid (take 1 columns) (record { cells = first_cell cells ∷ []; period = p }) ≡ true
cells_fit valid [] cells p some h = absurd (omega (arith, some))
cells_fit valid (column ∷ columns) [] p some h = absurd (cc)
cells_fit valid (column ∷ columns) (x ∷ []) p some h = h
cells_fit valid (column ∷ columns) (x ∷ y ∷ xs) p some h = one_cell valid (is_of_kind column.kind x) column x y xs p refl h

key_fits : (valid : Bool) (columns : List Column) (o : plain.Opened) → 1 ≤ length (take 1 columns)
    → is_row valid (take 1 columns) o ≡ true → is_row valid (take 1 columns) (record { cells = first_cell o.cells ∷ []; period = o.period }) ≡ true
key_fits valid columns o some h = cells_fit valid columns o.cells o.period some h

keys_fit : (schema : plain.Schema) (rows : List plain.Opened) → 1 ≤ length (columns_of schema RemoveKind)
    → list_all (is_row schema.valid (columns_of schema RemoveKind)) rows ≡ true → list_all (is_key_for schema) (map key_line rows) ≡ true
keys_fit schema [] some h = refl
keys_fit schema (o ∷ rows) some h =
    let (first, others) = and_both (is_row schema.valid (columns_of schema RemoveKind) o) (list_all (is_row schema.valid (columns_of schema RemoveKind)) rows) h in
    rw (key_fits schema.valid (drop schema.key schema.columns) o some first, keys_fit schema rows some others) refl

batch_fits_with : (limits : Limits) (schema : plain.Schema) (kind : BatchKind) (rows : List plain.Opened) → 1 ≤ length (columns_of schema kind)
    → (list_all (is_row schema.valid (columns_of schema kind)) rows ≡ true) × (length rows ≤ limits.batch) → IsBatchFor limits schema kind (batch_with schema kind rows)
batch_fits_with limits schema PutKind rows some fit = (refl, refl, record { matching = fit.0; few = fit.1 })
batch_fits_with limits schema SyncKind rows some fit = (refl, refl, record { matching = fit.0; few = fit.1 })
batch_fits_with limits schema RemoveKind rows some fit = (refl, refl, record { matching = keys_fit schema rows some fit.0; few = rw (length-map rows key_line) fit.1 })

-- a batch is one of its kind for its table
pub batch_fits : (limits : Limits) (schema : plain.Schema) (kind : BatchKind) (records : List (List (List ℕ))) (rows : List plain.Opened) (b : Batch) → 1 ≤ length (columns_of schema kind) → are_distinct (names_of (columns_of schema kind)) ≡ true
    → rows_of limits schema kind records ≡ Ok rows → b ≡ batch_with schema kind rows → IsBatchFor limits schema kind b
batch_fits limits schema kind records rows b some distinct h e = rw e (batch_fits_with limits schema kind rows some (rows_fit schema kind limits records rows distinct h))

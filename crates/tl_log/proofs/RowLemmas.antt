-- A table that is there, and what is read of its rows; lines of rows, one behind the other.
use Rattle.std.proofs.Common.{◌≡◌, ℕ, zero, suc, ◌+◌, ◌≤◌, ◌<◌, arith, List, [], ◌∷◌, ◌++◌, length, drop, Option, Some, None, ap, sym, ◌∙◌, slice_get, refl, Bool, true}
use Rattle.std.specs.Prelude.{option_map, pos, codes}
use Rattle.std.specs.List.{flat_map}
use Rattle.std.proofs.lemmas.List.{append_assoc, append-nil}
use Rattle.std.proofs.lemmas.List.Concat.{flat_map-append}
use Rattle.std.proofs.Math.ListN.{drop_of_length-le}
use Rattle.tl_types.specs.declared.answers.Field.{Field}
use Rattle.tl_types.specs.declared.answers.Field.TheVariants as field
use Rattle.tl_types.specs.declared.cells.Cell.{Cell}
use Rattle.tl_types.specs.declared.schemas.Column.{Column}
use Rattle.tl_types.specs.History.{cell_at, floor_of, rows_of}
use Rattle.tl_types.specs.Plain as plain
use Rattle.tl_query.specs.Fields.{column_field, cell_field}
use Rattle.tl_store.specs.Reading.{cell_of, cell_of_row, columns_of, columns_of_table, has_periods, has_periods_table, row_of, system_period}
use Rattle.tl_store.specs.declared.shown.SystemPeriod.{SystemPeriod}
use Rattle.tl_csv.specs.Answers.{answer_row}
use Rattle.tl_log.specs.Rows.{cells_from, end_field, period_fields, period_names, row_fields, row_lines}

-- THE TABLE

-- what is known of a table that is found
found_is : (db : plain.Database) (n : ℕ) (found : Option plain.Table) (schema : plain.Schema)
    → slice_get db.tables n ≡ found → Some schema ≡ option_map (λ (t : plain.Table). t.schema) found
    → slice_get db.tables n ≡ Some (record { schema = schema; floor = floor_of (slice_get db.tables n); rows = rows_of db n })
found_is db n None schema is h = absurd (cc)
found_is db n (Some t) schema is h =
    let same : schema ≡ t.schema = cc in
    rw (is, same) refl

-- a table whose schema is there
pub table_there : (db : plain.Database) (n : ℕ) (schema : plain.Schema)
    → Some schema ≡ option_map (λ (t : plain.Table). t.schema) (slice_get db.tables n)
    → slice_get db.tables n ≡ Some (record { schema = schema; floor = floor_of (slice_get db.tables n); rows = rows_of db n })
table_there db n schema h = found_is db n (slice_get db.tables n) schema refl h

-- its number is that of a table
pub number_within : (tables : List plain.Table) (n : ℕ) (t : plain.Table)
    → slice_get tables n ≡ Some t → n < length tables
number_within [] n t h = absurd (cc)
number_within (x ∷ xs) zero t h = omega arith
number_within (x ∷ xs) (suc n) t h = let e = number_within xs n t h in omega arith

-- its columns are those of its schema
pub columns_there : (db : plain.Database) (n : ℕ) (t : plain.Table)
    → slice_get db.tables n ≡ Some t → columns_of db n ≡ t.schema.columns
columns_there db n t h = ap columns_of_table h

-- and its rows have periods where its schema says so
pub periods_there : (db : plain.Database) (n : ℕ) (t : plain.Table)
    → slice_get db.tables n ≡ Some t → has_periods db n ≡ t.schema.valid
periods_there db n t h = ap has_periods_table h

-- ROWS

-- the versions of a row that is there
pub shown_versions : (db : plain.Database) (n row : ℕ) (p : SystemPeriod) (r : plain.Row)
    → Some p ≡ option_map system_period (row_of db n row) → slice_get (rows_of db n) row ≡ Some r
    → p ≡ system_period r
shown_versions db n row p r h is = let e = h ∙ ap (option_map system_period) is in cc

-- its valid period
pub shown_period : (db : plain.Database) (n row : ℕ) (p : plain.Period) (r : plain.Row)
    → Some (Some p) ≡ option_map (λ (x : plain.Row). x.period) (row_of db n row) → slice_get (rows_of db n) row ≡ Some r
    → r.period ≡ Some p
shown_period db n row p r h is = let e = h ∙ ap (option_map (λ (x : plain.Row). x.period)) is in cc

-- a cell of it
pub shown_cell : (db : plain.Database) (n row column : ℕ) (x : Cell) (r : plain.Row)
    → Some x ≡ cell_of db n row column → slice_get (rows_of db n) row ≡ Some r
    → cell_at r.cells column ≡ Some x
shown_cell db n row column x r h is = sym (h ∙ ap (cell_of_row column) is)

-- a row whose id is within the rows
pub row_there : (rows : List plain.Row) (n : ℕ) → n < length rows
    → (r : plain.Row) × (slice_get rows n ≡ Some r)
row_there [] n h = absurd (omega (arith, h))
row_there (r ∷ rows) zero h = (r, refl)
row_there (r ∷ rows) (suc n) h = row_there rows n (omega (arith, h))

-- the fields of a row, put behind each other
pub row_whole : (schema : plain.Schema) (id : ℕ) (r : plain.Row) (a b c : List Field)
    → a ≡ [] → b ≡ a ++ field.Number (pos id) ∷ field.Number (pos r.from) ∷ end_field r.to ∷ []
    → c ≡ b ++ period_fields schema.valid r
    → c ++ cells_from r.cells 0 schema.columns ≡ row_fields schema id r
row_whole schema id r a b c none versions period =
    rw (period, versions, none) refl

-- CELLS

-- what stands from a place on is the item there and then what stands behind it
dropped : {X : Type 0} (xs : List X) (n : ℕ) → n < length xs
    → (x : X) × (drop n xs ≡ x ∷ drop (suc n) xs)
dropped [] n h = absurd (omega (arith, h))
dropped (x ∷ xs) zero h = (x, refl)
dropped (x ∷ xs) (suc n) h = dropped xs n (omega (arith, h))

-- the fields of the cells from a place on
cells_step : (cells : List Cell) (columns : List Column) (place : ℕ) (x : Cell)
    → place < length columns → cell_at cells place ≡ Some x
    → cells_from cells place (drop place columns)
    ≡ cell_field x ∷ cells_from cells (place + 1) (drop (place + 1) columns)
cells_step cells columns place x within is =
    let d = dropped columns place within in
    let next : suc place ≡ place + 1 = omega arith in
    ap (cells_from cells place) d.1
    ∙ ap (λ f. f ∷ cells_from cells (place + 1) (drop (suc place) columns)) (ap column_field is)
    ∙ ap (λ m. cell_field x ∷ cells_from cells (place + 1) (drop m columns)) next

-- one cell more
pub cells_more : (cells : List Cell) (columns : List Column) (place : ℕ) (x : Cell) (out new all : List Field)
    → place < length columns → cell_at cells place ≡ Some x → new ≡ out ++ cell_field x ∷ []
    → out ++ cells_from cells place (drop place columns) ≡ all
    → new ++ cells_from cells (place + 1) (drop (place + 1) columns) ≡ all
cells_more cells columns place x out new all within is step whole =
    ap (λ o. o ++ cells_from cells (place + 1) (drop (place + 1) columns)) step
    ∙ append_assoc out (cell_field x ∷ []) (cells_from cells (place + 1) (drop (place + 1) columns))
    ∙ ap (λ l. out ++ l) (sym (cells_step cells columns place x within is)) ∙ whole

-- all cells
pub cells_end : (cells : List Cell) (columns : List Column) (place : ℕ) (out all : List Field)
    → length columns ≤ place → out ++ cells_from cells place (drop place columns) ≡ all → out ≡ all
cells_end cells columns place out all h whole =
    sym (append-nil out)
    ∙ ap (λ l. out ++ l) (sym (ap (cells_from cells place) (drop_of_length-le columns h))) ∙ whole

-- LINES

-- the lines from a row on
lines_step : (schema : plain.Schema) (rows : List plain.Row) (n : ℕ) (r : plain.Row)
    → slice_get rows n ≡ Some r
    → row_lines schema n (drop n rows)
    ≡ answer_row (row_fields schema n r) ++ row_lines schema (n + 1) (drop (n + 1) rows)
lines_step schema rows n r is =
    let next : suc n ≡ n + 1 = omega arith in
    ap (row_lines schema n) (from_there rows n r is)
    ∙ ap (λ m. answer_row (row_fields schema n r) ++ row_lines schema (n + 1) (drop m rows)) next where
      from_there : (rows : List plain.Row) (n : ℕ) (r : plain.Row) → slice_get rows n ≡ Some r
          → drop n rows ≡ r ∷ drop (suc n) rows
      from_there [] n r h = absurd (cc)
      from_there (x ∷ xs) zero r h = cc
      from_there (x ∷ xs) (suc n) r h = from_there xs n r h

-- one row more behind those of a piece
pub lines_more : (schema : plain.Schema) (rows : List plain.Row) (n : ℕ) (old new : List (List Field))
    → n < length rows
    → ((r : plain.Row) → slice_get rows n ≡ Some r → new ≡ old ++ row_fields schema n r ∷ [])
    → flat_map answer_row new ++ row_lines schema (n + 1) (drop (n + 1) rows)
    ≡ flat_map answer_row old ++ row_lines schema n (drop n rows)
lines_more schema rows n old new within put =
    let there = row_there rows n within in
    let r = there.0 in
    let rest = row_lines schema (n + 1) (drop (n + 1) rows) in
    let line = answer_row (row_fields schema n r) in
    ap (λ l. l ++ rest) (ap (flat_map answer_row) (put r there.1)
    ∙ flat_map-append answer_row old (row_fields schema n r ∷ [])
    ∙ ap (λ l. flat_map answer_row old ++ l) (append-nil line))
    ∙ append_assoc (flat_map answer_row old) line rest
    ∙ ap (λ l. flat_map answer_row old ++ l) (sym (lines_step schema rows n r there.1))

-- behind the last row there is no line
pub lines_none : (schema : plain.Schema) (rows : List plain.Row) (n : ℕ) → length rows ≤ n
    → row_lines schema n (drop n rows) ≡ []
lines_none schema rows n h = ap (row_lines schema n) (drop_of_length-le rows h)

-- the names of the ends of valid periods, put behind each other
pub names_put : (old one two : List Field) (valid : Bool) → valid ≡ true
    → one ≡ old ++ field.Text (codes "valid_from") ∷ [] → two ≡ one ++ field.Text (codes "valid_to") ∷ []
    → two ≡ old ++ period_names valid
names_put old one two valid is first second =
    second ∙ ap (λ o. o ++ field.Text (codes "valid_to") ∷ []) first
    ∙ append_assoc old (field.Text (codes "valid_from") ∷ []) (field.Text (codes "valid_to") ∷ [])
    ∙ ap (λ v. old ++ period_names v) (sym is)

-- the line of one row of fields
pub one_line : (row : List Field) (rows : List (List Field)) → rows ≡ row ∷ [] → flat_map answer_row rows ≡ answer_row row
one_line row rows is = ap (flat_map answer_row) is ∙ append-nil (answer_row row)

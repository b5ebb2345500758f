-- The last versions of tables, their current rows, and their lines.
use Rattle.std.proofs.Common.{◌≡◌, ℕ, suc, ◌+◌, ◌-◌, ◌≤◌, ◌<◌, ◌==◌, arith, List, [], ◌++◌, length, take, drop, get_or, Option, Some, None, ap, sym, ◌∙◌, slice_get, refl, cond, set, Bool, true, false}
use Rattle.std.specs.Prelude.{option_map, codes}
use Rattle.std.specs.Fmt.{decimal}
use Rattle.std.proofs.Math.ListN.{drop_of_length-le}
use Rattle.std.proofs.lemmas.List.{take_all, get_or_past, set_past}
use Rattle.std.proofs.lemmas.List.Filters.{length-filter_more}
use Rattle.std.proofs.lemmas.Option.{slice_get-get_or}
use Rattle.tl_types.specs.declared.commits.Commit.{Commit}
use Rattle.tl_types.specs.declared.schemas.Column.{Column}
use Rattle.tl_types.specs.History.{floor_of, is_open, rows_of, open_end}
use Rattle.tl_types.specs.Plain as plain
use Rattle.tl_store.specs.Reading.{row_of, system_period, has_periods}
use Rattle.tl_store.specs.declared.shown.SystemPeriod.{SystemPeriod}
use Rattle.tl_log.specs.Listing.{lasts_from, lasts_after, open_rows, column_line, column_lines, lines_of_tables, table_lines, table_words, yes_word}
use Rattle.tl_log.proofs.LineLemmas.{parted, put_behind, nothing_behind}

-- LAST VERSIONS

-- one commit more
pub lasts_step : (commits : List Commit) (n : ℕ) (c : Commit) (lasts : List ℕ)
    → Some c ≡ slice_get commits (n + 1 - 1)
    → lasts_from (n + 1) (drop n commits) lasts
    ≡ lasts_from (n + 1 + 1) (drop (n + 1) commits) (lasts_after (n + 1) c.body lasts)
lasts_step commits n c lasts h =
    let same : n + 1 - 1 ≡ n = omega arith in
    let next : n + 1 ≡ suc n = omega arith in
    ap (λ cs. lasts_from (n + 1) cs lasts) (parted commits n c (rw same at h))
    ∙ ap (λ m. lasts_from (n + 1 + 1) (drop m commits) (lasts_after (n + 1) c.body lasts)) (sym next)

-- all commits
pub lasts_end : (commits : List Commit) (n : ℕ) (lasts : List ℕ) → length commits ≤ n
    → lasts_from (n + 1) (drop n commits) lasts ≡ lasts
lasts_end commits n lasts h = ap (λ cs. lasts_from (n + 1) cs lasts) (drop_of_length-le commits h)

-- past the end nothing is laid
pub set_past_end : (lasts : List ℕ) (table version : ℕ) → length lasts ≤ table
    → lasts ≡ set lasts table version
set_past_end lasts table version h = sym (set_past lasts table version h)

-- and there is no version
pub version_past : (lasts : List ℕ) (place : ℕ) → length lasts ≤ place → 0 ≡ get_or lasts place 0
version_past lasts place h = sym (get_or_past lasts place 0 h)

-- CURRENT ROWS

-- a row whose period is told
shown_row : (found : Option plain.Row) (p : SystemPeriod) → Some p ≡ option_map system_period found
    → (row : plain.Row) → found ≡ Some row → (p.to == open_end) ≡ is_open row
shown_row None p h row is = cc
shown_row (Some r) p h row is = cc

-- of a row that is there
pub row_open : (db : plain.Database) (table row : ℕ) (p : SystemPeriod) (d : plain.Row)
    → Some p ≡ option_map system_period (row_of db table row) → row < length (rows_of db table)
    → (p.to == open_end) ≡ is_open (get_or (rows_of db table) row d)
row_open db table row p d h within =
    shown_row (row_of db table row) p h (get_or (rows_of db table) row d) (there (rows_of db table) row d within) where
      there : (rows : List plain.Row) (i : ℕ) (d : plain.Row) → i < length rows → slice_get rows i ≡ Some (get_or rows i d)
      there rows i d within = slice_get-get_or rows i d within

-- so many of the first rows are current
pub record Counts (rows : List plain.Row) (i count : ℕ) : Type 0 where
  pub is : count ≡ open_rows (take i rows)
  pub few : count ≤ i

-- none of no rows
pub counts_none : (rows : List plain.Row) → Counts rows 0 0
counts_none rows = record { is = refl; few = omega arith }

-- a row of no cells
pub no_row : plain.Row
no_row = record { cells = []; period = None; from = 0; to = 0 }

-- a count of one row
pub one_more : (b : Bool) (more : ℕ) → more ≡ cond {A = ℕ} b 1 0 → more ≤ 1
one_more true more h = omega (arith, h)
one_more false more h = omega (arith, h)

-- one row more
pub counts_more : (rows : List plain.Row) (i count more : ℕ) (d : plain.Row) → Counts rows i count
    → i < length rows → more ≡ cond {A = ℕ} (is_open (get_or rows i d)) 1 0
    → Counts rows (i + 1) (count + more)
counts_more rows i count more d counts within is =
    let few = counts.few in
    let one = one_more (is_open (get_or rows i d)) more is in
    record {
      is = ap (λ n. n + more) counts.is ∙ ap (λ n. open_rows (take i rows) + n) is
          ∙ sym (length-filter_more is_open rows i d within);
      few = omega arith;
    }

-- all rows
pub open_all : (rows : List plain.Row) (n : ℕ) → length rows ≤ n → open_rows (take n rows) ≡ open_rows rows
open_all rows n h = ap open_rows (take_all n rows h)

-- LINES

-- the words of a table that is there, from what is known of its number
pub words_there : (db : plain.Database) (table last current rows : ℕ) (valid : Bool) (floor : ℕ) (t : plain.Table)
    → slice_get db.tables table ≡ Some t
    → current ≡ open_rows (rows_of db table) → rows ≡ length (rows_of db table) → valid ≡ has_periods db table
    → floor ≡ floor_of (slice_get db.tables table)
    → decimal current ++ (codes "," ++ (decimal rows ++ (codes "," ++ (decimal last ++ (codes "," ++ (yes_word valid ++ (codes "," ++ (decimal floor ++ codes "\n"))))))))
    ≡ table_words last t
words_there db table last current rows valid floor t is current_is rows_is valid_is floor_is =
    rw (current_is, rows_is, valid_is, floor_is, is) refl

-- one column more
pub columns_step : (schema : plain.Schema) (words : List ℕ) (columns : List Column) (i : ℕ) (d : Column)
    → i < length columns
    → column_lines schema words i (drop i columns)
    ≡ column_line schema words i (get_or columns i d) ++ column_lines schema words (i + 1) (drop (i + 1) columns)
columns_step schema words columns i d within =
    let next : i + 1 ≡ suc i = omega arith in
    ap (column_lines schema words i) (parted columns i (get_or columns i d) (sym (slice_get-get_or columns i d within)))
    ∙ ap (λ m. column_line schema words i (get_or columns i d) ++ column_lines schema words (i + 1) (drop m columns)) (sym next)

-- one line more behind what is there
pub columns_more : (schema : plain.Schema) (words : List ℕ) (columns : List Column) (i : ℕ) (d : Column) (out new all : List ℕ)
    → i < length columns → out ++ column_lines schema words i (drop i columns) ≡ all
    → new ≡ out ++ column_line schema words i (get_or columns i d)
    → new ++ column_lines schema words (i + 1) (drop (i + 1) columns) ≡ all
columns_more schema words columns i d out new all within whole is =
    put_behind out new (column_line schema words i (get_or columns i d)) (column_lines schema words i (drop i columns))
    (column_lines schema words (i + 1) (drop (i + 1) columns)) all whole (columns_step schema words columns i d within) is

-- all columns
pub columns_end : (schema : plain.Schema) (words : List ℕ) (columns : List Column) (n : ℕ) (out all : List ℕ) → length columns ≤ n
    → out ++ column_lines schema words n (drop n columns) ≡ all → out ≡ all
columns_end schema words columns n out all h whole =
    nothing_behind out (column_lines schema words n (drop n columns)) all
    (ap (column_lines schema words n) (drop_of_length-le columns h)) whole

-- one table more
pub tables_step : (lasts : List ℕ) (tables : List plain.Table) (n : ℕ) (t : plain.Table) → Some t ≡ slice_get tables n
    → lines_of_tables lasts n (drop n tables)
    ≡ table_lines (get_or lasts n 0) t ++ lines_of_tables lasts (n + 1) (drop (n + 1) tables)
tables_step lasts tables n t h =
    let next : n + 1 ≡ suc n = omega arith in
    ap (lines_of_tables lasts n) (parted tables n t h)
    ∙ ap (λ m. table_lines (get_or lasts n 0) t ++ lines_of_tables lasts (n + 1) (drop m tables)) (sym next)

-- a table of no rows
no_table : plain.Table
no_table = record { schema = record { name = []; columns = []; key = 0; valid = false }; floor = 0; rows = [] }

-- the lines of one table more behind what is there
pub tables_more : (lasts : List ℕ) (tables : List plain.Table) (n : ℕ) (out new all : List ℕ)
    → n < length tables → out ++ lines_of_tables lasts n (drop n tables) ≡ all
    → ((t : plain.Table) → slice_get tables n ≡ Some t → new ≡ out ++ table_lines (get_or lasts n 0) t)
    → new ++ lines_of_tables lasts (n + 1) (drop (n + 1) tables) ≡ all
tables_more lasts tables n out new all within whole put =
    let d = no_table in
    let found = slice_get-get_or tables n d within in
    put_behind out new (table_lines (get_or lasts n 0) (get_or tables n d)) (lines_of_tables lasts n (drop n tables))
    (lines_of_tables lasts (n + 1) (drop (n + 1) tables)) all whole
    (tables_step lasts tables n (get_or tables n d) (sym found)) (put (get_or tables n d) found)

-- all tables
pub tables_end : (lasts : List ℕ) (tables : List plain.Table) (n : ℕ) (out all : List ℕ) → length tables ≤ n
    → out ++ lines_of_tables lasts n (drop n tables) ≡ all → out ≡ all
tables_end lasts tables n out all h whole =
    nothing_behind out (lines_of_tables lasts n (drop n tables)) all
    (ap (lines_of_tables lasts n) (drop_of_length-le tables h)) whole

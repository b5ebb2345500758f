-- What is read of the rows of a table when a plan begins.
use Rattle.std.proofs.Common.{◌≡◌, ℕ, ◌<◌, ℤ, pos, List, length, Option, Some, None, refl, sym, ap, ◌∙◌, subst, slice_get, slice_index_or}
use Rattle.tl_types.specs.declared.cells.Cell.{Cell}
use Rattle.tl_types.specs.declared.cells.Cell.TheVariants as cell
use Rattle.tl_types.specs.History.{cell_at}
use Rattle.tl_types.specs.Plain as plain
use Rattle.tl_query.specs.declared.ast.AggKind.TheVariants as kind
use Rattle.tl_index.specs.Tables.{rows_in}
use Rattle.tl_running.specs.Standing.{number_in}
use Rattle.tl_agg.specs.Columns.{HasKey}
use Rattle.tl_agg.proofs.NumberLemmas.{column_tells, column_long, column_none}
use Rattle.tl_agg.proofs.TallyLemmas.{keys_are, key_told}
use Rattle.tl_watch.specs.Gathering.{RowsOf, ReadsColumns, row_at}
use Rattle.tl_watch.specs.Reading.{IsRow}

pub numbers_long : (of seen : RowsOf) (id : ℕ) (numbers keys : Option (List ℤ)) (ns : List ℤ) → seen ≡ of → ReadsColumns seen numbers keys → numbers ≡ Some ns → id < length (rows_in of.table) → id < length ns
numbers_long of seen id numbers keys ns same reads is l = subst (λ n. id < n) (ap (λ (s : RowsOf). length (rows_in s.table)) (sym same) ∙ sym (column_long (rows_in seen.table) seen.column numbers ns reads.numbers_are is)) l

pub keys_long : (of seen : RowsOf) (id : ℕ) (numbers keys : Option (List ℤ)) (ns : List ℤ) → seen ≡ of → ReadsColumns seen numbers keys → keys ≡ Some ns → id < length (rows_in of.table) → id < length ns
keys_long of seen id numbers keys ns same reads is l =
    subst (λ n. id < n) (ap (λ (s : RowsOf). length (rows_in s.table)) (sym same) ∙ sym (column_long (rows_in seen.table) seen.by (Some ns) ns (keys_are (rows_in seen.table) seen.by keys ns reads.keys_are is) refl)) l

pub number_read : (of seen : RowsOf) (id : ℕ) (numbers keys : Option (List ℤ)) (ns : List ℤ) (n : ℤ) → seen ≡ of → ReadsColumns seen numbers keys → numbers ≡ Some ns → n ≡ slice_index_or ns id (pos 0) → (row : plain.Row) → IsRow (row_at of id) row → number_in of.column row ≡ n
number_read of seen id numbers keys ns n same reads is at = subst (λ (s : RowsOf). (row : plain.Row) → IsRow (row_at s id) row → number_in s.column row ≡ n) same
    (λ row there. (column_tells kind.Count (rows_in seen.table) id seen.column numbers ns n reads.numbers_are is at row there).0)

pub number_none : (of seen : RowsOf) (id : ℕ) (numbers keys : Option (List ℤ)) → seen ≡ of → ReadsColumns seen numbers keys → numbers ≡ None → (row : plain.Row) → IsRow (row_at of id) row → number_in of.column row ≡ pos 0
number_none of seen id numbers keys same reads is row there = ap (λ c. number_in c row) (ap (λ (s : RowsOf). s.column) (sym same) ∙ column_none (rows_in seen.table) seen.column numbers reads.numbers_are is)

key_of : (rows : List plain.Row) (id by : ℕ) (key : Cell) (row : plain.Row) → HasKey rows id by key → slice_get rows id ≡ Some row → cell_at row.cells by ≡ Some key
key_of rows id by key row has there = let same : has.row ≡ row = let e = has.there in cc in ap (λ (r : plain.Row). cell_at r.cells by) (sym same) ∙ has.cell_is

pub key_cell : (of seen : RowsOf) (id by : ℕ) (key : Cell) → seen ≡ of → HasKey (rows_in seen.table) id by key → (row : plain.Row) → IsRow (row_at of id) row → cell_at row.cells by ≡ Some key
key_cell of seen id by key same has = subst (λ (s : RowsOf). (row : plain.Row) → IsRow (row_at s id) row → cell_at row.cells by ≡ Some key) same (λ row there. key_of (rows_in seen.table) id by key row has there)

pub key_read : (of seen : RowsOf) (id by : ℕ) (numbers keys : Option (List ℤ)) (ns : List ℤ) (n : ℤ) → seen ≡ of → of.by ≡ Some by → ReadsColumns seen numbers keys → keys ≡ Some ns → id < length (rows_in of.table) → n ≡ slice_index_or ns id (pos 0) → (row : plain.Row) → IsRow (row_at of id) row → cell_at row.cells by ≡ Some (cell.Int n)
key_read of seen id by numbers keys ns n same by_is reads is l at =
    key_cell of seen id by (cell.Int n) same (key_told (rows_in seen.table) id by seen.by keys ns n (ap (λ (s : RowsOf). s.by) same ∙ by_is) reads.keys_are is (subst (λ m. id < m) (ap (λ (s : RowsOf). length (rows_in s.table)) (sym same)) l) at)

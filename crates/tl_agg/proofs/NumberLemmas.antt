-- The numbers of rows, read off a column.
use Rattle.std.proofs.Common.{◌≡◌, ℕ, zero, suc, ℤ, pos, List, [], ◌∷◌, map, length, Option, Some, None, refl, sym, ap, ◌∙◌, subst, slice_get, slice_index_or}
use Rattle.std.specs.Prelude.{is_some}
use Rattle.std.proofs.lemmas.List.{length-map}
use Rattle.tl_types.specs.declared.cells.Cell.TheVariants as cell
use Rattle.tl_types.specs.Plain as plain
use Rattle.tl_types.specs.History.{cell_at}
use Rattle.tl_query.specs.declared.ast.AggKind.{AggKind}
use Rattle.tl_query.specs.declared.ast.AggKind.TheVariants as kind
use Rattle.tl_query.specs.Aggregates.{number_of}
use Rattle.tl_store.specs.Reading.{column_cells, some_int}
use Rattle.tl_running.specs.Standing.{Suits}
use Rattle.tl_agg.specs.Columns.{AreNumbers}
use Rattle.tl_running.specs.Telling.{TellsNumber}

pub cell_there : (rows : List plain.Row) (id column : ℕ) (ns : List ℤ) (r : plain.Row) → map some_int ns ≡ column_cells rows column → slice_get rows id ≡ Some r → cell_at r.cells column ≡ Some (cell.Int (slice_index_or ns id (pos 0)))
cell_there [] id column ns r are is = absurd (cc)
cell_there (x ∷ rows) zero column [] r are is = absurd (cc)
cell_there (x ∷ rows) zero column (n ∷ ns) r are is =
    let e : x ≡ r = cc in
    let h : Some (cell.Int n) ≡ cell_at x.cells column = cc in
    sym (h ∙ ap (λ (y : plain.Row). cell_at y.cells column) e)
cell_there (x ∷ rows) (suc id) column [] r are is = absurd (cc)
cell_there (x ∷ rows) (suc id) column (n ∷ ns) r are is = cell_there rows id column ns r (cc) is

suits_number : (k : AggKind) (column : ℕ) (n : ℤ) (r : plain.Row) → cell_at r.cells column ≡ Some (cell.Int n) → Suits k (Some column) (r ∷ [])
suits_number kind.Count column n r is = tt
suits_number kind.Sum column n r is = (ap (λ c. is_some (number_of c)) is, tt)
suits_number kind.Avg column n r is = (ap (λ c. is_some (number_of c)) is, tt)
suits_number kind.Min column n r is = (ap (λ c. is_some (number_of c)) is, tt)
suits_number kind.Max column n r is = (ap (λ c. is_some (number_of c)) is, tt)

-- a number that is read off the column's is that of the row
pub column_tells : (k : AggKind) (rows : List plain.Row) (id : ℕ) (column : Option ℕ) (numbers : Option (List ℤ)) (ns : List ℤ) (n : ℤ) → AreNumbers rows column numbers → numbers ≡ Some ns → n ≡ slice_index_or ns id (pos 0) → TellsNumber k column rows id n
column_tells k rows id None None ns n are is at = absurd (cc)
column_tells k rows id None (Some ms) ns n are is at = absurd are
column_tells k rows id (Some column) None ns n are is at = absurd are
column_tells k rows id (Some column) (Some ms) ns n are is at = λ r here.
    let same : ms ≡ ns = cc in
    let h = cell_there rows id column ns r (subst (λ l. map some_int l ≡ column_cells rows column) same are) here ∙ ap (λ i. Some (cell.Int i)) (sym at) in
    (rw h refl, suits_number k column n r h)

-- each row has one there
pub column_long : (rows : List plain.Row) (column : Option ℕ) (numbers : Option (List ℤ)) (ns : List ℤ) → AreNumbers rows column numbers → numbers ≡ Some ns → length ns ≡ length rows
column_long rows None None ns are is = absurd (cc)
column_long rows None (Some ms) ns are is = absurd are
column_long rows (Some column) None ns are is = absurd are
column_long rows (Some column) (Some ms) ns are is =
    let same : ms ≡ ns = cc in
    let all = subst (λ l. map some_int l ≡ column_cells rows column) same are in
    sym (length-map ns some_int) ∙ ap length all ∙ length-map rows (λ (row : plain.Row). cell_at row.cells column)

-- where there are none, no column is asked for
pub column_none : (rows : List plain.Row) (column : Option ℕ) (numbers : Option (List ℤ)) → AreNumbers rows column numbers → numbers ≡ None → column ≡ None
column_none rows None None are is = refl
column_none rows None (Some ms) are is = absurd are
column_none rows (Some column) None are is = absurd are
column_none rows (Some column) (Some ms) are is = absurd (cc)

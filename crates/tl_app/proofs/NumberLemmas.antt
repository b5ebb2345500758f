-- The numbers of rows, read off a column.
use Rattle.std.proofs.Common.{◌≡◌, ℕ, zero, suc, ℤ, List, [], ◌∷◌, map, take, drop, Some, refl, sym, ap, ◌∙◌, slice_get}
use Rattle.std.specs.Prelude.{is_some}
use Rattle.tl_types.specs.declared.cells.Cell.TheVariants as cell
use Rattle.tl_types.specs.Plain as plain
use Rattle.tl_types.specs.History.{cell_at}
use Rattle.tl_query.specs.declared.ast.AggKind.{AggKind}
use Rattle.tl_query.specs.declared.ast.AggKind.TheVariants as kind
use Rattle.tl_query.specs.Aggregates.{number_of}
use Rattle.tl_store.specs.Reading.{column_cells, some_int}
use Rattle.tl_running.specs.Standing.{Suits}
use Rattle.tl_running.specs.Telling.{TellsNumber}

head_is : (rows : List plain.Row) (id k column : ℕ) (n : ℤ) (ns : List ℤ) (r : plain.Row) → map some_int (n ∷ ns) ≡ take k (drop id (column_cells rows column)) → slice_get rows id ≡ Some r → cell_at r.cells column ≡ Some (cell.Int n)
head_is [] id k column n ns r are is = absurd (cc)
head_is (x ∷ rows) zero zero column n ns r are is = absurd (cc)
head_is (x ∷ rows) zero (suc k) column n ns r are is =
    let e : x ≡ r = cc in
    let h : Some (cell.Int n) ≡ cell_at x.cells column = cc in
    sym (h ∙ ap (λ (y : plain.Row). cell_at y.cells column) e)
head_is (x ∷ rows) (suc id) k column n ns r are is = head_is rows id k column n ns r are is

suits_number : (k : AggKind) (column : ℕ) (n : ℤ) (r : plain.Row) → cell_at r.cells column ≡ Some (cell.Int n) → Suits k (Some column) (r ∷ [])
suits_number kind.Count column n r is = tt
suits_number kind.Sum column n r is = (ap (λ c. is_some (number_of c)) is, tt)
suits_number kind.Avg column n r is = (ap (λ c. is_some (number_of c)) is, tt)
suits_number kind.Min column n r is = (ap (λ c. is_some (number_of c)) is, tt)
suits_number kind.Max column n r is = (ap (λ c. is_some (number_of c)) is, tt)

-- the first of the numbers from a row on is that of the row
pub first_tells : (k : AggKind) (rows : List plain.Row) (id m column : ℕ) (n : ℤ) (ns : List ℤ) → map some_int ns ≡ take m (drop id (column_cells rows column)) → slice_get ns 0 ≡ Some n → TellsNumber k (Some column) rows id n
first_tells k rows id m column n [] are first = absurd (cc)
first_tells k rows id m column n (x ∷ ns) are first = λ r is.
    let e : x ≡ n = cc in
    let h = head_is rows id m column x ns r are is ∙ ap (λ i. Some (cell.Int i)) e in
    (rw h refl, suits_number k column n r h)

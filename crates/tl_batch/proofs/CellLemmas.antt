-- The order of cells, and copies of cells.
use Rattle.std.proofs.Common.{◌≡◌, List, [], ◌∷◌, refl}
use Rattle.std.specs.List.{AllZip}
use Rattle.std.specs.Ordering.{is_eq}
use Rattle.std.proofs.lemmas.Map.Text.{is_eq-slice_cmp}
use Rattle.tl_types.specs.declared.cells.Cell.{Cell}
use Rattle.tl_types.specs.declared.cells.Cell.TheVariants as cell
use Rattle.tl_types.specs.contracts.cells.CellOrd.TheImpl as cells
use Rattle.tl_types.specs.History.{same_cell}

-- cells that are ordered as equal are the same
pub cell_order : (x y : Cell) → is_eq (cells.cmp-value.it x y) ≡ same_cell x y
cell_order (cell.Int i) (cell.Int j) = refl
cell_order (cell.Int i) (cell.Text t) = refl
cell_order (cell.Text s) (cell.Int j) = refl
cell_order (cell.Text s) (cell.Text t) = is_eq-slice_cmp s t

-- copies of cells are the cells
pub cells_copied : (cells copy : List Cell) → AllZip (λ v w. w ≡ v) cells copy → copy ≡ cells
cells_copied [] [] h = refl
cells_copied [] (y ∷ ys) h = absurd (h)
cells_copied (x ∷ xs) [] h = absurd (h)
cells_copied (x ∷ xs) (y ∷ ys) h = let e = h.0 in let f = cells_copied xs ys h.1 in cc

-- The rows that have a cell in a column.
use Rattle.std.proofs.Common.{◌≡◌, ℕ, Bool, true, false, cond, List, [], ◌∷◌, map, Option, Some, None, refl, ap}
use Rattle.std.specs.List.{filter, filter_map, cons_option}
use Rattle.tl_types.specs.declared.cells.Cell.{Cell}
use Rattle.tl_types.specs.History.{same_cell, cell_at}
use Rattle.tl_types.specs.Resolving.{same_key}
use Rattle.tl_types.specs.Plain as plain
use Rattle.tl_plain.specs.Keyed.{keyed}

module _ {Y : Type 0} (column : ℕ) (x : Cell) (h : ℕ × plain.Row → Option Y) where
  -- where a row without the cell gives nothing, the rows that have it give what all give
  pub given_by_key : ((r : ℕ × plain.Row) → same_key (Some x) (cell_at r.1.cells column) ≡ false → h r ≡ None) → (rs : List (ℕ × plain.Row)) → filter_map h (map (λ k. k.1) (filter (λ k. same_cell x k.0) (filter_map (keyed column) rs))) ≡ filter_map h rs
  given_by_key none [] = refl
  given_by_key none (r ∷ rs) = by_cell (cell_at r.1.cells column) refl (given_by_key none rs) where
    without : h r ≡ None → filter_map h (map (λ k. k.1) (filter (λ k. same_cell x k.0) (filter_map (keyed column) rs))) ≡ filter_map h rs → filter_map h (map (λ k. k.1) (filter (λ k. same_cell x k.0) (filter_map (keyed column) rs))) ≡ filter_map h (r ∷ rs)
    without e later = rw e later

    by_test : (y : Cell) (b : Bool) → same_cell x y ≡ b → (same_cell x y ≡ false → h r ≡ None) → filter_map h (map (λ k. k.1) (filter (λ k. same_cell x k.0) (filter_map (keyed column) rs))) ≡ filter_map h rs → filter_map h (map (λ k. k.1) (cond b ((y, r) ∷ filter (λ k. same_cell x k.0) (filter_map (keyed column) rs)) (filter (λ k. same_cell x k.0) (filter_map (keyed column) rs)))) ≡ filter_map h (r ∷ rs)
    by_test y true e away later = ap (λ ys. cons_option (h r) ys) later
    by_test y false e away later = without (away e) later

    by_cell : (o : Option Cell) → cell_at r.1.cells column ≡ o → filter_map h (map (λ k. k.1) (filter (λ k. same_cell x k.0) (filter_map (keyed column) rs))) ≡ filter_map h rs → filter_map h (map (λ k. k.1) (filter (λ k. same_cell x k.0) (filter_map (keyed column) (r ∷ rs)))) ≡ filter_map h (r ∷ rs)
    by_cell None e later = rw e (without (none r (rw e refl)) later)
    by_cell (Some y) e later = rw e (by_test y (same_cell x y) refl (λ away. none r (rw e away)) later)

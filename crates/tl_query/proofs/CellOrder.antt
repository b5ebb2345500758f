-- The order of cells, and when two are the same.
use Rattle.std.proofs.Common.{◌≡◌, ℕ, true, ◌&&◌, not, ◌==◌, List, refl, sym, ap, ◌∙◌}
use mathlib.Core.Path.{fun_ext}
use Rattle.std.specs.declared.cmp.Ordering.{Ordering}
use Rattle.std.specs.declared.cmp.Ordering.TheVariants.{Less, Equal, Greater}
use Rattle.std.specs.Ordering.{is_lt, is_eq, ordering_reverse}
use Rattle.std.specs.Cmp.{IsTotalOrder, IsStrictWeakOrder, int_cmp_total, int_eq_equiv}
use Rattle.std.proofs.lemmas.Slice.Eq.{bytes_eq-Decides}
use Rattle.std.specs.Cmp.Lexicographic.{pointwise, nat_list_cmp_total, nat_list_eq_equiv}
use Rattle.std.proofs.lemmas.List.Sorted.{ranks_by}
use Rattle.std.proofs.lemmas.Bool.Decides.{Decides-int_eq}
use Rattle.std.proofs.lemmas.Map.Text.{is_eq-slice_cmp}
use Rattle.tl_types.specs.declared.cells.Cell.{Cell}
use Rattle.tl_types.specs.declared.cells.Cell.TheVariants as cell
use Rattle.tl_types.specs.contracts.cells.CellOrd.TheImpl as cells
use Rattle.tl_types.specs.contracts.cells.CellPartialEq.TheImpl as same
use Rattle.tl_types.specs.History.{same_cell}
use Rattle.tl_types.proofs.ValidEventOrder.{int_before}
use Rattle.tl_query.specs.Ordered.{cell_before}

turned : (x y : Cell) → cells.cmp-value.it x y ≡ ordering_reverse (cells.cmp-value.it y x)
turned (cell.Int i) (cell.Int j) = int_cmp_total.antisymm i j
turned (cell.Int i) (cell.Text t) = refl
turned (cell.Text s) (cell.Int j) = refl
turned (cell.Text s) (cell.Text t) = nat_list_cmp_total.antisymm s t

before_both : (x y z : Cell) → cells.cmp-value.it x y ≡ Less → cells.cmp-value.it y z ≡ Less → cells.cmp-value.it x z ≡ Less
before_both (cell.Int i) (cell.Int j) (cell.Int k) h l = int_cmp_total.trans i j k h l
before_both (cell.Int i) (cell.Int j) (cell.Text t) h l = refl
before_both (cell.Int i) (cell.Text s) (cell.Int k) h l = absurd (cc)
before_both (cell.Int i) (cell.Text s) (cell.Text t) h l = refl
before_both (cell.Text r) (cell.Int j) z h l = absurd (cc)
before_both (cell.Text r) (cell.Text s) (cell.Int k) h l = absurd (cc)
before_both (cell.Text r) (cell.Text s) (cell.Text t) h l = nat_list_cmp_total.trans r s t h l

alike : (x y z : Cell) → cells.cmp-value.it x y ≡ Equal → cells.cmp-value.it x z ≡ cells.cmp-value.it y z
alike (cell.Int i) (cell.Int j) (cell.Int k) h = int_cmp_total.congr i j k h
alike (cell.Int i) (cell.Int j) (cell.Text t) h = refl
alike (cell.Int i) (cell.Text s) z h = absurd (cc)
alike (cell.Text r) (cell.Int j) z h = absurd (cc)
alike (cell.Text r) (cell.Text s) (cell.Int k) h = refl
alike (cell.Text r) (cell.Text s) (cell.Text t) h = nat_list_cmp_total.congr r s t h

pub cell_total : IsTotalOrder cells.cmp-value.it
cell_total = record { antisymm = turned; trans = before_both; congr = alike }

pub cell_before_is : (x y : Cell) → is_lt (cells.cmp-value.it x y) ≡ cell_before x y
cell_before_is (cell.Int i) (cell.Int j) = int_before i j
cell_before_is (cell.Int i) (cell.Text t) = refl
cell_before_is (cell.Text s) (cell.Int j) = refl
cell_before_is (cell.Text s) (cell.Text t) = refl

pub cell_same_is : (x y : Cell) → is_eq (cells.cmp-value.it x y) ≡ same_cell x y
cell_same_is (cell.Int i) (cell.Int j) = refl
cell_same_is (cell.Int i) (cell.Text t) = refl
cell_same_is (cell.Text s) (cell.Int j) = refl
cell_same_is (cell.Text s) (cell.Text t) = is_eq-slice_cmp s t

pub same_order : (λ x y. is_lt (cells.cmp-value.it x y)) ≡ cell_before
same_order = fun_ext (λ x. fun_ext (λ y. cell_before_is x y))

pub cell_symm : (x y : Cell) → same_cell x y ≡ same_cell y x
cell_symm (cell.Int i) (cell.Int j) = int_eq_equiv.symm i j
cell_symm (cell.Int i) (cell.Text t) = refl
cell_symm (cell.Text s) (cell.Int j) = refl
cell_symm (cell.Text s) (cell.Text t) = nat_list_eq_equiv.symm s t

pub cell_ranks : IsStrictWeakOrder cell_before
cell_ranks = record {
  one_way = λ x y h. sym (cell_before_is y x) ∙ ranks.one_way x y (cell_before_is x y ∙ h);
  chain = λ x y z h l. sym (cell_before_is x z) ∙ ranks.chain x y z (cell_before_is x y ∙ h) (cell_before_is y z ∙ l);
} where
  ranks : IsStrictWeakOrder (λ (x y : Cell). is_lt (cells.cmp-value.it x y))
  ranks = ranks_by cell_total (λ (x : Cell). x)

-- neither comes before the other where they are the same
pub cell_level : (x y : Cell) → (not (cell_before x y) && not (cell_before y x)) ≡ same_cell x y
cell_level x y = ap (λ b. not b && not (cell_before y x)) (sym (cell_before_is x y)) ∙ ap (λ b. not (is_lt (cells.cmp-value.it x y)) && not b) (sym (cell_before_is y x)) ∙ ap (λ r. not (is_lt (cells.cmp-value.it x y)) && not (is_lt r)) (cell_total.antisymm y x) ∙ level (cells.cmp-value.it x y) ∙ cell_same_is x y where
  level : (r : Ordering) → (not (is_lt r) && not (is_lt (ordering_reverse r))) ≡ is_eq r
  level Less = refl
  level Equal = refl
  level Greater = refl

same_bytes-is : (s t : List ℕ) → pointwise ◌==◌ s t ≡ true → s ≡ t
same_bytes-is s t h = (bytes_eq-Decides s t).0 h

-- cells that are the same are equal
pub cell_equal : (x y : Cell) → same_cell x y ≡ true → x ≡ y
cell_equal (cell.Int i) (cell.Int j) h = ap cell.Int ((Decides-int_eq i j).0 h)
cell_equal (cell.Int i) (cell.Text t) h = absurd (cc)
cell_equal (cell.Text s) (cell.Int j) h = absurd (cc)
cell_equal (cell.Text s) (cell.Text t) h = ap cell.Text (same_bytes-is s t h)

pub cell_itself : (x : Cell) → same_cell x x ≡ true
cell_itself (cell.Int i) = int_eq_equiv.refl i
cell_itself (cell.Text s) = nat_list_eq_equiv.refl s

-- THE DERIVED TESTS

pub eq_is : (x y : Cell) → same.eq-value.it x y ≡ same_cell x y
eq_is (cell.Int i) (cell.Int j) = refl
eq_is (cell.Int i) (cell.Text t) = refl
eq_is (cell.Text s) (cell.Int j) = refl
eq_is (cell.Text s) (cell.Text t) = refl

pub ruleset same_cells = (eq_is)

pub ruleset cells_before = (cell_before_is)

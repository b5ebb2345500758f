-- What is found at a value in a map, and the values of a map in order.
use Rattle.std.proofs.Common.{◌≡◌, true, cond, List, [], ◌∷◌, map, Option, refl, sym, ap, ◌∙◌, arith}
use Rattle.std.specs.List.{AllByRecursion}
use Rattle.std.specs.Map.{lookup}
use Rattle.std.specs.BTreeMap.{is_at}
use Rattle.std.specs.declared.cmp.Ordering.TheVariants.{Less}
use Rattle.std.specs.Ordering.{is_lt}
use Rattle.std.specs.List.Sorted.{IsStrictlySortedBy}
use Rattle.tl_types.specs.declared.cells.Cell.{Cell}
use Rattle.tl_types.specs.contracts.cells.CellOrd.TheImpl as cells
use Rattle.tl_types.specs.History.{same_cell}
use Rattle.tl_query.specs.Ordered.{Rises, cell_before}
use Rattle.tl_query.proofs.CellOrder.{cell_before_is, cell_same_is, cell_symm}

found : {X : Type 0} (x : Cell) (entries : List (Cell × X)) → lookup (is_at (cells.cmp-value.it x)) entries ≡ lookup (same_cell x) entries
found x [] = refl
found x (e ∷ entries) = grind (arith, cell_same_is x e.0, found x entries)

-- what is found at a key
pub found_is : {X : Type 0} (x : Cell) (entries all : List (Cell × X)) (o : Option X) → o ≡ lookup (is_at (cells.cmp-value.it x)) entries → entries ≡ all → o ≡ lookup (same_cell x) all
found_is x entries all o e view = e ∙ (found x entries ∙ ap (lookup (same_cell x)) view)

-- what is found after a change at one key
pub changed_at : {X : Type 0} (key copy : Cell) (w : Option X) (entries new all : List (Cell × X)) → copy ≡ key
    → ((q : Cell) → lookup (is_at (cells.cmp-value.it q)) new ≡ cond (is_at (cells.cmp-value.it copy) q) w (lookup (is_at (cells.cmp-value.it q)) entries)) → entries ≡ all
    → (x : Cell) → lookup (same_cell x) new ≡ cond (same_cell x key) w (lookup (same_cell x) all)
changed_at key copy w entries new all same update view x = grind (arith, found x new, cell_same_is copy x, cell_symm copy x, found x entries)

-- the keys of a map rise
all_keys : {X : Type 0} (x : Cell) (ys : List (Cell × X)) → AllByRecursion (λ y. cells.cmp-value.it x y ≡ Less) (map (λ (e : Cell × X). e.0) ys) → AllByRecursion (λ c. cell_before x c ≡ true) (map (λ (e : Cell × X). e.0) ys)
all_keys x [] all = tt
all_keys x (y ∷ ys) all = (sym (cell_before_is x y.0) ∙ ap is_lt all.0, all_keys x ys all.1)

pub rises_keys : {X : Type 0} (xs : List (Cell × X)) → IsStrictlySortedBy cells.cmp-value.it (map (λ (e : Cell × X). e.0) xs) → Rises (map (λ (e : Cell × X). e.0) xs)
unfolding IsStrictlySortedBy
rises_keys [] up = tt
rises_keys (x ∷ xs) up = (all_keys x.0 xs up.0, rises_keys xs up.1)

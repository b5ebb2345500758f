-- Lists in order.
use Rattle.std.specs.Prelude.{ℕ, Bool, true, false, ◌&&◌, ◌||◌, nat_lt, ◌==◌, ◌≡◌, int_lt, List, [], ◌∷◌, if◌then◌else◌}
use Rattle.std.specs.List.{list_any, fold, filter_map, AllByRecursion}
use Rattle.std.specs.Ordering.{int_eq, is_lt, nat_cmp}
use Rattle.std.specs.Cmp.Lexicographic.{slice_cmp}
use Rattle.tl_types.specs.declared.cells.Cell.{Cell}
use Rattle.tl_types.specs.declared.cells.Cell.TheVariants as cell
use Rattle.tl_types.specs.declared.runs.Pair.{Pair}
use Rattle.tl_types.specs.History.{cell_at, same_cell}
use Rattle.tl_types.specs.Plain as plain

-- the item in the list, after the first of its items that come before it
abbrev pub inserted : {X : Type 0} → (X → X → Bool) → X → List X → List X
inserted comes_before x [] = x ∷ []
inserted comes_before x (y ∷ ys) =
    if comes_before y x then y ∷ inserted comes_before x ys else x ∷ y ∷ ys

-- the items in order
abbrev pub in_order : {X : Type 0} → (X → X → Bool) → List X → List X
in_order comes_before xs = fold (λ ys x. inserted comes_before x ys) [] xs

-- the first cell comes before the second: numbers by size, texts by their bytes
abbrev pub cell_before : Cell → Cell → Bool
cell_before (cell.Int i) (cell.Int j) = int_lt i j
cell_before (cell.Int i) (cell.Text t) = true
cell_before (cell.Text s) (cell.Int j) = false
cell_before (cell.Text s) (cell.Text t) = is_lt (slice_cmp nat_cmp s t)

-- the values, with one more where it is not among them
abbrev pub with_value : List Cell → Cell → List Cell
with_value values x =
    if list_any (λ y. same_cell y x) values then values else inserted cell_before x values

-- the values of a column in rows, in order, each once
abbrev pub values_of : ℕ → List plain.Row → List Cell
values_of column rows = fold with_value [] (filter_map (λ row. cell_at row.cells column) rows)

-- the first pair comes before the second: it begins before it, or at the same moment with a lesser
-- left row, or with the same left row and a lesser right row
abbrev pub pair_before : Pair → Pair → Bool
pair_before p q =
    int_lt p.from q.from
    || int_eq p.from q.from
    && (nat_lt p.left q.left || (p.left == q.left) && nat_lt p.right q.right)

-- the value is among them
abbrev pub has : List Cell → Cell → Bool
has values z = list_any (λ y. same_cell y z) values

-- each value comes before all later ones
abbrev pub Rises : List Cell → Type 0
Rises [] = Unit {0}
Rises (x ∷ xs) = AllByRecursion (λ y. cell_before x y ≡ true) xs × Rises xs

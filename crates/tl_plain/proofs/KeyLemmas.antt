-- Rows in the order of their cells in a column: those that have a cell stand together, in order of id.
use Rattle.std.proofs.Common.{◌≡◌, ℕ, ◌+◌, ◌≤◌, Bool, true, false, cond, List, [], ◌∷◌, length, take, drop, map, Option, Some, None, refl, sym, ap, ◌∙◌, subst}
use mathlib.Core.Path.{fun_ext}
use Rattle.std.specs.List.{enumerate_from, filter, filter_map}
use Rattle.std.specs.List.Sorted.{IsSortedBy, IsStableBy, IsPermutation, IsPartitionedBy, IsPartitionPoint, ties}
use Rattle.std.specs.Cmp.{IsStrictWeakOrder}
use Rattle.std.proofs.lemmas.List.Sorted.{ranks_by}
use Rattle.std.specs.Ordering.{is_lt}
use Rattle.tl_types.specs.declared.cells.Cell.{Cell}
use Rattle.tl_types.specs.declared.cells.Cell.TheVariants as cell
use Rattle.tl_types.specs.contracts.cells.CellOrd.TheImpl as cells
use Rattle.tl_types.specs.History.{same_cell, cell_at}
use Rattle.tl_types.specs.Plain as plain
use Rattle.tl_query.specs.Ordered.{cell_before}
use Rattle.tl_types.specs.declared.cells.Cmp.TheVariants as cmp
use Rattle.tl_query.specs.Passing.{compare_cells}
use Rattle.tl_query.specs.Aggregates.{has_value}
use Rattle.tl_plain.specs.declared.keyed_rows.KeyedRow.{KeyedRow}
use Rattle.tl_plain.specs.Keyed.{keyed, keyed_rows, row_with_id, row_with_key, key_before, has_key, AreByKey}
use Rattle.tl_query.proofs.CellOrder.{cell_total, cell_ranks, same_order, cell_level, cell_symm, cell_equal}
use Rattle.tl_plain.proofs.Searching.{filter_found, is_level, splits_below, splits_level, found_between}

-- WHAT A STABLE SORT BY KEY LEAVES

ids_found : (key : Cell) (rows : List KeyedRow) → map row_with_id (filter (has_key key) rows) ≡ map (λ k. k.1) (filter (λ k. same_cell key k.0) (map row_with_key rows))
ids_found key [] = refl
ids_found key (row ∷ rows) = by_test (same_cell key row.key.now) (ids_found key rows) where
  by_test : (b : Bool) → map row_with_id (filter (has_key key) rows) ≡ map (λ k. k.1) (filter (λ k. same_cell key k.0) (map row_with_key rows)) → map row_with_id (cond b (row ∷ filter (has_key key) rows) (filter (has_key key) rows)) ≡ map (λ k. k.1) (cond b (row_with_key row ∷ filter (λ k. same_cell key k.0) (map row_with_key rows)) (filter (λ k. same_cell key k.0) (map row_with_key rows)))
  by_test true later = ap (λ ks. row_with_id row ∷ ks) later
  by_test false later = later

same_ties : (key : Cell) (row : KeyedRow) → has_key key row ≡ true → ties key_before row ≡ has_key key
same_ties key row h = fun_ext (λ other. cell_level row.key.now other.key.now ∙ ap (λ x. same_cell x other.key.now) (sym (cell_equal key row.key.now h)))

pub sorted_by_key : (column : ℕ) (rows : List plain.Row) (given sorted : List KeyedRow) → map row_with_key given ≡ keyed_rows column rows → IsPermutation given sorted → IsSortedBy key_before sorted → IsStableBy key_before given sorted → AreByKey column rows sorted
sorted_by_key column rows given sorted is moved up stable = record {
  ascend = up;
  found = λ key. ap (map row_with_id) (filter_found (has_key key) given sorted moved (λ z h. subst (λ p. filter p sorted ≡ filter p given) (same_ties key z h) (stable z))) ∙ ids_found key given ∙ ap (λ ks. map (λ k. k.1) (filter (λ k. same_cell key k.0) ks)) is;
}

-- the order of the code
abbrev pub cell_key_before : KeyedRow → KeyedRow → Bool
cell_key_before x y = is_lt (cells.cmp-value.it x.key.now y.key.now)

pub cell_key_ranks : IsStrictWeakOrder cell_key_before
cell_key_ranks = ranks_by cell_total (λ (x : KeyedRow). x.key.now)

orders_agree : cell_key_before ≡ key_before
orders_agree = let at_keys : (Cell → Cell → Bool) → KeyedRow → KeyedRow → Bool = λ lt x y. lt x.key.now y.key.now in ap at_keys same_order

pub sorted_by_cell : (column : ℕ) (rows : List plain.Row) (given sorted : List KeyedRow) → map row_with_key given ≡ keyed_rows column rows → IsPermutation given sorted → IsSortedBy cell_key_before sorted → IsStableBy cell_key_before given sorted → AreByKey column rows sorted
sorted_by_cell column rows given sorted is moved up stable =
    sorted_by_key column rows given sorted is moved (subst (λ (lt : KeyedRow → KeyedRow → Bool). IsSortedBy lt sorted) orders_agree up) (subst (λ (lt : KeyedRow → KeyedRow → Bool). IsStableBy lt given sorted) orders_agree stable)

-- THE ROWS THAT HAVE A KEY

-- neither key comes before the other where the row has the key
level_is : (key : Cell) → is_level cell_before cell_ranks (λ (row : KeyedRow). row.key.now) key ≡ has_key key
level_is key = fun_ext (λ row. cell_level key row.key.now)

pub splits_before : (rows : List KeyedRow) (key : Cell) → IsSortedBy key_before rows → IsPartitionedBy (λ row. cell_before row.key.now key) rows
splits_before rows key up = splits_below cell_before cell_ranks (λ (row : KeyedRow). row.key.now) rows key up

pub splits_key : (rows rest : List KeyedRow) (key : Cell) (from : ℕ) → IsSortedBy key_before rows → from ≤ length rows → IsPartitionPoint (λ row. cell_before row.key.now key ≡ true) (λ row. cell_before row.key.now key ≡ false) rows from → rest ≡ drop from rows → IsPartitionedBy (has_key key) rest
splits_key rows rest key from up within point is =
    subst (IsPartitionedBy (has_key key)) (sym is) (subst (λ (p : KeyedRow → Bool). IsPartitionedBy p (drop from rows)) (level_is key) (splits_level cell_before cell_ranks (λ (row : KeyedRow). row.key.now) rows key from up within point))

pub with_key : (rows rest found : List KeyedRow) (key : Cell) (from to : ℕ) → IsSortedBy key_before rows → from ≤ length rows → IsPartitionPoint (λ row. cell_before row.key.now key ≡ true) (λ row. cell_before row.key.now key ≡ false) rows from → rest ≡ drop from rows → IsPartitionPoint (λ row. has_key key row ≡ true) (λ row. has_key key row ≡ false) rest to → found ≡ take to rest → found ≡ filter (has_key key) rows
with_key rows rest found key from to up within low is level found_is =
    let at_level : IsPartitionPoint (λ row. is_level cell_before cell_ranks (λ (row : KeyedRow). row.key.now) key row ≡ true) (λ row. is_level cell_before cell_ranks (λ (row : KeyedRow). row.key.now) key row ≡ false) (drop from rows) to = subst (λ (p : KeyedRow → Bool). IsPartitionPoint (λ row. p row ≡ true) (λ row. p row ≡ false) (drop from rows) to) (sym (level_is key)) (subst (λ rs. IsPartitionPoint (λ row. has_key key row ≡ true) (λ row. has_key key row ≡ false) rs to) is level) in
    found_is ∙ ap (take to) is ∙ found_between cell_before cell_ranks (λ (row : KeyedRow). row.key.now) rows key from to up within low at_level ∙ ap (λ (p : KeyedRow → Bool). filter p rows) (level_is key)

-- THE ROWS OF A GROUP

equal_is : (x y : Cell) → compare_cells cmp.Eq x y ≡ same_cell y x
equal_is (cell.Int i) (cell.Int j) = cell_symm (cell.Int i) (cell.Int j)
equal_is (cell.Int i) (cell.Text t) = refl
equal_is (cell.Text s) (cell.Int j) = refl
equal_is (cell.Text s) (cell.Text t) = cell_symm (cell.Text s) (cell.Text t)

-- the rows behind keys
abbrev rows_behind_keys : List (Cell × (ℕ × plain.Row)) → List plain.Row
rows_behind_keys keys = map (λ r. r.1) (map (λ k. k.1) keys)

values_found : (by : ℕ) (value : Cell) (n : ℕ) (rows : List plain.Row) → rows_behind_keys (filter (λ k. same_cell value k.0) (filter_map (keyed by) (enumerate_from n rows))) ≡ filter (has_value by value) rows
values_found by value n [] = refl
values_found by value n (row ∷ rows) = by_cell (cell_at row.cells by) refl (filter (λ k. same_cell value k.0) (filter_map (keyed by) (enumerate_from (n + 1) rows))) refl (values_found by value (n + 1) rows) where
  by_test : (x : Cell) (s t : Bool) (found : List (Cell × (ℕ × plain.Row))) → s ≡ t → rows_behind_keys found ≡ filter (has_value by value) rows → rows_behind_keys (cond t ((x, (n, row)) ∷ found) found) ≡ cond s (row ∷ filter (has_value by value) rows) (filter (has_value by value) rows)
  by_test x true true found e later = ap (λ rs. row ∷ rs) later
  by_test x true false found e later = absurd (cc)
  by_test x false true found e later = absurd (cc)
  by_test x false false found e later = later

  by_cell : (o : Option Cell) → cell_at row.cells by ≡ o → (found : List (Cell × (ℕ × plain.Row))) → found ≡ filter (λ k. same_cell value k.0) (filter_map (keyed by) (enumerate_from (n + 1) rows)) → rows_behind_keys found ≡ filter (has_value by value) rows → rows_behind_keys (filter (λ k. same_cell value k.0) (filter_map (keyed by) (enumerate_from n (row ∷ rows)))) ≡ filter (has_value by value) (row ∷ rows)
  by_cell None e found is later = rw e (ap rows_behind_keys (sym is) ∙ later)
  by_cell (Some x) e found is later = rw e (ap (λ ks. rows_behind_keys (cond (same_cell value x) ((x, (n, row)) ∷ ks) ks)) (sym is) ∙ by_test x (compare_cells cmp.Eq x value) (same_cell value x) found (equal_is x value) later)

rows_behind : (rows : List KeyedRow) → map (λ r. r.1) (map row_with_id rows) ≡ map (λ k. k.row.now) rows
rows_behind [] = refl
rows_behind (row ∷ rows) = ap (λ rs. row.row.now ∷ rs) (rows_behind rows)

pub rows_of_value : (by : ℕ) (rows : List plain.Row) (by_key : List KeyedRow) (value : Cell) → AreByKey by rows by_key → map (λ k. k.row.now) (filter (has_key value) by_key) ≡ filter (has_value by value) rows
rows_of_value by rows by_key value are = sym (rows_behind (filter (has_key value) by_key)) ∙ ap (map (λ r. r.1)) (are.found value) ∙ values_found by value 0 rows

-- Which rows pass a predicate.
use Rattle.std.specs.Prelude.{ℕ, ℤ, Bool, false, ◌||◌, not, ◌==◌, int_le, int_lt, List, length, map, Option, Some, None}
use Rattle.std.specs.List.{list_all, list_any}
use Rattle.std.specs.Ordering.{int_eq}
use Rattle.tl_types.specs.declared.cells.Cell.{Cell}
use Rattle.tl_types.specs.declared.cells.Cell.TheVariants as cell
use Rattle.tl_types.specs.declared.cells.Cmp.{Cmp}
use Rattle.tl_types.specs.declared.cells.Cmp.TheVariants as cmp
use Rattle.tl_types.specs.Names.{same_bytes}
use Rattle.tl_types.specs.History.{cell_at}
use Rattle.tl_types.specs.Plain as plain
use Rattle.tl_query.specs.declared.typed_queries.TypedTest.{TypedTest}
use Rattle.tl_query.specs.declared.typed_queries.TypedPred.{TypedPred}

-- the first number stands so to the second
abbrev pub compare_numbers : Cmp → ℤ → ℤ → Bool
compare_numbers cmp.Eq x y = int_eq x y
compare_numbers cmp.Ne x y = not (int_eq x y)
compare_numbers cmp.Lt x y = int_lt x y
compare_numbers cmp.Le x y = int_le x y
compare_numbers cmp.Gt x y = int_lt y x
compare_numbers cmp.Ge x y = int_le y x

-- the first text stands so to the second: texts are equal or not, and have no order
abbrev pub compare_texts : Cmp → List ℕ → List ℕ → Bool
compare_texts cmp.Eq s t = same_bytes s t
compare_texts cmp.Ne s t = not (same_bytes s t)
compare_texts cmp.Lt s t = false
compare_texts cmp.Le s t = false
compare_texts cmp.Gt s t = false
compare_texts cmp.Ge s t = false

-- the first cell stands so to the second, which is of its kind
abbrev pub compare_cells : Cmp → Cell → Cell → Bool
compare_cells c (cell.Int x) (cell.Int y) = compare_numbers c x y
compare_cells c (cell.Int x) (cell.Text t) = false
compare_cells c (cell.Text s) (cell.Int y) = false
compare_cells c (cell.Text s) (cell.Text t) = compare_texts c s t

-- there is a cell, and it stands so to the constant of the test
abbrev pub cell_passes : TypedTest → Option Cell → Bool
cell_passes test None = false
cell_passes test (Some x) = compare_cells test.cmp x test.value

-- the row's cell in the column of the test stands so to the constant
abbrev pub passes_test : plain.Row → TypedTest → Bool
passes_test row test = cell_passes test (cell_at row.cells test.column)

-- the row passes all of the tests
abbrev pub passes_all : plain.Row → List TypedTest → Bool
passes_all row tests = list_all (passes_test row) tests

-- the row passes all tests of one of the lists, or there is no list
abbrev pub passes : TypedPred → plain.Row → Bool
passes pred row = (length pred.any == 0) || list_any (passes_all row) pred.any

-- which rows pass
abbrev pub passing : TypedPred → List plain.Row → List Bool
passing pred rows = map (passes pred) rows

-- Which rows of a table pass a predicate, and what it takes to tell.
use Rattle.std.specs.Prelude.{ℕ, Bool, false, IsTrue, List, length, map, Option, Some, None, sum_by}
use Rattle.tl_types.specs.History.{rows_of}
use Rattle.tl_types.specs.Plain as plain
use Rattle.tl_query.specs.declared.typed_queries.TypedPred.{TypedPred}
use Rattle.tl_query.specs.Passing.{passes}
use Rattle.tl_query.specs.TypedFor.{schema_at, is_typed_pred}

-- of each row of a table, visible or not, whether it passes the predicate
abbrev pub rows_that_pass : plain.Database → ℕ → TypedPred → List Bool
rows_that_pass db table pred = map (passes pred) (rows_of db table)

-- the number of tests of a predicate
abbrev pub tests_in : TypedPred → ℕ
tests_in pred = sum_by length pred.any

-- there is a schema, and the tests compare its columns as their kinds allow
abbrev pub suits_schema : TypedPred → Option plain.Schema → Bool
suits_schema pred None = false
suits_schema pred (Some schema) = is_typed_pred schema pred

-- the predicate suits the table with a number: its tests compare columns that are there with
-- constants of their kind, and by order only numbers
abbrev pub IsTypedPredFor : plain.Database → ℕ → TypedPred → Type 0
IsTypedPredFor db table pred = IsTrue (suits_schema pred (schema_at db table))

-- The checked queries that suit a database: what they name is there, and is used as its kind
-- allows.
use Rattle.std.specs.Prelude.{ℕ, ◌+◌, Bool, true, false, ◌&&◌, ◌||◌, not, nat_le, nat_lt, int_lt, IsTrue, List, length, Option, Some, None, is_some, option_map, slice_get}
use Rattle.std.specs.List.{list_all}
use Rattle.tl_types.specs.declared.cells.Cell.{Cell}
use Rattle.tl_types.specs.declared.cells.Cmp.{Cmp}
use Rattle.tl_types.specs.declared.cells.Cmp.TheVariants as cmp
use Rattle.tl_types.specs.declared.cells.ColumnKind.{ColumnKind}
use Rattle.tl_types.specs.declared.cells.ColumnKind.TheVariants.{IntKind, TextKind}
use Rattle.tl_types.specs.History.{is_of_kind}
use Rattle.tl_types.specs.Plain as plain
use Rattle.tl_query.specs.declared.ast.AggKind.{AggKind}
use Rattle.tl_query.specs.declared.ast.AggKind.TheVariants as kind
use Rattle.tl_query.specs.declared.typed_queries.Span.{Span}
use Rattle.tl_query.specs.declared.typed_queries.Span.TheVariants as span
use Rattle.tl_query.specs.declared.typed_queries.Typed.{Typed}
use Rattle.tl_query.specs.declared.typed_queries.Typed.TheVariants as typed
use Rattle.tl_query.specs.declared.typed_queries.TypedItem.{TypedItem}
use Rattle.tl_query.specs.declared.typed_queries.TypedItem.TheVariants as item
use Rattle.tl_query.specs.declared.typed_queries.TypedPred.{TypedPred}
use Rattle.tl_query.specs.declared.typed_queries.TypedTest.{TypedTest}

-- COLUMNS

-- what the column at a place holds, where there is one
abbrev pub kind_at : plain.Schema → ℕ → Option ColumnKind
kind_at schema place = option_map (λ c. c.kind) (slice_get schema.columns place)

-- there is a column at the place
abbrev pub has_column : plain.Schema → ℕ → Bool
has_column schema place = nat_lt place (length schema.columns)

-- there is a column, and it holds numbers
abbrev pub is_int_kind : Option ColumnKind → Bool
is_int_kind None = false
is_int_kind (Some IntKind) = true
is_int_kind (Some TextKind) = false

-- there is a column, and the cell is what it holds
abbrev pub holds_cell : Option ColumnKind → Cell → Bool
holds_cell None x = false
holds_cell (Some k) x = is_of_kind k x

-- there are both columns, and they hold the same
abbrev pub same_kinds : Option ColumnKind → Option ColumnKind → Bool
same_kinds None l = false
same_kinds (Some k) None = false
same_kinds (Some IntKind) (Some IntKind) = true
same_kinds (Some IntKind) (Some TextKind) = false
same_kinds (Some TextKind) (Some IntKind) = false
same_kinds (Some TextKind) (Some TextKind) = true

-- PREDICATES AND ITEMS

-- the comparison asks for an order
abbrev pub is_ordered : Cmp → Bool
is_ordered cmp.Eq = false
is_ordered cmp.Ne = false
is_ordered cmp.Lt = true
is_ordered cmp.Le = true
is_ordered cmp.Gt = true
is_ordered cmp.Ge = true

-- the test compares a column with a constant of its kind, and by order only where the column holds
-- numbers
abbrev pub is_typed_test : plain.Schema → TypedTest → Bool
is_typed_test schema test =
    holds_cell (kind_at schema test.column) test.value
    && (not (is_ordered test.cmp) || is_int_kind (kind_at schema test.column))

-- so are all tests of the predicate
abbrev pub is_typed_pred : plain.Schema → TypedPred → Bool
is_typed_pred schema pred = list_all (λ tests. list_all (is_typed_test schema) tests) pred.any

-- the item is a column that is there, or an end of the valid period where rows have one
abbrev pub is_typed_item : plain.Schema → TypedItem → Bool
is_typed_item schema (item.Column place) = has_column schema place
is_typed_item schema item.ValidFrom = schema.valid
is_typed_item schema item.ValidTo = schema.valid

-- RANGES, AGGREGATES AND TABLES

-- the range has a moment: of versions, the last of which is no later than the last commit; or of
-- valid times, at a version no later than that, where rows have a valid period
abbrev pub is_typed_span : ℕ → Bool → Span → Bool
is_typed_span now valid (span.System from to) = nat_lt from to && nat_le to (now + 1)
is_typed_span now valid (span.Valid version from to) = valid && nat_le version now && int_lt from to

-- the place is given, and the column there holds numbers
abbrev pub is_int_column : plain.Schema → Option ℕ → Bool
is_int_column schema None = false
is_int_column schema (Some place) = is_int_kind (kind_at schema place)

-- the aggregate has a column that holds numbers, and a count has none
abbrev pub is_typed_aggregate : plain.Schema → AggKind → Option ℕ → Bool
is_typed_aggregate schema kind.Count None = true
is_typed_aggregate schema kind.Count (Some column) = false
is_typed_aggregate schema kind.Sum column = is_int_column schema column
is_typed_aggregate schema kind.Avg column = is_int_column schema column
is_typed_aggregate schema kind.Min column = is_int_column schema column
is_typed_aggregate schema kind.Max column = is_int_column schema column

-- there is a column at the place, where one is given
abbrev pub is_typed_group : plain.Schema → Option ℕ → Bool
is_typed_group schema None = true
is_typed_group schema (Some place) = has_column schema place

-- the schema of the table with a number, where there is one
abbrev pub schema_at : plain.Database → ℕ → Option plain.Schema
schema_at db table = option_map (λ t. t.schema) (slice_get db.tables table)

-- QUERIES

-- a SELECT over a table of this schema, with so many commits
abbrev pub is_typed_select : ℕ → List TypedItem → TypedPred → Bool → ℕ → Option plain.Schema → Bool
is_typed_select now items pred valid_at version None = false
is_typed_select now items pred valid_at version (Some schema) =
    list_all (is_typed_item schema) items && is_typed_pred schema pred
    && (not valid_at || schema.valid) && nat_le version now

-- an aggregate over a table of this schema, with so many commits
abbrev pub is_typed_agg : ℕ → AggKind → Option ℕ → Option ℕ → TypedPred → Span → Option plain.Schema
    → Bool
is_typed_agg now kind column by pred span None = false
is_typed_agg now kind column by pred span (Some schema) =
    is_typed_aggregate schema kind column && is_typed_group schema by && is_typed_pred schema pred
    && is_typed_span now schema.valid span

-- a join of tables of these schemas, with so many commits
abbrev pub is_typed_join : ℕ → TypedPred → TypedPred → ℕ → ℕ → Span → Option plain.Schema
    → Option plain.Schema → Bool
is_typed_join now left_pred right_pred left_on right_on span None right = false
is_typed_join now left_pred right_pred left_on right_on span (Some left) None = false
is_typed_join now left_pred right_pred left_on right_on span (Some left) (Some right) =
    is_typed_pred left left_pred && is_typed_pred right right_pred
    && same_kinds (kind_at left left_on) (kind_at right right_on)
    && is_typed_span now (left.valid && right.valid) span

-- the query suits the database
abbrev pub is_typed_for : plain.Database → Typed → Bool
is_typed_for db (typed.Select table items pred valid_at version) =
    is_typed_select db.version items pred (is_some valid_at) version (schema_at db table)
is_typed_for db (typed.Agg table kind column by pred span) =
    is_typed_agg db.version kind column by pred span (schema_at db table)
is_typed_for db (typed.Join left left_pred right right_pred left_on right_on span) =
    is_typed_join db.version left_pred right_pred left_on right_on span (schema_at db left)
    (schema_at db right)

-- the query suits the database: its tables and columns are there, its tests compare columns with
-- constants of their kind, and by order only numbers; an aggregate other than a count has a column
-- of numbers, and a count has none; the columns of a join hold the same; what asks for valid time
-- asks tables whose rows have it; each range has a moment; and no version is later than the last
-- commit, which a range of versions may end right after
abbrev pub IsTypedFor : plain.Database → Typed → Type 0
IsTypedFor db query = IsTrue (is_typed_for db query)

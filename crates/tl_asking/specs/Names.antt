-- The names of the columns of an answer.
use Rattle.std.specs.Prelude.{◌≡◌, ℕ, ◌==◌, List, [], ◌∷◌, ◌++◌, length, map, codes, Option, Some, None, slice_get, if◌then◌else◌}
use Rattle.std.specs.List.{AllByRecursion}
use Rattle.tl_types.specs.declared.answers.Answer.{Answer}
use Rattle.tl_types.specs.declared.answers.Field.{Field}
use Rattle.tl_types.specs.declared.answers.Field.TheVariants as field
use Rattle.tl_types.specs.declared.schemas.Column.{Column}
use Rattle.tl_types.specs.Plain as plain
use Rattle.tl_csv.specs.Answers.{answer_text}
use Rattle.tl_query.specs.declared.typed_queries.Typed.{Typed}
use Rattle.tl_query.specs.declared.typed_queries.Typed.TheVariants as typed
use Rattle.tl_query.specs.declared.typed_queries.TypedItem.{TypedItem}
use Rattle.tl_query.specs.declared.typed_queries.TypedItem.TheVariants as item
use Rattle.tl_query.specs.Answers.{answer_of}
use Rattle.tl_query.specs.TypedFor.{schema_at}

-- COLUMNS

-- the name of a column, where there is one
abbrev pub name_of : Option Column → List ℕ
name_of None = []
name_of (Some column) = column.name

-- the name of the column at a place
abbrev pub column_name : plain.Schema → ℕ → List ℕ
column_name schema place = name_of (slice_get schema.columns place)

-- the name of an item: of a column its own, of an end of the valid period the word that stands for
-- it
abbrev pub item_name : plain.Schema → TypedItem → List ℕ
item_name schema (item.Column place) = column_name schema place
item_name schema item.ValidFrom = codes "valid_from"
item_name schema item.ValidTo = codes "valid_to"

-- the names of a table's columns, each after the name that the table goes by and a point
abbrev pub names_under : List ℕ → List Column → List (List ℕ)
names_under table columns = map (λ c. table ++ (codes "." ++ c.name)) columns

-- the name that the right table of a join goes by: its own, and with `_2` after it where it is the
-- left one too
abbrev pub right_name : ℕ → ℕ → List ℕ → List ℕ
right_name left right name = if left == right then name ++ codes "_2" else name

-- QUERIES

-- of a SELECT over a table of this schema: those of its items
abbrev pub select_names : List TypedItem → Option plain.Schema → List (List ℕ)
select_names items None = []
select_names items (Some schema) = map (item_name schema) items

-- the name of the column whose values separate the rows into groups, where one does
abbrev pub group_names : Option ℕ → Option plain.Schema → List (List ℕ)
group_names None schema = []
group_names (Some place) None = []
group_names (Some place) (Some schema) = column_name schema place ∷ []

-- the two bounds of a run or a pair
abbrev pub bound_names : List (List ℕ)
bound_names = codes "from" ∷ codes "to" ∷ []

-- the columns of the left table of a join, where there is one
abbrev pub left_names : Option plain.Schema → List (List ℕ)
left_names None = []
left_names (Some schema) = names_under schema.name schema.columns

-- the columns of the right table of a join of tables with these numbers, where there is one
abbrev pub right_names : ℕ → ℕ → Option plain.Schema → List (List ℕ)
right_names left right None = []
right_names left right (Some schema) =
    names_under (right_name left right schema.name) schema.columns

-- the names of the columns of the answer to a checked query
abbrev pub names_of : plain.Database → Typed → List (List ℕ)
names_of db (typed.Select table items pred valid_at version) =
    select_names items (schema_at db table)
names_of db (typed.Agg table kind column by pred span) =
    group_names by (schema_at db table) ++ (bound_names ++ codes "value" ∷ [])
names_of db (typed.Join left left_pred right right_pred left_on right_on span) =
    bound_names
    ++ (left_names (schema_at db left) ++ right_names left right (schema_at db right))

-- names as a row of texts
abbrev pub names_answer : List (List ℕ) → Answer
names_answer names = record { rows = map field.Text names ∷ [] }

-- names as a line of CSV
abbrev pub names_text : List (List ℕ) → List ℕ
names_text names = answer_text (names_answer names)

-- ROWS

-- the row has as many fields as there are names
abbrev pub IsNamedBy : List (List ℕ) → List Field → Type 0
IsNamedBy names row = length row ≡ length names

-- each row of the answer to a query has as many fields as its columns have names
abbrev pub HasNamedRows : plain.Database → Typed → Type 0
HasNamedRows db query = AllByRecursion (IsNamedBy (names_of db query)) (answer_of db query)

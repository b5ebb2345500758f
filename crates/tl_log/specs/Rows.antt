-- What is listed of the rows of a table: lines of CSV as an answer has them, first the names and
-- then each row in order of id, those that have ended among them.
use Rattle.std.specs.Prelude.{ℕ, pos, ◌+◌, Bool, true, false, ◌==◌, List, [], ◌∷◌, ◌++◌, map, codes, if◌then◌else◌}
use Rattle.tl_types.specs.declared.answers.Field.{Field}
use Rattle.tl_types.specs.declared.answers.Field.TheVariants as field
use Rattle.tl_types.specs.declared.cells.Cell.{Cell}
use Rattle.tl_types.specs.declared.schemas.Column.{Column}
use Rattle.tl_types.specs.History.{cell_at, open_end}
use Rattle.tl_types.specs.Plain as plain
use Rattle.tl_query.specs.Fields.{column_field, from_field, to_field}
use Rattle.tl_csv.specs.Answers.{answer_row}

-- the version that ended a row, nothing while the row stands
abbrev pub end_field : ℕ → Field
end_field to = if to == open_end then field.Empty else field.Number (pos to)

-- the ends of a row's valid period, in a table whose rows have one
abbrev pub period_fields : Bool → plain.Row → List Field
period_fields false row = []
period_fields true row = from_field row.period ∷ to_field row.period ∷ []

-- what a row has in these columns, the first of which stands at this place
abbrev pub cells_from : List Cell → ℕ → List Column → List Field
cells_from cells place [] = []
cells_from cells place (c ∷ cs) =
    column_field (cell_at cells place) ∷ cells_from cells (place + 1) cs

-- a row with its id: the id, the versions that opened and ended it, its valid period, its cells
abbrev pub row_fields : plain.Schema → ℕ → plain.Row → List Field
row_fields schema id row =
    field.Number (pos id) ∷ field.Number (pos row.from) ∷ end_field row.to
    ∷ (period_fields schema.valid row ++ cells_from row.cells 0 schema.columns)

-- the names of a row's id and of the versions that opened and ended it
abbrev pub version_names : List Field
version_names = field.Text (codes "id") ∷ field.Text (codes "from") ∷ field.Text (codes "to") ∷ []

-- the names of the ends of valid periods
abbrev pub period_names : Bool → List Field
period_names false = []
period_names true = field.Text (codes "valid_from") ∷ field.Text (codes "valid_to") ∷ []

-- the name of a column
abbrev pub name_field : Column → Field
name_field column = field.Text column.name

-- the names of what a row has, in the same order
abbrev pub name_fields : plain.Schema → List Field
name_fields schema =
    version_names ++ (period_names schema.valid ++ map name_field schema.columns)

-- the lines of rows, the first of which has this id
abbrev pub row_lines : plain.Schema → ℕ → List plain.Row → List ℕ
row_lines schema id [] = []
row_lines schema id (r ∷ rs) =
    answer_row (row_fields schema id r) ++ row_lines schema (id + 1) rs

-- the listing of the rows of a table
abbrev pub rows_text : plain.Table → List ℕ
rows_text table = answer_row (name_fields table.schema) ++ row_lines table.schema 0 table.rows

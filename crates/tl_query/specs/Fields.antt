-- The fields of an answer.
use Rattle.std.specs.Prelude.{ℤ, List, map, Option, Some, None, if◌then◌else◌}
use Rattle.std.specs.Ordering.{int_eq}
use Rattle.tl_types.specs.declared.cells.Cell.{Cell}
use Rattle.tl_types.specs.declared.cells.Cell.TheVariants as cell
use Rattle.tl_types.specs.declared.answers.Field.{Field}
use Rattle.tl_types.specs.declared.answers.Field.TheVariants as field
use Rattle.tl_types.specs.History.{cell_at}
use Rattle.tl_types.specs.Plain as plain
use Rattle.tl_query.specs.declared.typed_queries.TypedItem.{TypedItem}
use Rattle.tl_query.specs.declared.typed_queries.TypedItem.TheVariants as item

-- a cell as a field
abbrev pub cell_field : Cell → Field
cell_field (cell.Int i) = field.Number i
cell_field (cell.Text t) = field.Text t

-- the cell of a column, where the row has it
abbrev pub column_field : Option Cell → Field
column_field None = field.Empty
column_field (Some x) = cell_field x

-- a moment as a bound: the greatest valid time has no end
abbrev pub moment_field : ℤ → Field
moment_field moment = if int_eq moment plain.forever then field.Forever else field.Number moment

-- the first valid time of a row that has a period
abbrev pub from_field : Option plain.Period → Field
from_field None = field.Empty
from_field (Some p) = field.Number p.from

-- the end of the valid time of a row that has a period
abbrev pub to_field : Option plain.Period → Field
to_field None = field.Empty
to_field (Some p) = moment_field p.to

-- what a row has for an item
abbrev pub item_field : plain.Row → TypedItem → Field
item_field row (item.Column place) = column_field (cell_at row.cells place)
item_field row item.ValidFrom = from_field row.period
item_field row item.ValidTo = to_field row.period

-- a row as the list of its items
abbrev pub row_fields : List TypedItem → plain.Row → List Field
row_fields items row = map (item_field row) items

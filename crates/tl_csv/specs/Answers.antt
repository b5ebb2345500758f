-- How the rows of an answer are written.
use Rattle.std.specs.Prelude.{ℕ, List, [], ◌++◌, map, codes}
use Rattle.std.specs.List.{flat_map}
use Rattle.std.specs.Fmt.{decimal, signed_decimal}
use Rattle.csv.specs.Writing.{default_writer, row_text}
use Rattle.tl_types.specs.declared.answers.Field.{Field}
use Rattle.tl_types.specs.declared.answers.Field.TheVariants as field
use Rattle.tl_types.specs.declared.answers.Answer.{Answer}

-- the text of a field: a number in decimal, a sum over a count, nothing for the value over no row
abbrev pub field_text : Field → List ℕ
field_text (field.Number z) = signed_decimal z
field_text (field.Text bytes) = bytes
field_text (field.Ratio sum count) = signed_decimal sum ++ (codes "/" ++ decimal count)
field_text field.Empty = []
field_text field.Forever = codes "FOREVER"

-- a row, as csv's default writer writes it
abbrev pub answer_row : List Field → List ℕ
answer_row fields = row_text default_writer (map field_text fields)

-- the rows of an answer, one after the other
abbrev pub answer_text : Answer → List ℕ
answer_text answer = flat_map answer_row answer.rows

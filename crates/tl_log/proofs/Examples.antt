-- The listing of rows, worked out on a table with valid time and on one without.
use Rattle.std.proofs.Common.{◌≡◌, [], ◌∷◌, ◌++◌, Some, None, codes, refl, true, false}
use Rattle.std.specs.Prelude.{pos}
use Rattle.tl_types.specs.declared.answers.Field.TheVariants as field
use Rattle.tl_types.specs.declared.cells.Cell.TheVariants as cell
use Rattle.tl_types.specs.declared.cells.ColumnKind.TheVariants.{IntKind, TextKind}
use Rattle.tl_types.specs.History.{open_end}
use Rattle.tl_types.specs.Plain as plain
use Rattle.tl_csv.specs.Answers.{answer_row}
use Rattle.tl_log.specs.Rows.{name_fields, row_fields, rows_text}

-- notes, which have a key and a text
abbrev notes : plain.Schema
notes = record {
  name = codes "note";
  columns = record { name = codes "id"; kind = IntKind } ∷ record { name = codes "body"; kind = TextKind } ∷ [];
  key = 0;
  valid = false;
}

-- rates, which have a key and a valid period
abbrev rates : plain.Schema
rates = record {
  name = codes "rate";
  columns = record { name = codes "item"; kind = IntKind } ∷ [];
  key = 0;
  valid = true;
}

-- a row that ended at version 4
abbrev ended : plain.Row
ended = record { cells = cell.Int (pos 2) ∷ cell.Text (codes "one, two") ∷ []; period = None; from = 2; to = 4 }

-- one that stands
abbrev standing : plain.Row
standing = record { cells = cell.Int (pos 3) ∷ cell.Text (codes "say \"so\"") ∷ []; period = None; from = 2; to = open_end }

-- one whose period has no end
abbrev lasting : plain.Row
lasting = record { cells = cell.Int (pos 1) ∷ []; period = Some (record { from = pos 10; to = plain.forever }); from = 2; to = 3 }

-- the names
names_of_notes : name_fields notes
    ≡ field.Text (codes "id") ∷ field.Text (codes "from") ∷ field.Text (codes "to") ∷ field.Text (codes "id") ∷ field.Text (codes "body") ∷ []
names_of_notes = refl

names_of_rates : name_fields rates
    ≡ field.Text (codes "id") ∷ field.Text (codes "from") ∷ field.Text (codes "to") ∷ field.Text (codes "valid_from") ∷ field.Text (codes "valid_to")
    ∷ field.Text (codes "item") ∷ []
names_of_rates = refl

-- the fields of rows
ended_fields : row_fields notes 1 ended
    ≡ field.Number (pos 1) ∷ field.Number (pos 2) ∷ field.Number (pos 4) ∷ field.Number (pos 2) ∷ field.Text (codes "one, two") ∷ []
ended_fields = refl

standing_fields : row_fields notes 2 standing
    ≡ field.Number (pos 2) ∷ field.Number (pos 2) ∷ field.Empty ∷ field.Number (pos 3) ∷ field.Text (codes "say \"so\"") ∷ []
standing_fields = refl

lasting_fields : row_fields rates 0 lasting
    ≡ field.Number (pos 0) ∷ field.Number (pos 2) ∷ field.Number (pos 3) ∷ field.Number (pos 10) ∷ field.Forever ∷ field.Number (pos 1) ∷ []
lasting_fields = refl

-- the listing of both rows of notes, of which one ended at the floor of the table
listing_of_notes : rows_text (record { schema = notes; floor = 4; rows = ended ∷ standing ∷ [] })
    ≡ answer_row (name_fields notes) ++ (answer_row (row_fields notes 0 ended) ++ (answer_row (row_fields notes 1 standing) ++ []))
listing_of_notes = refl

-- What a lent field shows.
use Rattle.tl_rows.specs.declared.fields.FieldRef.{FieldRef}
use Rattle.tl_rows.specs.declared.fields.FieldRef.TheVariants as lent
use Rattle.tl_types.specs.declared.answers.Field.{Field}
use Rattle.tl_types.specs.declared.answers.Field.TheVariants as field

-- the field that is lent
abbrev pub field_shown : FieldRef → Field
field_shown (lent.Number z) = field.Number z
field_shown (lent.Text bytes) = field.Text bytes.now
field_shown (lent.Ratio sum count) = field.Ratio sum count
field_shown lent.Empty = field.Empty
field_shown lent.Forever = field.Forever

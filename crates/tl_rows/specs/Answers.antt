-- The rows of an answer, in the forms in which they are kept and lent.
use Rattle.std.specs.Prelude.{map}
use Rattle.tl_types.specs.declared.answers.Answer.{Answer}
use Rattle.tl_query.specs.Answers.{run_fields}
use Rattle.tl_rows.specs.declared.answers.Form.{Form}
use Rattle.tl_rows.specs.declared.answers.Form.TheVariants as form
use Rattle.tl_rows.specs.declared.answers.RowsRef.{RowsRef}
use Rattle.tl_rows.specs.declared.answers.RowsRef.TheVariants as lent

-- rows in the form in which they are kept
abbrev pub rows_of_form : Form → Answer
rows_of_form (form.Fields rows) = rows
rows_of_form (form.Runs runs) = record { rows = map run_fields runs }

-- rows that are lent
abbrev pub rows_lent : RowsRef → Answer
rows_lent (lent.Fields rows) = rows.now
rows_lent (lent.Runs runs) = record { rows = map run_fields runs.now }

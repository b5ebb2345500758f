use Rattle.std.proofs.Common.{◌++◌, ap}
use Rattle.tl_csv.specs.Answers.{answer_row}
use Rattle.tl_log.specs.Rows.{name_fields, row_lines, rows_text}
use Rattle.tl_log.proofs.WritingLemmas.{part_begins, part_then, sends_piece}
use Rattle.tl_log.proofs.rows.write_table.Goals as goal

pub returns-in-Err-clause-part : goal.returns-in-Err-clause-part
returns-in-Err-clause-part g c =
    part_begins (rows_text c.args.table.now) (answer_row (name_fields c.schema.result.now)) (row_lines c.args.table.now.schema 0 c.args.table.now.rows) _ _
    (ap (λ s. answer_row (name_fields s) ++ row_lines c.args.table.now.schema 0 c.args.table.now.rows) c.schema.ensures)
    c.in-Err.ensures.part

pub returns-in-Err-write_lines-clause-part : goal.returns-in-Err-write_lines-clause-part
returns-in-Err-write_lines-clause-part g c =
    part_then (rows_text c.args.table.now) (row_lines c.args.table.now.schema 0 c.args.table.now.rows) _ _ _
    (sends_piece (rows_text c.args.table.now) (answer_row (name_fields c.schema.result.now)) (row_lines c.args.table.now.schema 0 c.args.table.now.rows) _ _
    (ap (λ s. answer_row (name_fields s) ++ row_lines c.args.table.now.schema 0 c.args.table.now.rows) c.schema.ensures)
    c.in_default.ensures.all)
    c.in-Err-write_lines.ensures.part

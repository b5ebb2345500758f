use Rattle.std.proofs.Common.{map, take}
use Rattle.tl_csv.specs.Answers.{field_text}
use Rattle.tl_csv.specs.Writing.{bytes_written, IsWithinRow}
use Rattle.tl_csv.proofs.answers.write_row.Given as goal

abbrev pub invariant-loop-place : goal.invariant-loop-place
invariant-loop-place l = IsWithinRow l.writer (bytes_written l.fn.writer) (map field_text (take l.place l.row))

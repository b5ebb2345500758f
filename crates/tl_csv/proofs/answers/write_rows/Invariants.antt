use Rattle.std.proofs.Common.{◌≡◌, ◌++◌, take}
use Rattle.std.specs.List.{flat_map}
use Rattle.tl_csv.specs.Answers.{answer_row}
use Rattle.tl_csv.specs.Writing.{bytes_written, IsWriting}
use Rattle.tl_csv.proofs.answers.write_rows.Given as goal

abbrev pub invariant-loop-row : goal.invariant-loop-row
invariant-loop-row l = record {
  rows : bytes_written l.writer ≡ bytes_written l.fn.writer ++ flat_map answer_row (take l.row l.rows.rows);
  writing : IsWriting l.writer;
}

use Rattle.std.proofs.Common.{◌≡◌, ◌++◌, map, take}
use Rattle.std.specs.List.{flat_map}
use Rattle.tl_csv.specs.Answers.{answer_row}
use Rattle.tl_csv.specs.Writing.{bytes_written, IsWriting}
use Rattle.tl_query.specs.Answers.{run_fields}
use Rattle.tl_csv.proofs.answers.write_runs.Given as goal

abbrev pub invariant-loop-run : goal.invariant-loop-run
invariant-loop-run l = record {
  rows : bytes_written l.writer ≡ bytes_written l.fn.writer ++ flat_map answer_row (map run_fields (take l.run-index l.runs));
  writing : IsWriting l.writer;
}

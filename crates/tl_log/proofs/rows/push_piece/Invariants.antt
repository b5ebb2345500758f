use Rattle.std.proofs.Common.{◌≡◌, ◌-◌, ◌<◌, ◌≤◌, ◌++◌, [], drop, length}
use Rattle.std.specs.List.{flat_map}
use Rattle.tl_csv.specs.Answers.{answer_row}
use Rattle.tl_log.specs.Rows.{row_lines}
use Rattle.tl_log.proofs.rows.push_piece.Given as goal

abbrev pub invariant-piece : goal.invariant-piece
invariant-piece g l = record {
  behind : l.first < l.next;
  within : l.next ≤ length l.table.rows;
  rows : flat_map answer_row l.rows.rows ++ row_lines l.table.schema l.next (drop l.next l.table.rows)
      ≡ flat_map answer_row l.fn.rows.rows ++ row_lines l.table.schema l.first (drop l.first l.table.rows);
  between : l.rows.row ≡ [];
}

abbrev pub decreases-piece : goal.decreases-piece
decreases-piece g l = length l.table.rows - l.next

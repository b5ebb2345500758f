use Rattle.std.proofs.Common.{◌≡◌, ◌-◌, ◌≤◌, drop, length}
use Rattle.tl_log.specs.Rows.{row_lines}
use Rattle.tl_log.specs.Writing.{Sends}
use Rattle.tl_log.proofs.rows.write_lines.Given as goal

abbrev pub invariant-pieces : goal.invariant-pieces
invariant-pieces g l =
    let sink = g.K.Sink in
    record {
      within : l.row ≤ length l.table.rows;
      sends : Sends (row_lines l.table.schema 0 l.table.rows) (row_lines l.table.schema l.row (drop l.row l.table.rows)) (sink.written l.fn.sink) (sink.written l.sink);
      sure : sink.faults l.sink ≡ sink.faults l.fn.sink;
    }

abbrev pub decreases-pieces : goal.decreases-pieces
decreases-pieces g l = length l.table.rows - l.row

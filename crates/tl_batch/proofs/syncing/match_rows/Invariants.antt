use Rattle.std.proofs.Common.{◌≡◌, ◌++◌, drop}
use Rattle.tl_types.specs.Resolving.{ids_of, unmatched_lines, unmatched_rows}
use Rattle.tl_batch.specs.Syncing.{working_rows}
use Rattle.tl_batch.proofs.syncing.match_rows.Given as goal

abbrev pub invariant-loop-row : goal.invariant-loop-row
invariant-loop-row g l = record {
  key : l.lines.key ≡ l.table.schema.key;
  closes : l.closes.items ++ ids_of (unmatched_rows (working_rows l.table.rows (drop l.row-index l.rows)) l.lines.lines) ≡ ids_of (unmatched_rows (working_rows l.table.rows l.rows) l.fn.lines.lines);
  left : unmatched_lines (working_rows l.table.rows (drop l.row-index l.rows)) l.lines.lines ≡ unmatched_lines (working_rows l.table.rows l.rows) l.fn.lines.lines;
}

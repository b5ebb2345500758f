use Rattle.std.proofs.Common.{◌≡◌, ℤ, map, take, slice_get}
use Rattle.std.specs.List.{list_any}
use Rattle.tl_types.specs.declared.cells.Cell.{Cell}
use Rattle.tl_batch.specs.Covers.{Full, cover_at, is_covered}
use Rattle.tl_batch.specs.Faults.{is_at, period_of}
use Rattle.tl_batch.proofs.faults.periods_of_rows.Given as goal

abbrev pub invariant-loop-row : goal.invariant-loop-row
invariant-loop-row g l = record {
  held : (x : Cell) (t : ℤ) → is_covered t (cover_at x l.periods) ≡ list_any (λ row. is_at l.table.schema.key x t (slice_get l.table.rows row)) (take l.row-index l.rows);
  full : Full (map (λ row. period_of (slice_get l.table.rows row)) (take l.row-index l.rows));
}

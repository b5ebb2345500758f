use Rattle.std.proofs.Common.{◌≡◌, List, take, slice_get}
use Rattle.std.specs.List.{flat_map}
use Rattle.tl_types.specs.Resolving.{BatchLine}
use Rattle.tl_batch.specs.Covers.{HoldLines}
use Rattle.tl_batch.specs.Pieces.{pieces_at}
use Rattle.tl_batch.proofs.opening.old_pieces.Given as goal

abbrev pub invariant-loop-row : goal.invariant-loop-row
invariant-loop-row g l = (lines : List BatchLine) → HoldLines l.periods lines → l.opens.items ≡ flat_map (λ row. pieces_at l.table.schema lines (slice_get l.table.rows row)) (take l.row-index l.rows)

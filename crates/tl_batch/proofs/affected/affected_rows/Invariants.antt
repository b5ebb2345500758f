use Rattle.std.proofs.Common.{◌≡◌, ℕ, List, ◌||◌, length, slice_get}
use Rattle.tl_types.specs.History.{has_id}
use Rattle.tl_types.specs.Resolving.{BatchLine}
use Rattle.tl_batch.specs.Covers.{HoldLines, StandIn, affected_among}
use Rattle.tl_batch.proofs.affected.affected_rows.Given as goal

abbrev pub invariant-keys : goal.invariant-keys
invariant-keys g l = record {
  each : StandIn l.periods l.entries;
  affected : (lines : List BatchLine) → HoldLines l.periods lines → (n : ℕ) → (affected_among l.table.schema lines l.entries (slice_get l.table.rows n) || has_id l.affected n) ≡ affected_among l.table.schema lines l.periods (slice_get l.table.rows n);
}

abbrev pub decreases-keys : goal.decreases-keys
decreases-keys g l = length l.entries

use Rattle.std.proofs.Common.{◌≡◌, ℕ, ◌-◌, ◌≤◌, ◌<◌, length}
use Rattle.std.specs.Prelude.{slice_get, Some}
use Rattle.tl_types.specs.Checkpoints.{Checkpoint}
use Rattle.tl_ckpt.proofs.marks.marks_to.Given as goal

abbrev pub invariant-halving : goal.invariant-halving
invariant-halving l = record {
  ordered : l.low ≤ l.high;
  within : l.high ≤ length l.list;
  front : (i : ℕ) (mark : Checkpoint) → i < l.low → slice_get l.list i ≡ Some mark → mark.version ≤ l.version;
  back : (i : ℕ) (mark : Checkpoint) → l.high ≤ i → slice_get l.list i ≡ Some mark → l.version < mark.version;
}

abbrev pub decreases-halving : goal.decreases-halving
decreases-halving l = l.high - l.low

use Rattle.std.proofs.Common.{◌≡◌, ℕ, ◌+◌, ◌-◌, ◌≤◌, ◌<◌, length, take}
use Rattle.std.specs.Prelude.{slice_get, Some}
use Rattle.tl_events.specs.declared.version_maps.VersionEnd.{VersionEnd}
use Rattle.tl_events.specs.Timeline.{binary_digits, end_of}
use Rattle.tl_events.proofs.version_maps.search.Given as goal

abbrev pub invariant-halving : goal.invariant-halving
invariant-halving g l = record {
  ordered : l.low ≤ l.high;
  within : l.high ≤ length l.entries;
  front : (i : ℕ) (entry : VersionEnd) → i < l.low → slice_get l.entries i ≡ Some entry → entry.version ≤ l.version;
  back : (i : ℕ) (entry : VersionEnd) → l.high ≤ i → slice_get l.entries i ≡ Some entry → l.version < entry.version;
  end : l.end ≡ end_of (take l.low l.entries) l.version;
  steps : l.steps + binary_digits (l.high - l.low) ≤ l.initial.steps + binary_digits (length l.entries);
}

abbrev pub decreases-halving : goal.decreases-halving
decreases-halving g l = l.high - l.low

use Rattle.std.proofs.Common.{◌≡◌, ◌-◌, ◌≤◌, length, drop}
use Rattle.tl_types.specs.History.{version_at_moment}
use Rattle.tl_store.proofs.stamps.Stamps.version_at.Given as goal

abbrev pub invariant-halving : goal.invariant-halving
invariant-halving l = record {
  ordered : l.low ≤ l.high;
  within : l.high ≤ length l.self;
  front : version_at_moment l.now l.self l.moment ≡ version_at_moment l.now (drop l.low l.self) l.moment;
  back : l.found ≡ version_at_moment l.now (drop l.high l.self) l.moment;
}

abbrev pub decreases-halving : goal.decreases-halving
decreases-halving l = l.high - l.low

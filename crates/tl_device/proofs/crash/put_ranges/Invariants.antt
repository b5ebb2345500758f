use Rattle.std.proofs.Common.{◌≡◌, length, reverse}
use Rattle.tl_device.specs.Crash.{with_ranges}
use Rattle.tl_device.proofs.crash.put_ranges.Given as goal

-- the ranges of the calls that are left are yet to come
abbrev pub invariant-putting : goal.invariant-putting
invariant-putting l =
    with_ranges l.value (reverse l.rest) l.bytes ≡ with_ranges l.value (reverse l.fn.done) l.fn.bytes

abbrev pub decreases-putting : goal.decreases-putting
decreases-putting l = length l.rest

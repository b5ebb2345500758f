use Rattle.std.proofs.Common.{◌≡◌, length, reverse}
use Rattle.tl_device.specs.Crash.{synced_bytes}
use Rattle.tl_device.proofs.crash.last_synced.Given as goal

-- the calls that are left are yet to be undone
abbrev pub invariant-undoing : goal.invariant-undoing
invariant-undoing l =
    synced_bytes (reverse l.rest) (l.undone.items, l.left) ≡ synced_bytes (reverse l.fn.done) (l.fn.bytes.items, l.fn.log)

abbrev pub decreases-undoing : goal.decreases-undoing
decreases-undoing l = length l.rest

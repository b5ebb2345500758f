use Rattle.std.proofs.Common.{◌≡◌, ◌++◌, drop, replicate}
use Rattle.tl_device.proofs.crash.put_all.Given as goal

-- the first bytes have the value
abbrev pub invariant-loop-i : goal.invariant-loop-i
invariant-loop-i l = l.bytes ≡ replicate l.i l.value ++ drop l.i l.fn.bytes

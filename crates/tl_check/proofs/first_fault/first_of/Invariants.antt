use Rattle.std.proofs.Common.{◌≡◌, take}
use Rattle.tl_query.specs.Checking.{first_of}
use Rattle.tl_check.proofs.first_fault.first_of.Given as goal

abbrev pub invariant-loop-fault : goal.invariant-loop-fault
invariant-loop-fault l = l.first ≡ first_of (take l.fault-index l.faults)

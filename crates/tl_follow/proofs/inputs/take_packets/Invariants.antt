-- Up to the offset the bytes are packets, which the follower took.
use Rattle.std.proofs.Common.{◌-◌, ◌≤◌, length}
use Rattle.tl_follow.specs.Readers.{TakesFront}
use Rattle.tl_follow.proofs.inputs.take_packets.Given as goal

abbrev pub invariant-reading : goal.invariant-reading
invariant-reading l = record {
  within : l.at ≤ length l.bytes;
  takes : TakesFront l.from l.bytes l.at l.initial.follower l.follower;
}

abbrev pub decreases-reading : goal.decreases-reading
decreases-reading l = length l.bytes - l.at

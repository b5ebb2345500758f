-- What a follower of an input's packets keeps: where the packets that it holds begin.
use Rattle.std.specs.Prelude.{◌≡◌, ℕ, ◌<◌, ◌==◌, List, [], ◌∷◌, ◌++◌, length, Option, Some, None, IsSome, if◌then◌else◌}
use Rattle.tl_types.specs.declared.commits.Commit.{Commit}
use Rattle.tl_types.specs.declared.commits.Entry.{Entry}
use Rattle.tl_types.specs.declared.limits.Limits.{Limits}
use Rattle.tl_types.specs.Entries.{commits_of}
use Rattle.tl_follow.specs.declared.packets.Packet.{Packet}
use Rattle.tl_follow.specs.declared.places.Place.{Place}
use Rattle.tl_follow.specs.declared.places.InputFollower.{InputFollower}
use Rattle.tl_follow.specs.declared.faults.FollowFault.{FollowFault}
use Rattle.tl_follow.specs.declared.faults.FollowFault.TheVariants as follow_fault
use Rattle.tl_follow.specs.declared.faults.PacketFault.{PacketFault}
use Rattle.tl_follow.specs.declared.faults.PacketFault.TheVariants as fault
use Rattle.tl_follow.specs.Following.{IsFollowing}
use Rattle.tl_follow.specs.Inputs.{input_of, place_of, stuck_at}

-- the offset of the first place of a version, where there is one
abbrev pub place_in : ℕ → List Place → Option ℕ
place_in version [] = None
place_in version (p ∷ places) =
    if p.version == version then Some p.at else place_in version places

-- a version that the fault names has a place
abbrev pub HasPlace : List Place → FollowFault → Type 0
HasPlace places (follow_fault.Unfit version) = IsSome (place_in version places)
HasPlace places follow_fault.NoMemory = Unit {0}

-- the fault at a place, if there is one; want of memory else
abbrev pub fault_at : Option ℕ → PacketFault
fault_at (Some at) = fault.BadPacket at
fault_at None = fault.NoMemory

-- a follower's fault as one of its input
abbrev pub place_fault : List Place → FollowFault → PacketFault
place_fault places (follow_fault.Unfit version) = fault_at (place_in version places)
place_fault places follow_fault.NoMemory = fault.NoMemory

-- the follower began with these entries and took these packets, by these limits, and did not go on
-- yet; and of each version that comes later its places tell where the first packet begins
pub record HasTaken (limits : Limits) (start : List Entry) (packets : List Packet)
    (f : InputFollower) : Type 0 where
  pub limits_same : f.follower.limits ≡ limits
  pub entries_same : f.follower.entries ≡ start
  pub follows : IsFollowing start packets f.follower
  pub places : (version : ℕ) → length (commits_of start) < version
      → place_in version f.places ≡ place_of version packets

-- the follower takes one packet more, where this is the offset behind those before it
abbrev pub TakesAt : Packet → ℕ → InputFollower → InputFollower → Type 0
TakesAt packet at old new =
    (limits : Limits) (start : List Entry) (packets : List Packet) → at ≡ length (input_of packets)
    → HasTaken limits start packets old → HasTaken limits start (packets ++ packet ∷ []) new

-- the fault is for want of memory, or its offset is that of the packet at which the packets are
-- stuck
abbrev pub IsStuckAt : Limits → List Commit → List Packet → PacketFault → Type 0
IsStuckAt limits start packets (fault.BadPacket at) = stuck_at limits start packets ≡ Some at
IsStuckAt limits start packets fault.NoMemory = Unit {0}

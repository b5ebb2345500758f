-- What an input of packets is, and where it has a fault.
use Rattle.std.specs.Prelude.{◌≡◌, ℕ, ◌+◌, ◌-◌, nat_lt, ◌==◌, List, [], ◌∷◌, ◌++◌, length, Option, Some, None, option_map, if◌then◌else◌}
use Rattle.std.specs.List.{flat_map, AllByRecursion}
use Rattle.tl_types.specs.declared.commits.Commit.{Commit}
use Rattle.tl_types.specs.declared.limits.Limits.{Limits}
use Rattle.tl_follow.specs.declared.packets.Packet.{Packet}
use Rattle.tl_follow.specs.declared.faults.PacketFault.{PacketFault}
use Rattle.tl_follow.specs.declared.faults.PacketFault.TheVariants as fault
use Rattle.tl_follow.specs.Following.{followed}
use Rattle.tl_follow.specs.Calls.{FollowsAll}
use Rattle.tl_follow.specs.Packets.{packet_spelling, IsPacket, IsNoPacket}

-- the most bytes that an input may have: 2 GiB
abbrev pub input_limit : ℕ
input_limit = 2147483648

-- packets as bytes, one behind the other
abbrev pub input_of : List Packet → List ℕ
input_of packets = flat_map packet_spelling packets

-- the bytes are these packets and then what begins with no packet
abbrev pub IsInput : List ℕ → List Packet → List ℕ → Type 0
IsInput bytes packets rest =
    AllByRecursion IsPacket packets × (bytes ≡ input_of packets ++ rest) × IsNoPacket rest

-- the offset of the first packet of a version, where there is one
abbrev pub place_of : ℕ → List Packet → Option ℕ
place_of version [] = None
place_of version (p ∷ packets) =
    if p.version == version then Some 0
    else option_map (λ at. length (packet_spelling p) + at) (place_of version packets)

-- the offset of the first packet of the version at which packets are stuck, if they are
abbrev pub stuck_at : Limits → List Commit → List Packet → Option ℕ
stuck_at limits start packets = place_of (length (followed limits start packets) + 1) packets

-- the offset of an input's fault, if it has one: where it is too long; else where no packet begins;
-- else where the packets are stuck
abbrev pub input_fault : Limits → List Commit → List ℕ → List Packet → List ℕ → Option ℕ
input_fault limits start bytes packets rest =
    if nat_lt input_limit (length bytes) then Some input_limit
    else if nat_lt 0 (length rest) then Some (length bytes - length rest)
    else stuck_at limits start packets

-- the bytes are packets to their end, without a fault, and the packets make these commits behind
-- the first ones
abbrev pub FollowsInput : Limits → List Commit → List ℕ → List Commit → Type 0
FollowsInput limits start bytes commits =
    (packets : List Packet) × IsInput bytes packets []
    × (input_fault limits start bytes packets [] ≡ None) × FollowsAll limits start packets commits

-- the fault is for want of memory, or its offset is that of the input's fault
abbrev pub IsInputFault : Limits → List Commit → List ℕ → PacketFault → Type 0
IsInputFault limits start bytes (fault.BadPacket at) =
    (packets : List Packet) × (rest : List ℕ) × IsInput bytes packets rest
    × (input_fault limits start bytes packets rest ≡ Some at)
IsInputFault limits start bytes fault.NoMemory = Unit {0}

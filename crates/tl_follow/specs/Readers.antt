-- What a reader of an input keeps of the bytes that it was given.
use Rattle.std.specs.Prelude.{◌≡◌, ℕ, ◌≤◌, Bool, true, false, nat_lt, List, [], ◌++◌, length, drop, if◌then◌else◌}
use Rattle.std.specs.List.{AllByRecursion}
use Rattle.tl_types.specs.declared.commits.Entry.{Entry}
use Rattle.tl_types.specs.declared.limits.Limits.{Limits}
use Rattle.tl_follow.specs.declared.packets.Packet.{Packet}
use Rattle.tl_follow.specs.declared.places.InputFollower.{InputFollower}
use Rattle.tl_follow.specs.declared.inputs.PacketReader.{PacketReader}
use Rattle.tl_follow.specs.Packets.{IsPacket, IsNoPacket, MayBegin, NeverBegins}
use Rattle.tl_follow.specs.Inputs.{input_of}
use Rattle.tl_follow.specs.Places.{HasTaken}

-- up to the offset the bytes are these packets
pub record IsReadTo (bytes : List ℕ) (packets : List Packet) (at : ℕ) : Type 0 where
  pub within : at ≤ length bytes
  pub packets_are : AllByRecursion IsPacket packets
  pub front : bytes ≡ input_of packets ++ drop at bytes

-- up to the offset the bytes are packets, which the follower took behind these
pub record HasRead (limits : Limits) (start : List Entry) (packets : List Packet)
    (bytes : List ℕ) (at : ℕ) (f : InputFollower) : Type 0 where
  pub more : List Packet
  pub to : IsReadTo bytes more at
  pub taken : HasTaken limits start (packets ++ more) f

-- the follower takes the packets that the bytes are up to the offset, where the bytes stand at this
-- offset of an input, behind the packets that it took before
abbrev pub TakesFront : ℕ → List ℕ → ℕ → InputFollower → InputFollower → Type 0
TakesFront from bytes at old new =
    (limits : Limits) (start : List Entry) (packets : List Packet)
    → from ≡ length (input_of packets) → HasTaken limits start packets old
    → HasRead limits start packets bytes at new

-- no packet begins with the bytes, whatever follows, where this is told of them; else none begins
-- with them as they are, and one may once more follow
abbrev pub IsRest : Bool → List ℕ → Type 0
IsRest true bytes = NeverBegins bytes
IsRest false bytes = IsNoPacket bytes × MayBegin bytes

-- of the bytes that a reader has not read as packets it keeps all, or none where no packet begins
-- with them, whatever follows
abbrev pub KeepsRest : Bool → List ℕ → List ℕ → Type 0
KeepsRest true bytes kept = kept ≡ []
KeepsRest false bytes kept = kept ≡ bytes

-- the reader began with these entries, by these limits, and was given these bytes: they are
-- packets, which its follower took, and then what begins with none
pub record IsRead (limits : Limits) (start : List Entry) (bytes : List ℕ) (r : PacketReader)
    : Type 0 where
  pub packets : List Packet
  pub behind : List ℕ
  pub packets_are : AllByRecursion IsPacket packets
  pub bytes_are : bytes ≡ input_of packets ++ behind
  pub taken : HasTaken limits start packets r.follower
  pub end_is : r.end ≡ length (input_of packets)
  pub count_is : r.count ≡ length bytes
  pub rest : IsRest r.bad behind
  pub keeps : KeepsRest r.bad behind r.rest.items

-- the reader is one that was given some bytes
abbrev pub IsReader : PacketReader → Type 0
IsReader r =
    (limits : Limits) × (start : List Entry) × (bytes : List ℕ) × IsRead limits start bytes r

-- how many bytes a reader was given
abbrev pub count_of : PacketReader → ℕ
count_of r = r.count

-- how many bytes a reader asks for: a piece that is counted alone, else at least 1 MiB and as many
-- as it keeps
abbrev pub next_size : PacketReader → ℕ
next_size r =
    if r.bad then 65535
    else if nat_lt (length r.rest.items) 1048576 then 1048576 else length r.rest.items

-- the reader was given this piece behind what it was given before
abbrev pub ReadsOn : List ℕ → PacketReader → PacketReader → Type 0
ReadsOn piece old new =
    (limits : Limits) (start : List Entry) (bytes : List ℕ) → IsRead limits start bytes old
    → IsRead limits start (bytes ++ piece) new

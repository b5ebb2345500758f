-- The spelling of packets.
use Rattle.std.specs.Prelude.{◌≡◌, ◌⊎◌, ℕ, ◌+◌, ◌<◌, ◌≤◌, List, ◌++◌, length, drop, Result, Ok, Err, alloc_error}
use Rattle.std.specs.declared.alloc.AllocError.{AllocError}
use Rattle.tl_record.specs.Spelling.{number, spelling, IsCommit}
use Rattle.tl_record.specs.declared.decoding.Decoded.{Decoded}
use Rattle.tl_record.specs.declared.faults.RecordFault.{RecordFault}
use Rattle.tl_record.specs.declared.faults.RecordFault.TheVariants as record_fault
use Rattle.tl_follow.specs.declared.packets.Packet.{Packet}
use Rattle.tl_follow.specs.declared.reading.ReadPacket.{ReadPacket}
use Rattle.tl_follow.specs.declared.reading.Front.{Front}
use Rattle.tl_follow.specs.declared.reading.Front.TheVariants as front
use Rattle.tl_follow.specs.declared.faults.PacketFault.{PacketFault}
use Rattle.tl_follow.specs.declared.faults.PacketFault.TheVariants as fault

-- a version that a commit may have
abbrev pub IsVersion : ℕ → Type 0
IsVersion version = (1 ≤ version) × (version ≤ 16777215)

-- a packet: its version in 4 bytes, the most significant first, and the record of its commit
abbrev pub packet_spelling : Packet → List ℕ
packet_spelling p = number p.version ++ spelling p.commit

-- what every packet that is spelled keeps
abbrev pub IsPacket : Packet → Type 0
IsPacket p = IsVersion p.version × IsCommit p.commit

-- the bytes begin with the packet, and these follow it
abbrev pub BeginsWithPacket : List ℕ → Packet → List ℕ → Type 0
BeginsWithPacket bytes p rest = IsPacket p × (bytes ≡ packet_spelling p ++ rest)

-- the bytes begin with no packet
abbrev pub IsNoPacket : List ℕ → Type 0
IsNoPacket bytes = (p : Packet) (rest : List ℕ) → BeginsWithPacket bytes p rest → ⊥

-- the bytes begin with no packet, whatever follows them
abbrev pub NeverBegins : List ℕ → Type 0
NeverBegins bytes = (more : List ℕ) → IsNoPacket (bytes ++ more)

-- the answer is this packet, unless memory ran out
abbrev pub FindsPacket : Packet → Result ReadPacket PacketFault → Type 0
FindsPacket p (Ok r) = r.packet ≡ p
FindsPacket p (Err e) = e ≡ fault.NoMemory

-- the fault is for want of memory, or it names this offset, where the bytes begin with no packet
abbrev pub IsBadAt : ℕ → List ℕ → PacketFault → Type 0
IsBadAt at bytes (fault.BadPacket place) = (place ≡ at) × IsNoPacket bytes
IsBadAt at bytes fault.NoMemory = Unit {0}

-- a packet begins with the bytes once more follow, or they are fewer than a version has
abbrev pub MayBegin : List ℕ → Type 0
MayBegin bytes =
    (length bytes < 4)
    ⊎ ((p : Packet) × (more : List ℕ) × (rest : List ℕ) × BeginsWithPacket (bytes ++ more) p rest)

-- what stands at an offset is as it is told
abbrev pub IsFront : List ℕ → ℕ → Front → Type 0
IsFront bytes at (front.Whole r) =
    ((rest : List ℕ) × BeginsWithPacket (drop at bytes) r.packet rest)
    × (r.end ≡ at + length (packet_spelling r.packet)) × (r.end ≤ length bytes)
IsFront bytes at front.Cut = IsNoPacket (drop at bytes) × MayBegin (drop at bytes)
IsFront bytes at front.Never = NeverBegins (drop at bytes)

-- what a version and what is read behind it make
abbrev pub front_read : ℕ → Result Decoded RecordFault → Result Front AllocError
front_read version (Ok d) =
    Ok (front.Whole (record {
      packet = record { version = version; commit = d.commit };
      end = d.end;
    }))
front_read version (Err (record_fault.Short place)) = Ok front.Cut
front_read version (Err (record_fault.Bad place)) = Ok front.Never
front_read version (Err record_fault.NoMemory) = Err alloc_error

-- the packet that stands at an offset, where one does
abbrev pub packet_read : ℕ → Result Front AllocError → Result ReadPacket PacketFault
packet_read at (Ok (front.Whole r)) = Ok r
packet_read at (Ok front.Cut) = Err (fault.BadPacket at)
packet_read at (Ok front.Never) = Err (fault.BadPacket at)
packet_read at (Err e) = Err fault.NoMemory

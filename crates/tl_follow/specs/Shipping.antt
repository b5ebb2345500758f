-- What is shipped of a history.
use Rattle.std.specs.Prelude.{ℕ, ◌+◌, ◌&&◌, nat_le, List, [], ◌∷◌}
use Rattle.std.specs.List.{filter}
use Rattle.tl_types.specs.declared.commits.Commit.{Commit}
use Rattle.tl_follow.specs.declared.packets.Packet.{Packet}
use Rattle.tl_follow.specs.Inputs.{input_of}

-- a commit with a version
abbrev pub packet_of : ℕ → Commit → Packet
packet_of version commit = record { version = version; commit = commit }

-- commits as packets, the first of which has this version
abbrev pub packets_from : ℕ → List Commit → List Packet
packets_from version [] = []
packets_from version (c ∷ commits) = packet_of version c ∷ packets_from (version + 1) commits

-- the packets of the commits with versions from one to another, both among them
abbrev pub packets_between : ℕ → ℕ → List Commit → List Packet
packets_between from to commits =
    filter (λ p. nat_le from p.version && nat_le p.version to) (packets_from 1 commits)

-- the bytes of these packets
abbrev pub shipment : ℕ → ℕ → List Commit → List ℕ
shipment from to commits = input_of (packets_between from to commits)

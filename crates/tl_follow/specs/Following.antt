-- What a follower's history is, by the packets that it took.
use Rattle.std.specs.Prelude.{◌≡◌, ℕ, zero, suc, ◌+◌, ◌<◌, false, ◌==◌, List, [], ◌∷◌, ◌++◌, length, map, Option, Some, None, if◌then◌else◌}
use Rattle.std.specs.Map.{lookup}
use Rattle.std.specs.BTreeMap.{is_at}
use Rattle.std.specs.Ordering.{nat_cmp}
use Rattle.tl_types.specs.declared.commits.Commit.{Commit}
use Rattle.tl_types.specs.declared.commits.Entry.{Entry}
use Rattle.tl_types.specs.declared.limits.Limits.{Limits}
use Rattle.tl_types.specs.Entries.{commits_of}
use Rattle.tl_types.specs.History.{database_of, fits}
use Rattle.tl_index.specs.Snapshots.{commit_entry}
use Rattle.tl_follow.specs.declared.packets.Packet.{Packet}

-- the second list begins with the first
abbrev pub IsPrefixOf : List Commit → List Commit → Type 0
IsPrefixOf front commits = (more : List Commit) × (commits ≡ front ++ more)

-- THE HISTORY THAT PACKETS MAKE

-- the commit of the first packet of a version, where there is one
abbrev pub first_of : ℕ → List Packet → Option Commit
first_of version [] = None
first_of version (p ∷ packets) =
    if p.version == version then Some p.commit else first_of version packets

-- the commit, where there is one and it fits
abbrev pub where_fits : Limits → List Commit → Option Commit → Option Commit
where_fits limits commits None = None
where_fits limits commits (Some c) = if fits limits (database_of commits) c then Some c else None

-- the commit that comes next: that of the first packet of the next version, where there is one and
-- it fits
abbrev pub next_of : Limits → List Packet → List Commit → Option Commit
next_of limits packets commits = where_fits limits commits (first_of (length commits + 1) packets)

-- the commits, and one more where there is one
abbrev pub with_next : List Commit → Option Commit → List Commit
with_next commits None = commits
with_next commits (Some c) = commits ++ c ∷ []

-- the commits after so many turns, in each of which the commit that comes next stands behind them,
-- where one comes
abbrev pub commits_after : Limits → List Packet → ℕ → List Commit → List Commit
commits_after limits packets zero commits = commits
commits_after limits packets (suc turns) commits =
    commits_after limits packets turns (with_next commits (next_of limits packets commits))

-- the history that packets make of the first commits: it goes on as long as a commit comes next,
-- and so many turns as there are packets are enough
abbrev pub followed : Limits → List Commit → List Packet → List Commit
followed limits start packets = commits_after limits packets (length packets) start

-- there is a packet of the next version, and the first one's commit does not fit
abbrev pub IsStuck : Limits → List Packet → List Commit → Type 0
IsStuck limits packets commits =
    (c : Commit) × (first_of (length commits + 1) packets ≡ Some c)
    × (fits limits (database_of commits) c ≡ false)

-- the commits are the history that packets make of the first ones, and no packet is of the next
-- version
abbrev pub IsWhole : Limits → List Commit → List Packet → List Commit → Type 0
IsWhole limits start packets commits =
    (commits ≡ followed limits start packets)
    × (first_of (length commits + 1) packets ≡ None)

-- THE FOLLOWER

-- a follower: its limits, the entries of its history, and the commits of the packets that it
-- holds, by version
pub record Following : Type 0 where
  pub limits : Limits
  pub entries : List Entry
  pub held : List (ℕ × Commit)

-- the commits of its history
abbrev pub commits_in : Following → List Commit
commits_in f = commits_of f.entries

-- the commit of the packet that it holds of a version
abbrev pub held_at : ℕ → Following → Option Commit
held_at version f = lookup (is_at (nat_cmp version)) f.held

-- the commit of the packet that it holds of the next version
abbrev pub next_held : Following → Option Commit
next_held f = held_at (length (commits_in f) + 1) f

-- the second list of entries is the first, and behind it those of further commits
abbrev pub AddsCommits : List Entry → List Entry → Type 0
AddsCommits start entries = (added : List Commit) × (entries ≡ start ++ map commit_entry added)

-- from some entries, after some packets were taken: only commits came behind those entries, and
-- the history that the packets make begins with the commits; and of each later version the first
-- packet is held
pub record IsFollowing (start : List Entry) (packets : List Packet) (f : Following) : Type 0 where
  pub begins : AddsCommits start f.entries
  pub leads : IsPrefixOf (commits_in f) (followed f.limits (commits_of start) packets)
  pub holds : (version : ℕ) → length (commits_in f) < version
      → held_at version f ≡ first_of version packets

-- What each call makes of a follower, and what any calls make of it.
use Rattle.std.specs.Prelude.{◌≡◌, ◌+◌, Bool, true, false, ◌&&◌, not, nat_lt, List, [], ◌∷◌, ◌++◌, length, Option, Some, None, Result, Ok, Err, is_some, if◌then◌else◌}
use Rattle.std.specs.List.{fold}
use Rattle.std.specs.Map.{remove_entry}
use Rattle.std.specs.BTreeMap.{is_at, insert_entry}
use Rattle.std.specs.Ordering.{nat_cmp}
use Rattle.tl_types.specs.declared.commits.Commit.{Commit}
use Rattle.tl_types.specs.declared.commits.Entry.{Entry}
use Rattle.tl_types.specs.declared.limits.Limits.{Limits}
use Rattle.tl_types.specs.Entries.{commits_of, has_break}
use Rattle.tl_types.specs.History.{database_of, fits}
use Rattle.tl_types.specs.Legality.{FitFrom}
use Rattle.tl_types.specs.Limits.{standard_limits}
use Rattle.tl_batch.specs.Made.{AreWithin}
use Rattle.tl_index.specs.Snapshots.{commit_entry}
use Rattle.tl_follow.specs.declared.packets.Packet.{Packet}
use Rattle.tl_follow.specs.declared.packets.Taken.{Taken}
use Rattle.tl_follow.specs.declared.packets.Taken.TheVariants.{Held, Known}
use Rattle.tl_follow.specs.declared.faults.FollowFault.{FollowFault}
use Rattle.tl_follow.specs.declared.faults.FollowFault.TheVariants as fault
use Rattle.tl_follow.specs.Following.{Following, IsStuck, IsWhole, commits_in, first_of, followed, held_at, next_held}

-- what every follower keeps: its limits are within the standard ones, and its history has no break
pub record IsKept (limits : Limits) (entries : List Entry) : Type 0 where
  pub within : AreWithin limits standard_limits
  pub whole : has_break entries ≡ false

-- a follower that begins with these entries and holds no packet
abbrev pub follower_of : Limits → List Entry → Following
follower_of limits entries = record { limits = limits; entries = entries; held = [] }

-- TAKING A PACKET

-- the packet's version is not reached, and no packet of it is held
abbrev pub is_new : Following → Packet → Bool
is_new f p = nat_lt (length (commits_in f)) p.version && not (is_some (held_at p.version f))

-- what becomes of the packet
abbrev pub taken_as : Following → Packet → Taken
taken_as f p = if is_new f p then Held else Known

-- the follower after a packet was taken: a new one is held
abbrev pub after_take : Following → Packet → Following
after_take f p =
    if is_new f p then record f { held = insert_entry nat_cmp f.held p.version p.commit } else f

-- GOING ON

-- the follower with one commit more, which is held no longer
abbrev pub with_commit : Following → Commit → Following
with_commit f c =
    record f {
      entries = f.entries ++ commit_entry c ∷ [];
      held = remove_entry (is_at (nat_cmp (length (commits_in f) + 1))) f.held;
    }

-- the follower with one commit more, where that is held of the next version and fits
abbrev pub advanced_by : Following → Option Commit → Following
advanced_by f None = f
advanced_by f (Some c) =
    if fits f.limits (database_of (commits_in f)) c then with_commit f c else f

-- a commit is held of the next version, and it does not fit
abbrev pub IsUnfit : Following → Type 0
IsUnfit f =
    (c : Commit) × (next_held f ≡ Some c) × (fits f.limits (database_of (commits_in f)) c ≡ false)

-- the fault of a commit that does not fit, with the next version
abbrev pub unfit_next : Following → FollowFault
unfit_next f = fault.Unfit (length (commits_in f) + 1)

-- the follower after it advanced
abbrev pub after_advance : Following → Following
after_advance f = advanced_by f (next_held f)

-- the follower goes on: by the commit that is held of the next version and fits; or not, since none
-- is held of it, or since the one that is held does not fit, or since memory is out
abbrev pub IsAdvanced : Following → Result (Option Commit) FollowFault → Following → Type 0
IsAdvanced old (Ok (Some c)) new =
    (next_held old ≡ Some c) × (fits old.limits (database_of (commits_in old)) c ≡ true)
    × (new ≡ with_commit old c)
IsAdvanced old (Ok None) new = (next_held old ≡ None) × (new ≡ old)
IsAdvanced old (Err (fault.Unfit version)) new =
    (version ≡ length (commits_in old) + 1) × IsUnfit old × (new ≡ old)
IsAdvanced old (Err fault.NoMemory) new = new ≡ old

-- the fault is for want of memory, or it names the version at which the packets are stuck, behind
-- all that they make of the first commits
abbrev pub IsHaltedBy : List Entry → List Packet → Following → FollowFault → Type 0
IsHaltedBy start packets f (fault.Unfit version) =
    (version ≡ length (commits_in f) + 1) × IsStuck f.limits packets (commits_in f)
    × (commits_in f ≡ followed f.limits (commits_of start) packets)
IsHaltedBy start packets f fault.NoMemory = Unit {0}

-- where the follower can go no further, its commits are what the packets make of the first ones,
-- and no packet is of the next version; or the packets are stuck there
abbrev pub IsEnd : List Entry → List Packet → Following
    → Result (Option Commit) FollowFault → Type 0
IsEnd start packets f (Ok (Some c)) = Unit {0}
IsEnd start packets f (Ok None) = IsWhole f.limits (commits_of start) packets (commits_in f)
IsEnd start packets f (Err e) = IsHaltedBy start packets f e

-- the follower has gone as far as the packets lead, or it was halted
abbrev pub IsDone : {X : Type 0} → List Entry → List Packet → Following → Result X FollowFault
    → Type 0
IsDone start packets f (Ok x) = IsWhole f.limits (commits_of start) packets (commits_in f)
IsDone start packets f (Err e) = IsHaltedBy start packets f e

-- ALL PACKETS AT ONCE

-- the packets make these commits behind the first ones, each of which fits those before it, and no
-- packet is of the next version
pub record FollowsAll (limits : Limits) (start : List Commit) (packets : List Packet)
    (commits : List Commit) : Type 0 where
  pub history : start ++ commits ≡ followed limits start packets
  pub fit : FitFrom limits (database_of start) commits
  pub last : first_of (length (start ++ commits) + 1) packets ≡ None

-- the fault is for want of memory, or the packets are stuck at the end of what they make of the
-- first commits, at the version that it names
abbrev pub IsEndOfAll : Limits → List Commit → List Packet → FollowFault → Type 0
IsEndOfAll limits start packets (fault.Unfit version) =
    (version ≡ length (followed limits start packets) + 1)
    × IsStuck limits packets (followed limits start packets)
IsEndOfAll limits start packets fault.NoMemory = Unit {0}

-- ANY CALLS

-- a call
pub data Call : Type 0 where
  Take : (packet : Packet) → Call
  Advance : Call

-- a follower after a call
abbrev pub after_call : Following → Call → Following
after_call f (Take p) = after_take f p
after_call f Advance = after_advance f

-- a follower after calls
abbrev pub after_calls : Following → List Call → Following
after_calls f calls = fold after_call f calls

-- the packets that calls take, in order
abbrev pub packets_of : List Call → List Packet
packets_of [] = []
packets_of (Take p ∷ calls) = p ∷ packets_of calls
packets_of (Advance ∷ calls) = packets_of calls

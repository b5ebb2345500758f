-- A follower whose packets come from a leader.
use Rattle.std.specs.Prelude.{◌≡◌, ℕ, ◌+◌, ◌-◌, ◌<◌, ◌≤◌, List, length, Some, None, IsSome, slice_get}
use Rattle.std.specs.List.{AllByRecursion}
use Rattle.tl_types.specs.declared.commits.Commit.{Commit}
use Rattle.tl_types.specs.declared.limits.Limits.{Limits}
use Rattle.tl_types.specs.Legality.{FitInTurn}
use Rattle.tl_follow.specs.declared.packets.Packet.{Packet}
use Rattle.tl_follow.specs.Following.{IsPrefixOf, first_of, followed, IsStuck}

-- the packet is one of these commits, with its version
abbrev pub IsOf : List Commit → Packet → Type 0
IsOf commits p = (1 ≤ p.version) × (slice_get commits (p.version - 1) ≡ Some p.commit)

-- the leader's commits fit one after the other, the follower begins with some of them, and each
-- packet is one of them
pub record AreFrom (limits : Limits) (leader start : List Commit) (packets : List Packet)
    : Type 0 where
  pub fit : FitInTurn limits leader
  pub begins : IsPrefixOf start leader
  pub each : AllByRecursion (IsOf leader) packets

-- the packets lead along the leader's commits and are never stuck; of each version that they
-- reach behind the first commits there is a packet, and of the next one there is none
pub record IsLed (limits : Limits) (leader start : List Commit) (packets : List Packet)
    : Type 0 where
  pub along : IsPrefixOf (followed limits start packets) leader
  pub never_stuck : (commits : List Commit) → IsPrefixOf commits (followed limits start packets)
      → length start ≤ length commits → IsStuck limits packets commits → ⊥
  pub each : (version : ℕ) → length start < version
      → version ≤ length (followed limits start packets) → IsSome (first_of version packets)
  pub next : first_of (length (followed limits start packets) + 1) packets ≡ None

-- The entries of the commits that were gone on by are the new ones, each commit fits, and whatever
-- was followed is followed.
use Rattle.std.proofs.Common.{◌≡◌, ◌++◌, List, length, map}
use Rattle.tl_types.specs.declared.commits.Entry.{Entry}
use Rattle.tl_types.specs.History.{database_of}
use Rattle.tl_types.specs.Legality.{FitFrom}
use Rattle.tl_index.specs.Snapshots.{commit_entry}
use Rattle.tl_follow.specs.declared.packets.Packet.{Packet}
use Rattle.tl_follow.specs.Following.{IsFollowing, commits_in}
use Rattle.tl_follow.proofs.follower.Follower.follow_held.Given as goal

abbrev pub invariant-going : goal.invariant-going
invariant-going l = record {
  entries : l.follower.entries ≡ l.fn.self.entries ++ map commit_entry l.commits;
  fit : FitFrom l.fn.self.limits (database_of (commits_in l.fn.self)) l.commits;
  limits : l.follower.limits ≡ l.fn.self.limits;
  follows : (start : List Entry) (packets : List Packet) → IsFollowing start packets l.fn.self
      → IsFollowing start packets l.follower;
}

abbrev pub decreases-going : goal.decreases-going
decreases-going l = length l.follower.held

-- The commits applied so far are those that were read, and they fit.
use Rattle.std.proofs.Common.{◌≡◌, ◌-◌, List, length}
use Rattle.tl_types.specs.declared.commits.Commit.{Commit}
use Rattle.tl_replay.specs.Applying.{HasApplied}
use Rattle.tl_replay.proofs.replaying.apply_fitting.Given as goal

abbrev pub invariant-commits : goal.invariant-commits
invariant-commits g l = record {
  disk : l.found_commits.disk ≡ l.fn.found_commits.disk;
  image : l.found_commits.image ≡ l.fn.found_commits.image;
  applied : (commits : List Commit)
      × HasApplied g.A.Applies.makes l.limits l.fn.first commits l.found_commits l.applied;
}

abbrev pub decreases-commits : goal.decreases-commits
decreases-commits g l = length l.found_commits.image - l.found_commits.at

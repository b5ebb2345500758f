-- What was read before goes on with some later commits.
use Rattle.std.proofs.Common.{◌≡◌, ◌-◌, ◌++◌, List, length}
use Rattle.tl_types.specs.declared.commits.Commit.{Commit}
use Rattle.tl_journal.specs.Opening.{HasRead}
use Rattle.tl_replay.proofs.replaying.pass_over.Given as goal

abbrev pub invariant-commits : goal.invariant-commits
invariant-commits g l = record {
  disk : l.found_commits.disk ≡ l.fn.found_commits.disk;
  image : l.found_commits.image ≡ l.fn.found_commits.image;
  read : (found : List Commit) → HasRead found l.fn.found_commits
      → (later : List Commit) × HasRead (found ++ later) l.found_commits;
}

abbrev pub decreases-commits : goal.decreases-commits
decreases-commits g l = length l.found_commits.image - l.found_commits.at

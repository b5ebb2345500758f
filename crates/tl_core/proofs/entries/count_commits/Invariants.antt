use Rattle.std.proofs.Common.{◌≡◌, ◌≤◌, length, take}
use Rattle.tl_types.specs.Entries.{commits_of}
use Rattle.tl_core.proofs.entries.count_commits.Given as goal

abbrev pub invariant-loop-entry : goal.invariant-loop-entry
invariant-loop-entry l =
    (l.count ≡ length (commits_of (take l.entry-index l.entries))) × (l.count ≤ l.entry-index)

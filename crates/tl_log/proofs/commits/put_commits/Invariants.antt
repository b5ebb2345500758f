use Rattle.std.proofs.Common.{◌≡◌, ◌+◌, ◌++◌, drop}
use Rattle.tl_types.specs.History.{database_of}
use Rattle.tl_log.specs.Listing.{lines_from}
use Rattle.tl_log.proofs.commits.put_commits.Given as goal

abbrev pub invariant-loop-before : goal.invariant-loop-before
invariant-loop-before g l =
    l.out.items ++ lines_from (database_of l.store) (l.before + 1) (drop l.before l.store)
    ≡ l.initial.out.items ++ lines_from (database_of l.store) 1 l.store

use Rattle.std.proofs.Common.{◌≡◌, ◌++◌, drop}
use Rattle.tl_types.specs.History.{database_of}
use Rattle.tl_log.specs.Listing.{lines_of_tables}
use Rattle.tl_log.proofs.tables.put_tables.Given as goal

abbrev pub invariant-loop-number : goal.invariant-loop-number
invariant-loop-number g l =
    l.out.items ++ lines_of_tables l.lasts l.number (drop l.number (database_of l.store).tables)
    ≡ l.initial.out.items ++ lines_of_tables l.lasts 0 (database_of l.store).tables

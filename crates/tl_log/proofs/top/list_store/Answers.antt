use Rattle.std.proofs.Common.{rules}
use Rattle.tl_types.specs.History.{database_of}
use Rattle.tl_log.proofs.EndingLemmas.{ends_rows, number_found}
use Rattle.tl_log.proofs.top.list_store.Goals as goal

pub list_found-requires : goal.list_found-requires
list_found-requires g c = number_found (database_of c.args.store.now) c.in-Rows.table c.in-Some.number (search rules)

pub returns-in-Some-clause-ends : goal.returns-in-Some-clause-ends
returns-in-Some-clause-ends g c =
    ends_rows c.args.listing.now c.in-Rows.table c.args.store.now c.in-Some.number _ _ _ _ _ (search rules) (search rules) c.list_found.ensures.all

use Rattle.std.proofs.Common.{◌≡◌, length, arith}
use Rattle.std.proofs.lemmas.Bool.Decides.{nat_tests}
use Rattle.tl_types.specs.Entries.{commits_of}
use Rattle.tl_types.specs.History.{database_of, rows_of}
use Rattle.tl_filter.proofs.SelectLemmas.{all_stay}
use Rattle.tl_filter.proofs.selects.select_within.Goals as goal

pub returns-then-is_empty-clause-members : goal.returns-then-is_empty-clause-members
returns-then-is_empty-clause-members g c =
    let e : length c.args.pred.now.any ≡ 0 = let f = c.is_empty.ensures in let h = c.if-is_empty.true in grind (arith, nat_tests) in
    all_stay c.args.pred.now (rows_of (database_of (commits_of c.args.snapshot.now)) c.args.table) c.args.set.now e c.requires.rows

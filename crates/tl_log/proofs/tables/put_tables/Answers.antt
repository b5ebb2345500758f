use Rattle.tl_types.specs.History.{database_of}
use Rattle.tl_log.specs.Listing.{lines_of_tables}
use Rattle.std.proofs.Common.{rules, ◌++◌}
use Rattle.tl_log.proofs.TableLemmas.{tables_more}
use Rattle.tl_log.proofs.tables.put_tables.Goals as goal

pub loop-number-preserved : goal.loop-number-preserved
loop-number-preserved g c =
    tables_more c.args.lasts.now (database_of c.args.store.now).tables c.loop-number.number
    c.loop-number.out.items c.put_table.new.out.items
    (c.args.out.now.items ++ lines_of_tables c.args.lasts.now 0 (database_of c.args.store.now).tables)
    (search rules) c.loop-number.invariant (λ t is. search rules)

use Rattle.std.proofs.Common.{arith, get_or, rules}
use Rattle.tl_types.specs.History.{database_of, rows_of, is_open}
use Rattle.tl_log.proofs.TableLemmas.{counts_more, one_more, no_row}
use Rattle.tl_log.proofs.tables.open_rows.Goals as goal

pub overflow_add-count : goal.overflow_add-count
overflow_add-count g c =
    let rows = rows_of (database_of c.args.store.now) c.args.table in
    let few = c.loop-row.invariant.few in
    let one = one_more (is_open (get_or rows c.loop-row.row no_row)) c.current_count-count.result (c.current_count-count.ensures no_row) in
    omega (arith, few, one, c.loop-row-test.true, c.rows-row-end.ensures.few)

pub loop-row-preserved : goal.loop-row-preserved
loop-row-preserved g c =
    counts_more (rows_of (database_of c.args.store.now) c.args.table) c.loop-row.row c.loop-row.count
    c.current_count-count.result no_row c.loop-row.invariant (search rules) (c.current_count-count.ensures no_row)

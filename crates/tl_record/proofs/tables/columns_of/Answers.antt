use Rattle.std.proofs.Common.{[]}
use Rattle.std.proofs.lemmas.Result.{err_from_is_err_and}
use Rattle.tl_record.specs.Reading.{columns_at}
use Rattle.tl_record.proofs.Loops.{columns_go_on, columns_stop, columns_end}
use Rattle.tl_record.proofs.tables.columns_of.Goals as goal

pub returns-in_err-column : goal.returns-in_err-column
returns-in_err-column c =
    let p =
    err_from_is_err_and c.from_residual-in_err-column.result
    c.from_residual-in_err-column.ensures.1 in
    rw (p.1, p.2)
    (columns_stop c.in_err-column.field-0.0 c.loop.columns.items c.deref.result.now c.args.count c.loop.counter
    c.loop.rest.now (columns_at [] c.args.count c.args.bytes.now) c.loop-test.true
    c.deref.ensures.value c.in_err-column.ensures c.loop.invariant)

pub loop-preserved : goal.loop-preserved
loop-preserved c =
    rw c.in_ok-push.ensures.items
    (columns_go_on c.loop.columns.items c.deref.result.now c.args.count c.loop.counter c.loop.rest.now
    c.in_ok-column.behind.now c.in_ok-column.column (columns_at [] c.args.count c.args.bytes.now)
    c.loop-test.true c.deref.ensures.value c.in_ok-column.ensures c.loop.invariant)

pub returns : goal.returns
returns c =
    columns_end c.loop.columns.items c.args.count c.loop.counter c.loop.rest.now
    (columns_at [] c.args.count c.args.bytes.now) c.loop-test.false c.loop.invariant

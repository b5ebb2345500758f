use Rattle.std.proofs.lemmas.Result.{err_from_is_err_and}
use Rattle.tl_record.specs.Reading.{several, prepended, cell_at}
use Rattle.tl_record.proofs.Loops.{several_goes_on, several_stops, several_ends}
use Rattle.tl_record.proofs.rows.push_cells.Goals as goal

pub returns-in_err-cell : goal.returns-in_err-cell
returns-in_err-cell c =
    let p =
    err_from_is_err_and c.from_residual.result c.from_residual.ensures.1 in
    rw (p.1, p.2)
    (several_stops c.in_err-cell.field-0.0 c.loop.cells.items cell_at c.args.count c.loop.counter
    c.loop.rest.now (prepended c.args.cells.now.items (several cell_at c.args.count c.args.bytes.now))
    c.loop-test.true c.in_err-cell.ensures c.loop.invariant)

pub loop-preserved : goal.loop-preserved
loop-preserved c =
    rw c.in_ok-push.ensures.items
    (several_goes_on c.loop.cells.items cell_at c.args.count c.loop.counter c.loop.rest.now
    c.in_ok-cell.behind.now c.in_ok-cell.cell
    (prepended c.args.cells.now.items (several cell_at c.args.count c.args.bytes.now))
    c.loop-test.true c.in_ok-cell.ensures c.loop.invariant)

pub returns : goal.returns
returns c =
    several_ends c.loop.cells.items cell_at c.args.count c.loop.counter c.loop.rest.now
    (prepended c.args.cells.now.items (several cell_at c.args.count c.args.bytes.now))
    c.loop-test.false c.loop.invariant

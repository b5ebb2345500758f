use Rattle.std.proofs.Common.{arith}
use Rattle.std.proofs.lemmas.Result.{err_from_is_err_and}
use Rattle.tl_record.specs.Reading.{ascending}
use Rattle.tl_record.proofs.Loops.{ids_go_on, ids_stop, ids_end}
use Rattle.tl_record.proofs.changes.ids_of.Goals as goal

pub returns-in_err-id : goal.returns-in_err-id
returns-in_err-id c =
    let p =
    err_from_is_err_and c.from_residual-in_err-id.result c.from_residual-in_err-id.ensures.1 in
    rw (p.1, p.2)
    (ids_stop c.in_err-id.field-0.0 c.loop-left.ids.items c.loop-left.left c.loop-left.low
    c.loop-left.rest.now (ascending c.args.count 0 c.args.bytes.now)
    (omega (arith, c.loop-left-test.true)) c.in_err-id.ensures.read c.loop-left.invariant.0)

pub loop-left-preserved : goal.loop-left-preserved
loop-left-preserved c = (
  rw c.in_ok-push.ensures.items
      (ids_go_on c.loop-left.ids.items c.loop-left.left c.loop-left.low c.loop-left.rest.now
      c.in_ok-id.behind.now c.in_ok-id.id (ascending c.args.count 0 c.args.bytes.now)
      (omega (arith, c.loop-left-test.true)) c.in_ok-id.ensures.read c.loop-left.invariant.0),
  (let u = c.in_ok-id.ensures.within.1 in
      omega (arith, u, c.loop-left-test.true, c.loop-left.invariant.1)),
)

pub returns : goal.returns
returns c =
    ids_end c.loop-left.ids.items c.loop-left.left c.loop-left.low c.loop-left.rest.now
    (ascending c.args.count 0 c.args.bytes.now) (omega (arith, c.loop-left-test.false))
    c.loop-left.invariant.0

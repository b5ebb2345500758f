use Rattle.std.proofs.Common.{refl}
use Rattle.tl_batch.specs.PutRows.{rows_put}
use Rattle.tl_batch.proofs.UntimedLines.{put_done, put_failed}
use Rattle.tl_batch.proofs.resolving.put_untimed.Goals as goal

pub returns-in_ok-opens-in-Ok : goal.returns-in_ok-opens-in-Ok
returns-in_ok-opens-in-Ok c = put_done c.args.table.now (rows_put c.args.rows) c.as_slice.result.now c.in-Ok.closes (record { closes = c.in-Ok.closes; opens = c.in_ok-opens-in-Ok.opens }) c.in_ok-closes.field-0 c.requires.untimed c.in_ok-closes.ensures.matching c.as_slice.ensures c.in_ok-closes.ensures.made c.in-Ok.is refl c.in_ok-opens-in-Ok.ensures

pub returns-in-Err : goal.returns-in-Err
returns-in-Err c = put_failed c.args.table.now (rows_put c.args.rows) c.as_slice.result.now c.in-Err.fault c.in_ok-closes.field-0 c.as_slice.ensures c.in_ok-closes.ensures.made c.in-Err.is

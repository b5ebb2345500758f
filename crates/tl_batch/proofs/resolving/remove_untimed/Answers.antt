use Rattle.std.proofs.Common.{refl}
use Rattle.tl_types.specs.Resolving.{removal_lines}
use Rattle.tl_batch.proofs.UntimedLines.{remove_done, remove_failed, removal_keys}
use Rattle.tl_batch.proofs.resolving.remove_untimed.Goals as goal

pub returns-in-Ok : goal.returns-in-Ok
returns-in-Ok c = remove_done c.args.table.now c.args.lines.now c.in-Ok.closes (record { closes = c.in-Ok.closes; opens = c.new.result }) c.in_ok-closes.field-0 c.requires.untimed c.in_ok-closes.ensures.matching
    (c.in_ok-closes.ensures.made (removal_lines c.args.lines.now) (removal_keys c.args.lines.now c.in_ok-keys.keys.items c.deref.result.now c.deref.ensures.value c.in_ok-keys.ensures)) c.in-Ok.is refl c.new.ensures.items

pub returns : goal.returns
returns c = remove_failed c.args.table.now c.args.lines.now c.in-Err.fault c.in_ok-closes.field-0
    (c.in_ok-closes.ensures.made (removal_lines c.args.lines.now) (removal_keys c.args.lines.now c.in_ok-keys.keys.items c.deref.result.now c.deref.ensures.value c.in_ok-keys.ensures)) c.in-Err.is

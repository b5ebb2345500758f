use Rattle.std.proofs.Common.{inl, inr, Err, refl, subst}
use Rattle.tl_replay.specs.Opening.{Opens}
use Rattle.tl_history.proofs.OpenLemmas.{refused_there}
use Rattle.tl_command.proofs.OpenedLemmas.{ends_refused}
use Rattle.tl_commands.proofs.ShipmentLemmas.{ships}
use Rattle.tl_commands.proofs.ShipEndLemmas.{shipped}
use Rattle.tl_commands.proofs.shipping.ship.Goals as goal

pub returns-in-Err : goal.returns-in-Err
returns-in-Err g c = λ left faults.
    let sink = g.K.Sink in
    let disks = g.D.Disk in
    let opens = subst (λ a. Opens disks.reads disks.may_leave disks.moment disks.left_since disks.faults ships c.standard.result c.new-first.result c.args.disk a) c.in-Err.is c.open_journal.ensures in
    inl (ends_refused disks c.args.disk c.standard.result (Err c.in-Err.field-0) c.in-Err.field-0 left (sink.written c.args.sink.now) (sink.written c.end_refused.new.sink) faults (sink.faults c.args.sink.now) (sink.faults c.end_refused.new.sink) c.end_refused.result
    (refused_there disks.reads disks.may_leave disks.moment disks.left_since disks.faults ships c.new-first.result c.standard.result 0 c.args.disk c.in-Err.field-0 opens) refl c.standard.ensures c.end_refused.ensures)

pub returns-in-Ok : goal.returns-in-Ok
returns-in-Ok g c = λ left faults.
    let sink = g.K.Sink in
    let disks = g.D.Disk in
    inr (shipped disks c.standard.result c.new-first.result c.args.disk c.into_disk.result c.in-Ok.field-0 c.args.from c.args.to left (sink.written c.args.sink.now) (sink.written c.write_text.new.sink) faults (sink.faults c.args.sink.now) (sink.faults c.write_text.new.sink) c.as_slice.result.now c.write_text.result
    c.new-first.ensures.from c.new-first.ensures.to c.standard.ensures c.in-Ok.ensures.opened c.into_disk.ensures c.as_slice.ensures.value c.write_text.ensures)

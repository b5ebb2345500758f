use Rattle.std.proofs.Common.{inl, inr}
use Rattle.tl_command.specs.declared.statuses.Status.TheVariants as status
use Rattle.tl_commands.proofs.GroupEndLemmas.{in_doubt, line_ready, ready_from}
use Rattle.tl_commands.proofs.grouping.append.Goals as goal

pub returns-in-None : goal.returns-in-None
returns-in-None g c =
    let sink = g.K.Sink in
    inr (inl (
      record {
        count_same = c.finish-faults.ensures.sure c.in-None.is;
        stands = λ h. c.finish-faults.ensures.stands h c.in-None.is;
      },
      ready_from c.args.text.now status.Done (sink.written c.args.sink.now) (sink.written c.room.new.self) (sink.written c.write_ready.new.sink) (sink.faults c.args.sink.now) (sink.faults c.room.new.self) (sink.faults c.write_ready.new.sink) c.write_ready.result c.room.ensures.unwritten c.room.ensures.sure c.write_ready.ensures,
    ))

pub returns-in-Some : goal.returns-in-Some
returns-in-Some g c =
    let sink = g.K.Sink in
    let disks = g.D.Disk in
    let failed = in_doubt disks c.args.group c.finish-faults.result.disk c.finish-faults.result.faults c.in-Some.faults c.in-Some.is c.finish-faults.ensures.device in
    inr (inr (
      record {
        rose = failed.1;
        leaves = c.finish-faults.ensures.now;
        reads = c.finish-faults.ensures.reads;
      },
      line_ready c.as_bytes.result.now c.in-Some.faults (disks.faults c.finish-faults.result.disk) (sink.written c.args.sink.now) (sink.written c.write_ready-in-Some.new.sink) (sink.faults c.args.sink.now) (sink.faults c.write_ready-in-Some.new.sink) c.write_ready-in-Some.result c.as_bytes.ensures.value failed.0
          (ready_from c.as_bytes.result.now (status.DiskFault c.in-Some.faults) (sink.written c.args.sink.now) (sink.written c.room.new.self) (sink.written c.write_ready-in-Some.new.sink) (sink.faults c.args.sink.now) (sink.faults c.room.new.self) (sink.faults c.write_ready-in-Some.new.sink) c.write_ready-in-Some.result c.room.ensures.unwritten c.room.ensures.sure c.write_ready-in-Some.ensures),
    ))

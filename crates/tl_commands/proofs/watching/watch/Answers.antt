use Rattle.std.proofs.Common.{ap, inl, inr}
use Rattle.tl_group.specs.Attaching.{as_history, history_of}
use Rattle.tl_group.specs.Keeping.{commits_in}
use Rattle.tl_commands.proofs.DiskLemmas.{none_waiting}
use Rattle.tl_command.proofs.OpenedLemmas.{ends_refused, opens_with}
use Rattle.tl_commands.proofs.watching.watch.Goals as goal

pub returns-in-Err : goal.returns-in-Err
returns-in-Err g c =
    let source = g.S.Source in
    let sink = g.K.Sink in
    let disks = g.D.Disk in
    inl (ends_refused disks c.args.disk c.standard.result (as_history disks.faults c.attach.result) c.in-Err.field-0 (source.left c.args.source.now) (sink.written c.args.sink.now) (sink.written c.end_refused.new.sink) (source.faults c.args.source.now) (sink.faults c.args.sink.now) (sink.faults c.end_refused.new.sink) c.end_refused.result c.attach.ensures.opens (ap (as_history disks.faults) c.in-Err.is) c.standard.ensures c.end_refused.ensures)

pub returns-in-Ok : goal.returns-in-Ok
returns-in-Ok g c =
    let source = g.S.Source in
    let sink = g.K.Sink in
    let disks = g.D.Disk in
    let group = c.in-Ok.group in
    inr (
      commits_in group,
      record {
        opens = opens_with disks c.args.disk c.standard.result (history_of disks.faults group) (source.left c.args.source.now) (sink.written c.args.sink.now) (source.faults c.args.source.now) (sink.faults c.args.sink.now) c.in-Ok.ensures.opens c.standard.ensures;
        ends = c.watch_group.ensures c.args.disk (record {
          journal_is = none_waiting group c.in-Ok.ensures.none_waits;
          count_same = c.in-Ok.ensures.opens.count.1;
          stands = c.in-Ok.ensures.stands;
        });
      },
    )

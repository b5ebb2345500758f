use Rattle.std.proofs.Common.{inl, inr, subst}
use Rattle.tl_types.specs.Entries.{commits_of}
use Rattle.tl_history.specs.Answers.{Opens}
use Rattle.tl_command.specs.Coming.{script_reads}
use Rattle.tl_asking.proofs.EndLemmas.{ask_opened, ask_refused}
use Rattle.tl_asking.proofs.asking.ask.Goals as goal

pub returns-in-Err : goal.returns-in-Err
returns-in-Err g c =
    let source = g.S.Source in
    let sink = g.K.Sink in
    let disks = g.D.Disk in
    let opens = subst (λ a. Opens disks.reads disks.may_leave disks.moment disks.left_since disks.faults c.standard.result c.every.result c.args.disk a) c.in-Err.is c.open.ensures in
    inl (ask_refused disks c.args.disk c.standard.result c.every.result c.in-Err.field-0 (source.left c.args.source.now) (sink.written c.args.sink.now) (sink.written c.end_refused.new.sink) (source.faults c.args.source.now) (sink.faults c.args.sink.now) (sink.faults c.end_refused.new.sink) c.end_refused.result opens c.standard.ensures c.end_refused.ensures)

pub returns-in-Ok : goal.returns-in-Ok
returns-in-Ok g c =
    let source = g.S.Source in
    let sink = g.K.Sink in
    let disks = g.D.Disk in
    let history = c.in-Ok.history in
    let opens = subst (λ a. Opens disks.reads disks.may_leave disks.moment disks.left_since disks.faults c.standard.result c.every.result c.args.disk a) c.in-Ok.is c.open.ensures in
    inr (
      commits_of history.entries,
      ask_opened disks c.args.disk c.close-closed.result.disk c.standard.result c.every.result history script_reads (source.left c.args.source.now) (source.left c.ask_over-status.new.source) (sink.written c.args.sink.now) (sink.written c.ask_over-status.new.sink) (source.faults c.args.source.now) (source.faults c.ask_over-status.new.source) (sink.faults c.args.sink.now) (sink.faults c.ask_over-status.new.sink) c.ask_over-status.result
          opens c.standard.ensures c.close-closed.ensures.disk c.close-closed.ensures.whole (rw c.snapshot.ensures.value at c.ask_over-status.ensures),
    )

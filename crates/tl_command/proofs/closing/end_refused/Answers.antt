use Rattle.tl_command.proofs.ClosingLemmas.{ends_for}
use Rattle.tl_command.proofs.closing.end_refused.Goals as goal

pub returns-in_default : goal.returns-in_default
returns-in_default g c =
    let sink = g.K.Sink in
    ends_for c.args.fault c.status_for.result (sink.written c.args.sink.now) (sink.written c.close.new.sink) (sink.faults c.args.sink.now) (sink.faults c.close.new.sink) c.close.result c.in_default.not-NoMemory c.status_for.ensures c.close.ensures

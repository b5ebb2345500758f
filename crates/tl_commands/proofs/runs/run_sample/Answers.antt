use Rattle.tl_device.specs.Replay.{Leaves}
use Rattle.tl_commands.specs.Sample.{sample_coming, sample_reading}
use Rattle.tl_commands.proofs.RunEndLemmas.{sample_ends}
use Rattle.tl_commands.proofs.SampleLemmas.{sample_script}
use Rattle.tl_commands.proofs.runs.run_sample.Goals as goal

pub returns : goal.returns
returns g c =
    let sink = g.K.Sink in
    sample_ends c.in-Ok.disk.bytes c.run-ending.result.disk.bytes (Leaves c.in-Ok.disk) (Leaves c.run-ending.result.disk) (sample_coming c.new.result).reads (sample_reading c.args.lines c.args.start)
    (sink.written c.args.sink.now) (sink.written c.run-ending.new.sink) (sink.faults c.args.sink.now) (sink.faults c.run-ending.new.sink) c.run-ending.result.status
    c.in-Ok.ensures (sample_script c.new.result c.args.lines c.args.start c.new.ensures) c.run-ending.ensures

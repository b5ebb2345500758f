use Rattle.std.proofs.Common.{subst}
use Rattle.tl_command.specs.Outside.{streams}
use Rattle.tl_device.specs.Plain.{Kept}
use Rattle.tl_program.specs.Commands.{texts_of}
use Rattle.tl_program.specs.Ending.{Ends}
use Rattle.tl_program.specs.Headline.{Completes, Headline}
use Rattle.tl_look.specs.Looking.{beside}
use Rattle.tl_look.proofs.looking.run_over.Goals as goal

pub returns-clause-runs : goal.returns-clause-runs
returns-clause-runs g c =
    let words = texts_of c.args.words.now in
    let before = streams g.S.Source g.K.Sink c.args.source.now c.args.sink.now in
    let after = streams g.S.Source g.K.Sink c.timeline-ending.new.source c.timeline-ending.new.sink in
    let disk = c.timeline-ending.result.disk in
    let ended = c.timeline-ending.result.status in
    let told = c.timeline-ending.ensures in
    record {
      disk = disk;
      ends = subst (λ (k : Kept). Ends words (beside before k) (beside after disk) ended) c.new-disk.ensures told.ends;
      headline = subst (λ (k : Kept). Headline words (beside before k) (beside after disk) ended) c.new-disk.ensures told.headline;
      complete = subst (λ (k : Kept). Completes words (beside before k) (beside after disk) ended) c.new-disk.ensures told.complete;
    }

use Rattle.std.proofs.Common.{subst}
use Rattle.tl_command.specs.Coming.{script_reads}
use Rattle.tl_command.specs.Outside.{streams}
use Rattle.tl_device.specs.Plain.{Kept}
use Rattle.tl_asking.specs.Asking.{AskEnds}
use Rattle.tl_look.specs.Looking.{beside}
use Rattle.tl_look.proofs.AskLemmas.{ask_complete}
use Rattle.tl_look.proofs.looking.ask_over.Goals as goal

pub returns : goal.returns
returns g c =
    let before = streams g.S.Source g.K.Sink c.args.source.now c.args.sink.now in
    let after = streams g.S.Source g.K.Sink c.ask-ending.new.source c.ask-ending.new.sink in
    let disk = c.ask-ending.result.disk in
    let ended = c.ask-ending.result.status in
    let ends = subst (λ (k : Kept). AskEnds script_reads (beside before k) (beside after disk) ended) c.new-disk.ensures c.ask-ending.ensures in
    record { disk = disk; ends = ends; complete = ask_complete _ _ ended ends }

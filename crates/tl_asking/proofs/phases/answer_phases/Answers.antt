use Rattle.tl_types.specs.Entries.{commits_of}
use Rattle.tl_command.specs.Outside.{streams}
use Rattle.tl_asking.proofs.PhaseLemmas.{no_phase_yet}
use Rattle.tl_asking.proofs.phases.answer_phases.Goals as goal

pub phases-init : goal.phases-init
phases-init g c = no_phase_yet (commits_of c.args.snapshot.now) (g.P.Phases.coming c.args.phases.now) (streams g.S.Source g.K.Sink c.args.source.now c.args.sink.now) c.requires.fresh

pub returns-in-Some-stop : goal.returns-in-Some-stop
returns-in-Some-stop g c =
    rw c.in-Some-stop.is at (c.answer_next-stop.ensures.more (g.P.Phases.coming c.args.phases.now) (streams g.S.Source g.K.Sink c.args.source.now c.args.sink.now) c.phases.invariant)

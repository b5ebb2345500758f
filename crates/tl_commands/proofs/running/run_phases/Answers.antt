use Rattle.tl_command.specs.Outside.{streams}
use Rattle.tl_commands.proofs.RunningLemmas.{no_phase_yet}
use Rattle.tl_commands.proofs.running.run_phases.Goals as goal

pub phases-init : goal.phases-init
phases-init g c =
    let source = g.S.Source in
    let sink = g.K.Sink in
    no_phase_yet (g.P.Phases.coming c.args.running.now.phases) c.args.running.now.shared (streams source sink c.args.source.now c.args.sink.now) c.requires.fresh c.requires.parts c.requires.amount

pub returns-in-Some-stop-clause-stops : goal.returns-in-Some-stop-clause-stops
returns-in-Some-stop-clause-stops g c =
    let source = g.S.Source in
    let sink = g.K.Sink in
    let begun = streams source sink c.args.source.now c.args.sink.now in
    (rw c.in-Some-stop.is at (c.run_next-stop.ensures.more (g.P.Phases.coming c.args.running.now.phases) c.args.running.now.shared.seen begun c.phases.invariant)).0

pub returns-in-Some-stop-clause-parts : goal.returns-in-Some-stop-clause-parts
returns-in-Some-stop-clause-parts g c =
    let source = g.S.Source in
    let sink = g.K.Sink in
    let begun = streams source sink c.args.source.now c.args.sink.now in
    (rw c.in-Some-stop.is at (c.run_next-stop.ensures.more (g.P.Phases.coming c.args.running.now.phases) c.args.running.now.shared.seen begun c.phases.invariant)).1

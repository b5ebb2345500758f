use Rattle.tl_command.specs.Outside.{streams}
use Rattle.tl_commands.specs.Running.{Progress}
use Rattle.tl_commands.proofs.running.run_phases.Given as goal

-- the phases that have come were run, each behind the one before it
abbrev pub invariant-phases : goal.invariant-phases
invariant-phases g l =
    let source = g.S.Source in
    let sink = g.K.Sink in
    let coming = g.P.Phases.coming in
    Progress (coming l.fn.running.phases) l.fn.running.shared.seen
    (streams source sink l.fn.source l.fn.sink)
    (coming l.running.phases) l.running.shared
    (streams source sink l.source l.sink)

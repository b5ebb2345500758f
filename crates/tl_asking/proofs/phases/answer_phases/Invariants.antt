use Rattle.tl_types.specs.Entries.{commits_of}
use Rattle.tl_command.specs.Outside.{streams}
use Rattle.tl_asking.specs.Progress.{Progress}
use Rattle.tl_asking.proofs.phases.answer_phases.Given as goal

-- the phases that have come were answered, one after the other
abbrev pub invariant-phases : goal.invariant-phases
invariant-phases g l =
    let source = g.S.Source in
    let sink = g.K.Sink in
    let coming = g.P.Phases.coming in
    Progress (commits_of l.snapshot) (coming l.fn.phases)
    (streams source sink l.fn.source l.fn.sink)
    (coming l.phases)
    (streams source sink l.source l.sink)

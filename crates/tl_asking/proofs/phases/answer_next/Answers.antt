use Rattle.std.proofs.Common.{sym, subst, refl, Some, Ok}
use Rattle.std.specs.declared.option.Option.{Option}
use Rattle.tl_types.specs.Entries.{commits_of}
use Rattle.tl_script.specs.declared.phases.Phase.{Phase}
use Rattle.tl_command.specs.Coming.{AnswersComing}
use Rattle.tl_command.specs.declared.stops.Stop.{Stop}
use Rattle.tl_command.specs.Outside.{streams}
use Rattle.tl_asking.specs.Progress.{GoesOn}
use Rattle.tl_asking.proofs.PhaseLemmas.{phase_came, stop_came, end_came, took_phase}
use Rattle.tl_asking.proofs.phases.answer_next.Goals as goal

pub returns-in-Ok-Some-clause-more : goal.returns-in-Ok-Some-clause-more
returns-in-Ok-Some-clause-more g c = λ first begun p.
    let source = g.S.Source in
    let sink = g.K.Sink in
    let coming = g.P.Phases.coming in
    let at = streams source sink c.args.source.now c.args.sink.now in
    let end = streams source sink c.next.new.source c.answer_phase.new.sink in
    let answers = subst (λ (o : Option Phase). AnswersComing (coming c.args.phases.now) (source.left c.args.source.now) (Ok o) (coming c.next.new.self) (source.left c.next.new.source)) c.in-Ok-Some.field-0-is c.in-Ok-Some.ensures.answers in
    phase_came (commits_of c.args.snapshot.now) first begun (coming c.args.phases.now) (coming c.next.new.self) at end c.in-Ok-Some.phase c.answer_phase.result answers c.in-Ok-Some.ensures.sure c.answer_phase.ensures p

pub returns-in-Ok-None-clause-more : goal.returns-in-Ok-None-clause-more
returns-in-Ok-None-clause-more g c = λ first begun p.
    let source = g.S.Source in
    let sink = g.K.Sink in
    let coming = g.P.Phases.coming in
    let at = streams source sink c.args.source.now c.args.sink.now in
    let end = streams source sink c.next.new.source c.args.sink.now in
    let answers = subst (λ (o : Option Phase). AnswersComing (coming c.args.phases.now) (source.left c.args.source.now) (Ok o) (coming c.next.new.self) (source.left c.next.new.source)) c.in-Ok-None.field-0-is c.in-Ok-None.ensures.answers in
    end_came (commits_of c.args.snapshot.now) first begun (coming c.args.phases.now) (coming c.next.new.self) (coming c.next.new.self) at end answers c.in-Ok-None.ensures.sure refl refl p

pub returns-in-Err-clause-more : goal.returns-in-Err-clause-more
returns-in-Err-clause-more g c = λ first begun p.
    let source = g.S.Source in
    let sink = g.K.Sink in
    let coming = g.P.Phases.coming in
    let commits = commits_of c.args.snapshot.now in
    let at = streams source sink c.args.source.now c.args.sink.now in
    let end = streams source sink c.next.new.source c.args.sink.now in
    subst (λ (o : Stop). GoesOn commits first begun (coming c.next.new.self) end (Some o)) (sym c.stop_for.ensures)
    (stop_came commits first begun (coming c.args.phases.now) (coming c.next.new.self) (coming c.next.new.self) at end c.in-Err.error c.in-Err.ensures.answers c.in-Err.ensures.faults refl refl p)

pub returns-in-Ok-Some-clause-takes : goal.returns-in-Ok-Some-clause-takes
returns-in-Ok-Some-clause-takes g c =
    let source = g.S.Source in
    let coming = g.P.Phases.coming in
    let answers = subst (λ (o : Option Phase). AnswersComing (coming c.args.phases.now) (source.left c.args.source.now) (Ok o) (coming c.next.new.self) (source.left c.next.new.source)) c.in-Ok-Some.field-0-is c.in-Ok-Some.ensures.answers in
    took_phase (coming c.args.phases.now) (coming c.next.new.self) (source.left c.args.source.now) (source.left c.next.new.source) c.in-Ok-Some.phase c.answer_phase.result answers

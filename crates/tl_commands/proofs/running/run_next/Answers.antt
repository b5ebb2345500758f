use Rattle.std.proofs.Common.{sym, subst, refl, Some, Ok}
use Rattle.std.specs.declared.option.Option.{Option}
use Rattle.tl_script.specs.declared.phases.Phase.{Phase}
use Rattle.tl_command.specs.Coming.{AnswersComing}
use Rattle.tl_command.specs.declared.stops.Stop.{Stop}
use Rattle.tl_command.specs.Outside.{streams}
use Rattle.tl_commands.specs.Running.{GoesOn}
use Rattle.tl_commands.proofs.RunningLemmas.{phase_came, took_phase, stop_came}
use Rattle.tl_commands.proofs.running.run_next.Goals as goal

pub returns-in-Ok-Some-clause-more : goal.returns-in-Ok-Some-clause-more
returns-in-Ok-Some-clause-more g c = λ first opening begun p.
    let source = g.S.Source in
    let sink = g.K.Sink in
    let coming = g.P.Phases.coming in
    let at = streams source sink c.args.source.now c.args.sink.now in
    let end = streams source sink c.next.new.source c.run_one.new.sink in
    rw c.run_one.ensures.same (phase_came first opening begun (coming c.args.running.now.phases) (coming c.next.new.self) c.args.running.now.shared c.run_one.new.running.shared at end c.in-Ok-Some.phase c.run_one.result (subst (λ (o : Option Phase). AnswersComing (coming c.args.running.now.phases) (source.left c.args.source.now) (Ok o) (coming c.next.new.self) (source.left c.next.new.source)) c.in-Ok-Some.field-0-is c.in-Ok-Some.ensures.answers) c.in-Ok-Some.ensures.sure c.run_one.ensures.ran p)

pub returns-in-Err-clause-more : goal.returns-in-Err-clause-more
returns-in-Err-clause-more g c = λ first opening begun p.
    let source = g.S.Source in
    let sink = g.K.Sink in
    let coming = g.P.Phases.coming in
    let at = streams source sink c.args.source.now c.args.sink.now in
    let end = streams source sink c.next.new.source c.args.sink.now in
    subst (λ (o : Stop). GoesOn first opening begun (coming c.next.new.self) c.args.running.now.shared end (Some o)) (sym c.stop_for.ensures)
    (stop_came first opening begun (coming c.args.running.now.phases) (coming c.next.new.self) (coming c.next.new.self) c.args.running.now.shared at end c.in-Err.error c.in-Err.ensures.answers c.in-Err.ensures.faults refl refl p)

pub returns-in-Ok-Some-clause-takes : goal.returns-in-Ok-Some-clause-takes
returns-in-Ok-Some-clause-takes g c =
    let source = g.S.Source in
    let coming = g.P.Phases.coming in
    let answers = subst (λ (o : Option Phase). AnswersComing (coming c.args.running.now.phases) (source.left c.args.source.now) (Ok o) (coming c.next.new.self) (source.left c.next.new.source)) c.in-Ok-Some.field-0-is c.in-Ok-Some.ensures.answers in
    rw c.run_one.ensures.same (took_phase (coming c.args.running.now.phases) (coming c.next.new.self) (source.left c.args.source.now) (source.left c.next.new.source) c.in-Ok-Some.phase c.run_one.result answers)

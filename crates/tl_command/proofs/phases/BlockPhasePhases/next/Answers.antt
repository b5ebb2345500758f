use Rattle.std.proofs.Common.{rules, ◌≡◌, sym, subst, Bool, Option, Result, Ok, Err, Some, true}
use Rattle.tl_types.specs.declared.limits.Limits.{Limits}
use Rattle.tl_script.specs.declared.phases.NextError.{NextError}
use Rattle.tl_script.specs.declared.phases.Phase.{Phase}
use Rattle.tl_script.specs.Reader.{Loads}
use Rattle.tl_command.specs.Coming.{AnswersComing, block_coming}
use Rattle.tl_command.proofs.ScriptComing.{block_given, block_missing}
use Rattle.tl_command.proofs.phases.BlockPhasePhases.next.Goals as goal

pub returns-clause-answers : goal.returns-clause-answers
returns-clause-answers g c =
    let text = c.args.self.now.text.now in
    let left = g.S.Source.left in
    subst (λ (given : Bool). AnswersComing (block_coming text given) (left c.args.source.now) (Ok (Some c.in_ok-phase.phase)) (block_coming text true) (left c.load_phase.new.source)) (sym c.if-self.false)
    (block_given text (left c.args.source.now) (left c.load_phase.new.source) c.in_ok-phase.phase
    (subst (λ (l : Limits). Loads l text (left c.args.source.now) (Ok c.in_ok-phase.phase) (left c.load_phase.new.source)) c.standard.ensures c.in_ok-phase.ensures.loads))

pub returns-in_err-phase-clause-answers : goal.returns-in_err-phase-clause-answers
returns-in_err-phase-clause-answers g c =
    let text = c.args.self.now.text.now in
    let left = g.S.Source.left in
    let e = c.in_err-phase.field-0.0 in
    let same : c.from_residual.result ≡ Err c.in_err-phase.field-0.0 = search rules in
    subst (λ (r : Result (Option Phase) NextError). AnswersComing (block_coming text c.args.self.now.given) (left c.args.source.now) r (block_coming text c.args.self.now.given) (left c.load_phase.new.source)) (sym same)
    (subst (λ (given : Bool). AnswersComing (block_coming text given) (left c.args.source.now) (Err e) (block_coming text given) (left c.load_phase.new.source)) (sym c.if-self.false)
    (block_missing text (left c.args.source.now) (left c.load_phase.new.source) e
    (subst (λ (l : Limits). Loads l text (left c.args.source.now) (Err e) (left c.load_phase.new.source)) c.standard.ensures c.in_err-phase.ensures.loads)))

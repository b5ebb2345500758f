use Rattle.std.proofs.Common.{◌∙◌, ap}
use Rattle.tl_script.proofs.BetweenLemmas.{gives, phase_found, stops}
use Rattle.tl_script.specs.Reader.{ScriptState}
use Rattle.tl_script.proofs.script.Script.next_phase.Goals as goal

pub invariant_of-self-in-Ok-true : goal.invariant_of-self-in-Ok-true
invariant_of-self-in-Ok-true g c = (λ e. c.end_phase.ensures.between, c.read_phase.ensures.hand)

pub invariant_of-self-in-Ok-false : goal.invariant_of-self-in-Ok-false
invariant_of-self-in-Ok-false g c = (λ e. absurd (cc), c.read_phase.ensures.hand)

pub invariant_of-self-in-Err : goal.invariant_of-self-in-Err
invariant_of-self-in-Err g c = (λ e. absurd (cc), c.read_phase.ensures.hand)

pub returns-in-Ok-true-clause-answers : goal.returns-in-Ok-true-clause-answers
returns-in-Ok-true-clause-answers g c =
    let old = c.self.inside.phase in
    let found = c.read_phase.new.phase in
    let last = c.end_phase.new.self in
    let is_live = ap (λ (s : ScriptState). s.live) c.self.view_is ∙ c.requires in
    let between = c.self.invariant.0 is_live in
    let ensures = c.in-Ok-true.ensures in
    let takes = phase_found _ _ _ _ c.in-Ok-true.field-0 found c.read_phase.new.pending c.read_phase.new.at_end _ c.in-Ok-true.field-0-test ensures.takes in
    rw (← c.self.view_is) (gives old found last c.self.inside.pending c.read_phase.new.pending c.self.inside.at_end c.self.inside.live c.read_phase.new.at_end _ _ c.end_phase.result between c.if-self.false
    takes ensures.limits ensures.named ensures.grown c.end_phase.ensures.limits c.end_phase.ensures.jobs c.end_phase.ensures.names c.end_phase.ensures.line c.end_phase.ensures.ended)

pub returns-in-Err-clause-answers : goal.returns-in-Err-clause-answers
returns-in-Err-clause-answers g c =
    let old = c.self.inside.phase in
    let found = c.read_phase.new.phase in
    let last = c.forget_names-in-Err.new.self in
    let is_live = ap (λ (s : ScriptState). s.live) c.self.view_is ∙ c.requires in
    let between = c.self.invariant.0 is_live in
    let ensures = c.in-Err.ensures in
    rw (← c.self.view_is) (stops old found last c.self.inside.pending c.read_phase.new.pending c.self.inside.at_end c.self.inside.live c.read_phase.new.at_end _ _ c.in-Err.error between c.if-self.false
    ensures.takes ensures.before_err c.forget_names-in-Err.ensures.names)

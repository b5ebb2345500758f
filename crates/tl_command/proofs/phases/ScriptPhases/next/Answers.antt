use Rattle.tl_command.proofs.ScriptComing.{script_answers}
use Rattle.tl_command.proofs.phases.ScriptPhases.next.Goals as goal

pub returns-clause-answers : goal.returns-clause-answers
returns-clause-answers g c = script_answers c.args.self.now c.next_phase.new.self (g.S.Source.left c.args.source.now) c.next_phase.result (g.S.Source.left c.next_phase.new.source) c.next_phase.ensures.answers

use Rattle.std.proofs.Common.{None}
use Rattle.tl_commands.proofs.SampleLemmas.{sample_gives}
use Rattle.tl_commands.proofs.samples.SamplePhasesPhasesNoSource.next.Goals as goal

pub returns-clause-answers : goal.returns-clause-answers
returns-clause-answers c = sample_gives c.args.self.now c.some_phase.new.self None c.in_ok-phase.phase c.in_ok-phase.ensures

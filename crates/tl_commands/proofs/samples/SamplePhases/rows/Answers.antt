use Rattle.std.proofs.Common.{rules}
use Rattle.tl_commands.proofs.SampleLemmas.{block_put}
use Rattle.tl_commands.proofs.samples.SamplePhases.rows.Goals as goal

pub returns-in_ok-phase-in-Some : goal.returns-in_ok-phase-in-Some
returns-in_ok-phase-in-Some c = block_put c.args.self.now _ c.in_ok-phase-in-Some.phase.jobs.items c.in-Some.block c.requires.later.0 c.requires.later.1 (search rules) (search rules) (search rules) (search rules)

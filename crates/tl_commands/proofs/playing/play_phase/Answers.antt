use Rattle.std.proofs.Common.{rules}
use Rattle.tl_commands.proofs.PlayLemmas.{same_sessions}
use Rattle.tl_commands.proofs.playing.play_phase.Goals as goal

pub play_jobs-requires-clause-sessions : goal.play_jobs-requires-clause-sessions
play_jobs-requires-clause-sessions g c = λ lives within. same_sessions _ c.as_slice-3.result.now c.in-Ok.jobs.items c.args.phase.now.jobs.items c.as_slice-3.ensures.value (search rules) c.requires.sessions

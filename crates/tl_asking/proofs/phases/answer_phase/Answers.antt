use Rattle.std.proofs.Common.{rules}
use Rattle.tl_asking.proofs.PhaseLemmas.{same_sessions}
use Rattle.tl_asking.proofs.phases.answer_phase.Goals as goal

pub replies_text-requires-clause-sessions : goal.replies_text-requires-clause-sessions
replies_text-requires-clause-sessions g c = λ lives within. same_sessions _ c.as_slice.result.now c.in-Ok.jobs.items c.args.phase.now.jobs.items c.as_slice.ensures.value (search rules) c.requires.sessions

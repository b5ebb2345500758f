use Rattle.tl_jobs.proofs.OnePlay.{one_play_written, some_play_written}
use Rattle.tl_jobs.proofs.laws.a_play_is_one.Goals as goal

pub returns-clause-one : goal.returns-clause-one
returns-clause-one c = one_play_written

pub returns-clause-there : goal.returns-clause-there
returns-clause-there c = some_play_written

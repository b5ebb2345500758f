use Rattle.tl_jobs.proofs.ReadingLemmas.{has_one_reading}
use Rattle.tl_jobs.proofs.laws.each_job_has_one_reading.Goals as goal

pub returns : goal.returns
returns c = has_one_reading

use Rattle.std.proofs.Common.{◌≡◌, map, take}
use Rattle.tl_jobs.specs.Jobs.{job_of}
use Rattle.tl_command.specs.Jobs.{asked}
use Rattle.tl_command.proofs.lending.lent_jobs.Given as goal

-- the jobs so far are lent
abbrev pub invariant-loop-job : goal.invariant-loop-job
invariant-loop-job l = map job_of l.lent.items ≡ map asked (take l.job-index l.jobs)

use Rattle.std.proofs.Common.{◌≡◌, map, take}
use Rattle.tl_jobs.specs.Jobs.{job_of}
use Rattle.tl_jobs.specs.Reading.{blocks_of}
use Rattle.tl_commands.proofs.playing.blocks_of.Given as goal

-- the blocks of the jobs so far
abbrev pub invariant-loop-job : goal.invariant-loop-job
invariant-loop-job l = map (λ b. b.now) l.blocks.items ≡ blocks_of (map job_of (take l.job-index l.jobs))

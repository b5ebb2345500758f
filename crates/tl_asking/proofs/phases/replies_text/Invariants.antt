use Rattle.std.proofs.Common.{◌≡◌, map, take}
use Rattle.tl_types.specs.Entries.{commits_of}
use Rattle.tl_jobs.specs.Jobs.{job_of}
use Rattle.tl_asking.specs.Progress.{replies_text}
use Rattle.tl_asking.proofs.phases.replies_text.Given as goal

-- the replies so far
abbrev pub invariant-loop-job : goal.invariant-loop-job
invariant-loop-job g l =
    l.text.items ≡ replies_text (commits_of l.snapshot) (g.P.Phases.coming l.phases).names (map job_of (take l.job-index l.jobs))

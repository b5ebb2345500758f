use Rattle.std.proofs.Common.{◌≡◌, length, map, take}
use Rattle.tl_jobs.specs.Jobs.{job_of}
use Rattle.tl_session.specs.Phases.{own_jobs}
use Rattle.tl_session.specs.Tending.{WereTended}
use Rattle.tl_session.proofs.ChainLemmas.{RanAll}
use Rattle.tl_session.proofs.runs.run_jobs.Given as goal

-- the session answered its own ones of the jobs so far, and their tables were tended
abbrev pub invariant-loop-job : goal.invariant-loop-job
invariant-loop-job g l =
    RanAll (own_jobs l.initial.session.access.author (map job_of (take l.job-index l.jobs))) l.initial.session l.session
    × (l.place ≡ length (own_jobs l.initial.session.access.author (map job_of (take l.job-index l.jobs))))
    × (l.crew.reader.blocks ≡ l.initial.crew.reader.blocks)
    × (WereTended l.k l.initial.session.access.seen l.initial.session.replies → WereTended l.k l.session.access.seen l.session.replies)

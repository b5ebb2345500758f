use Rattle.std.proofs.Common.{◌≡◌, map, take, Option}
use Rattle.tl_group.specs.Keeping.{commits_in}
use Rattle.tl_watch.specs.declared.plans.WatchPlan.{WatchPlan}
use Rattle.tl_jobs.specs.Jobs.{job_of}
use Rattle.tl_commands.specs.Playing.{KeepsDisk, PlaysJobs}
use Rattle.tl_commands.specs.Telling.{WatchesFor}
use Rattle.tl_commands.proofs.playing.play_jobs.Given as goal

-- the jobs so far were done, and the disk keeps what it had
abbrev pub invariant-loop-job : goal.invariant-loop-job
invariant-loop-job g l = record {
  plays : (plan : Option WatchPlan) → WatchesFor plan (commits_in l.fn.playing.group) l.fn.playing.watching → PlaysJobs l.fn.stops_at_refusal plan (g.P.Phases.coming l.phases).names (map job_of (take l.job-index l.jobs)) (commits_in l.fn.playing.group) (commits_in l.playing.group) l.fn.playing.replies.text.items l.playing.replies.text.items l.fn.playing.replies.count l.playing.replies.count l.playing.watching;
  place : l.place ≡ l.job-index;
  blocks : l.crew.reader.blocks ≡ l.fn.crew.reader.blocks;
  keeps : KeepsDisk g.D.Disk l.fn.playing.group l.playing.group;
}

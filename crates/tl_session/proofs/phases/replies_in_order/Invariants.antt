use Rattle.std.proofs.Common.{◌≤◌, length, map}
use Rattle.tl_jobs.specs.Jobs.{job_of}
use Rattle.tl_session.specs.Phases.{KeepAll}
use Rattle.tl_session.proofs.HandLemmas.{HandsOut}
use Rattle.tl_session.proofs.phases.replies_in_order.Given as goal

-- the replies of the last jobs are handed out, the last one first
abbrev pub invariant-loop-left : goal.invariant-loop-left
invariant-loop-left g l =
    (l.left ≤ length l.jobs) × KeepAll l.initial.sessions l.sessions
    × HandsOut (map job_of l.jobs) l.initial.sessions l.sessions l.left l.replies.items

abbrev pub decreases-loop-left : goal.decreases-loop-left
decreases-loop-left g l = l.left

use Rattle.std.proofs.Common.{None, []}
use Rattle.tl_types.specs.Entries.{commits_of}
use Rattle.tl_jobs.specs.declared.jobs.LentJob.{LentJob}
use Rattle.tl_asking.proofs.PhaseLemmas.{replies_more}
use Rattle.tl_asking.proofs.phases.replies_text.Goals as goal

-- a job of no statement
abbrev nothing : LentJob
nothing = record { session = 0; line = 0; text = record { ref_ptr = (0, 0); now = [] }; block = None }

pub loop-job-preserved : goal.loop-job-preserved
loop-job-preserved g c =
    replies_more (commits_of c.args.snapshot.now) (g.P.Phases.coming c.args.phases.now).names c.args.jobs.now c.loop-job.job-index nothing c.loop-job.text.items c.put_answer.new.text.items c.session_name-name.result.now c.loop-job-test.true c.loop-job.invariant c.session_name-name.ensures c.in_ok-put_answer.ensures

use Rattle.std.proofs.Common.{rules, refl, ◌∙◌, ◌≡◌, [], None, slice_index_or}
use Rattle.tl_jobs.specs.declared.jobs.LentJob.{LentJob}
use Rattle.tl_jobs.specs.Jobs.{job_of}
use Rattle.tl_session.proofs.BlockLemmas.{block_here, place_next}
use Rattle.tl_session.proofs.ChainLemmas.{ran_none, ran_next, ran_stop}
use Rattle.tl_session.proofs.TendedLemmas.{job_tended}
use Rattle.tl_session.proofs.runs.run_jobs.Goals as goal

-- a job of no statement
abbrev nothing : LentJob
nothing = record { session = 0; line = 0; text = record { ref_ptr = (0, 0); now = [] }; block = None }

pub loop-job-init : goal.loop-job-init
loop-job-init g c = (ran_none c.args.session.now, refl, refl, λ were. were)

pub run_job-requires-clause-block : goal.run_job-requires-clause-block
run_job-requires-clause-block g c =
    let was = c.loop-job.invariant in
    let own : (slice_index_or c.args.jobs.now c.loop-job.job-index nothing).session ≡ c.loop-job.session.access.author = search rules in
    λ lives within. block_here c.args.session.now.access.author c.loop-job.job-index c.args.jobs.now nothing c.loop-job.crew.reader.blocks c.loop-job.place c.loop-job-test.true (own ∙ was.0.same.author) (was.2 ∙ c.requires.blocks) was.1

pub loop-job-preserved : goal.loop-job-preserved
loop-job-preserved g c =
    let was = c.loop-job.invariant in
    let own : (slice_index_or c.args.jobs.now c.loop-job.job-index nothing).session ≡ c.loop-job.session.access.author = search rules in (
      ran_next c.args.session.now.access.author c.loop-job.job-index c.args.jobs.now nothing c.args.session.now c.loop-job.session c.run_job.new.session c.loop-job-test.true own was.0.same.author was.0 c.in-Ok.ensures.ok.reply c.in-Ok.ensures.ok.replied,
      place_next c.args.session.now.access.author c.loop-job.job-index c.args.jobs.now nothing c.loop-job.place c.loop-job-test.true (own ∙ was.0.same.author) was.1,
      c.run_job.ensures.same ∙ was.2,
      λ were. job_tended c.args.k (job_of (slice_index_or c.args.jobs.now c.loop-job.job-index nothing)) c.loop-job.session c.run_job.new.session c.in-Ok.ensures.ok (was.3 were),
    )

pub returns-in_default-clause-ran : goal.returns-in_default-clause-ran
returns-in_default-clause-ran g c =
    let was = c.loop-job.invariant in
    ran_stop c.args.session.now.access.author c.loop-job.job-index c.args.jobs.now _ c.args.session.now c.loop-job.session c.run_job.new.session _ c.loop-job-test.true (search rules) was.0.same.author was.0 c.in_default.ensures.err (search rules)

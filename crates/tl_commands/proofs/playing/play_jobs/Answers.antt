use Rattle.std.proofs.Common.{◌∙◌, ◌+◌, List, ap, map, refl, subst, sym, [], None}
use Rattle.tl_group.specs.Keeping.{commits_in}
use Rattle.tl_jobs.specs.declared.jobs.LentJob.{LentJob}
use Rattle.tl_group.specs.Standing.{IsGivenBack}
use Rattle.tl_jobs.specs.Jobs.{job_of}
use Rattle.tl_commands.specs.declared.playing.Cause.{Cause}
use Rattle.tl_commands.specs.Playing.{JobsStop, PlaysJobs}
use Rattle.tl_commands.proofs.PlayLemmas.{back_on, block_here, keeps_itself, keeps_on, plays_next, plays_none, refused_next, take_whole}
use Rattle.tl_commands.proofs.playing.play_jobs.Goals as goal

-- a job of no statement
abbrev nothing : LentJob
nothing = record { session = 0; line = 0; text = record { ref_ptr = (0, 0); now = [] }; block = None }

pub loop-job-init : goal.loop-job-init
loop-job-init g c =
    record {
      plays = λ plan watches. plays_none c.args.stops_at_refusal plan (g.P.Phases.coming c.args.phases.now).names (commits_in c.args.playing.group) c.args.playing.replies.text.items c.args.playing.replies.count c.args.playing.watching watches;
      place = refl;
      blocks = refl;
      keeps = keeps_itself g.D.Disk c.args.playing.group;
    }

pub play_job-requires-clause-watched : goal.play_job-requires-clause-watched
play_job-requires-clause-watched g c = λ lives within. (c.requires.watched.0, (c.loop-job.invariant.plays c.requires.watched.0 c.requires.watched.1).watches)

pub play_job-requires-clause-block : goal.play_job-requires-clause-block
play_job-requires-clause-block g c =
    let was = c.loop-job.invariant in
    λ lives within. block_here c.loop-job.job-index c.args.jobs.now nothing c.loop-job.crew.reader.blocks c.loop-job.place c.loop-job-test.true (was.blocks ∙ c.requires.blocks) was.place

pub loop-job-preserved : goal.loop-job-preserved
loop-job-preserved g c =
    let was = c.loop-job.invariant in
    let names = (g.P.Phases.coming c.args.phases.now).names in
    let mid = c.loop-job.playing in
    let done = c.in-Ok.done in
    record {
      plays = λ plan watches.
          let so_far = was.plays plan watches in
          plays_next c.args.stops_at_refusal plan names c.args.jobs.now c.loop-job.job-index nothing (commits_in c.args.playing.group) (commits_in mid.group) (commits_in done.group) c.args.playing.replies.text.items mid.replies.text.items done.replies.text.items c.session_name-name.result.now c.args.playing.replies.count mid.replies.count done.replies.count done.replies.is_refusal mid.watching done.watching c.loop-job-test.true so_far c.session_name-name.ensures (c.in-Ok.ensures.ok plan so_far.watches) (sym c.ends_play-ends.ensures ∙ c.if-ends.false);
      place = ap (λ n. n + 1) was.place;
      blocks = c.play_job.ensures.same ∙ was.blocks;
      keeps = keeps_on g.D.Disk c.args.playing.group mid.group done.group was.keeps c.in-Ok.ensures.keeps;
    }

pub returns-then-ends-clause-stops : goal.returns-then-ends-clause-stops
returns-then-ends-clause-stops g c = λ plan watches.
    let was = c.loop-job.invariant in
    let names = (g.P.Phases.coming c.args.phases.now).names in
    let mid = c.loop-job.playing in
    let done = c.in-Ok.done in
    let so_far = was.plays plan watches in
    subst (λ (why : Cause). JobsStop c.args.stops_at_refusal plan names (map job_of c.args.jobs.now) (commits_in c.args.playing.group) c.args.playing.replies.text.items c.args.playing.replies.count why) (sym c.given_up.ensures.cause)
    (refused_next c.args.stops_at_refusal plan names c.args.jobs.now c.loop-job.job-index nothing (commits_in c.args.playing.group) (commits_in mid.group) (commits_in done.group) c.args.playing.replies.text.items mid.replies.text.items done.replies.text.items c.session_name-name.result.now c.args.playing.replies.count mid.replies.count done.replies.count done.replies.is_refusal mid.watching done.watching c.loop-job-test.true so_far c.session_name-name.ensures (c.in-Ok.ensures.ok plan so_far.watches) (sym c.ends_play-ends.ensures ∙ c.if-ends.true))

pub returns-in-Err-clause-back : goal.returns-in-Err-clause-back
returns-in-Err-clause-back g c =
    let disks = g.D.Disk in
    subst (IsGivenBack disks.reads disks.may_leave disks.faults c.args.playing.group) (sym c.out_of_memory.ensures.disk)
    (back_on disks c.args.playing.group c.loop-job.playing.group c.in-Err.disk c.loop-job.invariant.keeps c.in-Err.ensures.back)

pub returns-clause-ok : goal.returns-clause-ok
returns-clause-ok g c = λ plan watches.
    let now = c.loop-job.playing in
    subst (λ (js : List LentJob). PlaysJobs c.args.stops_at_refusal plan (g.P.Phases.coming c.args.phases.now).names (map job_of js) (commits_in c.args.playing.group) (commits_in now.group) c.args.playing.replies.text.items now.replies.text.items c.args.playing.replies.count now.replies.count now.watching)
    (take_whole c.args.jobs.now c.loop-job.job-index c.loop-job-test.false) (c.loop-job.invariant.plays plan watches)

use Rattle.std.proofs.Common.{List, ap, refl, subst, ℕ}
use Rattle.tl_types.specs.declared.commits.Entry.{Entry}
use Rattle.tl_types.specs.Entries.{commits_of}
use Rattle.tl_group.specs.Keeping.{commits_in}
use Rattle.tl_csv.specs.LentBlocks.{block_at}
use Rattle.tl_jobs.specs.Jobs.{job_of}
use Rattle.tl_jobs.specs.Reading.{IsReading, Reads}
use Rattle.tl_commands.specs.declared.steps.Replies.{Replies}
use Rattle.tl_commands.proofs.PlayLemmas.{back_itself, back_on, job_told}
use Rattle.tl_commands.proofs.steps.play_job.Goals as goal

pub returns-in-Ok-tell-clause-ok : goal.returns-in-Ok-tell-clause-ok
returns-in-Ok-tell-clause-ok g c = λ plan watches.
    let old = commits_in c.args.playing.group in
    let job = job_of c.args.job.now in
    let read = c.in-Ok.reading in
    let settled = c.in-Ok-answer in
    let block = block_at c.args.crew.now.reader.blocks c.args.crew.now.place in
    let over : IsReading old c.args.job.now.text.now block read = subst (λ (es : List Entry). IsReading (commits_of es) c.args.job.now.text.now block read) c.snapshot.ensures.value c.in-Ok.ensures.reads in
    let reads : Reads old job read = subst (λ (b : List ℕ). IsReading old c.args.job.now.text.now b read) c.requires.block over in
    job_told plan c.args.name.now c.args.job.now.session job read settled.field-0.body old settled.field-0.playing.group c.in-Ok-tell.done.group c.args.playing.replies.text.items settled.field-0.playing.replies.text.items c.in-Ok-tell.done.replies.text.items c.args.playing.replies.count settled.field-0.playing.replies.count c.in-Ok-tell.done.replies.count c.in-Ok-tell.done.replies.is_refusal settled.field-0.playing.watching c.in-Ok-tell.done.watching refl reads
    settled.ensures.ok (settled.ensures.watches plan watches) (ap (λ (r : Replies). r.text.items) settled.ensures.replies) (ap (λ (r : Replies). r.count) settled.ensures.replies) c.in-Ok-tell.ensures.group c.in-Ok-tell.ensures.watching (c.in-Ok-tell.ensures.text plan (settled.ensures.watches plan watches)) c.in-Ok-tell.ensures.count c.in-Ok-tell.ensures.refusal

pub returns-in-Err-tell-clause-back : goal.returns-in-Err-tell-clause-back
returns-in-Err-tell-clause-back g c =
    back_on g.D.Disk c.args.playing.group c.in-Ok-answer.field-0.playing.group c.in-Err-tell.disk c.in-Ok-answer.ensures.keeps
    (back_itself g.D.Disk c.in-Ok-answer.field-0.playing.group c.in-Err-tell.disk c.in-Err-tell.ensures.back)

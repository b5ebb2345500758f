use Rattle.std.proofs.Common.{◌≡◌, ◌++◌, subst, sym}
use Rattle.tl_jobs.specs.declared.replies.ReplyBody.{ReplyBody}
use Rattle.tl_commands.specs.Telling.{WatchesFor, told_behind}
use Rattle.tl_commands.proofs.TellLemmas.{value_done}
use Rattle.tl_commands.proofs.steps.put_value.Goals as goal

pub returns-in_ok-tell-in-Done : goal.returns-in_ok-tell-in-Done
returns-in_ok-tell-in-Done c = λ plan commits watches version.
    let old = c.args.text.now.items in
    let new = c.tell.new.out.items in
    subst (λ (b : ReplyBody). new ≡ old ++ told_behind plan b commits) (sym c.in-Done.is)
    (value_done plan commits c.in-Some.watching old new (λ p h. c.in_ok-tell-in-Done.ensures p commits h version) (subst (WatchesFor plan commits) c.in-Some.is watches))

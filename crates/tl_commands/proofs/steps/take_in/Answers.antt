use Rattle.std.proofs.Common.{◌∙◌, ◌++◌, ◌∷◌, [], List, ap, subst, sym}
use Rattle.tl_types.specs.declared.commits.Commit.{Commit}
use Rattle.tl_types.specs.declared.commits.Entry.{Entry}
use Rattle.tl_types.specs.Entries.{commits_of}
use Rattle.tl_commands.specs.Telling.{WatchesFor}
use Rattle.tl_commands.proofs.PlayLemmas.{waits_last}
use Rattle.tl_commands.proofs.steps.take_in.Goals as goal

pub returns-in-Ok-follow-clause-commits : goal.returns-in-Ok-follow-clause-commits
returns-in-Ok-follow-clause-commits g c = waits_last c.args.playing.group c.in-Ok-follow.group c.args.commit.now c.in-Ok-follow.ensures.ok

pub returns-in-Ok-follow-clause-watches : goal.returns-in-Ok-follow-clause-watches
returns-in-Ok-follow-clause-watches g c = λ plan watches.
    let commit = c.args.commit.now in
    let before = subst (λ (es : List Entry). WatchesFor plan (commits_of es) c.args.playing.watching) (sym c.snapshot.ensures.value) watches in
    subst (λ (cs : List Commit). WatchesFor plan cs c.in-Ok.watching)
    (ap (λ (es : List Entry). commits_of es ++ commit ∷ []) c.snapshot.ensures.value ∙ sym (waits_last c.args.playing.group c.in-Ok-follow.group commit c.in-Ok-follow.ensures.ok))
    (c.in-Ok.ensures plan before)

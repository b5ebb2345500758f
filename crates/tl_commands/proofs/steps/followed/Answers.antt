use Rattle.std.proofs.Common.{◌++◌, ◌∷◌, [], subst}
use Rattle.tl_types.specs.Entries.{commits_of}
use Rattle.tl_commands.specs.Telling.{WatchesFor}
use Rattle.tl_commands.proofs.TellLemmas.{watches_on}
use Rattle.tl_commands.proofs.steps.followed.Goals as goal

pub returns : goal.returns
returns c = λ plan watches.
    let commits = commits_of c.args.before.now in
    watches_on plan commits (commits ++ c.args.commit.now ∷ []) c.in-Some.watching c.in_ok-watching.watching c.in_ok-watching.ensures (subst (WatchesFor plan commits) c.in-Some.is watches)

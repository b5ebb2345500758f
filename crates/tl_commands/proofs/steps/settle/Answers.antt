use Rattle.tl_group.specs.Keeping.{commits_in}
use Rattle.tl_commands.proofs.PlayLemmas.{add_done}
use Rattle.tl_commands.proofs.steps.settle.Goals as goal

pub returns-in-Ok-take_in-clause-ok : goal.returns-in-Ok-take_in-clause-ok
returns-in-Ok-take_in-clause-ok g c =
    add_done c.args.playing.group.limits (commits_in c.args.playing.group) (commits_in c.in-Ok-take_in.playing.group) c.args.author c.args.batch c.in-Ok.commit (rw c.resolve_owned.ensures.same at c.in-Ok-take_in.ensures.commits) c.in-Ok.ensures.ok c.requires.standard

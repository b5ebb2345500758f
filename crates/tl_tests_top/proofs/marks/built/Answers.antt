-- The version of a database is the number of its commits.
use Rattle.std.proofs.Common.{rules, ap, ◌∙◌}
use Rattle.tl_types.specs.Checkpoints.{checkpoint_at}
use Rattle.tl_types.specs.Legality.{database_behind}
use Rattle.tl_types.proofs.EntryLemmas.{version_behind}
use Rattle.tl_history.proofs.BuildLemmas.{is_built}
use Rattle.tl_tests_top.proofs.marks.built.Goals as goal

pub returns-in-Ok : goal.returns-in-Ok
returns-in-Ok g c =
    (is_built c.args.snapshot.now 0 c.in-Ok.checkpoint (search rules)
    (c.in-Ok.ensures ∙ ap (checkpoint_at (database_behind c.args.snapshot.now) 0) (version_behind c.args.snapshot.now))).is

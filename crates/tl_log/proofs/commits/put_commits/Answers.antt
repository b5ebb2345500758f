use Rattle.tl_types.specs.History.{database_of}
use Rattle.tl_log.specs.Listing.{lines_from}
use Rattle.std.proofs.Common.{◌++◌}
use Rattle.tl_log.proofs.LineLemmas.{lines_more}
use Rattle.tl_log.proofs.commits.put_commits.Goals as goal

pub loop-before-preserved : goal.loop-before-preserved
loop-before-preserved g c =
    lines_more (database_of c.args.store.now) c.args.store.now c.loop-before.before
    c.in_ok-commit.commit c.loop-before.out.items c.put_commit.new.out.items
    (c.args.out.now.items ++ lines_from (database_of c.args.store.now) 1 c.args.store.now)
    c.in_ok-commit.ensures.value c.loop-before.invariant c.in_ok-put_commit.ensures

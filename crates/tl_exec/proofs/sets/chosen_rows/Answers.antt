use Rattle.tl_types.specs.Entries.{commits_of}
use Rattle.tl_types.specs.History.{database_of, rows_of, is_visible}
use Rattle.tl_query.specs.Passing.{passes}
use Rattle.std.proofs.Common.{refl}
use Rattle.tl_filter.specs.Selecting.{rows_that_pass}
use Rattle.tl_exec.proofs.SetLemmas.{both_tests}
use Rattle.tl_exec.proofs.sets.chosen_rows.Goals as goal

pub returns-clause-set : goal.returns-clause-set
returns-clause-set g c =
    both_tests (is_visible c.args.version) (passes c.args.pred.now) (rows_of (database_of (commits_of c.args.snapshot.now)) c.args.table)
    c.in_ok-set.set (rows_that_pass (database_of (commits_of c.args.snapshot.now)) c.args.table c.args.pred.now) c.select_within.new.set c.in_ok-set.ensures.set refl c.select_within.ensures.rows c.select_within.ensures.members

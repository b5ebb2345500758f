use Rattle.tl_types.specs.Entries.{commits_of}
use Rattle.tl_types.specs.History.{database_of, rows_of, is_visible}
use Rattle.tl_query.specs.Passing.{passes}
use Rattle.tl_exec.proofs.SetLemmas.{both_tests}
use Rattle.tl_exec.proofs.sides.starting_rows.Goals as goal

pub returns-clause-set : goal.returns-clause-set
returns-clause-set g c = λ pred keep.
    both_tests (is_visible c.args.version) (passes pred) (rows_of (database_of (commits_of c.args.snapshot.now)) c.args.table)
    c.in_ok-set.set c.args.keep.now c.meet.new.set c.in_ok-set.ensures.set keep c.meet.ensures.rows c.meet.ensures.members

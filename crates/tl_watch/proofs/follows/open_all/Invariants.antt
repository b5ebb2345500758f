use Rattle.tl_types.specs.History.{database_of}
use Rattle.tl_watch.specs.Follows.{rows_opening}
use Rattle.tl_watch.specs.States.{Stands}
use Rattle.tl_watch.proofs.follows.open_all.Given as goal

abbrev pub invariant-loop-i : goal.invariant-loop-i
invariant-loop-i l = Stands l.plan l.state (rows_opening l.plan (database_of l.before) l.change l.i)

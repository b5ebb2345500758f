use Rattle.std.proofs.Common.{◌+◌, ◌*◌, ◌≤◌}
use Rattle.tl_types.specs.History.{database_of}
use Rattle.tl_watch.specs.Standings.{tests_in}
use Rattle.tl_watch.specs.Follows.{rows_closing}
use Rattle.tl_watch.specs.States.{Stands}
use Rattle.tl_watch.proofs.follows.close_all.Given as goal

abbrev pub invariant-loop-i : goal.invariant-loop-i
invariant-loop-i g l = record {
  stands : Stands l.plan l.state (rows_closing l.plan (database_of l.before) l.change l.i);
  steps : l.steps ≤ l.initial.steps + (tests_in l.plan.pred + 2) * l.i;
}

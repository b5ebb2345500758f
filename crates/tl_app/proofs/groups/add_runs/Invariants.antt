use Rattle.std.proofs.Common.{◌≡◌, ◌++◌}
use Rattle.tl_app.specs.Groups.{runs_with}
use Rattle.tl_app.proofs.groups.add_runs.Given as goal

abbrev pub invariant-loop-run : goal.invariant-loop-run
invariant-loop-run l = l.runs.items ≡ l.initial.runs.items ++ runs_with l.kind l.value l.yielded

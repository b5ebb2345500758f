use Rattle.std.proofs.Common.{◌≡◌, ◌++◌, map}
use Rattle.tl_query.specs.Aggregates.{in_group}
use Rattle.tl_agg.proofs.all_groups.push_runs.Given as goal

abbrev pub invariant-loop-run : goal.invariant-loop-run
invariant-loop-run l = l.all.items ≡ l.initial.all.items ++ map (in_group l.value) l.yielded

use Rattle.std.proofs.Common.{◌≡◌, ◌++◌, ◌==◌, not, length, map}
use Rattle.std.specs.List.{filter}
use Rattle.tl_query.specs.Aggregates.{in_group}
use Rattle.tl_query.specs.Answers.{run_fields}
use Rattle.tl_plain.specs.Choosing.{lent, there_at}
use Rattle.tl_plain.proofs.aggregates.add_runs.Given as goal

abbrev pub invariant-loop-run : goal.invariant-loop-run
invariant-loop-run l = l.answer.items ≡ l.initial.answer.items ++ map run_fields (map (in_group l.value) (filter (λ run. not (length (there_at l.span (lent l.rows) run.from) == 0)) l.yielded))

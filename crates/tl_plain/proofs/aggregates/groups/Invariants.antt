use Rattle.std.proofs.Common.{◌≡◌, map}
use Rattle.std.specs.List.{flat_map}
use Rattle.tl_query.specs.Answers.{run_fields}
use Rattle.tl_plain.specs.Grouping.{runs_of_group}
use Rattle.tl_plain.proofs.aggregates.groups.Given as goal

abbrev pub invariant-loop-value : goal.invariant-loop-value
invariant-loop-value l = l.answer.items ≡ map run_fields (flat_map (runs_of_group l.plan.kind l.plan.column l.pred l.span l.rows l.by) (map (λ v. v.now) l.yielded))

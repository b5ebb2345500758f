use Rattle.std.proofs.Common.{◌-ℤ◌}
use Rattle.tl_types.specs.Runs.{count_of}
use Rattle.tl_query.specs.Aggregates.{aggregate_of, span_start}
use Rattle.tl_plain.specs.Choosing.{lent, there_at}
use Rattle.tl_types.proofs.RunLemmas.{IsMade}
use Rattle.tl_plain.proofs.stretches.runs_in.Given as goal

abbrev pub invariant-loop-at : goal.invariant-loop-at
invariant-loop-at l = IsMade (λ moment. aggregate_of l.plan.kind l.plan.column (there_at l.span (lent l.rows) moment)) (span_start l.span) l.end l.at l.runs.items

abbrev pub decreases-loop-at : goal.decreases-loop-at
decreases-loop-at l = count_of (l.end -ℤ l.at)

use Rattle.std.proofs.Common.{◌≡◌, map}
use Rattle.tl_query.specs.Answers.{run_fields}
use Rattle.tl_plain.proofs.aggregates.all_fields.Given as goal

abbrev pub invariant-loop-run : goal.invariant-loop-run
invariant-loop-run l = l.answer.items ≡ map run_fields l.yielded

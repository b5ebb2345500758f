-- Aggregates of numbers.
use Rattle.std.specs.Prelude.{ℤ, List}
use Rattle.tl_types.specs.declared.answers.Field.{Field}
use Rattle.tl_types.specs.declared.answers.Field.TheVariants as field
use Rattle.tl_query.specs.declared.ast.AggKind.{AggKind}
use Rattle.tl_query.specs.declared.ast.AggKind.TheVariants as kind
use Rattle.tl_query.specs.Aggregates.{sum_field, average_field, least_field, greatest_field}

-- the aggregate of numbers; a count is over rows, and not over numbers
abbrev pub numbers_field : AggKind → List ℤ → Field
numbers_field kind.Count numbers = field.Empty
numbers_field kind.Sum numbers = sum_field numbers
numbers_field kind.Avg numbers = average_field numbers
numbers_field kind.Min numbers = least_field numbers
numbers_field kind.Max numbers = greatest_field numbers

use Rattle.std.proofs.Common.{◌≡◌, take}
use Rattle.std.specs.List.{filter}
use Rattle.tl_query.specs.Passing.{passes}
use Rattle.tl_plain.specs.Choosing.{lent}
use Rattle.tl_plain.proofs.passing.passing_rows.Given as goal

abbrev pub invariant-loop-row : goal.invariant-loop-row
invariant-loop-row l = lent l.passing.items ≡ filter (passes l.pred) (take l.row-index l.rows)

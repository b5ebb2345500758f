use Rattle.std.proofs.Common.{◌≡◌, map, take}
use Rattle.std.specs.List.{filter}
use Rattle.tl_query.specs.Passing.{passes}
use Rattle.tl_plain.specs.declared.keyed_rows.KeyedRow.{KeyedRow}
use Rattle.tl_plain.specs.Choosing.{lent}
use Rattle.tl_plain.proofs.passing.passing_keyed.Given as goal

abbrev pub invariant-loop-keyed : goal.invariant-loop-keyed
invariant-loop-keyed l = lent l.passing.items ≡ filter (passes l.pred) (take l.keyed-index (map (λ (k : KeyedRow). k.row.now) l.rows))

use Rattle.std.proofs.Common.{◌≡◌, ◌++◌, Some, drop, slice_get}
use Rattle.tl_types.specs.Plain as plain
use Rattle.tl_batch.specs.Covers.{gaps}
use Rattle.tl_batch.specs.Pieces.{over}
use Rattle.tl_batch.proofs.opening.push_gaps.Given as goal

abbrev pub invariant-loop-stretch : goal.invariant-loop-stretch
invariant-loop-stretch g l = (r : plain.Row) (p : plain.Period) → slice_get l.table.rows l.row ≡ Some r → r.period ≡ Some p → l.opens.items ++ over r.cells (gaps l.start l.to (drop l.stretch-index l.stretches)) ≡ l.fn.opens.items ++ over r.cells (gaps p.from p.to l.stretches)

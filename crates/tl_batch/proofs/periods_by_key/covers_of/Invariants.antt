use Rattle.std.proofs.Common.{take}
use Rattle.tl_batch.specs.Covers.{HoldLines}
use Rattle.tl_batch.specs.Lines.{lines_of}
use Rattle.tl_batch.proofs.periods_by_key.covers_of.Given as goal

abbrev pub invariant-loop-line : goal.invariant-loop-line
invariant-loop-line l = HoldLines l.covers (lines_of (take l.line-index l.lines))

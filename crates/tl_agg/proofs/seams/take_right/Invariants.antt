use Rattle.std.proofs.Common.{◌≡◌, ◌++◌, List, reverse}
use Rattle.tl_types.specs.declared.runs.Run.{Run}
use Rattle.tl_agg.specs.Seams.{seam_behind}
use Rattle.tl_agg.proofs.seams.take_right.Given as goal

abbrev pub invariant-loop-run : goal.invariant-loop-run
invariant-loop-run l = (more : List Run) → seam_behind l.done.items (reverse l.back.items) more ≡ seam_behind l.initial.done.items (reverse l.initial.back.items) (l.yielded ++ more)

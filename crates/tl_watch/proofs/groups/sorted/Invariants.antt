use Rattle.std.proofs.Common.{vec_len}
use Rattle.tl_types.specs.declared.cells.Cell.{Cell}
use Rattle.tl_watch.specs.Gathering.{KeepsAsAt}
use Rattle.tl_watch.specs.Groups.{group_of}
use Rattle.tl_watch.proofs.GatherLemmas.{or_else}
use Rattle.tl_watch.proofs.groups.sorted.Given as goal

abbrev pub invariant-values : goal.invariant-values
invariant-values l = (x : Cell) → KeepsAsAt (group_of l.initial.values.items x) (or_else (group_of l.values.items x) (group_of l.sorted.entries x))

abbrev pub decreases-values : goal.decreases-values
decreases-values l = vec_len l.values

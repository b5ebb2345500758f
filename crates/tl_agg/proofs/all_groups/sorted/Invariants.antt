use Rattle.std.proofs.Common.{◌≡◌, vec_len}
use Rattle.std.specs.Map.{lookup}
use Rattle.tl_types.specs.declared.cells.Cell.{Cell}
use Rattle.tl_types.specs.History.{same_cell}
use Rattle.tl_agg.proofs.PlaceLemmas.{or_else}
use Rattle.tl_agg.proofs.all_groups.sorted.Given as goal

abbrev pub invariant-groups : goal.invariant-groups
invariant-groups l = (x : Cell) → or_else (lookup (same_cell x) l.groups.items) (lookup (same_cell x) l.sorted.entries) ≡ lookup (same_cell x) l.initial.groups.items

abbrev pub decreases-groups : goal.decreases-groups
decreases-groups l = vec_len l.groups

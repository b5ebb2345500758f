use Rattle.std.proofs.Common.{◌≡◌, ◌<◌, ◌^◌, fold, map, drop}
use Rattle.tl_types.specs.Kinds.{is_text, number_of, with_digit}
use Rattle.tl_types.proofs.matching.kinds_of_many.Given as goal

abbrev pub invariant-loop-cell : goal.invariant-loop-cell
invariant-loop-cell l =
    (l.kinds < 2 ^ l.cell-index)
    × (fold with_digit l.kinds (map is_text (drop l.cell-index l.cells)) ≡ number_of (map is_text l.cells))

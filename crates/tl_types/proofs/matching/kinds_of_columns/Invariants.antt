use Rattle.std.proofs.Common.{◌≡◌, ◌<◌, ◌^◌, fold, map, drop}
use Rattle.tl_types.specs.Kinds.{holds_texts, number_of, with_digit}
use Rattle.tl_types.proofs.matching.kinds_of_columns.Given as goal

abbrev pub invariant-loop-column : goal.invariant-loop-column
invariant-loop-column l =
    (l.kinds < 2 ^ l.column-index)
    × (fold with_digit l.kinds (map holds_texts (drop l.column-index l.columns)) ≡ number_of (map holds_texts l.columns))

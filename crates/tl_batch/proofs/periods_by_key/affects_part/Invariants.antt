use Rattle.std.proofs.Common.{◌≡◌, ℤ, List, Option, true, false, take}
use Rattle.std.specs.List.{list_any}
use Rattle.tl_types.specs.Plain as plain
use Rattle.tl_types.specs.History.{is_within}
use Rattle.tl_batch.specs.Covers.{Full, is_covered}
use Rattle.tl_batch.specs.Pieces.{affects_period}
use Rattle.tl_batch.proofs.periods_by_key.affects_part.Given as goal

abbrev pub invariant-loop-part : goal.invariant-loop-part
invariant-loop-part l = (wholes : List (Option plain.Period)) → Full wholes → ((t : ℤ) → is_covered t l.cover ≡ list_any (is_within t) wholes) → list_any (λ g. list_any (λ p. affects_period true p g) wholes) (take l.part-index l.parts) ≡ false

-- What is kept of the numbers of rows, in two parts.
use Rattle.std.specs.Prelude.{◌≡◌, ℕ, ℤ, false, List, []}
use Rattle.tl_bits.specs.Bags.{times}
use Rattle.tl_query.specs.declared.ast.AggKind.{AggKind}
use Rattle.tl_query.specs.declared.ast.AggKind.TheVariants as kind
use Rattle.tl_running.specs.Standing.{Kept, is_ordered}

-- the kind as which numbers are counted and added: one that asks for no order
abbrev pub counted_as : AggKind → AggKind
counted_as kind.Count = kind.Count
counted_as kind.Sum = kind.Sum
counted_as kind.Avg = kind.Avg
counted_as kind.Min = kind.Count
counted_as kind.Max = kind.Count

-- what is kept for a kind: the count and the sum of one part, and the numbers of the other
abbrev pub kept_of : AggKind → Kept → List (ℤ × ℕ) → Kept
kept_of kind counted bag =
    record { kind = kind; count = counted.count; sum = counted.sum; bag = bag }

-- where the kind asks for no order, no number is kept in the bag
abbrev pub IsBagFor : AggKind → List (ℤ × ℕ) → Type 0
IsBagFor kind bag = is_ordered kind ≡ false → (v : ℤ) → times bag v ≡ 0

-- where the kind asks for no order, no number is kept in the list
abbrev pub IsListFor : AggKind → List ℤ → Type 0
IsListFor kind numbers = is_ordered kind ≡ false → numbers ≡ []

-- Sums of the numbers of the rows of a set, word by word.
use Rattle.std.specs.Prelude.{◌≡◌, ℕ, ℤ, ◌*◌, Bool, false, List, map, take, drop, None, Some}
use Rattle.tl_types.specs.Plain as plain
use Rattle.tl_query.specs.Aggregates.{total_of}
use Rattle.tl_running.specs.Standing.{AreShort, is_ordered, number_in}
use Rattle.tl_agg.specs.Kept.{picked}
use Rattle.tl_watch.specs.declared.plans.WatchPlan.{WatchPlan}

-- the numbers add up to this, and each is of 64 bits
pub record AddsUp (numbers : List ℤ) (sum : ℤ) : Type 0 where
  pub total : sum ≡ total_of numbers
  pub short : AreShort numbers

-- the items of a list that stand in word i of a mask
abbrev pub piece : {X : Type 0} → ℕ → List X → List X
piece i xs = take 64 (drop (64 * i) xs)

-- those that stand in the words before it
abbrev pub pieces_before : {X : Type 0} → ℕ → List X → List X
pieces_before i xs = take (64 * i) xs

-- the numbers of the rows of a set in a column
abbrev pub numbers_in : ℕ → List Bool → List plain.Row → List ℤ
numbers_in column set rows = map (number_in (Some column)) (picked set rows)

-- the plan asks how many rows there are, of all at once
pub record IsCounted (plan : WatchPlan) : Type 0 where
  pub by : plan.by ≡ None
  pub column_is : plan.column ≡ None
  pub kind : is_ordered plan.kind ≡ false

-- the plan asks for the sum or the average of this column over all rows at once
pub record IsSummed (plan : WatchPlan) (column : ℕ) : Type 0 where
  pub by : plan.by ≡ None
  pub column_is : plan.column ≡ Some column
  pub kind : is_ordered plan.kind ≡ false

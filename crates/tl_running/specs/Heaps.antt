-- Heaps of whole numbers, and a multiset that is kept as two of them.
use Rattle.std.specs.Prelude.{◌≡◌, ℕ, ◌+◌, ◌-◌, ◌<◌, ◌≤◌, ◌⊎◌, ℤ, negsuc, ◌-ℤ◌, ◌≤ℤ◌, Bool, true, List, ◌++◌, length, map, Some, slice_get, if◌then◌else◌}
use Rattle.std.specs.List.{count_by}
use Rattle.std.specs.Ordering.{int_eq}
use Rattle.tl_query.specs.declared.ast.AggKind.{AggKind}
use Rattle.tl_query.specs.declared.ast.AggKind.TheVariants as kind

-- the numbers of a heap, and how many there is room for
pub record HeapOf : Type 0 where
  pub numbers : List ℤ
  pub room : ℕ

-- how often a number is there
abbrev pub count_in : ℤ → List ℤ → ℕ
count_in v numbers = count_by (int_eq v) numbers

-- there is none
abbrev pub none_in : List ℤ → Type 0
none_in numbers = (v : ℤ) → count_in v numbers ≡ 0

-- the number is there and none is above it
pub record IsTop (numbers : List ℤ) (number : ℤ) : Type 0 where
  pub there : 0 < count_in number numbers
  pub above : (v : ℤ) → 0 < count_in v numbers → v ≤ℤ number

-- the new heap has one number more
pub record JoinsHeap (old new : HeapOf) (number : ℤ) : Type 0 where
  pub long : length new.numbers ≡ length old.numbers + 1
  pub counts : (v : ℤ) → count_in v new.numbers
      ≡ count_in v old.numbers + (if int_eq number v then 1 else 0)

-- PILES

-- the numbers near the greatest and those that are far from it
abbrev pub pile_of : HeapOf → HeapOf → HeapOf
pile_of near far = record { numbers = near.numbers ++ far.numbers; room = far.room }

-- none of the numbers is above this one
abbrev pub AreUpTo : List ℤ → ℤ → Type 0
AreUpTo numbers bound = (v : ℤ) → 0 < count_in v numbers → v ≤ℤ bound

-- the greatest number, where there is one, is not below this one
abbrev pub Reaches : List ℤ → ℤ → Type 0
Reaches numbers bound = (x : ℤ) → IsTop numbers x → bound ≤ℤ x

-- no number that is far is above the bound, the greatest of those that are near reaches it, and
-- there is room near it where there is any
pub record IsPile (near far : HeapOf) (bound : ℤ) : Type 0 where
  pub reaches : Reaches near.numbers bound
  pub below : AreUpTo far.numbers bound
  pub some : length near.numbers ≡ 0 → length far.numbers ≡ 0
  pub room : 0 < far.room → 0 < near.room

-- a number joins a pile
pub record FillsPile (near far near_new far_new : HeapOf) (number bound : ℤ) : Type 0 where
  pub joins : JoinsHeap (pile_of near far) (pile_of near_new far_new) number
  pub pile : IsPile near_new far_new bound
  pub room : far_new.room ≡ far.room

-- none of the numbers before a place is above that at another one
abbrev pub AreBeforeUpTo : List ℤ → ℕ → ℕ → Type 0
AreBeforeUpTo numbers i place =
    (k : ℕ) → (x y : ℤ) → k < i → slice_get numbers k ≡ Some x
    → slice_get numbers place ≡ Some y → x ≤ℤ y

-- the place is one of the two, and neither has a number that is above that at the place
pub record IsGreaterAt (numbers : List ℤ) (first second place : ℕ) : Type 0 where
  pub one : (place ≡ first) ⊎ (place ≡ second)
  pub left : (x y : ℤ) → slice_get numbers first ≡ Some x
      → slice_get numbers place ≡ Some y → x ≤ℤ y
  pub right : (x y : ℤ) → slice_get numbers second ≡ Some x
      → slice_get numbers place ≡ Some y → x ≤ℤ y

-- the number at the place is the greatest
pub record IsGreatestAt (numbers : List ℤ) (place : ℕ) : Type 0 where
  pub within : place < length numbers
  pub above : (x : ℤ) → slice_get numbers place ≡ Some x → AreUpTo numbers x

-- some numbers that were far are near
pub record MovesNear (near far near_new far_new : HeapOf) : Type 0 where
  pub same : (v : ℤ) → count_in v near_new.numbers + count_in v far_new.numbers
      ≡ count_in v near.numbers + count_in v far.numbers
  pub long : length near_new.numbers + length far_new.numbers
      ≡ length near.numbers + length far.numbers
  pub kept : (v : ℤ) → count_in v near.numbers ≤ count_in v near_new.numbers
  pub more : length near.numbers ≤ length near_new.numbers
  pub near_room : near.room ≤ near_new.room
  pub far_room : far_new.room ≡ far.room

-- some numbers that were far are near, and both are a pile
pub record MendsPile (near far near_new far_new : HeapOf) (bound : ℤ) : Type 0 where
  pub moves : MovesNear near far near_new far_new
  pub pile : IsPile near_new far_new bound

-- the lower one of two bounds where it holds, else the upper one
pub record IsLower (holds : Bool) (low top bound : ℤ) : Type 0 where
  pub upto : bound ≤ℤ top
  pub one : (bound ≡ top) ⊎ ((holds ≡ true) × (bound ≡ low))

-- TWO HEAPS

-- what went is among what came
abbrev pub AreBelow : List ℤ → List ℤ → Type 0
AreBelow came gone = (v : ℤ) → count_in v gone ≤ count_in v came

-- as much was taken out of both, and the greatest of what came is not among what went
pub record SettleTo (came gone less rest : HeapOf) : Type 0 where
  pub within : AreBelow less.numbers rest.numbers
  pub top : (x : ℤ) → IsTop less.numbers x → count_in x rest.numbers ≡ 0
  pub room : rest.room ≡ gone.room
  pub long : length less.numbers ≤ length came.numbers
  pub same : (v : ℤ) → count_in v less.numbers + count_in v gone.numbers
      ≡ count_in v came.numbers + count_in v rest.numbers

-- what went is among what came, but not the greatest of that, and there is room for the rest to go
pub record AreHeaps (came gone : HeapOf) : Type 0 where
  pub within : AreBelow came.numbers gone.numbers
  pub top : (x : ℤ) → IsTop came.numbers x → count_in x gone.numbers ≡ 0
  pub room : length came.numbers ≤ gone.room

-- the multiset of what came and did not go
abbrev pub left_of : List ℤ → List ℤ → List (ℤ × ℕ)
left_of came gone = map (λ n. (n, count_in n came - count_in n gone)) came

-- NUMBERS BY THEIR ORDER

-- a number as one in the opposite order
abbrev pub turned : ℤ → ℤ
turned n = negsuc 0 -ℤ n

-- the numbers that are kept for a kind, where those for the least one are turned
abbrev pub bag_of : AggKind → List (ℤ × ℕ) → List (ℤ × ℕ)
bag_of kind.Min bag = map (λ e. (turned e.0, e.1)) bag
bag_of kind.Count bag = bag
bag_of kind.Sum bag = bag
bag_of kind.Avg bag = bag
bag_of kind.Max bag = bag

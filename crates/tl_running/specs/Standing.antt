-- A running aggregate, and the rows for which it stands.
use Rattle.std.specs.Prelude.{◌≡◌, ℕ, ℤ, pos, negsuc, neg_ℤ, ◌+ℤ◌, ◌≤ℤ◌, ◌+◌, ◌<◌, ◌-◌, ◌^◌, Bool, true, false, List, [], ◌∷◌, ◌++◌, length, map, Option, is_some, unwrap_or}
use Rattle.std.specs.List.{count_by}
use Rattle.std.specs.Ordering.{int_eq}
use Rattle.tl_types.specs.Plain as plain
use Rattle.tl_bits.specs.Bags.{times, AddsOne}
use Rattle.tl_query.specs.declared.ast.AggKind.{AggKind}
use Rattle.tl_query.specs.declared.ast.AggKind.TheVariants as kind
use Rattle.tl_query.specs.Aggregates.{number_at, total_of}

-- WHAT IS KEPT

-- what is kept of the numbers of rows: how many there are, their sum, and where the kind asks for
-- their order, each number with how often it is there
pub record Kept : Type 0 where
  pub kind : AggKind
  pub count : ℕ
  pub sum : ℤ
  pub bag : List (ℤ × ℕ)

-- the kind asks for the order of the numbers
abbrev pub is_ordered : AggKind → Bool
is_ordered kind.Count = false
is_ordered kind.Sum = false
is_ordered kind.Avg = false
is_ordered kind.Min = true
is_ordered kind.Max = true

-- THE NUMBERS OF ROWS

-- the number of a row in the column that is aggregated, 0 where there is none
abbrev pub number_in : Option ℕ → plain.Row → ℤ
number_in column row = unwrap_or (number_at column row) (pos 0)

-- each row has a number in the column
abbrev pub HaveNumbers : Option ℕ → List plain.Row → Type 0
HaveNumbers column [] = Unit {0}
HaveNumbers column (row ∷ rows) =
    (is_some (number_at column row) ≡ true) × HaveNumbers column rows

-- a kind other than a count is of a column in which each row has a number
abbrev pub Suits : AggKind → Option ℕ → List plain.Row → Type 0
Suits kind.Count column rows = Unit {0}
Suits kind.Sum column rows = HaveNumbers column rows
Suits kind.Avg column rows = HaveNumbers column rows
Suits kind.Min column rows = HaveNumbers column rows
Suits kind.Max column rows = HaveNumbers column rows

-- a number is of 64 bits
abbrev pub IsShort : ℤ → Type 0
IsShort n = (negsuc 9223372036854775807 ≤ℤ n) × (n ≤ℤ pos 9223372036854775807)

-- each number is of 64 bits
abbrev pub AreShort : List ℤ → Type 0
AreShort [] = Unit {0}
AreShort (n ∷ ns) = IsShort n × AreShort ns

-- STANDING FOR ROWS

-- what is kept is that of these numbers
pub record Counts (kept : Kept) (numbers : List ℤ) : Type 0 where
  pub count : kept.count ≡ length numbers
  pub sum : kept.sum ≡ total_of numbers
  pub short : AreShort numbers
  pub bag : is_ordered kept.kind ≡ true → (v : ℤ) → times kept.bag v ≡ count_by (int_eq v) numbers

-- what is kept is that of the numbers that these rows have in the column
abbrev pub StandsFor : Kept → Option ℕ → List plain.Row → Type 0
StandsFor kept column rows = Counts kept (map (number_in column) rows)

-- ONE MORE, ONE LESS

-- what is kept, with so many rows
abbrev pub counting : Kept → ℕ → Kept
counting kept count = record kept { count = count }

-- what is kept, with so many rows and this sum
abbrev pub summing : Kept → ℕ → ℤ → Kept
summing kept count sum = record kept { count = count; sum = sum }

-- there is room for one number more
pub record HasRoom (kept : Kept) : Type 0 where
  pub count : kept.count < 2 ^ 32 - 1
  pub low : neg_ℤ (pos (2 ^ 96)) ≤ℤ kept.sum
  pub high : kept.sum ≤ℤ pos (2 ^ 96)

-- a number can be taken out: it is there
pub record CanLeave (kept : Kept) (number : ℤ) : Type 0 where
  pub count : 0 < kept.count
  pub low : neg_ℤ (pos (2 ^ 96)) ≤ℤ kept.sum
  pub high : kept.sum ≤ℤ pos (2 ^ 96)
  pub there : is_ordered kept.kind ≡ true → 0 < times kept.bag number

-- the new one is of one number more
pub record Enters (old new : Kept) (number : ℤ) : Type 0 where
  pub kind : new.kind ≡ old.kind
  pub count : new.count ≡ old.count + 1
  pub sum : new.sum ≡ old.sum +ℤ number
  pub bag : is_ordered old.kind ≡ true → AddsOne old.bag new.bag number

-- a number comes, or one goes
abbrev pub Changes : Bool → Kept → Kept → ℤ → Type 0
Changes true old new number = Enters old new number
Changes false old new number = Enters new old number

-- a number can come, or this one can go
abbrev pub CanChange : Bool → Kept → ℤ → Type 0
CanChange true kept number = HasRoom kept
CanChange false kept number = CanLeave kept number

-- one list is the other with one item more somewhere
pub record Inserts {X : Type 0} (item : X) (fewer more : List X) : Type 0 where
  pub front : List X
  pub back : List X
  pub without : fewer ≡ front ++ back
  pub with : more ≡ front ++ item ∷ back

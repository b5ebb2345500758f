-- Rows whose ends are known when they come, and the greatest value of those that have not ended.
use Rattle.std.specs.Prelude.{◌≡◌, ℕ, ℤ, ◌<◌, ◌≤ℤ◌, ◌<ℤ◌, int_lt, int_le, Bool, true, false, not, ◌&&◌, ◌||◌, List, [], ◌∷◌, length, map, Option, Some, None, slice_index_or}
use Rattle.std.specs.Ordering.{int_cmp, ordering_then}
use Rattle.std.specs.declared.cmp.Ordering.{Ordering}
use Rattle.tl_types.specs.declared.answers.Field.{Field}
use Rattle.tl_types.specs.Plain as plain
use Rattle.tl_query.specs.Aggregates.{aggregate_of}
use Rattle.tl_query.specs.declared.ast.AggKind.{AggKind}
use Rattle.tl_query.specs.declared.ast.AggKind.TheVariants as kind
use Rattle.tl_running.specs.declared.lasting.Lasting.{Lasting}
use Rattle.tl_running.specs.Heaps.{turned}
use Rattle.tl_running.specs.Standing.{Inserts, number_in, is_ordered, Suits}

-- THE GREATEST VALUE

-- the order by values, and where these are the same by ends
abbrev pub lasting_cmp : Lasting → Lasting → Ordering
lasting_cmp x y = ordering_then (int_cmp x.value y.value) (int_cmp x.end y.end)

-- the row has not ended at the moment, and its value is above a number
abbrev pub is_above : ℤ → ℤ → Lasting → Bool
is_above now n row = int_lt now row.end && int_lt n row.value

-- a row has not ended at the moment, and its value is above a number
abbrev pub have_above : ℤ → ℤ → List Lasting → Bool
have_above now n [] = false
have_above now n (row ∷ rows) = is_above now n row || have_above now n rows

-- the greatest value of the rows that have not ended at the moment, where there is one
abbrev pub IsGreatestAt : ℤ → List Lasting → Option ℤ → Type 0
IsGreatestAt now rows None = (n : ℤ) → have_above now n rows ≡ false
IsGreatestAt now rows (Some value) = (n : ℤ) → have_above now n rows ≡ int_lt n value

-- WHAT IS KEPT

-- the rows that are kept, and one that others are compared with
pub record LastingRows : Type 0 where
  pub rows : List Lasting
  pub cover : Option Lasting

-- the other row is not below this one, and does not end before it
abbrev pub covers : Option Lasting → Lasting → Bool
covers None row = false
covers (Some cover) row = int_le row.value cover.value && int_le row.end cover.end

-- where there is a row, it has not ended at the moment and its value is above a number
abbrev pub cover_above : ℤ → ℤ → Option Lasting → Bool
cover_above now n None = false
cover_above now n (Some cover) = is_above now n cover

-- from the floor on, what is kept has the greatest values that these rows have, and the row that
-- others are compared with is not above them
pub record LastFor (kept : LastingRows) (floor : ℤ) (rows : List Lasting) : Type 0 where
  pub same : (now n : ℤ) → floor ≤ℤ now → have_above now n kept.rows ≡ have_above now n rows
  pub cover : (now n : ℤ) → floor ≤ℤ now
      → (cover_above now n kept.cover && not (have_above now n rows)) ≡ false

-- where the old one was kept for some rows, the new one is for them with one row more
abbrev pub Takes : LastingRows → LastingRows → Lasting → Type 0
Takes old new row = (floor : ℤ) (fewer more : List Lasting) → Inserts row fewer more
    → LastFor old floor fewer → LastFor new floor more

-- from a moment on, both lists have the same greatest values
abbrev pub SameFrom : ℤ → List Lasting → List Lasting → Type 0
SameFrom now old new = (later n : ℤ) → now ≤ℤ later
    → have_above later n new ≡ have_above later n old

-- this is the first row, and no other one is above it
pub record IsFirst (rows : List Lasting) (top : Lasting) : Type 0 where
  pub some : 0 < length rows
  pub is : top ≡ slice_index_or rows 0 top
  pub upper : (now n : ℤ) → (have_above now n rows && not (int_lt n top.value)) ≡ false

-- there is a first row, and it has ended at the moment
pub record IsOver (now : ℤ) (rows : List Lasting) : Type 0 where
  pub some : 0 < length rows
  pub over : (d : Lasting) → (slice_index_or rows 0 d).end ≤ℤ now

-- where there is a first row, it has not ended at the moment
abbrev pub FirstLasts : ℤ → List Lasting → Type 0
FirstLasts now rows = (d : Lasting) → 0 < length rows → now <ℤ (slice_index_or rows 0 d).end

-- LEAST AND GREATEST NUMBERS OF ROWS

-- a kind of aggregate, and what is kept for it
pub record ExtremeOf : Type 0 where
  pub kind : AggKind
  pub kept : LastingRows

-- a number by its order for a kind: a least one is the greatest in the opposite order
abbrev pub ordered : AggKind → ℤ → ℤ
ordered kind.Min n = turned n
ordered kind.Max n = n
ordered kind.Count n = n
ordered kind.Sum n = n
ordered kind.Avg n = n

-- the number and the end of a row
abbrev pub lasting_of : AggKind → Option ℕ → (plain.Row → ℤ) → plain.Row → Lasting
lasting_of kind column ends row =
    record { value = ordered kind (number_in column row); end = ends row }

-- from the floor on, this stands for the numbers of rows, each of which has its end
abbrev pub StandsFrom : ExtremeOf → ℤ → Option ℕ → (plain.Row → ℤ) → List plain.Row → Type 0
StandsFrom extreme floor column ends rows =
    LastFor extreme.kept floor (map (lasting_of extreme.kind column ends) rows)

-- one of the numbers is above a number
abbrev pub are_above : ℤ → List ℤ → Bool
are_above n [] = false
are_above n (m ∷ ms) = int_lt n m || are_above n ms

-- the greatest of numbers, where there is one
abbrev pub IsGreatestOf : List ℤ → Option ℤ → Type 0
IsGreatestOf ns None = (n : ℤ) → are_above n ns ≡ false
IsGreatestOf ns (Some value) = (n : ℤ) → are_above n ns ≡ int_lt n value

-- no row has ended at the moment
abbrev pub AllLast : ℤ → (plain.Row → ℤ) → List plain.Row → Type 0
AllLast now ends [] = Unit {0}
AllLast now ends (row ∷ rows) = (now <ℤ ends row) × AllLast now ends rows

-- a number with its end comes
pub record Comes (old new : ExtremeOf) (number end : ℤ) : Type 0 where
  pub kind : new.kind ≡ old.kind
  pub takes : Takes old.kept new.kept
      (record { value = ordered old.kind number; end = end })

-- this is the value at the moment, over any rows for which this stands from then on
abbrev pub TellsExtreme : ExtremeOf → ℤ → Field → Type 0
TellsExtreme extreme now value =
    (floor : ℤ) (column : Option ℕ) (ends : plain.Row → ℤ) (rows : List plain.Row)
    → is_ordered extreme.kind ≡ true → StandsFrom extreme floor column ends rows
    → floor ≤ℤ now → AllLast now ends rows → Suits extreme.kind column rows
    → value ≡ aggregate_of extreme.kind column rows

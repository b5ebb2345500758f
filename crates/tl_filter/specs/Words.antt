-- Some words of a mask.
use Rattle.std.specs.Prelude.{◌≡◌, ℕ, ◌+◌, ◌-◌, ◌*◌, ◌^◌, ◌<◌, ◌≤◌, Bool, true, false, ◌&&◌, ◌||◌, not, nat_lt, List, length, slice_index, slice_index_or}
use Rattle.std.specs.List.{All}
use Rattle.tl_types.specs.Plain as plain
use Rattle.tl_query.specs.declared.typed_queries.TypedTest.{TypedTest}
use Rattle.tl_store.specs.Reading.{columns_of}
use Rattle.tl_bits.specs.Sets.{is_member}
use Rattle.tl_lanes.specs.Masks.{is_bit}

-- the row is one that is asked: any of the rows, or one in the set
abbrev pub is_asked : Bool → List Bool → ℕ → Bool
is_asked true set row = nat_lt row (length set)
is_asked false set row = is_member set row

-- the words have the bits of the rows that are asked, from a word on
abbrev pub AreAsked : Bool → List Bool → ℕ → List ℕ → Type 0
AreAsked whole set first words =
    (i : ℕ) → i < length words → (k : ℕ) → k < 64
    → is_bit (slice_index words i) k ≡ is_asked whole set (64 * (first + i) + k)

-- what a word takes: a step where it is read off the set, since not all rows are asked
abbrev pub word_cost : Bool → ℕ
word_cost true = 0
word_cost false = 1

-- the bits of a word that it has in common with some of these, from word `at` on
abbrev pub IsNarrowed : List Bool → ℕ → ℕ → ℕ → Type 0
IsNarrowed bits at old new =
    (k : ℕ) → k < 64 → is_bit new k ≡ (is_bit old k && slice_index_or bits (64 * at + k) false)

-- each word is narrowed so
pub record AreNarrowed (bits : List Bool) (first : ℕ) (old new : List ℕ) : Type 0 where
  pub long : length new ≡ length old
  pub each : (i : ℕ) → i < length old
      → IsNarrowed bits (first + i) (slice_index old i) (slice_index new i)

-- the words have the bits of some words but for those that are done
pub record AreLeft (base done left : List ℕ) : Type 0 where
  pub long : length left ≡ length done
  pub each : (i : ℕ) → i < length done → (k : ℕ) → k < 64
      → is_bit (slice_index left i) k
      ≡ (is_bit (slice_index base i) k && not (is_bit (slice_index done i) k))

-- the words have the bits that one of two had
pub record AreJoined (one two joined : List ℕ) : Type 0 where
  pub long : length joined ≡ length one
  pub each : (i : ℕ) → i < length one → (k : ℕ) → k < 64
      → is_bit (slice_index joined i) k
      ≡ (is_bit (slice_index one i) k || is_bit (slice_index two i) k)

-- no bit of the words is past so many rows
abbrev pub AreWithin : ℕ → ℕ → List ℕ → Type 0
AreWithin rows first words =
    (i : ℕ) → i < length words → slice_index words i < 2 ^ (rows - 64 * (first + i))

-- the same, bit by bit
abbrev pub HaveNonePast : ℕ → ℕ → List ℕ → Type 0
HaveNonePast rows first words =
    (i : ℕ) → i < length words → (k : ℕ) → k < 64 → rows ≤ 64 * (first + i) + k
    → is_bit (slice_index words i) k ≡ false

-- the tests name columns that are there
abbrev pub HaveColumns : plain.Database → ℕ → List TypedTest → Type 0
HaveColumns db table tests = All (λ test. test.column < length (columns_of db table)) tests

-- no word has a bit
abbrev pub AreZero : List ℕ → Type 0
AreZero words = (i : ℕ) → slice_index words i ≡ 0

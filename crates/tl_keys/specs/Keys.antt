-- Numbers for keys.
use Rattle.std.specs.Prelude.{◌≡◌, ℕ, ℤ, ◌<◌, IsTrue, List, [], Option, Some, None}
use Rattle.std.specs.Borrow.{Bor}
use Rattle.std.specs.Map.{lookup}
use Rattle.std.specs.Ordering.{int_eq}
use Rattle.tl_types.specs.declared.cells.Cell.{Cell}
use Rattle.tl_types.specs.declared.cells.Cell.TheVariants as cell
use Rattle.tl_types.specs.History.{same_cell}
use Rattle.tl_types.specs.Names.{same_bytes}

-- the keys that have a number, and how many these are
pub record KeyNumbers : Type 0 where
  pub ints : List (ℤ × ℕ)
  pub texts : List (Bor (List ℕ) × ℕ)
  pub count : ℕ

-- no key has a number
abbrev pub no_keys : KeyNumbers
no_keys = record { ints = []; texts = []; count = 0 }

-- the number of a key that is a number
abbrev pub int_number : List (ℤ × ℕ) → ℤ → Option ℕ
int_number ints i = lookup (int_eq i) ints

-- the number of a key that is a text
abbrev pub text_number : List (Bor (List ℕ) × ℕ) → List ℕ → Option ℕ
text_number texts t = lookup (λ (x : Bor (List ℕ)). same_bytes t x.now) texts

-- the number of a key, where it has one
abbrev pub number_in : KeyNumbers → Cell → Option ℕ
number_in keys (cell.Int i) = int_number keys.ints i
number_in keys (cell.Text t) = text_number keys.texts t

-- the number of a cell, where there is one and it has a number
abbrev pub number_at : KeyNumbers → Option Cell → Option ℕ
number_at keys None = None
number_at keys (Some key) = number_in keys key

-- each number is below the count, and is that of one key
pub record AreApart (keys : KeyNumbers) : Type 0 where
  pub below : (key : Cell) (n : ℕ) → number_in keys key ≡ Some n → n < keys.count
  pub one : (key other : Cell) (n : ℕ) → number_in keys key ≡ Some n
      → number_in keys other ≡ Some n → IsTrue (same_cell key other)

-- what has a number keeps it
abbrev pub KeepsNumbers : KeyNumbers → KeyNumbers → Type 0
KeepsNumbers old new =
    (key : Cell) (n : ℕ) → number_in old key ≡ Some n → number_in new key ≡ Some n

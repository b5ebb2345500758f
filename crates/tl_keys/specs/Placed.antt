-- Numbers of texts, each at a place that its bytes tell.
use Rattle.std.specs.Prelude.{◌≡◌, ℕ, List, Some, slice_get}
use Rattle.std.specs.Borrow.{Bor}
use Rattle.tl_keys.specs.declared.text_keys.Placed.{Placed}
use Rattle.tl_keys.specs.Keys.{text_number}

-- the text that is put at a place has its number
abbrev pub HasNumber : List (Bor (List ℕ) × ℕ) → Placed → Type 0
HasNumber texts there = text_number texts there.text.now ≡ Some there.number

-- what is at a place is a text with its number
abbrev pub ArePlaced : List Placed → List (Bor (List ℕ) × ℕ) → Type 0
ArePlaced placed texts =
    (i : ℕ) (there : Placed) → slice_get placed i ≡ Some there → HasNumber texts there

-- How a code is looked up by its text.
use Rattle.std.specs.Prelude.{◌≡◌, ◌≢◌, ℕ, ◌+◌, ◌<◌, false, List, [], ◌∷◌, length, ◌==◌, ◌⊎◌, if◌then◌else◌}
use Rattle.std.specs.Ordering.{nat_cmp, is_gt}
use Rattle.std.specs.Cmp.Lexicographic.{slice_cmp}
use Rattle.tl_shared.specs.Chunks.{flatten}
use Rattle.tl_column.specs.Dictionary.{text_of, AreDistinct}

-- the first text is not behind the second in the order of bytes
abbrev pub IsUpTo : List ℕ → List ℕ → Type 0
IsUpTo first second = is_gt (slice_cmp nat_cmp first second) ≡ false

-- the text of a code is not behind those of some codes
abbrev pub IsUpToAll : List (List ℕ) → ℕ → List ℕ → Type 0
IsUpToAll texts code [] = Unit {0}
IsUpToAll texts code (next ∷ rest) =
    IsUpTo (text_of texts code) (text_of texts next) × IsUpToAll texts code rest

-- codes in the order of their texts
abbrev pub IsRun : List (List ℕ) → List ℕ → Type 0
IsRun texts [] = Unit {0}
IsRun texts (code ∷ rest) = (code < length texts) × IsUpToAll texts code rest × IsRun texts rest

-- of two lists in order one gives its first code, which is not behind the other's
abbrev pub IsNext : List (List ℕ) → List ℕ → List ℕ → ℕ → List ℕ → List ℕ → Type 0
IsNext texts left right code more_left more_right =
    ((left ≡ code ∷ more_left) × (right ≡ more_right) × IsUpToAll texts code more_right)
    ⊎ ((right ≡ code ∷ more_right) × (left ≡ more_left) × IsUpToAll texts code more_left)

-- each is a run
abbrev pub AreRuns : List (List ℕ) → List (List ℕ) → Type 0
AreRuns texts [] = Unit {0}
AreRuns texts (run ∷ rest) = IsRun texts run × AreRuns texts rest

-- how often a code is there
abbrev pub times : ℕ → List ℕ → ℕ
times code [] = 0
times code (other ∷ rest) = (if other == code then 1 else 0) + times code rest

-- none of the codes has the text
abbrev pub LacksText : List (List ℕ) → List ℕ → List ℕ → Type 0
LacksText texts text [] = Unit {0}
LacksText texts text (code ∷ rest) = (text_of texts code ≢ text) × LacksText texts text rest

-- the texts differ, and the code of each is in a run
pub record IsLookUp (texts runs : List (List ℕ)) : Type 0 where
  pub distinct : AreDistinct texts
  pub sorted : AreRuns texts runs
  pub complete : (code : ℕ) → code < length texts → 0 < times code (flatten runs)

-- A range of versions, divided at marks.
use Rattle.std.specs.Prelude.{◌≡◌, ℕ, ◌+◌, ◌<◌, ◌&&◌, nat_lt, List, [], ◌∷◌, ◌++◌, length, min, Some, slice_get, if◌then◌else◌, Bool}
use Rattle.tl_types.specs.Checkpoints.{Checkpoint}
use Rattle.tl_types.specs.declared.runs.Piece.{Piece}

-- the versions of marks that are after one version and before another, each once, of marks in order
-- of version
abbrev pub inside : ℕ → ℕ → List Checkpoint → List ℕ
inside after before [] = []
inside after before (mark ∷ marks) =
    if nat_lt after mark.version && nat_lt mark.version before
    then mark.version ∷ inside mark.version before marks
    else inside after before marks

-- the versions at which a range may be divided, with its two ends
abbrev pub bounds_of : ℕ → ℕ → List Checkpoint → List ℕ
bounds_of from to marks = from ∷ (inside from to marks ++ to ∷ [])

-- each version is greater than those before it
abbrev pub Ascend : List ℕ → Type 0
Ascend versions =
    (i j a b : ℕ) → i < j → slice_get versions i ≡ Some a → slice_get versions j ≡ Some b → a < b

-- the pieces follow on each other, from one version up to another
abbrev pub Follow : ℕ → ℕ → List Piece → Type 0
Follow from to [] = from ≡ to
Follow from to (piece ∷ pieces) = (piece.from ≡ from) × Follow piece.to to pieces

-- the version stands in a list, and neither as its first nor as its last
pub record StandsInside (versions : List ℕ) (version : ℕ) : Type 0 where
  pub place : ℕ
  pub behind : 0 < place
  pub before : place + 1 < length versions
  pub there : slice_get versions place ≡ Some version

-- each piece but the first begins at a version inside the list
abbrev pub BeginInside : List ℕ → List Piece → Type 0
BeginInside versions pieces =
    (i : ℕ) (piece : Piece) → 0 < i → slice_get pieces i ≡ Some piece
    → StandsInside versions piece.from

-- a mark of the list has this version
pub record IsMarked (marks : List Checkpoint) (version : ℕ) : Type 0 where
  pub place : ℕ
  pub mark : Checkpoint
  pub there : slice_get marks place ≡ Some mark
  pub same : mark.version ≡ version

-- the range is divided for so many workers at marks of a table: the pieces follow on each other and
-- cover it, each but the first begins at a mark, and there are as many as workers, but no more than
-- one and the versions with marks inside the range
pub record AreDivided (marks : List Checkpoint) (from to workers : ℕ) (pieces : List Piece)
    : Type 0 where
  pub cover : Follow from to pieces
  pub marked : (i : ℕ) (piece : Piece) → 0 < i → slice_get pieces i ≡ Some piece
      → IsMarked marks piece.from
  pub number : length pieces ≡ min workers (length (inside from to marks) + 1)

-- the bounds with a version behind them where it is between two others
abbrev pub pushed : List ℕ → ℕ → ℕ → ℕ → List ℕ
pushed bounds after version before =
    if nat_lt after version && nat_lt version before then bounds ++ version ∷ [] else bounds

-- the version that then stands last
abbrev pub last_pushed : ℕ → ℕ → ℕ → ℕ
last_pushed after version before =
    if nat_lt after version && nat_lt version before then version else after

-- the mark is after one version and before another
abbrev pub is_inside : ℕ → ℕ → Checkpoint → Bool
is_inside after before mark = nat_lt after mark.version && nat_lt mark.version before

-- The rows that are kept of a table, and the runs of an aggregate of them.
use Rattle.std.specs.Prelude.{◌≡◌, ℕ, ◌+◌, ◌-◌, ◌<◌, zero, suc, true, false, length, ℤ, pos, negsuc, Bool, ◌&&◌, List, [], ◌∷◌, if◌then◌else◌}
use Rattle.std.specs.List.{count_by}
use Rattle.tl_types.specs.Plain as plain
use Rattle.tl_types.specs.Walks.{standing}
use Rattle.tl_bits.specs.Sets.{is_member}

-- the rows of two sets
abbrev pub both : List Bool → List Bool → List Bool
both [] keep = []
both (s ∷ set) [] = []
both (s ∷ set) (k ∷ keep) = (s && k) ∷ both set keep

-- the rows of a set, in order
abbrev pub picked : List Bool → List plain.Row → List plain.Row
picked [] rows = []
picked (s ∷ set) [] = []
picked (s ∷ set) (row ∷ rows) = if s then row ∷ picked set rows else picked set rows

-- the kept rows that stand at a version, none before the first
abbrev pub kept_at : List plain.Row → List Bool → ℤ → List plain.Row
kept_at rows keep (pos version) = picked (both (standing rows version) keep) rows
kept_at rows keep (negsuc n) = []

-- how many rows there are when one comes where `opens`, and else goes, where it is kept
abbrev pub count_moved : Bool → Bool → ℕ → ℕ
count_moved is_kept opens count =
    if is_kept then (if opens then count + 1 else count - 1) else count

-- each row that the set may hold is in it
abbrev pub IsWhole : List Bool → Type 0
IsWhole set = (row : ℕ) → row < length set → is_member set row ≡ true

-- how many members a set has
abbrev pub size : List Bool → ℕ
size set = count_by (λ member. member) set

-- the members of a set below an id
abbrev pub below : ℕ → List Bool → List Bool
below id [] = []
below zero (member ∷ set) = false ∷ below zero set
below (suc id) (member ∷ set) = member ∷ below id set

-- the set has as many rows as another, and no member that the other has not
pub record IsWithin (set keep : List Bool) : Type 0 where
  pub rows : length set ≡ length keep
  pub members : (row : ℕ) → is_member set row ≡ true → is_member keep row ≡ true

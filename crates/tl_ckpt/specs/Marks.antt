-- The marks of a history: of each table, by its number, its checkpoints in order of version.
use Rattle.std.specs.Prelude.{◌≡◌, ℕ, zero, suc, ◌≤◌, ◌<◌, nat_le, List, [], ◌∷◌, length, Option, Some, None, unwrap_or, slice_get, fold, if◌then◌else◌}
use Rattle.std.specs.List.{AllByRecursion}
use Rattle.std.specs.Bool.{⊤}
use Rattle.tl_types.specs.Checkpoints.{Checkpoint}

-- the marks of a table, none where it has no list
abbrev pub marks_for : List (List Checkpoint) → ℕ → List Checkpoint
marks_for marks table = unwrap_or (slice_get marks table) []

-- the marks of a table with one more, behind those that have no greater version
abbrev pub mark_put : Checkpoint → List Checkpoint → List Checkpoint
mark_put mark [] = mark ∷ []
mark_put mark (first ∷ others) =
    if nat_le first.version mark.version then first ∷ mark_put mark others
    else mark ∷ first ∷ others

-- the lists with one mark more in that of this number; lists before it are there as need be
abbrev pub mark_put_at : ℕ → Checkpoint → List (List Checkpoint) → List (List Checkpoint)
mark_put_at zero mark [] = mark_put mark [] ∷ []
mark_put_at zero mark (first ∷ others) = mark_put mark first ∷ others
mark_put_at (suc table) mark [] = [] ∷ mark_put_at table mark []
mark_put_at (suc table) mark (first ∷ others) = first ∷ mark_put_at table mark others

-- the marks with one more, among those of its table
abbrev pub with_mark : Checkpoint → List (List Checkpoint) → List (List Checkpoint)
with_mark mark marks = mark_put_at mark.table mark marks

-- the mark takes the place of the best one so far where it is not after the version
abbrev pub later_mark : ℕ → Option Checkpoint → Checkpoint → Option Checkpoint
later_mark version best mark = if nat_le mark.version version then Some mark else best

-- the last of a table's marks that is not after the version
abbrev pub nearest_in : List Checkpoint → ℕ → Option Checkpoint
nearest_in marks version = fold (later_mark version) None marks

-- the marks are in order of version
abbrev pub Climb : List Checkpoint → Type 0
Climb [] = ⊤
Climb (first ∷ others) =
    AllByRecursion (λ mark. first.version ≤ mark.version) others × Climb others

-- and no two have one version
abbrev pub ClimbStrictly : List Checkpoint → Type 0
ClimbStrictly [] = ⊤
ClimbStrictly (first ∷ others) =
    AllByRecursion (λ mark. first.version < mark.version) others × ClimbStrictly others

-- the marks of each table are in order of version
abbrev pub EachClimbs : List (List Checkpoint) → Type 0
EachClimbs [] = ⊤
EachClimbs (first ∷ others) = Climb first × EachClimbs others

-- the first marks, so many, are not after the version, and the others are
pub record ArePartedAt (marks : List Checkpoint) (version count : ℕ) : Type 0 where
  pub within : count ≤ length marks
  pub front : (i : ℕ) (mark : Checkpoint) → i < count → slice_get marks i ≡ Some mark
      → mark.version ≤ version
  pub back : (i : ℕ) (mark : Checkpoint) → count ≤ i → slice_get marks i ≡ Some mark
      → version < mark.version

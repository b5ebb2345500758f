-- Where a journal is damaged whose commits do not fit one after the other.
use Rattle.std.specs.Prelude.{◌≡◌, ◌⊎◌, ℕ, ◌+◌, false, List, ◌∷◌, ◌++◌}
use Rattle.tl_types.specs.declared.commits.Commit.{Commit}
use Rattle.tl_types.specs.declared.limits.Limits.{Limits}
use Rattle.tl_types.specs.History.{database_of, fits}
use Rattle.tl_types.specs.Legality.{FitInTurn}
use Rattle.tl_journal.specs.Image.{ImageStandsOnlyFor, IsDamagedOnlyAt, size_of}

-- the image is a journal's, and the commit behind the gate at this offset is the first one that
-- does not fit those before it
pub record IsUnfitAt (limits : Limits) (at : ℕ) (image : List ℕ) : Type 0 where
  pub before : List Commit
  pub commit : Commit
  pub later : List Commit
  pub whole : ImageStandsOnlyFor (before ++ commit ∷ later) image
  pub fitting : FitInTurn limits before
  pub unfit : fits limits (database_of before) commit ≡ false
  pub at_is : at ≡ 16 + size_of before

-- where an image is damaged: where its bytes are no journal's, or else at the first gate whose
-- commit does not fit those before it
abbrev pub IsDamaged : Limits → ℕ → List ℕ → Type 0
IsDamaged limits at image = IsDamagedOnlyAt at image ⊎ IsUnfitAt limits at image

-- The commits of a journal while they are applied.
use Rattle.std.specs.Prelude.{◌≡◌, ℕ, ◌+◌, Bool, true, false, IsTrue, List, [], ◌∷◌, ◌++◌, Some, None}
use Rattle.std.specs.declared.option.Option.{Option}
use Rattle.tl_types.specs.declared.commits.Commit.{Commit}
use Rattle.tl_types.specs.declared.limits.Limits.{Limits}
use Rattle.tl_types.specs.History.{database_of, fits}
use Rattle.tl_types.specs.Legality.{FitInTurn}
use Rattle.tl_journal.specs.Image.{ImageStandsOnlyFor, size_of}
use Rattle.tl_journal.specs.Opening.{HasRead, IsAtClosedGate}
use Rattle.tl_journal.specs.Plain as journal

-- the commit fits those before it, and is applied; or it does not fit, and nothing is
abbrev pub IsAppliedTo : {A : Type 0} → (A → List Commit → A → Type 0) → Limits → A → List Commit
    → Commit → A → Bool → Type 0
IsAppliedTo makes limits first before commit new true =
    IsTrue (fits limits (database_of before) commit) × makes first (before ++ commit ∷ []) new
IsAppliedTo makes limits first before commit new false =
    (fits limits (database_of before) commit ≡ false) × makes first before new

-- these commits were read so far, they fit in turn, and this was made of them
pub record HasApplied {D A : Type 0} (makes : A → List Commit → A → Type 0) (limits : Limits)
    (first : A) (commits : List Commit) (found_commits : journal.FoundCommits D) (applied : A)
    : Type 0 where
  pub read : HasRead commits found_commits
  pub fitting : FitInTurn limits commits
  pub made : makes first commits applied

-- the same of all commits of the journal
pub record HasAppliedAll {D A : Type 0} (makes : A → List Commit → A → Type 0) (limits : Limits)
    (first : A) (commits : List Commit) (found_commits : journal.FoundCommits D) (applied : A)
    : Type 0 where
  pub so_far : HasApplied makes limits first commits found_commits applied
  pub at_end : IsAtClosedGate found_commits
  pub whole : ImageStandsOnlyFor commits found_commits.image

-- some commits are all of the journal, and were applied
abbrev pub AppliesAll : {D A : Type 0} → (A → List Commit → A → Type 0) → Limits → A
    → journal.FoundCommits D → A → Type 0
AppliesAll makes limits first found_commits applied =
    (commits : List Commit) × HasAppliedAll makes limits first commits found_commits applied

-- after these commits, one was read that does not fit them; its gate is at the offset
pub record IsFirstUnfit {D : Type 0} (limits : Limits) (before : List Commit)
    (found_commits : journal.FoundCommits D) (at : ℕ) : Type 0 where
  pub commit : Commit
  pub read : HasRead (before ++ commit ∷ []) found_commits
  pub fitting : FitInTurn limits before
  pub unfit : fits limits (database_of before) commit ≡ false
  pub at_is : at ≡ 16 + size_of before

-- all commits were applied, or those before one that does not fit, whose gate is at the offset
abbrev pub StopsAt : {D A : Type 0} → (A → List Commit → A → Type 0) → Limits → A
    → journal.FoundCommits D → A → Option ℕ → Type 0
StopsAt makes limits first found_commits applied None =
    AppliesAll makes limits first found_commits applied
StopsAt makes limits first found_commits applied (Some at) =
    (before : List Commit) × IsFirstUnfit limits before found_commits at

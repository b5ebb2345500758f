-- What has been read of a journal's image while it is opened.
use Rattle.std.specs.Prelude.{◌≡◌, ◌+◌, ◌<◌, ℕ, List, [], ◌∷◌, ◌++◌, length, drop, IfSome}
use Rattle.std.specs.declared.option.Option.{Option}
use Rattle.tl_types.specs.declared.commits.Commit.{Commit}
use Rattle.tl_record.specs.Spelling.{spelling, IsCommit}
use Rattle.tl_journal.specs.Image.{header, OpenGates, size_of, Carries, ImageStandsFor, BreaksAt, HasBrokenGate}
use Rattle.tl_journal.specs.declared.found.Found.{Found}
use Rattle.tl_journal.specs.Plain as plain

-- these commits, with the gates before them, lead to the place in the image; whatever list of
-- commits the image stands for begins with them, and goes on with what stands there; a broken gate
-- of the image stands there or further on
pub record HasReadTo (found : List Commit) (at : ℕ) (image : List ℕ) : Type 0 where
  pub front : List ℕ
  pub opens : OpenGates found front
  pub image_is : image ≡ (header ++ front) ++ drop at image
  pub at_is : at ≡ length (header ++ front)
  pub gate_is : at ≡ 16 + size_of found
  pub onward : (cs : List Commit) → ImageStandsFor cs image → (later : List Commit)
      × (cs ≡ found ++ later) × Carries later (drop at image)
  pub damage : (n : ℕ) → HasBrokenGate n image →
      (m : ℕ) × (n ≡ at + m) × BreaksAt m (drop at image)

-- the commits handed out so far, up to the place of an opening
abbrev pub HasRead : {D : Type 0} → List Commit → plain.FoundCommits D → Type 0
HasRead found opening = HasReadTo found opening.at opening.image

-- the closed gate comes next
abbrev pub IsAtClosedGate : {D : Type 0} → plain.FoundCommits D → Type 0
IsAtClosedGate opening = (tail : List ℕ) × (drop opening.at opening.image ≡ 0 ∷ tail)

-- behind the gate at a place stands the record of this commit, and behind it the next gate
pub record HasRecordAt {D : Type 0} (at : ℕ) (commit : Commit) (opening : plain.FoundCommits D)
    : Type 0 where
  pub fits : IsCommit commit
  pub behind : drop (at + 1) opening.image ≡ spelling commit ++ drop opening.at opening.image
  pub next_is : opening.at ≡ at + (1 + length (spelling commit))

-- what every opening keeps: a gate comes next, the bytes are the disk's where it tells them, and
-- the disk's room is taken for a cut and a sync
pub record IsOpening {D : Type 0} (reads : D → Option (List ℕ)) (ready : D → ℕ → ℕ → Type 0)
    (opening : plain.FoundCommits D) : Type 0 where
  pub within : opening.at < length opening.image
  pub told : IfSome (reads opening.disk) (λ b. opening.image ≡ b)
  pub room : ready opening.disk 0 2

-- the commits of what was found
abbrev pub commits_found : List Found → List Commit
commits_found [] = []
commits_found (f ∷ found) = f.commit ∷ commits_found found

-- each commit found has the offset of its gate, the first of which is the given one
abbrev pub HaveGatesFrom : ℕ → List Found → Type 0
HaveGatesFrom at [] = Unit {0}
HaveGatesFrom at (f ∷ found) =
    (f.at ≡ at) × HaveGatesFrom (at + (1 + length (spelling f.commit))) found

-- What the bytes of a journal stand for.
use Rattle.std.specs.Prelude.{◌≡◌, ◌≢◌, ◌⊎◌, ◌+◌, ◌≤◌, ℕ, List, [], ◌∷◌, ◌++◌, length, take}
use Rattle.tl_types.specs.declared.commits.Commit.{Commit}
use Rattle.tl_record.specs.Spelling.{spelling, IsCommit}

-- the 16 bytes that a journal begins with: the text "timeline journal"
abbrev pub header : List ℕ
header =
    116 ∷ 105 ∷ 109 ∷ 101 ∷ 108 ∷ 105 ∷ 110 ∷ 101 ∷ 32
    ∷ 106 ∷ 111 ∷ 117 ∷ 114 ∷ 110 ∷ 97 ∷ 108 ∷ []

-- open gates, each followed by the record of its commit
abbrev pub OpenGates : List Commit → List ℕ → Type 0
OpenGates [] front = front ≡ []
OpenGates (c ∷ cs) front =
    (gate : ℕ) × (tail : List ℕ) × (gate ≢ 0) × IsCommit c
    × (front ≡ gate ∷ (spelling c ++ tail)) × OpenGates cs tail

-- these bytes and then a closed gate; what stands past it is not looked at
abbrev pub Ends : List ℕ → List ℕ → Type 0
Ends front image = (tail : List ℕ) × (image ≡ front ++ 0 ∷ tail)

-- open gates and the records of these commits, and then a closed gate
abbrev pub Carries : List Commit → List ℕ → Type 0
Carries cs rest = (front : List ℕ) × OpenGates cs front × Ends front rest

-- the image of a journal of these commits
abbrev pub ImageStandsFor : List Commit → List ℕ → Type 0
ImageStandsFor cs image = (front : List ℕ) × OpenGates cs front × Ends (header ++ front) image

-- the image of a journal of these commits, without those of the group or with all of them
abbrev pub NoneOrAll : List Commit → List Commit → List ℕ → Type 0
NoneOrAll cs group image = ImageStandsFor cs image ⊎ ImageStandsFor (cs ++ group) image

-- the same of a group of one commit
abbrev pub BeforeOrAfter : List Commit → Commit → List ℕ → Type 0
BeforeOrAfter cs c image = ImageStandsFor cs image ⊎ ImageStandsFor (cs ++ c ∷ []) image

-- the record of a commit with a closed gate behind it, as an append writes it
abbrev pub IsBodyOf : Commit → List ℕ → Type 0
IsBodyOf c body = IsCommit c × (body ≡ spelling c ++ 0 ∷ [])

-- one or more commits
abbrev pub IsGroup : List Commit → Type 0
IsGroup [] = ⊥
IsGroup (c ∷ []) = IsCommit c
IsGroup (c ∷ d ∷ cs) = IsCommit c × IsGroup (d ∷ cs)

-- the records of a group, each with an open gate behind it, but for the last, which has a closed
-- one
abbrev pub body_of : List Commit → List ℕ
body_of [] = []
body_of (c ∷ []) = spelling c ++ 0 ∷ []
body_of (c ∷ d ∷ cs) = spelling c ++ 1 ∷ body_of (d ∷ cs)

-- the body of a group of one or more commits
abbrev pub IsBodyOfAll : List Commit → List ℕ → Type 0
IsBodyOfAll group body = IsGroup group × (body ≡ body_of group)

-- how many bytes the open gates and records of these commits take
abbrev pub size_of : List Commit → ℕ
size_of [] = 0
size_of (c ∷ cs) = 1 + length (spelling c) + size_of cs

-- no record with a further byte behind it stands at the start
abbrev pub NoRecord : List ℕ → Type 0
NoRecord more =
    (c : Commit) (x : ℕ) (rest : List ℕ) → IsCommit c → more ≢ spelling c ++ x ∷ rest

-- open gates with their records, and then, so many bytes on, an open gate that no record and
-- further byte follow
pub record BreaksAt (at : ℕ) (rest : List ℕ) : Type 0 where
  pub commits : List Commit
  pub front : List ℕ
  pub gate : ℕ
  pub more : List ℕ
  pub opens : OpenGates commits front
  pub rest_is : rest ≡ front ++ gate ∷ more
  pub at_is : at ≡ length front
  pub is_open : gate ≢ 0
  pub no_record : NoRecord more

-- that gate in an image, by its offset
abbrev pub HasBrokenGate : ℕ → List ℕ → Type 0
HasBrokenGate at image =
    (rest : List ℕ) × (n : ℕ) × (image ≡ header ++ rest) × (at ≡ 16 + n) × BreaksAt n rest

-- an image of 17 bytes or more that begins with a journal's name
abbrev pub BeginsAsJournal : List ℕ → Type 0
BeginsAsJournal image = (17 ≤ length image) × (take 16 image ≡ header)

-- an image of 17 bytes or more that begins otherwise
abbrev pub HasAnotherName : List ℕ → Type 0
HasAnotherName image = (17 ≤ length image) × (take 16 image ≢ header)

-- where an image of 17 bytes or more is damaged: at 0 where it does not begin as a journal, and
-- else at its first open gate that no record and further byte follow
abbrev pub IsDamagedAt : ℕ → List ℕ → Type 0
IsDamagedAt at image = ((at ≡ 0) × HasAnotherName image) ⊎ HasBrokenGate at image

-- the image is a journal's, of these commits and of no others
pub record ImageStandsOnlyFor (commits : List Commit) (image : List ℕ) : Type 0 where
  pub stands : ImageStandsFor commits image
  pub only : (cs : List Commit) → ImageStandsFor cs image → cs ≡ commits
  pub sound : (at : ℕ) → IsDamagedAt at image → ⊥

-- the image is no journal's, and is damaged there and nowhere else
pub record IsDamagedOnlyAt (at : ℕ) (image : List ℕ) : Type 0 where
  pub here : IsDamagedAt at image
  pub only : (n : ℕ) → IsDamagedAt n image → n ≡ at
  pub no_journal : (cs : List Commit) → ImageStandsFor cs image → ⊥

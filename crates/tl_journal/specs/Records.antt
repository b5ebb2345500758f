-- Records at the start of bytes.
use Rattle.std.specs.Prelude.{◌≡◌, ◌≢◌, ◌<◌, ◌++◌, ◌∷◌, ℕ, List, length}
use Rattle.tl_types.specs.declared.commits.Commit.{Commit}
use Rattle.tl_record.specs.Spelling.{spelling, IsCommit}
use Rattle.tl_record.specs.Decoding.{BeginsWith}
use Rattle.tl_journal.specs.Image.{NoRecord}

-- no other commit's record stands at the start
abbrev pub IsOnlyRecord : List ℕ → Commit → Type 0
IsOnlyRecord bytes c = (d : Commit) (rest : List ℕ) → BeginsWith bytes d rest → d ≡ c

-- an open gate stands at the start, then the record of this commit and of no other, and then these
-- bytes, of which there is one at least
pub record IsGateBefore (rest : List ℕ) (c : Commit) (next : List ℕ) : Type 0 where
  pub gate : ℕ
  pub is_open : gate ≢ 0
  pub fits : IsCommit c
  pub rest_is : rest ≡ gate ∷ (spelling c ++ next)
  pub only : IsOnlyRecord (spelling c ++ next) c
  pub more : 0 < length next

-- an open gate stands at the start, and no record and further byte follow it
pub record IsBrokenHere (rest : List ℕ) : Type 0 where
  pub gate : ℕ
  pub more : List ℕ
  pub rest_is : rest ≡ gate ∷ more
  pub is_open : gate ≢ 0
  pub no_record : NoRecord more

-- What a journal stands for.
use Rattle.std.specs.Prelude.{◌≡◌, ◌⊎◌, ◌+◌, ◌≤◌, ◌<◌, ◌^◌, ℕ, List, [], ◌∷◌, ◌++◌, length, None, IfSome}
use Rattle.std.specs.declared.option.Option.{Option}
use Rattle.tl_types.specs.declared.commits.Commit.{Commit}
use Rattle.tl_device.specs.Disk.{IsStored}
use Rattle.tl_journal.specs.Image.{header, OpenGates, Ends}
use Rattle.tl_journal.specs.Plain as plain

-- the bytes of a journal of no commit
abbrev pub empty_journal : List ℕ
empty_journal = header ++ 0 ∷ []

-- the disk has just the journal of these commits, up to its closed gate, and keeps it in a crash
pub record DiskStandsFor {D : Type 0} (reads : D → Option (List ℕ))
    (may_leave : D → List ℕ → Type 0) (disk : D) (commits : List Commit) (gate : ℕ) : Type 0 where
  pub front : List ℕ
  pub opens : OpenGates commits front
  pub gate_is : gate ≡ length (header ++ front)
  pub stored : IsStored reads may_leave disk ((header ++ front) ++ 0 ∷ [])

-- the journal is not broken, and its disk has just these commits
pub record JournalStandsFor {D : Type 0} (reads : D → Option (List ℕ))
    (may_leave : D → List ℕ → Type 0) (journal : plain.Journal D) (commits : List Commit)
    : Type 0 where
  pub whole : journal.broken ≡ None
  pub on_disk : DiskStandsFor reads may_leave journal.disk commits journal.gate

-- what every journal keeps: where it is not broken its gate lies within the disk, and it has taken
-- the disk's room for a body as long as its spare and a gate, in four calls
pub record IsReady {D : Type 0} (reads : D → Option (List ℕ)) (ready : D → ℕ → ℕ → Type 0)
    (journal : plain.Journal D) : Type 0 where
  pub gate : journal.broken ≡ None → journal.gate + 1 < 2 ^ 64
  pub within : journal.broken ≡ None
      → IfSome (reads journal.disk) (λ b. journal.gate + 1 ≤ length b)
  pub room : 1 ≤ journal.spare → ready journal.disk (journal.spare + 1) 4

-- as it was, or without what stood past the closed gate
abbrev pub SameOrTrimmed : List ℕ → List ℕ → Type 0
SameOrTrimmed old new =
    (new ≡ old)
    ⊎ ((cs : List Commit) × (front : List ℕ) × OpenGates cs front × Ends (header ++ front) old
    × (new ≡ (header ++ front) ++ 0 ∷ []))

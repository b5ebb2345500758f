-- What a history keeps, and what its disk stands for.
use Rattle.std.specs.Prelude.{◌≡◌, ◌⊎◌, ℕ, Bool, true, false, List, Some, None}
use Rattle.std.specs.declared.option.Option.{Option}
use Rattle.tl_types.specs.declared.commits.Entry.{Entry}
use Rattle.tl_types.specs.Entries.{commits_of, has_break}
use Rattle.tl_types.specs.History.{database_of}
use Rattle.tl_types.specs.Limits.{standard_limits}
use Rattle.tl_device.specs.Known.{Rose}
use Rattle.tl_batch.specs.KeyIndex.{IdsByKey}
use Rattle.tl_batch.specs.Made.{AreWithin}
use Rattle.tl_batch.specs.Standing.{StandFor}
use Rattle.tl_journal.specs.Image.{ImageStandsFor}
use Rattle.tl_journal.specs.Moments.{IsUntouched}
use Rattle.tl_journal.specs.Plain as journal
use Rattle.tl_journal.specs.Stands.{JournalStandsFor}
use Rattle.tl_history.specs.Lists.{tried_commits}
use Rattle.tl_history.specs.Plain as plain

-- the count of faults is as at the opening while there is no break, and above that once there is
-- one
abbrev pub IsCount : Bool → ℕ → ℕ → Type 0
IsCount false first now = now ≡ first
IsCount true first now = Rose first now

-- while there is no break, the keys stand for the commits' tables and the journal is not broken
pub record KeepsUp {D : Type 0} (entries : List Entry) (keys : List (Option IdsByKey))
    (journal : journal.Journal D) : Type 0 where
  pub keys_stand : has_break entries ≡ false → StandFor keys (database_of (commits_of entries))
  pub unbroken : has_break entries ≡ false → journal.broken ≡ None

-- what every history keeps
pub record IsHistory {D : Type 0} (faults : D → ℕ) (keys : List (Option IdsByKey))
    (history : plain.History D) : Type 0 where
  pub within : AreWithin history.limits standard_limits
  pub keeps_up : KeepsUp history.entries keys history.journal
  pub count : IsCount (has_break history.entries) history.first_count (faults history.journal.disk)

-- the image is a journal of the commits, or of these and the commit of the break
abbrev pub ImageStandsForEntries : List Entry → List ℕ → Type 0
ImageStandsForEntries entries image =
    ImageStandsFor (commits_of entries) image ⊎ ImageStandsFor (tried_commits entries) image

-- the disk stands for the history: while there is no break it has just the journal of the commits,
-- also in a crash; once there is one, what a crash leaves and what a read gives, which it does
-- tell, stand for the commits, or for these and the commit of the break
pub record DiskStandsForHistory {D : Type 0} (reads : D → Option (List ℕ))
    (may_leave : D → List ℕ → Type 0) (history : plain.History D) : Type 0 where
  pub whole : has_break history.entries ≡ false
      → JournalStandsFor reads may_leave history.journal (commits_of history.entries)
  pub leaves : (image : List ℕ) → may_leave history.journal.disk image
      → ImageStandsForEntries history.entries image
  pub reads_as : (image : List ℕ) × (reads history.journal.disk ≡ Some image)
      × ImageStandsForEntries history.entries image

-- nothing has changed but the room that the disk has taken
pub record HasRoomAlone {D : Type 0} (reads : D → Option (List ℕ)) (may_leave : D → List ℕ → Type 0)
    (faults : D → ℕ) (old new : plain.History D) : Type 0 where
  pub entries_same : new.entries ≡ old.entries
  pub broken_same : new.journal.broken ≡ old.journal.broken
  pub gate_same : new.journal.gate ≡ old.journal.gate
  pub untouched : IsUntouched reads may_leave old.journal.disk new.journal.disk
  pub count_same : faults new.journal.disk ≡ faults old.journal.disk

-- the image is a journal of the commits of the old entries, or of all that the new entries name
abbrev pub ImageStandsForEither : List Entry → List Entry → List ℕ → Type 0
ImageStandsForEither old new image =
    ImageStandsFor (commits_of old) image ⊎ ImageStandsFor (tried_commits new) image

-- What the answer of a call that tends a table says of the entries that its caller has seen.
use Rattle.std.specs.Prelude.{◌≡◌, ℕ, true, false, List, [], ◌∷◌, ◌++◌, length, Option, Some, None, Result, Ok, Err}
use mathlib.Core.List.{IsPrefix}
use Rattle.tl_types.specs.declared.commits.Entry.{Entry}
use Rattle.tl_types.specs.Entries.{has_break}
use Rattle.tl_types.specs.Legality.{has_mark}
use Rattle.tl_types.specs.Marks.{due}
use Rattle.tl_index.specs.Snapshots.{mark_entry}
use Rattle.tl_history.specs.Lists.{version_after}
use Rattle.tl_engine.specs.declared.faults.Tended.{Tended}
use Rattle.tl_engine.specs.declared.faults.Tended.TheVariants as tended
use Rattle.tl_engine.specs.declared.faults.TendFault.{TendFault}
use Rattle.tl_engine.specs.declared.faults.TendFault.TheVariants as fault

-- ONCE THE CHECKPOINT IS THERE

-- the mark is the last entry that is seen now; before it there was neither a break nor that mark
pub record AddsMark (table version : ℕ) (old new : List Entry) : Type 0 where
  pub base : List Entry
  pub begins : IsPrefix old base
  pub whole : has_break base ≡ false
  pub fresh : has_mark base table version ≡ false
  pub entries_are : new ≡ base ++ mark_entry table version ∷ []

-- what the answer says of the mark of a checkpoint, which was built of so many entries
abbrev pub MarkSays : ℕ → ℕ → ℕ → List Entry → List Entry → Result Tended TendFault → Type 0
MarkSays table version read old new (Ok tended.NotDue) = ⊥
MarkSays table version read old new (Ok (tended.Built v r)) =
    (v ≡ version) × (r ≡ read) × AddsMark table version old new
MarkSays table version read old new (Ok (tended.Had v r)) =
    (v ≡ version) × (r ≡ read) × IsPrefix old new × (has_break new ≡ false)
    × (has_mark new table version ≡ true)
MarkSays table version read old new (Err (fault.Broken v r)) =
    (v ≡ version) × (r ≡ read) × IsPrefix old new × (has_break new ≡ true)
MarkSays table version read old new (Err fault.NoMemory) = IsPrefix old new

-- the same of all that is written when the call has the lock, and of the entry that it publishes
abbrev pub MarkAnswersOver : ℕ → ℕ → ℕ → List Entry → Option Entry → Result Tended TendFault
    → Type 0
MarkAnswersOver table version read base entry (Ok tended.NotDue) = ⊥
MarkAnswersOver table version read base entry (Ok (tended.Built v r)) =
    (v ≡ version) × (r ≡ read) × (has_break base ≡ false)
    × (has_mark base table version ≡ false) × (entry ≡ Some (mark_entry table version))
MarkAnswersOver table version read base entry (Ok (tended.Had v r)) =
    (v ≡ version) × (r ≡ read) × (has_break base ≡ false)
    × (has_mark base table version ≡ true) × (entry ≡ None)
MarkAnswersOver table version read base entry (Err (fault.Broken v r)) =
    (v ≡ version) × (r ≡ read) × (has_break base ≡ true) × (entry ≡ None)
MarkAnswersOver table version read base entry (Err fault.NoMemory) = entry ≡ None

-- THE WHOLE CALL

-- what was seen begins the list that was read, which has so many entries and commits; a mark of the
-- table is due in it; and it begins what is seen now
pub record HasRead (table k version read : ℕ) (old new : List Entry) : Type 0 where
  pub list : List Entry
  pub begins : IsPrefix old list
  pub later : IsPrefix list new
  pub read_is : read ≡ length list
  pub version_is : version ≡ version_after list
  pub due_is : due list table k ≡ true

-- what the answer says of what was seen and of what is seen now
abbrev pub TendSays : ℕ → ℕ → List Entry → List Entry → Result Tended TendFault → Type 0
TendSays table k old new (Ok tended.NotDue) = IsPrefix old new × (due new table k ≡ false)
TendSays table k old new (Ok (tended.Built v r)) =
    (read : HasRead table k v r old new) × AddsMark table v read.list new
TendSays table k old new (Ok (tended.Had v r)) =
    HasRead table k v r old new × (has_break new ≡ false) × (has_mark new table v ≡ true)
TendSays table k old new (Err (fault.Broken v r)) =
    HasRead table k v r old new × (has_break new ≡ true)
TendSays table k old new (Err fault.NoMemory) = IsPrefix old new

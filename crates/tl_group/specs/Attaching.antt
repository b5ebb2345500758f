-- A group as it was opened, and the history without marks that it stands for.
use Rattle.std.specs.Prelude.{ℕ, Result, Ok, Err}
use Rattle.tl_journal.specs.declared.opening.Refused.{Refused}
use Rattle.tl_history.specs.Plain as history
use Rattle.tl_group.specs.Plain as plain

-- the history that was opened over the disk of the group, with the disk's count of faults
abbrev pub history_of : {D : Type 0} → (D → ℕ) → plain.Group D → history.History D
history_of faults group =
    record {
      entries = group.entries;
      journal = group.journal;
      first_count = faults group.journal.disk;
      limits = group.limits;
    }

-- the opening of a group, as that of this history
abbrev pub as_history : {D : Type 0} → (D → ℕ) → Result (plain.Group D) (Refused D)
    → Result (history.History D) (Refused D)
as_history faults (Ok group) = Ok (history_of faults group)
as_history faults (Err refused) = Err refused

-- How a run ends whose journal is not opened or made.
use Rattle.std.proofs.Common.{◌≡◌, ◌≢◌, ℕ, List, [], refl, subst}
use Rattle.std.specs.declared.option.Option.{Option}
use Rattle.tl_journal.specs.declared.faults.JournalFault.{JournalFault}
use Rattle.tl_journal.specs.declared.faults.JournalFault.TheVariants as journal
use Rattle.tl_command.specs.declared.statuses.Status.{Status}
use Rattle.tl_command.specs.Closing.{Closes, EndsFor, status_for}

subst_status : (fault : JournalFault) (wanted : Status) (old new : Option (List ℕ)) (before after : ℕ) (ended : Status) → wanted ≡ status_for fault → Closes [] wanted old new before after ended → Closes [] (status_for fault) old new before after ended
subst_status fault wanted old new before after ended is h = subst (λ (s : Status). Closes [] s old new before after ended) is h

-- a fault that is not being out of memory closes the run with its line
pub ends_for : (fault : JournalFault) (wanted : Status) (old new : Option (List ℕ)) (before after : ℕ) (ended : Status) → fault ≢ journal.NoMemory → wanted ≡ status_for fault → Closes [] wanted old new before after ended → EndsFor fault old new before after ended
ends_for journal.NoMemory wanted old new before after ended other is h = absurd (other refl)
ends_for (journal.Device faults) wanted old new before after ended other is h = subst_status (journal.Device faults) wanted old new before after ended is h
ends_for (journal.NotInitialised len) wanted old new before after ended other is h = subst_status (journal.NotInitialised len) wanted old new before after ended is h
ends_for (journal.AlreadyInitialised len) wanted old new before after ended other is h = subst_status (journal.AlreadyInitialised len) wanted old new before after ended is h
ends_for (journal.Damaged at) wanted old new before after ended other is h = subst_status (journal.Damaged at) wanted old new before after ended is h

-- Why a journal is not opened or made.
use Rattle.std.proofs.Common.{◌≡◌, ◌⊎◌, inl, inr, ℕ, ◌<◌, IfSome, refl}
use Rattle.tl_types.specs.Limits.{standard_limits}
use Rattle.tl_journal.specs.Answers.{IsTooShort, IsTooLong}
use Rattle.tl_journal.specs.declared.faults.JournalFault.{JournalFault}
use Rattle.tl_journal.specs.declared.faults.JournalFault.TheVariants as journal
use Rattle.tl_replay.specs.Fitting.{IsDamaged}
use Rattle.tl_command.specs.Closing.{RefusedBy, NotMadeBy, MayBeShort}
use Rattle.tl_command.specs.Outside.{Outside, IsSameDisk, LeavesNoLess, DiskAsBefore, DiskDurable, DiskTrimmed}

-- one of two, each made of one of two others
pub either_of : {A B C E : Type 0} → A ⊎ B → (A → C) → (B → E) → C ⊎ E
either_of (inl a) f g = inl (f a)
either_of (inr b) f g = inr (g b)

pub not_made : (fault : JournalFault) (before after : Outside) → MayBeShort before after
    → (fault ≡ journal.NoMemory → DiskAsBefore before after)
    → ((len : ℕ) → fault ≡ journal.NotInitialised len → ⊥) → ((at : ℕ) → fault ≡ journal.Damaged at → ⊥)
    → ((len : ℕ) → fault ≡ journal.AlreadyInitialised len → ((17 < len) × IfSome before.reads (IsTooLong len)) × IsSameDisk before after × LeavesNoLess before after)
    → NotMadeBy fault before after
not_made journal.NoMemory before after short no_memory not_short not_damaged too_long = no_memory refl
not_made (journal.Device faults) before after short no_memory not_short not_damaged too_long = short
not_made (journal.NotInitialised len) before after short no_memory not_short not_damaged too_long = not_short len refl
not_made (journal.AlreadyInitialised len) before after short no_memory not_short not_damaged too_long = let h = too_long len refl in (h.0.0, h.0.1, h.1, h.2)
not_made (journal.Damaged at) before after short no_memory not_short not_damaged too_long = not_damaged at refl

pub refused_by : (fault : JournalFault) (before after : Outside)
    → (fault ≡ journal.NoMemory → DiskAsBefore before after ⊎ DiskTrimmed before after)
    → ((len : ℕ) → fault ≡ journal.NotInitialised len → (len < 17) × IfSome before.reads (IsTooShort len) × IsSameDisk before after × LeavesNoLess before after)
    → ((len : ℕ) → fault ≡ journal.AlreadyInitialised len → ⊥)
    → ((at : ℕ) → fault ≡ journal.Damaged at → IfSome before.reads (IsDamaged standard_limits at) × IsSameDisk before after × DiskDurable before after)
    → RefusedBy fault before after
refused_by journal.NoMemory before after no_memory short long damaged = no_memory refl
refused_by (journal.Device faults) before after no_memory short long damaged = tt
refused_by (journal.NotInitialised len) before after no_memory short long damaged = short len refl
refused_by (journal.AlreadyInitialised len) before after no_memory short long damaged = long len refl
refused_by (journal.Damaged at) before after no_memory short long damaged = damaged at refl

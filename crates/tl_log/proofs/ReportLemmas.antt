-- What an opening over a disk in memory says of the bytes that the disk was made with.
use Rattle.std.proofs.Common.{◌≡◌, ℕ, List, refl}
use Rattle.tl_types.specs.declared.limits.Limits.{Limits}
use Rattle.tl_types.specs.Limits.{standard_limits}
use Rattle.tl_journal.specs.Answers.{IsTooShort}
use Rattle.tl_journal.specs.declared.faults.JournalFault.{JournalFault}
use Rattle.tl_journal.specs.declared.faults.JournalFault.TheVariants as journal
use Rattle.tl_replay.specs.Fitting.{IsDamaged}
use Rattle.tl_log.specs.declared.listings.Listing.{Listing}
use Rattle.tl_log.specs.declared.reports.ListFault.{ListFault}
use Rattle.tl_log.specs.declared.reports.ListFault.TheVariants as fault
use Rattle.tl_log.specs.Reading.{IsRefusedFor}

-- why bytes are not listed, by the fault of their opening
pub refused_for : (image bytes : List ℕ) (given : Limits) (result : ListFault) (f : JournalFault)
    → bytes ≡ image → given ≡ standard_limits
    → ((len : ℕ) → result ≡ fault.NotInitialised len → f ≡ journal.NotInitialised len)
    → ((at : ℕ) → result ≡ fault.Damaged at → f ≡ journal.Damaged at)
    → (result ≡ fault.UnknownTable → ⊥)
    → ((len : ℕ) → f ≡ journal.NotInitialised len → IsTooShort len bytes)
    → ((at : ℕ) → f ≡ journal.Damaged at → IsDamaged given at bytes)
    → (asked : Listing) → IsRefusedFor asked image result
refused_for image bytes given (fault.NotInitialised len) f same limits short damaged known is_short is_damaged asked =
    let told : IsTooShort len bytes = is_short len (short len refl) in rw (← same) told
refused_for image bytes given (fault.Damaged at) f same limits short damaged known is_short is_damaged asked =
    let told : IsDamaged given at bytes = is_damaged at (damaged at refl) in rw (← same, ← limits) told
refused_for image bytes given fault.UnknownTable f same limits short damaged known is_short is_damaged asked = absurd (known refl)
refused_for image bytes given fault.NoMemory f same limits short damaged known is_short is_damaged asked = tt

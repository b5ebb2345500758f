-- What the calls of a journal answer.
use Rattle.std.specs.Prelude.{◌≡◌, ◌⊎◌, ◌<◌, ℕ, List, length, Result, Ok, Err}
use Rattle.tl_device.specs.Known.{Rose}
use Rattle.tl_journal.specs.Image.{HasAnotherName}
use Rattle.tl_journal.specs.Plain as plain
use Rattle.tl_journal.specs.declared.attached.Attached.{Attached}
use Rattle.tl_journal.specs.declared.opening.Refused.{Refused}
use Rattle.tl_journal.specs.declared.faults.JournalFault.{JournalFault}
use Rattle.tl_journal.specs.declared.faults.JournalFault.TheVariants as fault

-- the disk in the answer of an opening's begin
abbrev pub disk_begun : {D : Type 0} → Result (plain.FoundCommits D) (Refused D) → D
disk_begun (Ok opening) = opening.disk
disk_begun (Err refused) = refused.disk

-- the disk in the answer of an opening's end
abbrev pub disk_opened : {D : Type 0} → Result (plain.Journal D) (Refused D) → D
disk_opened (Ok journal) = journal.disk
disk_opened (Err refused) = refused.disk

-- the disk in the answer of an opening
abbrev pub disk_attached : {D : Type 0} → Result (Attached D) (Refused D) → D
disk_attached (Ok attached) = attached.journal.disk
disk_attached (Err refused) = refused.disk

-- a fault of the disk comes only where its count of faults rose, and hands that count on; at each
-- other fault the count stays
abbrev pub CountsFaults : JournalFault → ℕ → ℕ → Type 0
CountsFaults (fault.Device faults) before now = (faults ≡ now) × Rose before now
CountsFaults (fault.NotInitialised len) before now = now ≡ before
CountsFaults (fault.AlreadyInitialised len) before now = now ≡ before
CountsFaults (fault.Damaged at) before now = now ≡ before
CountsFaults fault.NoMemory before now = now ≡ before

-- a disk refused as too short has these bytes, fewer than 17
abbrev pub IsTooShort : ℕ → List ℕ → Type 0
IsTooShort len image = (len ≡ length image) × (len < 17)

-- a disk refused as too long has these bytes, more than 17
abbrev pub IsTooLong : ℕ → List ℕ → Type 0
IsTooLong len image = (len ≡ length image) × (17 < len)

-- a fault that comes of the disk's calls alone
abbrev pub IsDevice : JournalFault → Type 0
IsDevice e = (faults : ℕ) × (e ≡ fault.Device faults)

-- a fault that comes of the disk's calls or of memory alone
abbrev pub IsDeviceOrMemory : JournalFault → Type 0
IsDeviceOrMemory e = (e ≡ fault.NoMemory) ⊎ ((faults : ℕ) × (e ≡ fault.Device faults))

-- the gate at this place is damaged, or memory ran out
abbrev pub IsDamagedOrMemory : ℕ → JournalFault → Type 0
IsDamagedOrMemory at e = (e ≡ fault.NoMemory) ⊎ (e ≡ fault.Damaged at)

-- why bytes do not begin as a journal
abbrev pub IsNoJournal : List ℕ → JournalFault → Type 0
IsNoJournal image e =
    ((e ≡ fault.NotInitialised (length image)) × (length image < 17))
    ⊎ ((e ≡ fault.Damaged 0) × HasAnotherName image)

-- some gate is damaged, or memory ran out
abbrev pub IsDamagedOrMemoryThere : JournalFault → Type 0
IsDamagedOrMemoryThere e = (e ≡ fault.NoMemory) ⊎ ((at : ℕ) × (e ≡ fault.Damaged at))

-- What a crash leaves while a journal is made, opened or appended to.
use Rattle.std.specs.Prelude.{◌≡◌, ◌⊎◌, ◌≤◌, ℕ, List, length, Some}
use Rattle.std.specs.declared.option.Option.{Option}
use Rattle.tl_device.specs.Disk.{LeavesOnly, IsStored}

-- a crash at each moment from the one state of a disk to the other leaves what has P
abbrev pub EachMoment : {D : Type 0} → (D → ℕ) → (D → ℕ → List ℕ → Type 0) → D → D
    → (List ℕ → Type 0) → Type 0
EachMoment moment left_since old new P =
    LeavesOnly (moment old) (moment new) (left_since old) (left_since new) P

-- a read gives what it gave, and a crash now leaves nothing that it could not leave before
pub record IsUntouched {D : Type 0} (reads : D → Option (List ℕ)) (may_leave : D → List ℕ → Type 0)
    (old new : D) : Type 0 where
  pub reads_same : reads new ≡ reads old
  pub no_more : (c : List ℕ) → may_leave new c → may_leave old c

-- of a disk that tells its bytes a crash now leaves all that it could leave before
abbrev pub LosesNothing : {D : Type 0} → (D → Option (List ℕ)) → (D → List ℕ → Type 0) → D → D
    → Type 0
LosesNothing reads may_leave old new =
    (b : List ℕ) → reads old ≡ Some b → (c : List ℕ) → may_leave old c → may_leave new c

-- a read gives what it gave, and of a disk that tells its bytes a crash now leaves what it could
-- leave before, neither more nor less
abbrev pub IsAsBefore : {D : Type 0} → (D → Option (List ℕ)) → (D → List ℕ → Type 0) → D → D
    → Type 0
IsAsBefore reads may_leave old new =
    IsUntouched reads may_leave old new × LosesNothing reads may_leave old new

-- of a disk that told its bytes a read gives them, and a crash now leaves just them
abbrev pub IsDurable : {D : Type 0} → (D → Option (List ℕ)) → (D → List ℕ → Type 0) → D → D → Type 0
IsDurable reads may_leave old new =
    (b : List ℕ) → reads old ≡ Some b → IsStored reads may_leave new b

-- as before, or, once a sync has answered Ok, as it read before and durable
abbrev pub IsAsBeforeOrDurable : {D : Type 0} → (D → Option (List ℕ)) → (D → List ℕ → Type 0)
    → D → D → Type 0
IsAsBeforeOrDurable reads may_leave old new =
    IsAsBefore reads may_leave old new
    ⊎ (IsUntouched reads may_leave old new × IsDurable reads may_leave old new)

-- a disk that told its bytes tells some
abbrev pub TellsStill : {D : Type 0} → (D → Option (List ℕ)) → D → D → Type 0
TellsStill reads old new =
    (b : List ℕ) → reads old ≡ Some b → (c : List ℕ) × (reads new ≡ Some c)

-- what it could be before, or what has P
abbrev pub OldOr : (List ℕ → Type 0) → (List ℕ → Type 0) → List ℕ → Type 0
OldOr old P c = old c ⊎ P c

-- at most as long as an empty journal
abbrev pub IsShort : List ℕ → Type 0
IsShort image = length image ≤ 17

-- at some moment of the run between, a sync left just what a read gave before; up to it a crash
-- leaves what it could before, and from then on what has P
pub record SyncsFirst {D : Type 0} (reads : D → Option (List ℕ)) (may_leave : D → List ℕ → Type 0)
    (moment : D → ℕ) (left_since : D → ℕ → List ℕ → Type 0) (old new : D) (P : List ℕ → Type 0)
    : Type 0 where
  pub synced : D
  pub stored : (b : List ℕ) → reads old ≡ Some b → IsStored reads may_leave synced b
  pub until_then : EachMoment moment left_since old synced (may_leave old)
  pub from_then : EachMoment moment left_since synced new P
  -- what a crash may leave there, one on the run may have left
  pub on_run : (c : List ℕ) → may_leave synced c → left_since new (moment synced) c

-- what a crash leaves at each moment of a call that begins with a sync: only what it could before,
-- or, once the sync has answered Ok, what has P
abbrev pub EachMomentBySync : {D : Type 0} → (D → Option (List ℕ)) → (D → List ℕ → Type 0)
    → (D → ℕ) → (D → ℕ → List ℕ → Type 0) → D → D → (List ℕ → Type 0) → Type 0
EachMomentBySync reads may_leave moment left_since old new P =
    EachMoment moment left_since old new (may_leave old)
    ⊎ SyncsFirst reads may_leave moment left_since old new P

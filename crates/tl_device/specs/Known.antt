-- What a source, a sink and a disk tell: their bytes and their room where they tell them, and their
-- count of faults.
use Rattle.std.specs.Prelude.{ℕ, ◌+◌, ◌-◌, ◌^◌, ◌≤◌, min, List, ◌++◌, length, take, None, Some}
use Rattle.std.specs.declared.option.Option.{Option}
use Rattle.std.specs.Io.KnownBytes.{Appends}

-- these bytes, and then the bytes that are told
abbrev pub prepend_known : List ℕ → Option (List ℕ) → Option (List ℕ)
prepend_known taken None = None
prepend_known taken (Some after) = Some (taken ++ after)

-- the bytes that are told, and then these
abbrev pub append_known : Option (List ℕ) → List ℕ → Option (List ℕ)
append_known None more = None
append_known (Some before) more = Some (before ++ more)

-- there is room for n bytes, as always where no room is told
abbrev pub HasRoom : Option ℕ → ℕ → Type 0
HasRoom None n = Unit {0}
HasRoom (Some spare) n = n ≤ spare

-- the room once n bytes of it are spent
abbrev pub spend_room : Option ℕ → ℕ → Option ℕ
spend_room None n = None
spend_room (Some spare) n = Some (spare - n)

-- a count of faults rose: it is greater than before, or stands at the greatest u64
pub record Rose (before now : ℕ) : Type 0 where
  pub later : before ≤ now
  pub higher : min (before + 1) (2 ^ 64 - 1) ≤ now

-- a writer of std holds some prefix of these bytes more than before
abbrev pub AppendsPrefix : Option (List ℕ) → Option (List ℕ) → List ℕ → Type 0
AppendsPrefix before after bytes =
    (n : ℕ) × (n ≤ length bytes) × Appends before after (take n bytes)

-- What the calls of a disk do, and what a crash may do between two syncs.
use Rattle.std.specs.Prelude.{◌≡◌, ◌⊎◌, ℕ, ◌+◌, ◌-◌, ◌≤◌, max, min, List, ◌++◌, length, take, drop, Some}
use Rattle.std.specs.declared.option.Option.{Option}

-- the buffer is filled from a place on: whole, or up to the disk's end
abbrev pub Fills : ℕ → List ℕ → List ℕ → List ℕ → ℕ → Type 0
Fills at bytes old new n =
    (n ≡ min (length old) (length bytes - at)) × (take n new ≡ take n (drop at bytes))

-- these bytes stand at a place, and the rest is as before
abbrev pub Holds : List ℕ → ℕ → List ℕ → List ℕ → Type 0
Holds old at bytes new = new ≡ take at old ++ bytes ++ drop (at + length bytes) old

-- in a range of n bytes from a place stand any bytes, and where the range passes the end the length
-- is any from the end before to the end of the range; the rest is as before
pub record Torn (at n : ℕ) (old new : List ℕ) : Type 0 where
  pub before : take at new ≡ take at old
  pub after : drop (at + n) new ≡ drop (at + n) old
  pub no_shorter : length old ≤ length new
  pub no_longer : length new ≤ max (length old) (at + n)

-- a cut that may or may not have happened
abbrev pub MayCut : ℕ → List ℕ → List ℕ → Type 0
MayCut len old new = (new ≡ old) ⊎ (new ≡ take len old)

-- whatever a crash may leave now is one step from something that it might have left before
abbrev pub Follows : (List ℕ → List ℕ → Type 0) → (List ℕ → Type 0) → (List ℕ → Type 0) → Type 0
Follows step old new = (c : List ℕ) → new c → (d : List ℕ) × old d × step d c

-- a crash leaves these bytes and no others
abbrev pub Only : List ℕ → (List ℕ → Type 0) → Type 0
Only file outcomes = (c : List ℕ) → outcomes c → c ≡ file

-- from one moment to a later one, since any moment up to the first nothing is lost, and only that
-- is added which a crash now may leave
pub record Elapses (before now : ℕ) (past since : ℕ → List ℕ → Type 0)
    (may_leave : List ℕ → Type 0) : Type 0 where
  pub later : before ≤ now
  pub nothing_else : (t : ℕ) (c : List ℕ) → t ≤ before → since t c → past t c ⊎ may_leave c
  pub nothing_lost : (t : ℕ) (c : List ℕ) → t ≤ before → past t c → since t c

-- a crash at each moment since an old one leaves what has P
pub record LeavesOnly (was now : ℕ) (past since : ℕ → List ℕ → Type 0) (P : List ℕ → Type 0)
    : Type 0 where
  pub later : was ≤ now
  pub each : (c : List ℕ) → since was c → P c
  -- for a run that began earlier
  pub before : (t : ℕ) (c : List ℕ) → t ≤ was → since t c → past t c ⊎ P c
  pub nothing_lost : (t : ℕ) (c : List ℕ) → t ≤ was → past t c → since t c

-- the disk reads as these bytes, and a crash leaves just them
pub record IsStored {D : Type 0} (reads : D → Option (List ℕ)) (may_leave : D → List ℕ → Type 0)
    (disk : D) (file : List ℕ) : Type 0 where
  pub reads_as : reads disk ≡ Some file
  pub only : Only file (may_leave disk)

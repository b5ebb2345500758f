-- What a crash may leave of bytes in memory, by the record of the calls that changed them: a call
-- is undone, and what a crash might have left before it is taken one step further.
use Rattle.std.specs.Prelude.{◌≡◌, ◌⊎◌, ℕ, ◌+◌, ◌-◌, ◌≤◌, List, [], ◌∷◌, ◌++◌, length, take, drop, Some}
use mathlib.Core.Logic.{inl, inr}
use Rattle.std.proofs.Common.{sym, arith}
use Rattle.tl_device.specs.Disk.{Torn, MayCut}
use Rattle.tl_device.specs.Plain.{Kept}
use Rattle.tl_device.specs.declared.call.Call.{Call}
use Rattle.tl_device.specs.declared.call.Call.TheVariants.{Wrote, Tore, Cut, MayCut as Fell, Synced}

-- the bytes and the log before a call
abbrev pub undone : List ℕ → List ℕ → Call → List ℕ × List ℕ
undone bytes log (Wrote at n over) = (
  take at bytes ++ drop (length log - over) log ++ drop (at + n) bytes,
  take (length log - over) log,
)
undone bytes log (Tore at n) = (bytes, log)
undone bytes log (Cut len over) =
    (bytes ++ drop (length log - over) log, take (length log - over) log)
undone bytes log (Fell len) = (bytes, log)
undone bytes log Synced = (bytes, log)

-- what one call makes of what a crash might have left before it, beside the bytes as they read
abbrev pub Steps : Call → (List ℕ → Type 0) → List ℕ → Type 0
Steps (Wrote at n over) old c = (d : List ℕ) × old d × Torn at n d c
Steps (Tore at n) old c = (d : List ℕ) × old d × Torn at n d c
Steps (Cut len over) old c = (d : List ℕ) × old d × MayCut len d c
Steps (Fell len) old c = (d : List ℕ) × old d × MayCut len d c
Steps Synced old c = ⊥

-- what a crash may leave after these calls (the newest first), from the bytes and the log
abbrev pub Left : List Call → List ℕ × List ℕ → List ℕ → Type 0
Left [] s c = c ≡ s.0
Left (call ∷ calls) s c = (c ≡ s.0) ⊎ Steps call (λ d. Left calls (undone s.0 s.1 call) d) c

-- what a crash may have left after the first k of these calls, for some k from t on
abbrev pub Since : List Call → List ℕ × List ℕ → ℕ → List ℕ → Type 0
Since [] s t c = c ≡ s.0
Since (call ∷ calls) s t c =
    Left (call ∷ calls) s c ⊎ ((t ≤ length calls) × Since calls (undone s.0 s.1 call) t c)

-- what a crash now may leave of what is kept
abbrev pub Leaves : Kept → List ℕ → Type 0
Leaves kept c = Left kept.done (kept.bytes, kept.log) c

-- what a crash at a moment from t on may have left of what is kept
abbrev pub LeftSince : Kept → ℕ → List ℕ → Type 0
LeftSince kept t c = Since kept.done (kept.bytes, kept.log) t c

-- there is room for b bytes in n calls
abbrev pub HasRoomFor : Kept → ℕ → ℕ → Type 0
HasRoomFor kept b n = (b ≤ kept.spare) × (n ≤ kept.spare_calls)

-- since the last moment only what may be left now
since_last : (calls : List Call) (s : List ℕ × List ℕ) (c : List ℕ)
    → Since calls s (length calls) c → Left calls s c
since_last [] s c left = left
since_last (call ∷ calls) s c (inl now) = now
since_last (call ∷ calls) s c (inr past) = absurd (omega (arith, past.0))

-- a crash since this moment leaves what a crash now may leave
pub since_now : (kept : Kept) (c : List ℕ) → LeftSince kept (length kept.done) c → Leaves kept c
since_now kept c left = since_last kept.done (kept.bytes, kept.log) c left

-- what may be left now may have been left since any moment
left_later : (calls : List Call) (s : List ℕ × List ℕ) (t : ℕ) (c : List ℕ)
    → Left calls s c → Since calls s t c
left_later [] s t c left = left
left_later (call ∷ calls) s t c left = inl left

-- a crash since an earlier moment may have left what a crash now may leave
pub since_then : (kept : Kept) (t : ℕ) (c : List ℕ) → Leaves kept c → LeftSince kept t c
since_then kept t c left = left_later kept.done (kept.bytes, kept.log) t c left

-- a crash may leave the bytes as they read
pub as_read : (calls : List Call) (s : List ℕ × List ℕ) (c : List ℕ) → s.0 ≡ c → Left calls s c
as_read [] s c is = sym is
as_read (call ∷ calls) s c is = inl (sym is)

-- a crash may leave the bytes that are told
pub as_told : (kept : Kept) (c : List ℕ) → Some kept.bytes ≡ Some c → Leaves kept c
as_told kept c told = as_read kept.done (kept.bytes, kept.log) c cc

-- room for more is room for less
pub fewer_ready : (kept : Kept) (b n less few : ℕ) → less ≤ b → few ≤ n
    → HasRoomFor kept b n → HasRoomFor kept less few
fewer_ready kept b n less few bytes calls ready = (omega (arith, ready.0), omega (arith, ready.1))

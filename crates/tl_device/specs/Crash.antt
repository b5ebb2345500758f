-- One image of those that a crash now may leave of bytes in memory, by a choice.
use Rattle.std.specs.Prelude.{◌≡◌, ℕ, ◌+◌, ◌-◌, min, Bool, true, false, ◌==◌, if◌then◌else◌, List, [], ◌∷◌, ◌++◌, length, take, drop, replicate}
use Rattle.tl_device.specs.Disk.{Torn}
use Rattle.tl_device.specs.Plain as plain
use Rattle.tl_device.specs.Plain.{Kept}
use Rattle.tl_device.specs.Replay.{undone}
use Rattle.tl_device.specs.declared.call.Call.{Call}
use Rattle.tl_device.specs.declared.call.Call.TheVariants.{Wrote, Tore, Cut, MayCut as Fell, Synced}

-- whether the call is a sync
abbrev pub is_sync : Call → Bool
is_sync (Wrote at n over) = false
is_sync (Tore at n) = false
is_sync (Cut len over) = false
is_sync (Fell len) = false
is_sync Synced = true

-- the bytes at the last of these calls (the newest first) that is a sync, or before all of them
abbrev pub synced_bytes : List Call → List ℕ × List ℕ → List ℕ
synced_bytes [] s = s.0
synced_bytes (call ∷ calls) s =
    if is_sync call then s.0 else synced_bytes calls (undone s.0 s.1 call)

-- where a call may have written: the place, and how many bytes
abbrev pub range_of : Call → ℕ × ℕ
range_of (Wrote at n over) = (at, n)
range_of (Tore at n) = (at, n)
range_of (Cut len over) = (0, 0)
range_of (Fell len) = (0, 0)
range_of Synced = (0, 0)

-- the bytes, with this value in so many of them from a place on, as far as they go
abbrev pub with_range : ℕ → ℕ → ℕ → List ℕ → List ℕ
with_range value at n bytes =
    take at bytes ++ (replicate (min n (length bytes - at)) value ++ drop (at + n) bytes)

-- the bytes, with this value in each range where a call since the last sync may have written
abbrev pub with_ranges : ℕ → List Call → List ℕ → List ℕ
with_ranges value [] bytes = bytes
with_ranges value (call ∷ calls) bytes =
    if is_sync call then bytes
    else with_ranges value calls (with_range value (range_of call).0 (range_of call).1 bytes)

-- the bytes of the last sync; the bytes as they read; these with 0, or with 255, in each range
-- where a call since the last sync may have written
abbrev pub crash_image : ℕ → Kept → List ℕ
crash_image choice kept =
    if choice == 0 then synced_bytes kept.done (kept.bytes, kept.log)
    else if choice == 1 then kept.bytes
    else if choice == 2 then with_ranges 0 kept.done kept.bytes
    else with_ranges 255 kept.done kept.bytes

-- what one call made of the bytes before it
abbrev pub Changes : Call → List ℕ → List ℕ → Type 0
Changes (Wrote at n over) old new = Torn at n old new
Changes (Tore at n) old new = new ≡ old
Changes (Cut len over) old new = new ≡ take len old
Changes (Fell len) old new = new ≡ old
Changes Synced old new = new ≡ old

-- these calls (the newest first) led to the bytes and the log
abbrev pub LedTo : List Call → List ℕ × List ℕ → Type 0
LedTo [] s = Unit {0}
LedTo (call ∷ calls) s =
    Changes call (undone s.0 s.1 call).0 s.0 × LedTo calls (undone s.0 s.1 call)

-- the calls on record led to the bytes
abbrev pub IsRecorded : Kept → Type 0
IsRecorded kept = LedTo kept.done (kept.bytes, kept.log)

-- no call so far, and none that is to fail
abbrev pub no_calls : plain.Calls
no_calls = record { failing = []; made = 0; faults = 0 }

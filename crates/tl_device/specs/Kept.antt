-- What the calls of a disk in memory make of what it keeps.
use Rattle.std.specs.Prelude.{ℕ, ◌+◌, ◌-◌, min, max, List, [], ◌∷◌, ◌++◌, length, take, drop}
use Rattle.tl_device.specs.Plain.{Kept}
use Rattle.tl_device.specs.declared.call.Call.TheVariants as call

-- these bytes, no call so far, and room for none
abbrev pub fresh : List ℕ → Kept
fresh bytes = record { bytes = bytes; done = []; log = []; spare = 0; spare_calls = 0 }

-- how many of n bytes that are written at a place stand over bytes that were there
abbrev pub over_old : Kept → ℕ → ℕ → ℕ
over_old kept at n = min n (length kept.bytes - at)

-- a write: the bytes that it wrote over go into the log
abbrev pub after_write : Kept → ℕ → List ℕ → Kept
after_write kept at from = record {
  bytes = take at kept.bytes ++ from ++ drop (at + length from) kept.bytes;
  done = call.Wrote at (length from) (over_old kept at (length from)) ∷ kept.done;
  log = kept.log ++ take (over_old kept at (length from)) (drop at kept.bytes);
  spare = kept.spare - length from;
  spare_calls = kept.spare_calls - 1;
}

-- a write of n bytes that failed: a read gives what it gave
abbrev pub after_torn : Kept → ℕ → ℕ → Kept
after_torn kept at n = record kept {
  done = call.Tore at n ∷ kept.done;
  spare = kept.spare - n;
  spare_calls = kept.spare_calls - 1;
}

-- a cut: the bytes that it cut off go into the log
abbrev pub after_cut : Kept → ℕ → Kept
after_cut kept len = record kept {
  bytes = take len kept.bytes;
  done = call.Cut len (length kept.bytes - len) ∷ kept.done;
  log = kept.log ++ drop len kept.bytes;
  spare_calls = kept.spare_calls - 1;
}

-- a cut that failed: a read gives what it gave
abbrev pub after_no_cut : Kept → ℕ → Kept
after_no_cut kept len = record kept {
  done = call.MayCut len ∷ kept.done;
  spare_calls = kept.spare_calls - 1;
}

-- a sync
abbrev pub after_sync : Kept → Kept
after_sync kept = record kept {
  done = call.Synced ∷ kept.done;
  spare_calls = kept.spare_calls - 1;
}

-- a sync that failed is no call that changes what a crash leaves
abbrev pub after_no_sync : Kept → Kept
after_no_sync kept = record kept { spare_calls = kept.spare_calls - 1 }

-- room for so many bytes in so many calls, beside the room that there was
abbrev pub with_room : Kept → ℕ → ℕ → Kept
with_room kept bytes calls = record kept {
  spare = max kept.spare bytes;
  spare_calls = max kept.spare_calls calls;
}

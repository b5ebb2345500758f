-- What disks in memory leave, computed on three bytes.
use Rattle.std.proofs.Common.{◌≡◌, ℕ, inl, inr, List, [], ◌∷◌, refl, ap, ◌∙◌, take, arith}
use Rattle.tl_device.specs.Plain.{Kept}
use Rattle.tl_device.specs.Kept.{fresh, after_write, after_torn, after_cut, after_no_cut, after_sync, after_no_sync}
use Rattle.tl_device.specs.Replay.{Leaves}
use Rattle.tl_device.specs.Crash.{crash_image}

-- three bytes that a crash leaves
abbrev opened : Kept
opened = fresh (1 ∷ 2 ∷ 3 ∷ [])

-- a crash leaves the bytes of a new disk
new_left : Leaves opened (1 ∷ 2 ∷ 3 ∷ [])
new_left = refl

-- a write within: the byte in its range
within : (after_write opened 1 (8 ∷ [])).bytes ≡ 1 ∷ 8 ∷ 3 ∷ []
within = refl

-- until a sync a crash may leave any byte in its range
within_torn : Leaves (after_write opened 1 (8 ∷ [])) (1 ∷ 5 ∷ 3 ∷ [])
within_torn = inr (1 ∷ 2 ∷ 3 ∷ [], refl, record { before = refl; after = refl; no_shorter = omega arith; no_longer = omega arith })

-- and no other byte outside it
within_stays : Leaves (after_write opened 1 (8 ∷ [])) (9 ∷ 8 ∷ 3 ∷ []) → ⊥
within_stays (inl now) = cc
within_stays (inr step) = let same : ◌≡◌ {A = List ℕ} (9 ∷ []) (1 ∷ []) = step.2.before ∙ ap (take 1) step.1 in cc

-- a write past the end
past : (after_write opened 2 (8 ∷ 9 ∷ [])).bytes ≡ 1 ∷ 2 ∷ 8 ∷ 9 ∷ []
past = refl

-- until a sync a crash may leave any length from the end before it to the end of its range
past_torn : Leaves (after_write opened 3 (8 ∷ 9 ∷ [])) (1 ∷ 2 ∷ 3 ∷ 7 ∷ [])
past_torn = inr (1 ∷ 2 ∷ 3 ∷ [], refl, record { before = refl; after = refl; no_shorter = omega arith; no_longer = omega arith })

-- a cut
cut : (after_cut opened 1).bytes ≡ 1 ∷ []
cut = refl

-- a cut that is not synced may not have happened
cut_undone : Leaves (after_cut opened 1) (1 ∷ 2 ∷ 3 ∷ [])
cut_undone = inr (1 ∷ 2 ∷ 3 ∷ [], refl, inl refl)

-- a failed write: a read gives what it gave, and a crash may leave any byte in its range
failed_write : (after_torn opened 1 1).bytes ≡ 1 ∷ 2 ∷ 3 ∷ []
failed_write = refl

failed_write_torn : Leaves (after_torn opened 1 1) (1 ∷ 5 ∷ 3 ∷ [])
failed_write_torn = inr (1 ∷ 2 ∷ 3 ∷ [], refl, record { before = refl; after = refl; no_shorter = omega arith; no_longer = omega arith })

-- a failed cut may have happened
failed_cut : Leaves (after_no_cut opened 1) (1 ∷ [])
failed_cut = inr (1 ∷ 2 ∷ 3 ∷ [], refl, inr refl)

-- a failed sync leaves the torn byte
failed_sync : Leaves (after_no_sync (after_write opened 1 (8 ∷ []))) (1 ∷ 5 ∷ 3 ∷ [])
failed_sync = within_torn

-- a sync does not
synced : Leaves (after_sync (after_write opened 1 (8 ∷ []))) (1 ∷ 5 ∷ 3 ∷ []) → ⊥
synced (inl now) = cc
synced (inr never) = never

-- three bytes, of which the first was written over since the sync, and the last in a failed write that
-- was to pass the end
abbrev changed : Kept
changed = after_torn (after_write (after_sync opened) 0 (8 ∷ [])) 2 2

-- the image of the last sync, what a read gives, and 0 or 255 where the writes were to stand
changed_synced : crash_image 0 changed ≡ 1 ∷ 2 ∷ 3 ∷ []
changed_synced = refl

changed_read : crash_image 1 changed ≡ 8 ∷ 2 ∷ 3 ∷ []
changed_read = refl

changed_zeros : crash_image 2 changed ≡ 0 ∷ 2 ∷ 0 ∷ []
changed_zeros = refl

changed_ones : crash_image 3 changed ≡ 255 ∷ 2 ∷ 255 ∷ []
changed_ones = refl

-- a cut since the sync has happened, and is undone in the image of the sync
cut_read : crash_image 2 (after_cut changed 2) ≡ 0 ∷ 2 ∷ []
cut_read = refl

cut_synced : crash_image 0 (after_cut changed 2) ≡ 1 ∷ 2 ∷ 3 ∷ []
cut_synced = refl

-- what was written before the sync stays
written_before : crash_image 3 (after_sync changed) ≡ 8 ∷ 2 ∷ 3 ∷ []
written_before = refl

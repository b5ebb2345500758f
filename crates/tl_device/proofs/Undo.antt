-- What a call did is undone by its record, so that a crash after it leaves what the call makes of
-- what a crash before it might have left.
use Rattle.std.proofs.Common.{◌≡◌, ◌⊎◌, inl, inr, ⊎_elim, ℕ, zero, suc, ◌+◌, ◌-◌, ◌≤◌, min, List, [], ◌∷◌, ◌++◌, length, take, drop, refl, sym, ap, ◌∙◌, subst, arith, length-append, length-drop, length-take, append_assoc, take-append-drop}
use Rattle.std.proofs.lemmas.List.{take_at, drop_at, drop_all}
use Rattle.tl_device.specs.Disk.{Torn, MayCut, Follows, Only, Elapses}
use Rattle.tl_device.specs.Plain.{Kept}
use Rattle.tl_device.specs.Kept.{over_old, after_write, after_torn, after_cut, after_no_cut, after_sync, after_no_sync}
use Rattle.tl_device.specs.declared.call.Call.{Call}
use Rattle.tl_device.specs.declared.call.Call.TheVariants as call
use Rattle.tl_device.specs.Replay.{undone, Left, Since, Leaves, LeftSince, HasRoomFor, as_read}

-- as many bytes as are taken away are kept
length_kept : (at over : ℕ) (old : List ℕ) → over ≤ length old - at → length (take over (drop at old)) ≡ over
length_kept at over old le = omega (arith, le, length-take over (drop at old), length-drop at old)

-- two drops are one
drop_twice : (at over : ℕ) (old : List ℕ) → drop over (drop at old) ≡ drop (at + over) old
drop_twice zero over old = ap (λ k. drop k old) (omega arith)
drop_twice (suc at) over [] = drop_all over [] (omega arith) ∙ sym (drop_all (suc at + over) [] (omega arith))
drop_twice (suc at) over (x ∷ old) = let e : suc (at + over) ≡ suc at + over = omega arith in drop_twice at over old ∙ ap (λ k. drop k (x ∷ old)) e

-- behind what is written over stands what stood behind the write
rest_of : (at n over : ℕ) (old : List ℕ) → over ≡ min n (length old - at) → at ≤ length old → drop over (drop at old) ≡ drop (at + n) old
rest_of at n over old is le =
    ⊎_elim (λ same. drop_twice at over old ∙ ap (λ k. drop (at + k) old) same) (λ (all : (over ≡ length old - at) × (length old - at ≤ n)). drop_all over (drop at old) (omega (arith, all.0, length-drop at old)) ∙ sym (drop_all (at + n) old (omega (arith, all.1, le)))) (either n (length old - at) over is)
  where
    either : (n m over : ℕ) → over ≡ min n m → (over ≡ n) ⊎ ((over ≡ m) × (m ≤ n))
    either n m over is = grind arith

-- the log ends with what was put into it last
last_of_log : (log kept : List ℕ) (over : ℕ) → length kept ≡ over → drop (length (log ++ kept) - over) (log ++ kept) ≡ kept
last_of_log log kept over is = drop_at log kept (length (log ++ kept) - over) (omega (arith, is, length-append log kept))

-- and begins with what it was before
front_of_log : (log kept : List ℕ) (over : ℕ) → length kept ≡ over → take (length (log ++ kept) - over) (log ++ kept) ≡ log
front_of_log log kept over is = take_at log kept (length (log ++ kept) - over) (omega (arith, is, length-append log kept))

-- a write leaves what stands before it
before_written : (old from : List ℕ) (at : ℕ) → at ≤ length old → take at (take at old ++ from ++ drop (at + length from) old) ≡ take at old
before_written old from at le = ap (λ l. take at l) (append_assoc (take at old) from (drop (at + length from) old)) ∙ take_at (take at old) (from ++ drop (at + length from) old) at (omega (arith, le, length-take at old))

-- and what stands behind it
after_written : (old from : List ℕ) (at : ℕ) → at ≤ length old → drop (at + length from) (take at old ++ from ++ drop (at + length from) old) ≡ drop (at + length from) old
after_written old from at le = drop_at (take at old ++ from) (drop (at + length from) old) (at + length from) (omega (arith, le, length-take at old, length-append (take at old) from))

-- a write is undone by its record
pub undo_write : (k : Kept) (at : ℕ) (from : List ℕ) → at ≤ length k.bytes → undone (after_write k at from).bytes (after_write k at from).log (call.Wrote at (length from) (over_old k at (length from))) ≡ (k.bytes, k.log)
undo_write k at from le =
    let over : ℕ = over_old k at (length from) in
    let kept : List ℕ = take over (drop at k.bytes) in
    let new : List ℕ = take at k.bytes ++ from ++ drop (at + length from) k.bytes in
    let long : length kept ≡ over = length_kept at over k.bytes (omega arith) in
    let bytes : take at new ++ drop (length (k.log ++ kept) - over) (k.log ++ kept) ++ drop (at + length from) new ≡ k.bytes =
    ap (λ l. l ++ drop (length (k.log ++ kept) - over) (k.log ++ kept) ++ drop (at + length from) new) (before_written k.bytes from at le)
    ∙ ap (λ l. take at k.bytes ++ l ++ drop (at + length from) new) (last_of_log k.log kept over long)
    ∙ ap (λ l. take at k.bytes ++ kept ++ l) (after_written k.bytes from at le ∙ sym (rest_of at (length from) over k.bytes refl le))
    ∙ append_assoc (take at k.bytes) kept (drop over (drop at k.bytes))
    ∙ ap (λ l. take at k.bytes ++ l) (take-append-drop over (drop at k.bytes))
    ∙ take-append-drop at k.bytes in
    let front : take (length (k.log ++ kept) - over) (k.log ++ kept) ≡ k.log = front_of_log k.log kept over long in
    λ i. (bytes i, front i)

-- a cut is undone by its record
pub undo_cut : (k : Kept) (len : ℕ) → len ≤ length k.bytes → undone (after_cut k len).bytes (after_cut k len).log (call.Cut len (length k.bytes - len)) ≡ (k.bytes, k.log)
undo_cut k len le =
    let over : ℕ = length k.bytes - len in
    let kept : List ℕ = drop len k.bytes in
    let long : length kept ≡ over = omega (arith, length-drop len k.bytes) in
    let bytes : take len k.bytes ++ drop (length (k.log ++ kept) - over) (k.log ++ kept) ≡ k.bytes =
    ap (λ l. take len k.bytes ++ l) (last_of_log k.log kept over long) ∙ take-append-drop len k.bytes in
    let front : take (length (k.log ++ kept) - over) (k.log ++ kept) ≡ k.log = front_of_log k.log kept over long in
    λ i. (bytes i, front i)

-- a write that changes nothing is a torn one
pub torn_same : (at n : ℕ) (b : List ℕ) → Torn at n b b
torn_same at n b = record { before = refl; after = refl; no_shorter = omega arith; no_longer = omega arith }

-- a whole write is a torn one
pub torn_written : (old from : List ℕ) (at : ℕ) → at ≤ length old → Torn at (length from) old (take at old ++ from ++ drop (at + length from) old)
torn_written old from at le =
    let long : length (take at old ++ from ++ drop (at + length from) old) ≡ at + (length from + (length old - (at + length from))) = omega (arith, le, length-append (take at old ++ from) (drop (at + length from) old), length-append (take at old) from, length-take at old, length-drop (at + length from) old) in
    record { before = before_written old from at le; after = after_written old from at le; no_shorter = omega (arith, long, le); no_longer = omega (arith, long, le) }

-- what a crash may leave of the bytes as they were before a call
was_read : (k : Kept) → Leaves k k.bytes
was_read k = as_read k.done (k.bytes, k.log) k.bytes refl

-- after a write a crash leaves a torn one of what it might have left before
pub write_follows : (k new : Kept) (at : ℕ) (from : List ℕ) → at ≤ length k.bytes → new ≡ after_write k at from → Follows (Torn at (length from)) (Leaves k) (Leaves new)
write_follows k new at from le is = subst (λ (n : Kept). Follows (Torn at (length from)) (Leaves k) (Leaves n)) (sym is) steps
  where
    steps : Follows (Torn at (length from)) (Leaves k) (Leaves (after_write k at from))
    steps c (inl now) = (k.bytes, was_read k, subst (λ l. Torn at (length from) k.bytes l) (sym now) (torn_written k.bytes from at le))
    steps c (inr step) = (step.0, subst (λ (s : List ℕ × List ℕ). Left k.done s step.0) (undo_write k at from le) step.1, step.2)

-- after a cut a crash leaves what it might have left before, cut or not
pub cut_follows : (k new : Kept) (len : ℕ) → len ≤ length k.bytes → new ≡ after_cut k len → Follows (MayCut len) (Leaves k) (Leaves new)
cut_follows k new len le is = subst (λ (n : Kept). Follows (MayCut len) (Leaves k) (Leaves n)) (sym is) steps
  where
    steps : Follows (MayCut len) (Leaves k) (Leaves (after_cut k len))
    steps c (inl now) = (k.bytes, was_read k, inr now)
    steps c (inr step) = (step.0, subst (λ (s : List ℕ × List ℕ). Left k.done s step.0) (undo_cut k len le) step.1, step.2)

-- after a failed write likewise
pub torn_follows : (k new : Kept) (at n : ℕ) → new ≡ after_torn k at n → Follows (Torn at n) (Leaves k) (Leaves new)
torn_follows k new at n is = subst (λ (m : Kept). Follows (Torn at n) (Leaves k) (Leaves m)) (sym is) steps
  where
    steps : Follows (Torn at n) (Leaves k) (Leaves (after_torn k at n))
    steps c (inl now) = (k.bytes, was_read k, subst (λ l. Torn at n k.bytes l) (sym now) (torn_same at n k.bytes))
    steps c (inr step) = step

-- a failed write changes nothing of the bytes
pub torn_reads : (k new : Kept) (at n : ℕ) → new ≡ after_torn k at n → Torn at n k.bytes new.bytes
torn_reads k new at n is = subst (λ (m : Kept). Torn at n k.bytes m.bytes) (sym is) (torn_same at n k.bytes)

-- after a failed cut likewise
pub no_cut_follows : (k new : Kept) (len : ℕ) → new ≡ after_no_cut k len → Follows (MayCut len) (Leaves k) (Leaves new)
no_cut_follows k new len is = subst (λ (m : Kept). Follows (MayCut len) (Leaves k) (Leaves m)) (sym is) steps
  where
    steps : Follows (MayCut len) (Leaves k) (Leaves (after_no_cut k len))
    steps c (inl now) = (k.bytes, was_read k, inl now)
    steps c (inr step) = step

-- a failed cut changes nothing of the bytes
pub no_cut_reads : (k new : Kept) (len : ℕ) → new ≡ after_no_cut k len → MayCut len k.bytes new.bytes
no_cut_reads k new len is = inl (ap (λ (m : Kept). m.bytes) is)

-- after a sync a crash leaves the bytes as they read, which it might have left before
pub sync_leaves : (k new : Kept) (c : List ℕ) → new ≡ after_sync k → Leaves new c → Leaves k c
sync_leaves k new c is left = steps (subst (λ (m : Kept). Leaves m c) is left)
  where
    steps : Leaves (after_sync k) c → Leaves k c
    steps (inl now) = subst (λ l. Leaves k l) (sym now) (was_read k)
    steps (inr never) = absurd never

-- after a sync a crash leaves only the bytes as they read
pub sync_only : (k new : Kept) → new ≡ after_sync k → Only k.bytes (Leaves new)
sync_only k new is = subst (λ (m : Kept). Only k.bytes (Leaves m)) (sym is) steps
  where
    steps : Only k.bytes (Leaves (after_sync k))
    steps c (inl now) = now
    steps c (inr never) = absurd never

-- one call more adds to what a crash since an earlier moment may have left what one now may leave
elapses : (k new : Kept) (one : Call) → new.done ≡ one ∷ k.done → undone new.bytes new.log one ≡ (k.bytes, k.log) → Elapses (length k.done) (length new.done) (LeftSince k) (LeftSince new) (Leaves new)
elapses k new one more undo =
    subst (λ (l : List Call). Elapses (length k.done) (length l) (LeftSince k) (λ t c. Since l (new.bytes, new.log) t c) (λ c. Left l (new.bytes, new.log) c)) (sym more)
    (record {
      later = omega arith;
      nothing_else = λ t c le left. ⊎_elim (λ now. inr now) (λ (past : (t ≤ length k.done) × Since k.done (undone new.bytes new.log one) t c). inl (subst (λ (s : List ℕ × List ℕ). Since k.done s t c) undo past.1)) left;
      nothing_lost = λ t c le past. inr (le, subst (λ (s : List ℕ × List ℕ). Since k.done s t c) (sym undo) past);
    })

-- from the moment before a write to the one after it
pub write_elapses : (k new : Kept) (at : ℕ) (from : List ℕ) → at ≤ length k.bytes → new ≡ after_write k at from → Elapses (length k.done) (length new.done) (LeftSince k) (LeftSince new) (Leaves new)
write_elapses k new at from le is = subst (λ (n : Kept). Elapses (length k.done) (length n.done) (LeftSince k) (LeftSince n) (Leaves n)) (sym is)
    (elapses k (after_write k at from) (call.Wrote at (length from) (over_old k at (length from))) refl (undo_write k at from le))

-- before a cut and after it
pub cut_elapses : (k new : Kept) (len : ℕ) → len ≤ length k.bytes → new ≡ after_cut k len → Elapses (length k.done) (length new.done) (LeftSince k) (LeftSince new) (Leaves new)
cut_elapses k new len le is = subst (λ (n : Kept). Elapses (length k.done) (length n.done) (LeftSince k) (LeftSince n) (Leaves n)) (sym is)
    (elapses k (after_cut k len) (call.Cut len (length k.bytes - len)) refl (undo_cut k len le))

-- before a failed write and after it
pub torn_elapses : (k new : Kept) (at n : ℕ) → new ≡ after_torn k at n → Elapses (length k.done) (length new.done) (LeftSince k) (LeftSince new) (Leaves new)
torn_elapses k new at n is = subst (λ (n : Kept). Elapses (length k.done) (length n.done) (LeftSince k) (LeftSince n) (Leaves n)) (sym is)
    (elapses k (after_torn k at n) (call.Tore at n) refl refl)

-- before a failed cut and after it
pub no_cut_elapses : (k new : Kept) (len : ℕ) → new ≡ after_no_cut k len → Elapses (length k.done) (length new.done) (LeftSince k) (LeftSince new) (Leaves new)
no_cut_elapses k new len is = subst (λ (n : Kept). Elapses (length k.done) (length n.done) (LeftSince k) (LeftSince n) (Leaves n)) (sym is)
    (elapses k (after_no_cut k len) (call.MayCut len) refl refl)

-- before a sync and after it
pub sync_elapses : (k new : Kept) → new ≡ after_sync k → Elapses (length k.done) (length new.done) (LeftSince k) (LeftSince new) (Leaves new)
sync_elapses k new is = subst (λ (n : Kept). Elapses (length k.done) (length n.done) (LeftSince k) (LeftSince n) (Leaves n)) (sym is)
    (elapses k (after_sync k) call.Synced refl refl)

-- after a failed sync a crash leaves what it might have left before
pub no_sync_leaves : (k new : Kept) (c : List ℕ) → new ≡ after_no_sync k → Leaves new c → Leaves k c
no_sync_leaves k new c is left = subst (λ (m : Kept). Leaves m c) is left

-- and all of that
pub no_sync_back : (k new : Kept) → new ≡ after_no_sync k → (c : List ℕ) → Leaves k c → Leaves new c
no_sync_back k new is c left = subst (λ (m : Kept). Leaves m c) (sym is) left

-- and no moment passes
pub no_sync_elapses : (k new : Kept) → new ≡ after_no_sync k → Elapses (length k.done) (length new.done) (LeftSince k) (LeftSince new) (Leaves new)
no_sync_elapses k new is = subst (λ (n : Kept). Elapses (length k.done) (length n.done) (LeftSince k) (LeftSince n) (Leaves n)) (sym is)
    (record { later = omega arith; nothing_else = λ t c le left. inl left; nothing_lost = λ t c le past. past })

-- a call spends itself and the bytes that it writes
pub spends : (k new : Kept) (n : ℕ) → new.spare ≡ k.spare - n → new.spare_calls ≡ k.spare_calls - 1 → (b m : ℕ) → HasRoomFor k (n + b) (m + 1) → HasRoomFor new b m
spends k new n bytes calls b m ready = (omega (arith, bytes, ready.0), omega (arith, calls, ready.1))

-- a call that writes nothing spends itself
pub spends_call : (k new : Kept) → new.spare ≡ k.spare → new.spare_calls ≡ k.spare_calls - 1 → (b m : ℕ) → HasRoomFor k b (m + 1) → HasRoomFor new b m
spends_call k new bytes calls b m ready = (omega (arith, bytes, ready.0), omega (arith, calls, ready.1))

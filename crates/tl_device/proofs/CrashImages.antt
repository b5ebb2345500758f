-- The images that a choice gives are among those that a crash may leave.
use Rattle.std.proofs.Common.{◌≡◌, inl, inr, ℕ, zero, suc, ◌+◌, ◌-◌, ◌≤◌, min, Bool, true, false, List, [], ◌∷◌, ◌++◌, length, take, drop, replicate, refl, sym, ap, ◌∙◌, subst, arith, length-drop}
use Rattle.std.specs.Prelude.{◌==◌, if◌then◌else◌}
use Rattle.std.proofs.lemmas.Bool.{eqb-true}
use Rattle.std.proofs.lemmas.List.{drop_all, take_all}
use Rattle.std.proofs.Math.Seq.{drop-nil}
use Rattle.tl_device.specs.Disk.{Torn}
use Rattle.tl_device.specs.Plain.{Kept}
use Rattle.tl_device.specs.declared.call.Call.{Call}
use Rattle.tl_device.specs.declared.call.Call.TheVariants.{Wrote, Tore, Cut, MayCut as Fell, Synced}
use Rattle.tl_device.specs.Replay.{undone, Left, Leaves}
use Rattle.tl_device.specs.Crash.{is_sync, synced_bytes, range_of, with_range, with_ranges, crash_image, Changes, LedTo, IsRecorded}
use Rattle.tl_device.specs.Kept.{over_old, after_write}
use Rattle.tl_device.proofs.Undo.{torn_same, torn_written, undo_write}

-- the bytes, with this value in so many of them from a place on, byte by byte
abbrev put : ℕ → List ℕ → ℕ → ℕ → List ℕ
put value [] at n = []
put value (b ∷ bytes) zero zero = b ∷ bytes
put value (b ∷ bytes) zero (suc n) = value ∷ put value bytes zero n
put value (b ∷ bytes) (suc at) n = b ∷ put value bytes at n

-- none of them
put_none : (value : ℕ) (bytes : List ℕ) → put value bytes zero zero ≡ bytes
put_none value [] = refl
put_none value (b ∷ bytes) = refl

-- both ways to say it agree
parts_put : (value : ℕ) (bytes : List ℕ) (at n m k : ℕ) → m ≡ min n (length bytes - at) → k ≡ at + n → take at bytes ++ (replicate m value ++ drop k bytes) ≡ put value bytes at n
parts_put value [] at n m k number end = joined (take at []) (drop k []) m (take_all at [] (omega arith)) (drop-nil k) (omega (arith, number))
  where
    joined : (front back : List ℕ) (m : ℕ) → front ≡ [] → back ≡ [] → m ≡ 0 → front ++ (replicate m value ++ back) ≡ []
    joined front back m f b e = cc
parts_put value (b ∷ bytes) zero zero zero zero number end = refl
parts_put value (b ∷ bytes) zero zero zero (suc k) number end = absurd (omega (arith, end))
parts_put value (b ∷ bytes) zero zero (suc m) k number end = absurd (omega (arith, number))
parts_put value (b ∷ bytes) zero (suc n) zero k number end = absurd (omega (arith, number))
parts_put value (b ∷ bytes) zero (suc n) (suc m) zero number end = absurd (omega (arith, end))
parts_put value (b ∷ bytes) zero (suc n) (suc m) (suc k) number end = ap (λ l. value ∷ l) (parts_put value bytes zero n m k (omega (arith, number)) (omega (arith, end)))
parts_put value (b ∷ bytes) (suc at) n m zero number end = absurd (omega (arith, end))
parts_put value (b ∷ bytes) (suc at) n m (suc k) number end = ap (λ l. b ∷ l) (parts_put value bytes at n m k (omega (arith, number)) (omega (arith, end)))

with_range_is : (value : ℕ) (bytes : List ℕ) (at n : ℕ) → with_range value at n bytes ≡ put value bytes at n
with_range_is value bytes at n = parts_put value bytes at n (min n (length bytes - at)) (at + n) refl refl

length_put : (value : ℕ) (bytes : List ℕ) (at n : ℕ) → length (put value bytes at n) ≡ length bytes
length_put value [] at n = refl
length_put value (b ∷ bytes) zero zero = refl
length_put value (b ∷ bytes) zero (suc n) = ap suc (length_put value bytes zero n)
length_put value (b ∷ bytes) (suc at) n = ap suc (length_put value bytes at n)

-- a prefix of it is it in the prefix
take_put : (value : ℕ) (bytes : List ℕ) (at n k : ℕ) → take k (put value bytes at n) ≡ put value (take k bytes) at n
take_put value bytes at n zero = refl
take_put value [] at n (suc k) = refl
take_put value (b ∷ bytes) zero zero (suc k) = refl
take_put value (b ∷ bytes) zero (suc n) (suc k) = ap (λ l. value ∷ l) (take_put value bytes zero n k)
take_put value (b ∷ bytes) (suc at) n (suc k) = ap (λ l. b ∷ l) (take_put value bytes at n k)

-- where nothing is behind, nothing comes
drop_put_none : (value : ℕ) (bytes : List ℕ) (at n k : ℕ) → drop k bytes ≡ [] → drop k (put value bytes at n) ≡ []
drop_put_none value bytes at n k none = drop_all k (put value bytes at n) (omega (arith, length_put value bytes at n, ap length none, length-drop k bytes))

-- what is the same behind a place stays the same there
drop_put_same : (value : ℕ) (old new : List ℕ) (at n k : ℕ) → drop k old ≡ drop k new → drop k (put value old at n) ≡ drop k (put value new at n)
drop_put_same value old new at n zero same = ap (λ l. put value l at n) same
drop_put_same value [] new at n (suc k) same = sym (drop_put_none value new at n (suc k) (sym same))
drop_put_same value (x ∷ old) [] at n (suc k) same = drop_put_none value (x ∷ old) at n (suc k) same
drop_put_same value (x ∷ old) (y ∷ new) zero zero (suc k) same = same
drop_put_same value (x ∷ old) (y ∷ new) zero (suc n) (suc k) same = drop_put_same value old new zero n k same
drop_put_same value (x ∷ old) (y ∷ new) (suc at) n (suc k) same = drop_put_same value old new at n k same

-- what stands before the place stays
take_put_own : (value : ℕ) (bytes : List ℕ) (at n : ℕ) → take at (put value bytes at n) ≡ take at bytes
take_put_own value bytes zero n = refl
take_put_own value [] (suc at) n = refl
take_put_own value (b ∷ bytes) (suc at) n = ap (λ l. b ∷ l) (take_put_own value bytes at n)

-- and what stands behind the range
drop_put_own : (value : ℕ) (bytes : List ℕ) (at n k : ℕ) → k ≡ at + n → drop k (put value bytes at n) ≡ drop k bytes
drop_put_own value [] at n k is = refl
drop_put_own value (b ∷ bytes) zero zero k is = refl
drop_put_own value (b ∷ bytes) zero (suc n) zero is = absurd (omega (arith, is))
drop_put_own value (b ∷ bytes) zero (suc n) (suc k) is = drop_put_own value bytes zero n k (omega (arith, is))
drop_put_own value (b ∷ bytes) (suc at) n zero is = absurd (omega (arith, is))
drop_put_own value (b ∷ bytes) (suc at) n (suc k) is = drop_put_own value bytes at n k (omega (arith, is))

-- a torn write stays one when a value is put into a range of both
torn_put : (value at n p m : ℕ) (old new : List ℕ) → Torn at n old new → Torn at n (put value old p m) (put value new p m)
torn_put value at n p m old new torn = record {
  before = take_put value new p m at ∙ ap (λ l. put value l p m) torn.before ∙ sym (take_put value old p m at);
  after = drop_put_same value new old p m (at + n) torn.after;
  no_shorter = omega (arith, torn.no_shorter, length_put value old p m, length_put value new p m);
  no_longer = omega (arith, torn.no_longer, length_put value old p m, length_put value new p m);
}

-- and when it is put into its own range
torn_own : (value at n : ℕ) (old new : List ℕ) → Torn at n old new → Torn at n old (put value new at n)
torn_own value at n old new torn = record {
  before = take_put_own value new at n ∙ torn.before;
  after = drop_put_own value new at n (at + n) refl ∙ torn.after;
  no_shorter = omega (arith, torn.no_shorter, length_put value new at n);
  no_longer = omega (arith, torn.no_longer, length_put value new at n);
}

-- THE RANGES OF ALL CALLS

choose : (b : Bool) (R : List ℕ → List ℕ → Type 0) (x y u v : List ℕ) → R x u → R y v → R (if b then x else y) (if b then u else v)
choose true R x y u v one other = one
choose false R x y u v one other = other

torn_ranges : (value at n : ℕ) (calls : List Call) (old new : List ℕ) → Torn at n old new → Torn at n (with_ranges value calls old) (with_ranges value calls new)
torn_ranges value at n [] old new torn = torn
torn_ranges value at n (call ∷ calls) old new torn =
    let p : ℕ = (range_of call).0 in
    let m : ℕ = (range_of call).1 in
    let ranged : Torn at n (with_range value p m old) (with_range value p m new) =
    subst (λ l. Torn at n l (with_range value p m new)) (sym (with_range_is value old p m)) (subst (λ l. Torn at n (put value old p m) l) (sym (with_range_is value new p m)) (torn_put value at n p m old new torn)) in
    choose (is_sync call) (Torn at n) old (with_ranges value calls (with_range value p m old)) new (with_ranges value calls (with_range value p m new)) torn (torn_ranges value at n calls (with_range value p m old) (with_range value p m new) ranged)

abbrev IsPrefix : ℕ → List ℕ → List ℕ → Type 0
IsPrefix k old new = new ≡ take k old

take_ranges : (value k : ℕ) (calls : List Call) (old new : List ℕ) → IsPrefix k old new → IsPrefix k (with_ranges value calls old) (with_ranges value calls new)
take_ranges value k [] old new cut = cut
take_ranges value k (call ∷ calls) old new cut =
    let p : ℕ = (range_of call).0 in
    let m : ℕ = (range_of call).1 in
    let ranged : with_range value p m new ≡ take k (with_range value p m old) =
    with_range_is value new p m ∙ ap (λ l. put value l p m) cut ∙ sym (take_put value old p m k) ∙ ap (λ l. take k l) (sym (with_range_is value old p m)) in
    choose (is_sync call) (IsPrefix k) old (with_ranges value calls (with_range value p m old)) new (with_ranges value calls (with_range value p m new)) cut (take_ranges value k calls (with_range value p m old) (with_range value p m new) ranged)

abbrev IsAsLong : List ℕ → List ℕ → Type 0
IsAsLong old new = length new ≡ length old

length_ranges : (value : ℕ) (calls : List Call) (bytes : List ℕ) → length (with_ranges value calls bytes) ≡ length bytes
length_ranges value [] bytes = refl
length_ranges value (call ∷ calls) bytes =
    let p : ℕ = (range_of call).0 in
    let m : ℕ = (range_of call).1 in
    longer (is_sync call) (with_ranges value calls (with_range value p m bytes)) (length_ranges value calls (with_range value p m bytes) ∙ ap length (with_range_is value bytes p m) ∙ length_put value bytes p m)
  where
    longer : (b : Bool) (new : List ℕ) → length new ≡ length bytes → length (if b then bytes else new) ≡ length bytes
    longer true new same = refl
    longer false new same = same

-- WHAT A CRASH MAY LEAVE

-- a call that wrote nowhere
no_range : (value : ℕ) (calls : List Call) (bytes : List ℕ) → with_ranges value calls (with_range value 0 0 bytes) ≡ with_ranges value calls bytes
no_range value calls bytes = ap (λ l. with_ranges value calls l) (with_range_is value bytes 0 0 ∙ put_none value bytes)

-- a write, whole or torn
range_left : (value at n : ℕ) (calls : List Call) (s : List ℕ × List ℕ) (new : List ℕ) → Left calls s (with_ranges value calls s.0) → Torn at n s.0 new
    → (d : List ℕ) × Left calls s d × Torn at n d (with_ranges value calls (with_range value at n new))
range_left value at n calls s new left torn =
    let own : Torn at n s.0 (with_range value at n new) = subst (λ l. Torn at n s.0 l) (sym (with_range_is value new at n)) (torn_own value at n s.0 new torn) in
    (with_ranges value calls s.0, left, torn_ranges value at n calls s.0 (with_range value at n new) own)

-- a value in all ranges since the last sync is left
ranges_left : (value : ℕ) (calls : List Call) (s : List ℕ × List ℕ) → LedTo calls s → Left calls s (with_ranges value calls s.0)
ranges_left value [] s led = refl
ranges_left value (Wrote at n over ∷ calls) s led =
    inr (range_left value at n calls (undone s.0 s.1 (Wrote at n over)) s.0 (ranges_left value calls (undone s.0 s.1 (Wrote at n over)) led.1) led.0)
ranges_left value (Tore at n ∷ calls) s led =
    inr (range_left value at n calls (s.0, s.1) s.0 (ranges_left value calls (s.0, s.1) led.1) (torn_same at n s.0))
ranges_left value (Cut len over ∷ calls) s led =
    let old : List ℕ × List ℕ = undone s.0 s.1 (Cut len over) in
    inr (with_ranges value calls old.0, ranges_left value calls old led.1, inr (no_range value calls s.0 ∙ take_ranges value len calls old.0 s.0 led.0))
ranges_left value (Fell len ∷ calls) s led =
    inr (with_ranges value calls s.0, ranges_left value calls (s.0, s.1) led.1, inl (no_range value calls s.0))
ranges_left value (Synced ∷ calls) s led = inl refl

-- the bytes of the last sync are left
synced_left : (calls : List Call) (s : List ℕ × List ℕ) → Left calls s (synced_bytes calls s)
synced_left [] s = refl
synced_left (Wrote at n over ∷ calls) s =
    let old : List ℕ × List ℕ = undone s.0 s.1 (Wrote at n over) in
    inr (synced_bytes calls old, synced_left calls old, torn_same at n (synced_bytes calls old))
synced_left (Tore at n ∷ calls) s = inr (synced_bytes calls (s.0, s.1), synced_left calls (s.0, s.1), torn_same at n (synced_bytes calls (s.0, s.1)))
synced_left (Cut len over ∷ calls) s =
    let old : List ℕ × List ℕ = undone s.0 s.1 (Cut len over) in
    inr (synced_bytes calls old, synced_left calls old, inl refl)
synced_left (Fell len ∷ calls) s = inr (synced_bytes calls (s.0, s.1), synced_left calls (s.0, s.1), inl refl)
synced_left (Synced ∷ calls) s = inl refl

-- the bytes as they read are left
read_left : (calls : List Call) (s : List ℕ × List ℕ) → Left calls s s.0
read_left [] s = refl
read_left (call ∷ calls) s = inl refl

one_of : (b : Bool) (P : List ℕ → Type 0) (x y : List ℕ) → P x → P y → P (if b then x else y)
one_of true P x y one other = one
one_of false P x y one other = other

-- whatever the choice
pub image_left : (choice : ℕ) (kept : Kept) → IsRecorded kept → Leaves kept (crash_image choice kept)
image_left choice kept led =
    let s : List ℕ × List ℕ = (kept.bytes, kept.log) in
    let P : List ℕ → Type 0 = λ c. Leaves kept c in
    let zeros : P (with_ranges 0 kept.done kept.bytes) = ranges_left 0 kept.done s led in
    let ones : P (with_ranges 255 kept.done kept.bytes) = ranges_left 255 kept.done s led in
    one_of (choice == 0) P (synced_bytes kept.done s) (if choice == 1 then kept.bytes else if choice == 2 then with_ranges 0 kept.done kept.bytes else with_ranges 255 kept.done kept.bytes) (synced_left kept.done s)
    (one_of (choice == 1) P kept.bytes (if choice == 2 then with_ranges 0 kept.done kept.bytes else with_ranges 255 kept.done kept.bytes) (read_left kept.done s)
    (one_of (choice == 2) P (with_ranges 0 kept.done kept.bytes) (with_ranges 255 kept.done kept.bytes) zeros ones))

first_or : (b : Bool) (x y : List ℕ) (n : ℕ) → (b ≡ true → length x ≡ n) → length y ≡ n → length (if b then x else y) ≡ n
first_or true x y n one other = one refl
first_or false x y n one other = other

-- but for the bytes of the last sync an image is as long as the bytes that read
pub image_length : (choice : ℕ) (kept : Kept) → 1 ≤ choice → length (crash_image choice kept) ≡ length kept.bytes
image_length choice kept some =
    let n : ℕ = length kept.bytes in
    let s : List ℕ × List ℕ = (kept.bytes, kept.log) in
    let never : (choice == 0) ≡ true → length (synced_bytes kept.done s) ≡ n = λ zeroth. absurd (omega (arith, eqb-true choice 0 zeroth)) in
    first_or (choice == 0) (synced_bytes kept.done s) (if choice == 1 then kept.bytes else if choice == 2 then with_ranges 0 kept.done kept.bytes else with_ranges 255 kept.done kept.bytes) n never
    (first_or (choice == 1) kept.bytes (if choice == 2 then with_ranges 0 kept.done kept.bytes else with_ranges 255 kept.done kept.bytes) n (λ first. refl)
    (first_or (choice == 2) (with_ranges 0 kept.done kept.bytes) (with_ranges 255 kept.done kept.bytes) n (λ second. length_ranges 0 kept.done kept.bytes) (length_ranges 255 kept.done kept.bytes)))

-- ONE CALL MORE ON RECORD

-- a call whose record undoes it
one_recorded : (old new : Kept) (call : Call) → new.done ≡ call ∷ old.done → undone new.bytes new.log call ≡ (old.bytes, old.log) → Changes call old.bytes new.bytes → IsRecorded old → IsRecorded new
one_recorded old new call more undo changes was =
    subst (λ (l : List Call). LedTo l (new.bytes, new.log)) (sym more)
    (subst (λ (s : List ℕ × List ℕ). Changes call s.0 new.bytes) (sym undo) changes, subst (λ (s : List ℕ × List ℕ). LedTo old.done s) (sym undo) was)

-- a write that succeeded
pub write_recorded : (k new : Kept) (at : ℕ) (from : List ℕ) → at ≤ length k.bytes → new ≡ after_write k at from → IsRecorded k → IsRecorded new
write_recorded k new at from le is was = subst (λ (m : Kept). IsRecorded m) (sym is)
    (one_recorded k (after_write k at from) (Wrote at (length from) (over_old k at (length from))) refl (undo_write k at from le) (torn_written k.bytes from at le) was)

-- Runs of changes.
use Rattle.std.proofs.Common.{◌≡◌, ℕ, zero, suc, ◌+◌, ◌-◌, ◌<◌, Bool, true, false, cond, List, [], ◌∷◌, length, take, drop, get_or, refl, sym, ap, ◌∙◌, subst, arith}
use Rattle.tl_types.specs.declared.events.ValidEvent.{ValidEvent}
use Rattle.tl_types.specs.Checkpoints.{comes_before}
use Rattle.tl_ckpt.specs.Valid.{Rises, merged, lead}
use Rattle.tl_ckpt.specs.Runs.{sum_of, AllRise}
use Rattle.tl_ckpt.proofs.Members.{Above, has, xor, good_merged, members_same}
use Rattle.tl_ckpt.proofs.Merging.{drop_step}

pub rises_sum : (runs : List (List ValidEvent)) → AllRise runs → Rises (sum_of runs)
rises_sum [] up = tt
rises_sum (run ∷ runs) up = (good_merged (sum_of runs) run (rises_sum runs up.1) up.0).rises

-- two lots of changes, one after the other, are their own merge
pub merged_twice : (es ts us : List ValidEvent) → Rises es → Rises ts → Rises us → merged (merged es ts) us ≡ merged es (merged ts us)
merged_twice es ts us a b c =
    let first = good_merged es ts a b in
    let left = good_merged (merged es ts) us first.rises c in
    let second = good_merged ts us b c in
    let right = good_merged es (merged ts us) a second.rises in
    members_same (merged (merged es ts) us) (merged es (merged ts us)) left.rises right.rises (λ z.
    left.members z ∙ ap (λ b. xor b (has us z)) (first.members z) ∙ turn (has es z) (has ts z) (has us z)
    ∙ ap (λ b. xor (has es z) b) (sym (second.members z)) ∙ sym (right.members z)) where
      turn : (a b c : Bool) → xor (xor a b) c ≡ xor a (xor b c)
      turn true true true = refl
      turn true true false = refl
      turn true false true = refl
      turn true false false = refl
      turn false true true = refl
      turn false true false = refl
      turn false false true = refl
      turn false false false = refl

-- events with changes are the changes with the events
pub merged_turned : (es ts : List ValidEvent) → Rises es → Rises ts → merged es ts ≡ merged ts es
merged_turned es ts a b =
    let one = good_merged es ts a b in
    let other = good_merged ts es b a in
    members_same (merged es ts) (merged ts es) one.rises other.rises (λ z. one.members z ∙ turn (has es z) (has ts z) ∙ sym (other.members z)) where
      turn : (a b : Bool) → xor a b ≡ xor b a
      turn true true = refl
      turn true false = refl
      turn false true = refl
      turn false false = refl

pub merged_none : (ts : List ValidEvent) → Rises ts → merged [] ts ≡ ts
merged_none ts up =
    let good = good_merged [] ts tt up in
    members_same (merged [] ts) ts good.rises up (λ z. good.members z ∙ none (has ts z)) where
      none : (b : Bool) → xor false b ≡ b
      none true = refl
      none false = refl

pub rise_at : (runs : List (List ValidEvent)) (i : ℕ) (d : List ValidEvent) → AllRise runs → i < length runs → Rises (get_or runs i d)
rise_at [] i d up l = absurd (omega arith)
rise_at (run ∷ runs) zero d up l = up.0
rise_at (run ∷ runs) (suc i) d up l = rise_at runs i d up.1 (omega arith)

pub rise_behind : (runs : List (List ValidEvent)) (i : ℕ) → AllRise runs → AllRise (drop i runs)
rise_behind runs zero up = up
rise_behind [] (suc i) up = tt
rise_behind (run ∷ runs) (suc i) up = rise_behind runs i up.1

-- one run more is taken in: what is behind it with the new changes is the same
pub taken_in : (runs : List (List ValidEvent)) (all now new : List ValidEvent) (i : ℕ) (d : List ValidEvent) → AllRise runs → Rises now → i < length runs → new ≡ merged (get_or runs i d) now → merged (sum_of (drop i runs)) now ≡ all → (merged (sum_of (drop (i + 1) runs)) new ≡ all) × Rises new
taken_in runs all now new i d up rises l is before =
    let run = get_or runs i d in
    let mine = rise_at runs i d up l in
    let behind = sum_of (drop (i + 1) runs) in (
      ap (merged behind) is ∙ sym (merged_twice behind run now (rises_sum (drop (i + 1) runs) (rise_behind runs (i + 1) up)) mine rises)
          ∙ ap (λ rs. merged (sum_of rs) now) (sym (drop_step runs i d l)) ∙ before,
      subst Rises (sym is) (good_merged run now mine rises).rises,
    )

-- the same, as the code has it
pub taken_so : (runs : List (List ValidEvent)) (all now lent mine new : List ValidEvent) (i : ℕ) (d : List ValidEvent) → AllRise runs → Rises now → i < length runs → d ≡ get_or runs i d → mine ≡ d → lent ≡ now → new ≡ merged mine lent → merged (sum_of (drop i runs)) now ≡ all → (merged (sum_of (drop (i + 1) runs)) new ≡ all) × Rises new
taken_so runs all now lent mine new i d up rises l read mine_is lent_is is before =
    taken_in runs all now new i d up rises l (is ∙ ap (merged mine) lent_is ∙ ap (λ r. merged r now) (mine_is ∙ read)) before

-- WINDOWS

-- how many come before a change is seen in a front that ends with one that does not
pub lead_front : (change : ValidEvent) (xs : List ValidEvent) (w : ℕ) (d : ValidEvent) → w < length xs → comes_before (get_or xs w d) change ≡ false → lead change (take (suc w) xs) ≡ lead change xs
lead_front change [] w d l h = absurd (omega arith)
lead_front change (x ∷ xs) zero d l h = rw h refl
lead_front change (x ∷ xs) (suc w) d l h = by_test (comes_before x change) (lead_front change xs w d (omega arith) h) where
  by_test : (b : Bool) → lead change (take (suc w) xs) ≡ lead change xs → cond b (suc (lead change (take (suc w) xs))) 0 ≡ cond b (suc (lead change xs)) 0
  by_test true e = ap suc e
  by_test false e = refl

pub lead_window : (change : ValidEvent) (xs : List ValidEvent) (w : ℕ) (d : ValidEvent) → 0 < w → w < length xs → comes_before (get_or xs (w - 1) d) change ≡ false → lead change (take w xs) ≡ lead change xs
lead_window change xs zero d p l h = absurd (omega arith)
lead_window change xs (suc w) d p l h = let e : suc w - 1 ≡ w = omega arith in lead_front change xs w d (omega arith) (ap (λ k. comes_before (get_or xs k d) change) (sym e) ∙ h)

above_front : (x : ValidEvent) (n : ℕ) (xs : List ValidEvent) → Above x xs → Above x (take n xs)
above_front x zero xs all = tt
above_front x (suc n) [] all = tt
above_front x (suc n) (y ∷ ys) all = (all.0, above_front x n ys all.1)

pub rises_front : (n : ℕ) (xs : List ValidEvent) → Rises xs → Rises (take n xs)
rises_front zero xs up = tt
rises_front (suc n) [] up = tt
rises_front (suc n) (x ∷ xs) up = (above_front x n xs up.0, rises_front n xs up.1)

rise_front : (n : ℕ) (runs : List (List ValidEvent)) → AllRise runs → AllRise (take n runs)
rise_front zero runs up = tt
rise_front (suc n) [] up = tt
rise_front (suc n) (run ∷ runs) up = (up.0, rise_front n runs up.1)

pub put_rises : (runs lent new : List (List ValidEvent)) (run : List ValidEvent) (m n : ℕ) → AllRise runs → lent ≡ runs → Rises run → new ≡ run ∷ take m (drop n lent) → AllRise new
put_rises runs lent new run m n up lent_is rises is =
    subst AllRise (sym (is ∙ ap (λ rs. run ∷ take m (drop n rs)) lent_is)) (rises, rise_front m (drop n runs) (rise_behind runs n up))

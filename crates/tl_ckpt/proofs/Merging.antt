-- The steps of a merge.
use Rattle.std.proofs.Common.{◌≡◌, ℕ, zero, suc, ◌+◌, ◌<◌, ◌≤◌, Bool, true, false, cond, List, [], ◌∷◌, ◌++◌, length, take, drop, get_or, Some, ◌⊎◌, inl, inr, refl, sym, ap, ◌∙◌, subst, arith, append_assoc, slice_get}
use Rattle.std.specs.List.{flat_map}
use Rattle.std.specs.List.Sorted.{IsPartitionedBy, IsPartitionPoint}
use Rattle.std.proofs.lemmas.Option.{get_or_from_slice_get}
use Rattle.std.proofs.lemmas.List.{take_more, append-nil, drop_all}
use Rattle.std.proofs.lemmas.Grind.{flat_map-append}
use Rattle.tl_types.specs.declared.events.ValidEvent.{ValidEvent}
use Rattle.tl_types.specs.Checkpoints.{comes_before}
use Rattle.tl_ckpt.specs.Valid.{Rises, passed, left_of, merged, lead, stop, beyond}
use Rattle.tl_types.proofs.ValidEventOrder.{third}
use Rattle.tl_ckpt.proofs.Members.{Above}

above_at : (x : ValidEvent) (ys : List ValidEvent) (j : ℕ) (d : ValidEvent) → Above x ys → j < length ys → comes_before x (get_or ys j d) ≡ true
above_at x [] j d all l = absurd (omega arith)
above_at x (y ∷ ys) zero d all l = all.0
above_at x (y ∷ ys) (suc j) d all l = above_at x ys j d all.1 (omega arith)

pub rises_at : (xs : List ValidEvent) (i j : ℕ) (d : ValidEvent) → Rises xs → i < j → j < length xs → comes_before (get_or xs i d) (get_or xs j d) ≡ true
rises_at [] i j d up l m = absurd (omega arith)
rises_at (x ∷ xs) i zero d up l m = absurd (omega arith)
rises_at (x ∷ xs) zero (suc j) d up l m = above_at x xs j d up.0 (omega arith)
rises_at (x ∷ xs) (suc i) (suc j) d up l m = rises_at xs i j d up.1 (omega arith) (omega arith)

pub equal_or_less : (i j : ℕ) → i ≤ j → (i ≡ j) ⊎ (i < j)
equal_or_less zero zero h = inl refl
equal_or_less zero (suc j) h = inr (omega arith)
equal_or_less (suc i) zero h = absurd (omega arith)
equal_or_less (suc i) (suc j) h = elim (equal_or_less i j (omega arith)) [ inl e ↦ inl (ap suc e) | inr l ↦ inr (omega arith) ]

pub partitioned : (change : ValidEvent) (xs : List ValidEvent) → Rises xs → IsPartitionedBy (λ y. comes_before y change) xs
partitioned change xs up i j d l m h = elim (equal_or_less i j l) [ inl e ↦ subst (λ k. comes_before (get_or xs k d) change ≡ true) (sym e) h | inr k ↦ third (get_or xs i d) (get_or xs j d) change (rises_at xs i j d up k m) h ]

pub lead_is : (change : ValidEvent) (xs : List ValidEvent) (n : ℕ) → n ≤ length xs → IsPartitionPoint (λ y. comes_before y change ≡ true) (λ y. comes_before y change ≡ false) xs n → n ≡ lead change xs
lead_is change [] zero l h = refl
lead_is change [] (suc n) l h = absurd (omega arith)
lead_is change (x ∷ xs) zero l h = let e : comes_before x change ≡ false = h.1 0 x (omega arith) (omega arith) in rw e refl
lead_is change (x ∷ xs) (suc n) l h =
    let e : comes_before x change ≡ true = h.0 0 x (omega arith) (omega arith) in
    let later = lead_is change xs n (omega arith) (λ k d a b. h.0 (suc k) d (omega arith) (omega arith), λ k d a b. h.1 (suc k) d (omega arith) (omega arith)) in
    rw e (ap suc later)

passed_is : (change : ValidEvent) (xs : List ValidEvent) → passed change xs ≡ take (lead change xs) xs ++ stop change (drop (lead change xs) xs)
passed_is change [] = refl
passed_is change (x ∷ xs) = by_test (comes_before x change) (passed_is change xs) where
  by_test : (b : Bool) → passed change xs ≡ take (lead change xs) xs ++ stop change (drop (lead change xs) xs) → cond b (x ∷ passed change xs) (cond (comes_before change x) (change ∷ []) []) ≡ take (cond b (suc (lead change xs)) 0) (x ∷ xs) ++ stop change (drop (cond b (suc (lead change xs)) 0) (x ∷ xs))
  by_test true h = ap (λ ys. x ∷ ys) h
  by_test false h = refl

left_is : (change : ValidEvent) (xs : List ValidEvent) → left_of change xs ≡ beyond change (drop (lead change xs) xs)
left_is change [] = refl
left_is change (x ∷ xs) = by_test (comes_before x change) (left_is change xs) where
  by_test : (b : Bool) → left_of change xs ≡ beyond change (drop (lead change xs) xs) → cond b (left_of change xs) (cond (comes_before change x) (x ∷ xs) xs) ≡ beyond change (drop (cond b (suc (lead change xs)) 0) (x ∷ xs))
  by_test true h = h
  by_test false h = refl

-- one step of the merge, with the events before the change copied at once
pub pass_is : (change : ValidEvent) (xs out copied all front back left : List ValidEvent) (n : ℕ) → n ≡ lead change xs → front ≡ take n xs → back ≡ drop n xs → copied ≡ out ++ front → all ≡ copied ++ stop change back → left ≡ beyond change back → (all ≡ out ++ passed change xs) × (left ≡ left_of change xs)
pass_is change xs out copied all front back left n n_is front_is back_is copied_is all_is left_is_ = (
  all_is ∙ ap (λ ys. ys ++ stop change back) copied_is ∙ append_assoc out front (stop change back) ∙ ap (λ ys. out ++ (ys ++ stop change back)) front_is ∙ ap (λ ys. out ++ (take n xs ++ stop change ys)) back_is ∙ ap (λ m. out ++ (take m xs ++ stop change (drop m xs))) n_is ∙ ap (λ ys. out ++ ys) (sym (passed_is change xs)),
  left_is_ ∙ ap (beyond change) back_is ∙ ap (λ m. beyond change (drop m xs)) n_is ∙ sym (left_is change xs),
)

above_left : (x change : ValidEvent) (xs : List ValidEvent) → Above x xs → Above x (left_of change xs)
above_left x change [] all = tt
above_left x change (y ∷ ys) all = by_tests (comes_before y change) (comes_before change y) (above_left x change ys all.1) where
  by_tests : (a b : Bool) → Above x (left_of change ys) → Above x (cond a (left_of change ys) (cond b (y ∷ ys) ys))
  by_tests true b later = later
  by_tests false true later = all
  by_tests false false later = all.1

pub rises_left : (change : ValidEvent) (xs : List ValidEvent) → Rises xs → Rises (left_of change xs)
rises_left change [] up = tt
rises_left change (y ∷ ys) up = by_tests (comes_before y change) (comes_before change y) (rises_left change ys up.1) where
  by_tests : (a b : Bool) → Rises (left_of change ys) → Rises (cond a (left_of change ys) (cond b (y ∷ ys) ys))
  by_tests true b later = later
  by_tests false true later = up
  by_tests false false later = up.1

pub drop_step : {X : Type 0} (xs : List X) (i : ℕ) (d : X) → i < length xs → drop i xs ≡ get_or xs i d ∷ drop (i + 1) xs
drop_step [] i d l = absurd (omega arith)
drop_step (y ∷ ys) zero d l = refl
drop_step (y ∷ ys) (suc i) d l = let s : suc i + 1 ≡ suc (i + 1) = omega arith in drop_step ys i d (omega arith) ∙ ap (λ k. get_or ys i d ∷ drop k (y ∷ ys)) (sym s)

-- a change more
pub merged_step : (all changes out new rest left : List ValidEvent) (i : ℕ) (d : ValidEvent) → i < length changes → out ++ merged rest (drop i changes) ≡ all → (new ≡ out ++ passed (get_or changes i d) rest) × (left ≡ left_of (get_or changes i d) rest) → new ++ merged left (drop (i + 1) changes) ≡ all
merged_step all changes out new rest left i d l before step =
    let change = get_or changes i d in
    ap (λ ys. ys ++ merged left (drop (i + 1) changes)) step.0 ∙ ap (λ ys. (out ++ passed change rest) ++ merged ys (drop (i + 1) changes)) step.1 ∙ append_assoc out (passed change rest) (merged (left_of change rest) (drop (i + 1) changes))
    ∙ ap (λ ys. out ++ merged rest ys) (sym (drop_step changes i d l)) ∙ before

-- an event more
pub changes_more : {X Y : Type 0} (f : X → List Y) (xs : List X) (i : ℕ) (x : X) (out new : List Y) → i < length xs → slice_get xs i ≡ Some x → new ≡ out ++ f x → out ≡ flat_map f (take i xs) → new ≡ flat_map f (take (i + 1) xs)
changes_more f xs i x out new l is step before =
    step ∙ ap (λ ys. ys ++ f x) before ∙ sym (ap (flat_map f) (take_more xs i x l ∙ ap (λ y. take i xs ++ y ∷ []) (get_or_from_slice_get xs i x x is)) ∙ flat_map-append f (take i xs) (x ∷ []) ∙ ap (λ ys. flat_map f (take i xs) ++ ys) (append-nil (f x)))

merged_nothing : (changes : List ValidEvent) → merged [] changes ≡ changes
merged_nothing [] = refl
merged_nothing (change ∷ changes) = ap (λ ys. change ∷ ys) (merged_nothing changes)

-- where a merge by steps ends, what is left of one of the lists goes on
pub rest_goes_on : (all events changes out copied new : List ValidEvent) (i j : ℕ) → (length events ≤ i) ⊎ (length changes ≤ j) → out ++ merged (drop i events) (drop j changes) ≡ all → copied ≡ out ++ drop i events → new ≡ copied ++ drop j changes → new ≡ all
rest_goes_on all events changes out copied new i j end before copied_is new_is =
    new_is ∙ ap (λ ys. ys ++ drop j changes) copied_is ∙ append_assoc out (drop i events) (drop j changes)
    ∙ ap (λ ys. out ++ ys) (elim end [ inl e ↦ ap (λ ys. ys ++ drop j changes) (drop_all i events e) ∙ sym (merged_nothing (drop j changes)) ∙ ap (λ ys. merged ys (drop j changes)) (sym (drop_all i events e)) | inr e ↦ ap (λ ys. drop i events ++ ys) (drop_all j changes e) ∙ append-nil (drop i events) ∙ ap (merged (drop i events)) (sym (drop_all j changes e)) ])
    ∙ before

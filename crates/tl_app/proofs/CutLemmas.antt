-- The events up to a moment are the first ones, and stay the same up to the next one.
use Rattle.std.proofs.Common.{◌≡◌, ℕ, zero, suc, ◌+◌, ◌<◌, ◌≤◌, ℤ, ◌-ℤ◌, ◌<ℤ◌, ◌≤ℤ◌, int_le, int_lt, Bool, true, false, cond, List, [], ◌∷◌, length, take, get_or, Some, None, ◌⊎◌, inl, inr, refl, sym, ap, ◌∙◌, subst, arith, slice_get}
use Rattle.std.specs.List.{filter, AllByRecursion}
use Rattle.std.proofs.lemmas.Int.{ints}
use Rattle.std.proofs.lemmas.Option.{slice_get_cases, get_or_from_slice_get}
use Rattle.tl_types.specs.declared.events.ValidEvent.{ValidEvent}
use Rattle.tl_types.specs.Runs.{count_of}
use Rattle.tl_types.proofs.RunLemmas.{count_is, runs_none, IsMade}
use Rattle.tl_types.specs.Runs.{runs_of, same_field, add_stretch}
use Rattle.tl_types.specs.declared.answers.Field.{Field}
use Rattle.tl_types.specs.declared.runs.Run.{Run}
use Rattle.tl_app.specs.Opening.{InTime, up_to}
use Rattle.tl_app.specs.Scans.{due_at, next_of, IsCut}

none_due : (moment : ℤ) (xs : List ValidEvent) → ((k : ℕ) (d : ValidEvent) → k < length xs → moment <ℤ (get_or xs k d).time) → filter (λ (e : ValidEvent). int_le e.time moment) xs ≡ []
none_due moment [] h = refl
none_due moment (x ∷ xs) h =
    let later = none_due moment xs (λ k d l. h (suc k) d (omega arith)) in
    let here : int_le x.time moment ≡ false = not_le x.time moment (h 0 x (omega arith)) in
    rw here later where
      not_le : (a b : ℤ) → b <ℤ a → int_le a b ≡ false
      not_le a b l = grind (arith, ints)

-- the events up to a moment are the first ones
pub cut_is : (moment : ℤ) (xs : List ValidEvent) (i : ℕ) → IsCut xs moment i → up_to xs moment ≡ take i xs
cut_is moment xs zero cut = none_due moment xs (λ k d l. cut.back k d (omega arith) l)
cut_is moment [] (suc i) cut = refl
cut_is moment (x ∷ xs) (suc i) cut =
    let later = cut_is moment xs i (record { within = less (length xs) i cut.within; front = λ k d l. cut.front (suc k) d (omega arith); back = λ k d l m. cut.back (suc k) d (omega arith) (omega arith) }) in
    let here : int_le x.time moment ≡ true = le x.time moment (cut.front 0 x (omega arith)) in
    rw here (ap (λ ys. x ∷ ys) later) where
      less : (n i : ℕ) → suc i ≤ suc n → i ≤ n
      less n i l = omega arith

      le : (a b : ℤ) → a ≤ℤ b → int_le a b ≡ true
      le a b l = grind (arith, ints)

-- AN EVENT THAT HAS COME

pub due_yes : (at : ℤ) (xs : List ValidEvent) (i : ℕ) → due_at (slice_get xs i) at ≡ true → (i < length xs) × ((d : ValidEvent) → (get_or xs i d).time ≤ℤ at)
due_yes at [] i h = absurd (cc)
due_yes at (x ∷ xs) zero h = (omega arith, λ d. le x.time at h) where
  le : (a b : ℤ) → int_le a b ≡ true → a ≤ℤ b
  le a b l = grind (arith, ints)
due_yes at (x ∷ xs) (suc i) h = let later = due_yes at xs i h in (omega (arith, later.0), λ d. later.1 d)

pub front_more : (at : ℤ) (xs : List ValidEvent) (i : ℕ) → ((k : ℕ) (d : ValidEvent) → k < i → (get_or xs k d).time ≤ℤ at) → ((d : ValidEvent) → (get_or xs i d).time ≤ℤ at) → (k : ℕ) (d : ValidEvent) → k < i + 1 → (get_or xs k d).time ≤ℤ at
front_more at xs i front here k d l = elim (equal_or_less k i (omega arith)) [ inl e ↦ subst (λ j. (get_or xs j d).time ≤ℤ at) (sym e) (here d) | inr m ↦ front k d m ] where
  equal_or_less : (i j : ℕ) → i ≤ j → (i ≡ j) ⊎ (i < j)
  equal_or_less zero zero h = inl refl
  equal_or_less zero (suc j) h = inr (omega arith)
  equal_or_less (suc i) zero h = absurd (omega arith)
  equal_or_less (suc i) (suc j) h = elim (equal_or_less i j (omega arith)) [ inl e ↦ inl (ap suc e) | inr l ↦ inr (omega arith) ]

later_time : (at : ℤ) (xs : List ValidEvent) (i : ℕ) → due_at (slice_get xs i) at ≡ false → i < length xs → (d : ValidEvent) → at <ℤ (get_or xs i d).time
later_time at [] i h l d = absurd (omega arith)
later_time at (x ∷ xs) zero h l d = lt x.time at h where
  lt : (a b : ℤ) → int_le a b ≡ false → b <ℤ a
  lt a b l = grind (arith, ints)
later_time at (x ∷ xs) (suc i) h l d = later_time at xs i h (omega arith) d

pub cut_here : (at : ℤ) (xs : List ValidEvent) (i : ℕ) → InTime xs → i ≤ length xs → ((k : ℕ) (d : ValidEvent) → k < i → (get_or xs k d).time ≤ℤ at) → due_at (slice_get xs i) at ≡ false → IsCut xs at i
cut_here at xs i order within front none = record {
  within = within;
  front = front;
  back = λ k d l m. let here = later_time at xs i none (omega arith) d in let more = order i k d l m in omega (arith, ints);
}

-- THE NEXT EVENT

pub next_after : (at to : ℤ) (xs : List ValidEvent) (i : ℕ) → IsCut xs at i → at <ℤ to → (at <ℤ next_of (slice_get xs i) to) × (next_of (slice_get xs i) to ≤ℤ to)
next_after at to xs i cut l = by_place (slice_get_cases xs i).1 where
  by_time : (t : ℤ) (b : Bool) → int_lt t to ≡ b → at <ℤ t → (at <ℤ cond b t to) × (cond b t to ≤ℤ to)
  by_time t true e m = (m, le t to e) where
    le : (a b : ℤ) → int_lt a b ≡ true → a ≤ℤ b
    le a b l = grind (arith, ints)
  by_time t false e m = (l, omega (arith, ints))

  by_place : ((x : ValidEvent) × (i < length xs) × (slice_get xs i ≡ Some x) × (get_or xs i x ≡ x)) ⊎ ((length xs ≤ i) × (slice_get xs i ≡ None)) → (at <ℤ next_of (slice_get xs i) to) × (next_of (slice_get xs i) to ≤ℤ to)
  by_place (inl h) =
      let later : at <ℤ h.0.time = subst (λ (e : ValidEvent). at <ℤ e.time) h.3 (cut.back i h.0 (omega arith) h.1) in
      subst (λ o. (at <ℤ next_of o to) × (next_of o to ≤ℤ to)) (sym h.2) (by_time h.0.time (int_lt h.0.time to) refl later)
  by_place (inr h) = subst (λ o. (at <ℤ next_of o to) × (next_of o to ≤ℤ to)) (sym h.1) (l, omega (arith, ints))

-- the same events have come at each moment before the next one
pub cut_until : (at to moment : ℤ) (xs : List ValidEvent) (i : ℕ) → InTime xs → IsCut xs at i → at ≤ℤ moment → moment <ℤ next_of (slice_get xs i) to → IsCut xs moment i
cut_until at to moment xs i order cut after before = record {
  within = cut.within;
  front = λ k d l. let h = cut.front k d l in omega (arith, ints);
  back = λ k d l m. by_place k d l m (slice_get_cases xs i).1;
} where
  low : (t : ℤ) (b : Bool) → int_lt t to ≡ b → moment <ℤ cond b t to → moment <ℤ t
  low t true e m = m
  low t false e m = let h : to ≤ℤ t = ge t to e in omega (arith, ints) where
    ge : (a b : ℤ) → int_lt a b ≡ false → b ≤ℤ a
    ge a b l = grind (arith, ints)

  by_place : (k : ℕ) (d : ValidEvent) → i ≤ k → k < length xs → ((x : ValidEvent) × (i < length xs) × (slice_get xs i ≡ Some x) × (get_or xs i x ≡ x)) ⊎ ((length xs ≤ i) × (slice_get xs i ≡ None)) → moment <ℤ (get_or xs k d).time
  by_place k d l m (inl h) =
      let next : moment <ℤ next_of (Some h.0) to = subst (λ o. moment <ℤ next_of o to) h.2 before in
      let here = low h.0.time (int_lt h.0.time to) refl next in
      let there : (get_or xs i d).time ≤ℤ (get_or xs k d).time = order i k d l m in
      let is : get_or xs i d ≡ h.0 = get_or_from_slice_get xs i h.0 d h.2 in
      let same : (get_or xs i d).time ≡ h.0.time = ap (λ (e : ValidEvent). e.time) is in
      omega (arith, ints)
  by_place k d l m (inr h) = absurd (omega (arith, h.0))

pub count_less : (at next to : ℤ) → at <ℤ next → next ≤ℤ to → count_of (to -ℤ next) < count_of (to -ℤ at)
count_less at next to l m =
    let a = count_is (to -ℤ next) (omega (arith, ints)) in
    let b = count_is (to -ℤ at) (omega (arith, ints)) in
    omega (arith, ints)

pub less_true : (a b : ℤ) → int_lt a b ≡ true → a <ℤ b
less_true a b l = grind (arith, ints)

-- the runs up to a moment that is not before the end of the range are those of the range
pub made_all : (f : ℤ → Field) (from to at : ℤ) (runs : List Run) → IsMade f from to at runs → to ≤ℤ at → runs ≡ runs_of f from to
made_all f from to at runs made past = by_within made.within where
  by_within : (at ≤ℤ to) ⊎ (at ≡ from) → runs ≡ runs_of f from to
  by_within (inl h) = let e : at ≡ to = omega (arith, ints) in made.made ∙ ap (runs_of f from) e
  by_within (inr e) = made.made ∙ runs_none f from at (omega (arith, ints)) ∙ sym (runs_none f from to (omega (arith, ints)))

pub less_false : (x y : ℤ) → int_lt x y ≡ false → y ≤ℤ x
less_false x y h = grind (arith, ints)

-- what is so of each run, wherever it ends, is so with a stretch more
pub add_all : (P : Run → Type 0) (runs : List Run) (s : Run) → AllByRecursion P runs → P s → ((r : Run) (x : ℤ) → P r → P (record r { to = x })) → AllByRecursion P (add_stretch runs s)
add_all P [] s all one longer = (one, tt)
add_all P (run ∷ []) s all one longer = by_test (same_field run.value s.value) where
  by_test : (b : Bool) → AllByRecursion P (cond b (record run { to = s.to } ∷ []) (run ∷ s ∷ []))
  by_test true = (longer run s.to all.0, tt)
  by_test false = (all.0, (one, tt))
add_all P (run ∷ next ∷ runs) s all one longer = (all.0, add_all P (next ∷ runs) s all.1 one longer)

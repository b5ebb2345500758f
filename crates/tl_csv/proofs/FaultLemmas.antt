-- Several things in order, and their first fault.
use Rattle.std.proofs.Common.{◌≡◌, ◌≢◌, ℕ, zero, suc, ◌+◌, List, [], ◌∷◌, ◌++◌, ◌<◌, length, drop, ◌∙◌, Some, None, Result, Ok, Err, refl, ap, sym, append_assoc, length-append, slice_get, arith}
use Rattle.std.proofs.lemmas.Option.{slice_get_within}
use Rattle.csv.specs.Records.{field_at}
use Rattle.tl_csv.specs.declared.faults.CsvFault.{CsvFault}
use Rattle.tl_csv.specs.declared.faults.CsvFault.TheVariants as fault
use Rattle.tl_csv.specs.Faults.{with_first, each_from, then_one, IsUnlessMemory}

-- these items, and then the others where there is no fault
abbrev pub behind : {X : Type 0} → List X → Result (List X) CsvFault → Result (List X) CsvFault
behind xs (Err e) = Err e
behind xs (Ok ys) = Ok (xs ++ ys)

-- one more before the others
pub one_behind : {X : Type 0} (xs : List X) (y : X) (r : Result X CsvFault) (others all : Result (List X) CsvFault) → r ≡ Ok y → behind xs (with_first r others) ≡ all → behind (xs ++ y ∷ []) others ≡ all
one_behind xs y (Err e) others all h g = absurd (cc)
one_behind xs y (Ok z) (Err e) all h g = g
one_behind xs y (Ok z) (Ok zs) all h g =
    let same : z ≡ y = cc in
    rw (append_assoc xs (y ∷ []) zs) (rw same at g)

-- the fault of all where one has a fault
first_fault : {X : Type 0} (xs : List X) (e : CsvFault) (r : Result X CsvFault) (others all : Result (List X) CsvFault) → behind xs (with_first r others) ≡ all → r ≡ Err e → all ≡ Err e
first_fault xs e (Err d) others all g h = let same : d ≡ e = cc in rw (← same) (sym g)
first_fault xs e (Ok x) others all g h = absurd (cc)

pub fault_behind : {X : Type 0} (xs : List X) (e : CsvFault) (r : Result X CsvFault) (others all : Result (List X) CsvFault) → IsUnlessMemory (Err e) r → behind xs (with_first r others) ≡ all → IsUnlessMemory (Err e) all
fault_behind xs e r others all h g = λ memory. first_fault xs e r others all g (h memory)

-- what is left from a place on begins with what stands there
drop_suc : {X : Type 0} (xs : List X) (i : ℕ) (x : X) → slice_get xs i ≡ Some x → drop i xs ≡ x ∷ drop (suc i) xs
drop_suc [] i x h = absurd (cc)
drop_suc (y ∷ xs) zero x h = let same : y ≡ x = cc in rw same
drop_suc (y ∷ xs) (suc i) x h = drop_suc xs i x h

pub drop_at : {X : Type 0} (xs : List X) (i : ℕ) (x : X) → slice_get xs i ≡ Some x → drop i xs ≡ x ∷ drop (i + 1) xs
drop_at xs i x h = let e : suc i ≡ i + 1 = omega arith in drop_suc xs i x h ∙ ap (λ k. x ∷ drop k xs) e

-- nothing is left from a place on where nothing stands
pub drop_past : {X : Type 0} (xs : List X) (i : ℕ) → slice_get xs i ≡ None → drop i xs ≡ []
drop_past [] zero h = refl
drop_past [] (suc i) h = refl
drop_past (y ∷ xs) zero h = absurd (cc)
drop_past (y ∷ xs) (suc i) h = drop_past xs i h

-- a place where something stands is within the list
pub within : {X : Type 0} (xs : List X) (i : ℕ) (x : X) → slice_get xs i ≡ Some x → i < length xs
within xs i x h = slice_get_within xs i x h

-- the field at a place
pub same_field : (fields : List (List ℕ)) (i : ℕ) → field_at fields i ≡ slice_get fields i
unfolding field_at
same_field [] i = refl
same_field (f ∷ fields) zero = refl
same_field (f ∷ fields) (suc i) = same_field fields i

-- one item more where an item and then the others give all: the others behind it give all
pub then_others : {X : Type 0} (xs new : List X) (r : Result X CsvFault) (others all : Result (List X) CsvFault) → then_one xs r ≡ Ok new → behind xs (with_first r others) ≡ all → (behind new others ≡ all) × (length new ≡ length xs + 1)
then_others xs new (Err e) others all h g = absurd (cc)
then_others xs new (Ok z) others all h g =
    let more : xs ++ z ∷ [] ≡ new = cc in
    rw (← more) (one_behind xs z (Ok z) others all refl g, length-append xs (z ∷ []))

-- the next item of all was put behind those before it
pub then_step : {X Y : Type 0} (f : ℕ → X → Result Y CsvFault) (ys new : List Y) (x : X) (xs rest : List X) (all : Result (List Y) CsvFault)
    → xs ≡ x ∷ rest → then_one ys (f (length ys) x) ≡ Ok new → behind ys (each_from f (length ys) xs) ≡ all → (behind new (each_from f (length new) rest) ≡ all) × (length new ≡ length ys + 1)
then_step f ys new x xs rest all e r h =
    let both = then_others ys new (f (length ys) x) (each_from f (length ys + 1) rest) all r (rw e at h) in
    (rw both.1 both.0, both.1)

one_fault : {X : Type 0} (xs : List X) (r : Result X CsvFault) (e : CsvFault) → then_one xs r ≡ Err e → r ≡ Err e
one_fault xs (Ok x) e h = absurd (cc)
one_fault xs (Err d) e h = let same : d ≡ e = cc in rw same

-- the next item of all has a fault
pub line_fault : {X Y : Type 0} (f : ℕ → X → Result Y CsvFault) (ys : List Y) (x : X) (xs rest : List X) (all : Result (List Y) CsvFault) (e : CsvFault)
    → xs ≡ x ∷ rest → (e ≢ fault.NoMemory → then_one ys (f (length ys) x) ≡ Err e) → behind ys (each_from f (length ys) xs) ≡ all → IsUnlessMemory (Err e) all
line_fault f ys x xs rest all e next r h = λ memory. first_fault ys e (f (length ys) x) (each_from f (length ys + 1) rest) all (rw next at h) (one_fault ys (f (length ys) x) e (r memory))

pub ruleset behind_steps = (one_behind, fault_behind)

pub ruleset at_places = (drop_at, drop_past, within)

-- The first fault of several things in order.
use Rattle.std.specs.Prelude.{ℕ, ◌≢◌, ◌+◌, List, [], ◌∷◌, ◌++◌, Option, Some, None, Result, Ok, Err}
use Rattle.tl_types.specs.Results.{IsUnless}
use Rattle.tl_csv.specs.declared.faults.CsvFault.{CsvFault}
use Rattle.tl_csv.specs.declared.faults.CsvFault.TheVariants as fault

infixl 10 ◌>>=◌
-- what follows from a result, or its fault
abbrev pub ◌>>=◌ : {X Y : Type 0} → Result X CsvFault → (X → Result Y CsvFault) → Result Y CsvFault
(Ok x) >>= f = f x
(Err e) >>= f = Err e

-- the fault, where there is one, and else the result
abbrev pub unless : {X : Type 0} → Option CsvFault → Result X CsvFault → Result X CsvFault
unless None result = result
unless (Some e) result = Err e

-- what an item gives before what the others give, or the first fault
abbrev pub with_first : {X : Type 0} → Result X CsvFault → Result (List X) CsvFault
    → Result (List X) CsvFault
with_first (Err e) others = Err e
with_first (Ok x) (Err e) = Err e
with_first (Ok x) (Ok xs) = Ok (x ∷ xs)

-- what each item gives with its number, the first of which is n, or the first fault
abbrev pub each_from : {X Y : Type 0} → (ℕ → X → Result Y CsvFault) → ℕ → List X
    → Result (List Y) CsvFault
each_from f n [] = Ok []
each_from f n (x ∷ xs) = with_first (f n x) (each_from f (n + 1) xs)

-- these items and then one more, or its fault
abbrev pub then_one : {X : Type 0} → List X → Result X CsvFault → Result (List X) CsvFault
then_one xs (Ok x) = Ok (xs ++ x ∷ [])
then_one xs (Err e) = Err e

-- a value that was written, where there was no error
abbrev pub with_value : {X Y : Type 0} → X → Result Y CsvFault → Result X CsvFault
with_value x (Ok y) = Ok x
with_value x (Err e) = Err e

-- the answer is the one that is meant, or memory ran out
abbrev pub IsUnlessMemory : {X : Type 0} → Result X CsvFault → Result X CsvFault → Type 0
IsUnlessMemory answer meant = IsUnless fault.NoMemory answer meant

-- this is so, or memory ran out
abbrev pub HoldsUnlessMemory : {X : Type 0} → Result X CsvFault → Type 0 → Type 0
HoldsUnlessMemory (Ok x) holds = holds
HoldsUnlessMemory (Err e) holds = e ≢ fault.NoMemory → holds

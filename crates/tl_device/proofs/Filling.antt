-- What a reader loses from one read to the next, and where the bytes stand.
use Rattle.std.proofs.Common.{◌≡◌, ℕ, ◌+◌, List, ◌++◌, length, take, drop, Option, Result, Ok, Err, IfOk, sym, ap, ◌∙◌, subst, drop_at}
use Rattle.std.proofs.Math.Seq.{take-add}
use Rattle.std.proofs.KnownBytes.{Consumes-trans}
use lib.Seq.{take-append-le}
use Rattle.std.specs.Io.{ReadsAtMost}
use Rattle.std.specs.Io.KnownBytes.{Consumes, ReadConsumes}

-- what was read into a part stands behind the front
pub read_in_place : {E : Type 0} (a b : Option (List ℕ)) (r : Result ℕ E) (front part rest : List ℕ) (at : ℕ) → length front ≡ at → ReadsAtMost r part → ReadConsumes a b r part → IfOk r (λ n. Consumes a b (take n (drop at (front ++ (part ++ rest)))))
read_in_place a b (Ok n) front part rest at long fits read = subst (Consumes a b) (sym (ap (take n) (drop_at front (part ++ rest) at long) ∙ take-append-le n part rest fits.0)) read.0
read_in_place a b (Err e) front part rest at long fits read = tt

-- one read more behind what was filled so far
pub filled_more : (a b c : Option (List ℕ)) (old new : List ℕ) (at n : ℕ) → take at new ≡ take at old → Consumes a b (take at old) → Consumes b c (take n (drop at new)) → Consumes a c (take (at + n) new)
filled_more a b c old new at n front so_far more =
    subst (λ (l : List ℕ). Consumes a c l) (ap (λ (l : List ℕ). l ++ take n (drop at new)) (sym front) ∙ sym (take-add at n new)) (Consumes-trans a b c (take at old) (take n (drop at new)) so_far more)

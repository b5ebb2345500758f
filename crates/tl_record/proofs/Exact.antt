-- What an exact reader is: it reads the one spelling of each value that fits, and its faults say
-- what they mean.
use Rattle.std.proofs.Common.{◌≡◌, ◌≢◌, ℕ, zero, suc, ◌/◌, ◌%◌, List, [], ◌∷◌, ◌++◌, Ok, Err}
use Rattle.tl_record.specs.declared.faults.Fault.TheVariants.{Short, Bad}
use Rattle.tl_record.specs.Reading.{Reader, weight}

-- `read` reads exactly what `spell` spells of the values that fit
pub record Reads {A : Type 0} (read : Reader A) (spell : A → List ℕ) (Fits : A → Type 0) : Type 0 where
  pub again : (x : A) (rest : List ℕ) → Fits x → read (spell x ++ rest) ≡ Ok (x, rest)
  pub takes : (bytes rest : List ℕ) (x : A) → read bytes ≡ Ok (x, rest)
      → Fits x × (bytes ≡ spell x ++ rest)
  pub short : (bytes : List ℕ) → read bytes ≡ Err Short
      → (x : A) × (more : List ℕ) × Fits x × (more ≢ []) × (bytes ++ more ≡ spell x)
  pub bad : (bytes : List ℕ) → read bytes ≡ Err Bad
      → (x : A) (more rest : List ℕ) → Fits x → bytes ++ more ≢ spell x ++ rest

-- the spelling and the facts of two values in turn
abbrev pub SpellsIn : {A B : Type 0} → (A → List ℕ) → (A → B → List ℕ) → A × B → List ℕ
SpellsIn s t p = s p.0 ++ t p.0 p.1

abbrev pub FitsIn : {A B : Type 0} → (A → Type 0) → (A → B → Type 0) → A × B → Type 0
FitsIn F G p = F p.0 × G p.0 p.1

-- the byte alone
abbrev pub one : ℕ → List ℕ
one b = b ∷ []

-- n bytes, the most significant first
abbrev pub spelled : ℕ → ℕ → List ℕ
spelled zero v = []
spelled (suc n) v = v / weight n ∷ spelled n (v % weight n)

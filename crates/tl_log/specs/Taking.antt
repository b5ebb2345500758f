-- What is taken of a source.
use Rattle.std.specs.Prelude.{◌≡◌, ◌<◌, ℕ, Bool, true, false, List, [], ◌++◌, length, Option, Some, Result, Ok, Err}
use Rattle.tl_device.specs.Known.{prepend_known, Rose}
use Rattle.tl_log.specs.declared.reading.ReadFault.{ReadFault}
use Rattle.tl_log.specs.declared.reading.ReadFault.TheVariants as fault

-- a source that tells its bytes has none left
abbrev pub IsAtEnd : Option (List ℕ) → Type 0
IsAtEnd left = (b : List ℕ) → left ≡ Some b → b ≡ []

-- some further bytes of a source stand behind those taken before, or it has no more
abbrev pub Takes : Option (List ℕ) → List ℕ → Result Bool ReadFault → Option (List ℕ) → List ℕ
    → Type 0
Takes before old (Ok true) after new =
    (some : List ℕ) × (0 < length some) × (before ≡ prepend_known some after) × (new ≡ old ++ some)
Takes before old (Ok false) after new = (new ≡ old) × IsAtEnd before
Takes before old (Err e) after new = Unit {0}

-- the count of faults of a source whose reading failed
abbrev pub CountsRead : ReadFault → ℕ → ℕ → Type 0
CountsRead (fault.Source faults) before after = (faults ≡ after) × Rose before after
CountsRead fault.NoMemory before after = Unit {0}

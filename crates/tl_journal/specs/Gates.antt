-- A gate while it is opened.
use Rattle.std.specs.Prelude.{◌≡◌, ℕ, List, [], ◌∷◌, ◌++◌}

-- what stands before, and then any gate, a record and a closed gate
abbrev pub EndsGated : List ℕ → List ℕ → List ℕ → Type 0
EndsGated front r image = (gate : ℕ) × (image ≡ front ++ gate ∷ (r ++ 0 ∷ []))

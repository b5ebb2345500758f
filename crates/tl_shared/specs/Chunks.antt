-- A list in chunks.
use Rattle.std.specs.Prelude.{◌≡◌, ℕ, ◌%◌, ◌<◌, ◌≤◌, ◌^◌, List, [], ◌∷◌, fold, length, slice_index_or, slice_set}
use Rattle.std.specs.List.{flat_map}

-- the pieces, one after another
abbrev pub flatten : {X : Type 0} → List (List X) → List X
flatten pieces = flat_map (λ piece. piece) pieces

-- each piece has `size` items
abbrev pub AreFull : {X : Type 0} → ℕ → List (List X) → Type 0
AreFull size [] = Unit {0}
AreFull size (piece ∷ rest) = (length piece ≡ size) × AreFull size rest

-- each piece but the last has `size` items, and the last has 1 to `size`
abbrev pub IsChunked : {X : Type 0} → ℕ → List (List X) → Type 0
IsChunked size [] = Unit {0}
IsChunked size (last ∷ []) = (0 < length last) × (length last ≤ size)
IsChunked size (piece ∷ next ∷ rest) = (length piece ≡ size) × IsChunked size (next ∷ rest)

-- piece `i`, the empty list where there is none
abbrev pub piece_or_nil : {X : Type 0} → ℕ → List (List X) → List X
piece_or_nil i pieces = slice_index_or pieces i []

-- pieces of `size` items, of which there are `len` in all
pub record IsList {X : Type 0} (size : ℕ) (pieces : List (List X)) (len : ℕ) : Type 0 where
  pub some : 0 < size
  pub few : size < 2 ^ 63
  pub chunked : IsChunked size pieces
  pub len_is : len ≡ length (flatten pieces)

-- the list with the item at each of these places
abbrev pub set_each : {X : Type 0} → X → List X → List ℕ → List X
set_each item xs places = fold (λ items place. slice_set items place item) xs places

-- the piece with the item at each of these places of a list in pieces of `size`
abbrev pub set_within : {X : Type 0} → ℕ → X → List X → List ℕ → List X
set_within size item xs places = fold (λ items place. slice_set items (place % size) item) xs places

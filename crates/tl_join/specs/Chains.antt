-- Chains of rows in an array of links.
use Rattle.std.specs.Prelude.{◌≡◌, ℕ, zero, suc, pos, ℤ, ◌+◌, ◌≤◌, ◌<◌, Bool, int_le, List, [], ◌∷◌, length, map, reverse, take, get_or, slice_set, if◌then◌else◌, true, false}
use Rattle.std.specs.List.{filter}
use Rattle.tl_types.specs.declared.runs.Pair.{Pair}
use Rattle.tl_join.specs.declared.entries.Entry.{Entry}
use Rattle.tl_join.specs.Sweep.{pair_at, stands_at}

-- what stands for the row at a place where there is none
abbrev pub nobody : Entry
nobody = record { id = 0; code = 0; begin = pos 0; end = pos 0 }

-- the slot of a key behind those of so many rows
abbrev pub key_slot : ℕ → ℕ → ℕ
key_slot rows code = rows + 1 + code

-- the rows from a slot on, link by link, at most so many
abbrev pub rows_from : ℕ → List Entry → List ℕ → ℕ → List Entry
rows_from zero rows links slot = []
rows_from (suc most) rows links zero = []
rows_from (suc most) rows links (suc at) =
    get_or rows at nobody ∷ rows_from most rows links (get_or links (suc at) 0)

-- the rows behind a slot
abbrev pub behind : List Entry → List ℕ → ℕ → List Entry
behind rows links slot = rows_from (length rows) rows links (get_or links slot 0)

-- the rows of a key's chain, the last one first
abbrev pub chain_of : List Entry → List ℕ → ℕ → List Entry
chain_of rows links code = behind rows links (key_slot (length rows) code)

-- each link is 0 or the slot of one of so many rows, and that of a row leads to an earlier one
pub record AreLinked (rows : ℕ) (links : List ℕ) : Type 0 where
  pub inside : (slot : ℕ) → get_or links slot 0 ≤ rows
  pub falls : (at : ℕ) → at < rows → get_or links (suc at) 0 ≤ at

-- no link leads to a row behind so many
abbrev pub AreTaken : ℕ → List ℕ → Type 0
AreTaken taken links = (slot : ℕ) → get_or links slot 0 ≤ taken

-- the links still lead to the same rows of those that stand at a moment, and to no later ones
pub record AreKept (rows : List Entry) (t : ℤ) (old new : List ℕ) : Type 0 where
  pub size : length new ≡ length old
  pub linked : AreLinked (length rows) new
  pub taken : (taken : ℕ) → AreTaken taken old → AreTaken taken new
  pub same : (slot : ℕ) →
      filter (stands_at t) (behind rows new slot) ≡ filter (stands_at t) (behind rows old slot)

-- the links after a row that begins was paired, where it begins not before the first moment
abbrev pub AreMatched : List Entry → ℤ → Entry → List ℕ → List ℕ → Type 0
AreMatched rows first e old new =
    (int_le first e.begin ≡ true → AreKept rows e.begin old new)
    × (int_le first e.begin ≡ false → new ≡ old)

-- the links with the row of a slot in front of its key's chain
abbrev pub with_front : ℕ → ℕ → ℕ → List ℕ → List ℕ
with_front rows slot code links =
    slice_set (slice_set links slot (get_or links (key_slot rows code) 0)) (key_slot rows code) slot

-- the pairs of a row that begins, not before the first moment, with those of a chain that stand
-- then
abbrev pub met : ℤ → Bool → Entry → List Entry → List Pair
met first turned e chain =
    if int_le first e.begin then map (pair_at turned e) (filter (stands_at e.begin) chain) else []

-- the same pairs, that of the chain's first row last
abbrev pub found : ℤ → Bool → Entry → List Entry → List Pair
found first turned e chain = reverse (met first turned e chain)

-- the rows before a place, the last one first
abbrev pub back : ℕ → List Entry → List Entry
back i es = reverse (take i es)

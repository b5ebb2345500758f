-- The pairs of two lists of rows that stand for a while.
use Rattle.std.specs.Prelude.{◌≡◌, ℕ, ℤ, ◌<◌, ◌≤ℤ◌, ◌<ℤ◌, Bool, ◌&&◌, int_le, int_lt, ◌==◌, List, [], ◌∷◌, length, Option, Some, None, sum_by, slice_get, slice_index_or, if◌then◌else◌}
use Rattle.std.specs.Bool.{⊤}
use Rattle.std.specs.Int.{int_min, int_max}
use Rattle.std.specs.List.{filter_map, flat_map, AllByRecursion}
use Rattle.tl_types.specs.declared.runs.Pair.{Pair}
use Rattle.tl_join.specs.declared.entries.Entry.{Entry}

-- two lists with the same items, each as often: each sum over them is the same
abbrev pub AreSame : {X : Type 0} → List X → List X → Type 0
AreSame {X} xs ys = (f : X → ℕ) → sum_by f xs ≡ sum_by f ys

-- a row that begins at a moment, and one that stood before: as a pair, the first of them left, or
-- where turned right
abbrev pub pair_at : Bool → Entry → Entry → Pair
pair_at turned e o =
    record {
      from = e.begin;
      to = int_min e.end o.end;
      left = if turned then o.id else e.id;
      right = if turned then e.id else o.id;
    }

-- the row stands at the moment, if it began by then
abbrev pub stands_at : ℤ → Entry → Bool
stands_at t e = int_lt t e.end

-- the row has the key with this number
abbrev pub has_code : ℕ → Entry → Bool
has_code code e = e.code == code

-- the pair of a left and a right row: their keys are equal, and what they have in common is not
-- empty and begins not before the first moment
abbrev pub made : ℤ → Entry → Entry → Option Pair
made first l r =
    if (l.code == r.code)
    && (int_le first (int_max l.begin r.begin)
    && int_lt (int_max l.begin r.begin) (int_min l.end r.end)) then Some (record {
      from = int_max l.begin r.begin;
      to = int_min l.end r.end;
      left = l.id;
      right = r.id;
    }) else None

-- all pairs of two lists of rows, left row by left row
abbrev pub grid : ℤ → List Entry → List Entry → List Pair
grid first ls rs = flat_map (λ l. filter_map (made first l) rs) ls

-- the row begins, then ends, and its key has a number below the count
abbrev pub IsEntry : ℕ → Entry → Type 0
IsEntry codes e = (e.begin <ℤ e.end) × (e.code < codes)

-- none of the rows begins after a moment
abbrev pub AreBy : ℤ → List Entry → Type 0
AreBy t es = AllByRecursion (λ e. e.begin ≤ℤ t) es

-- each row begins by the time at which each later one does
abbrev pub Rises : List Entry → Type 0
Rises [] = ⊤
Rises (e ∷ es) = AllByRecursion (λ o. e.begin ≤ℤ o.begin) es × Rises es

-- rows with one id are one row
abbrev pub AreOne : List Entry → Type 0
AreOne es =
    (i j : ℕ) (e o : Entry) → slice_get es i ≡ Some e → slice_get es j ≡ Some o → e.id ≡ o.id
    → e ≡ o

-- each row of the rest begins not before each one of the taken
abbrev pub AreBelow : List Entry → List Entry → Type 0
AreBelow taken rest = AllByRecursion (λ e. AreBy e.begin taken) rest

-- the list has a row at the place, which begins not after what the other has at its place, where it
-- has one
abbrev pub IsNextOf : List Entry → ℕ → List Entry → ℕ → Type 0
IsNextOf es i os j =
    (i < length es)
    × (j < length os → (d : Entry) →
    (slice_index_or es i d).begin ≤ℤ (slice_index_or os j d).begin)

-- The maximal runs of a function of time.
use Rattle.std.specs.Prelude.{ℕ, zero, suc, ℤ, pos, negsuc, ◌+ℤ◌, ◌-ℤ◌, Bool, true, false, ◌&&◌, ◌==◌, List, [], ◌∷◌, None, if◌then◌else◌}
use Rattle.std.specs.List.{fold}
use Rattle.std.specs.Ordering.{int_eq}
use Rattle.tl_types.specs.declared.answers.Field.{Field}
use Rattle.tl_types.specs.declared.runs.Run.{Run}
use Rattle.tl_types.specs.declared.answers.Field.TheVariants as field
use Rattle.tl_types.specs.Names.{same_bytes}

-- two fields are the same: a sum over a count is not reduced, and no field is nothing
abbrev pub same_field : Field → Field → Bool
same_field (field.Number i) (field.Number j) = int_eq i j
same_field (field.Text t) (field.Text u) = same_bytes t u
same_field (field.Ratio s c) (field.Ratio r d) = int_eq s r && (c == d)
same_field field.Empty field.Empty = true
same_field field.Forever field.Forever = true
same_field x y = false

-- the runs, and a stretch of time behind them: the last run goes on where it has the same value,
-- else a run begins
abbrev pub add_stretch : List Run → Run → List Run
add_stretch [] stretch = stretch ∷ []
add_stretch (run ∷ []) stretch =
    if same_field run.value stretch.value then record run { to = stretch.to } ∷ []
    else run ∷ stretch ∷ []
add_stretch (run ∷ next ∷ runs) stretch = run ∷ add_stretch (next ∷ runs) stretch

-- there are runs, and the last one has this value
abbrev pub ends_with_value : List Run → Field → Bool
ends_with_value [] value = false
ends_with_value (run ∷ []) value = same_field run.value value
ends_with_value (run ∷ next ∷ runs) value = ends_with_value (next ∷ runs) value

-- the runs, and behind them those of a range that begins where they end
abbrev pub seam : List Run → List Run → List Run
seam left right = fold add_stretch left right

-- a stretch of time with one value
abbrev pub stretch_of : ℤ → ℤ → Field → Run
stretch_of from to value = record { group = None; from = from; to = to; value = value }

-- the runs over so many moments from the first on, one moment more at a time
unfoldable pub runs_over : (ℤ → Field) → ℤ → ℕ → List Run
runs_over f from zero = []
runs_over f from (suc n) =
    add_stretch (runs_over f from n)
    (stretch_of (from +ℤ pos n) (from +ℤ pos n +ℤ pos 1) (f (from +ℤ pos n)))

-- a whole number as a count: none where it is negative
abbrev pub count_of : ℤ → ℕ
count_of (pos n) = n
count_of (negsuc n) = 0

-- the runs over the moments m with from ≤ m < to
abbrev pub runs_of : (ℤ → Field) → ℤ → ℤ → List Run
runs_of f from to = runs_over f from (count_of (to -ℤ from))

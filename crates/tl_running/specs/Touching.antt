-- Runs of a group, which may have gaps between them: times at which the group has no row.
use Rattle.std.specs.Prelude.{◌≡◌, ℤ, ◌<ℤ◌, Bool, false, ◌&&◌, List, [], ◌∷◌, if◌then◌else◌}
use Rattle.std.specs.Ordering.{int_eq}
use Rattle.tl_types.specs.declared.runs.Run.{Run}
use Rattle.tl_types.specs.Runs.{same_field}

-- a run goes on as a stretch behind it: it has the same value, and ends where the stretch begins
abbrev pub goes_on_as : Run → Run → Bool
goes_on_as run stretch = same_field run.value stretch.value && int_eq run.to stretch.from

-- the runs, and a stretch of time behind them: the last run goes on where it has the same value and
-- ends where the stretch begins, else a run begins
abbrev pub add_touching : List Run → Run → List Run
add_touching [] stretch = stretch ∷ []
add_touching (run ∷ []) stretch =
    if goes_on_as run stretch then record run { to = stretch.to } ∷ [] else run ∷ stretch ∷ []
add_touching (run ∷ next ∷ runs) stretch = run ∷ add_touching (next ∷ runs) stretch

-- there are runs, and the last one goes on as the stretch
abbrev pub last_goes_on : List Run → Run → Bool
last_goes_on [] stretch = false
last_goes_on (run ∷ []) stretch = goes_on_as run stretch
last_goes_on (run ∷ next ∷ runs) stretch = last_goes_on (next ∷ runs) stretch

-- each run begins where the one before it ends, from one moment up to another
abbrev pub Cover : ℤ → ℤ → List Run → Type 0
Cover from to [] = from ≡ to
Cover from to (run ∷ runs) = (run.from ≡ from) × (run.from <ℤ run.to) × Cover run.to to runs

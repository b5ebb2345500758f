-- Which rows a plain answer looks at.
use Rattle.std.specs.Prelude.{◌≡◌, ◌⊎◌, ◌<ℤ◌, ◌≤ℤ◌, ℕ, ℤ, Bool, true, ◌&&◌}
use Rattle.std.specs.Prelude.{List, map, Option, Some, None}
use Rattle.std.specs.Borrow.{Bor}
use Rattle.std.specs.List.{filter}
use Rattle.tl_types.specs.History.{is_visible, is_within}
use Rattle.tl_types.specs.Plain as plain
use Rattle.tl_query.specs.declared.typed_queries.Span.{Span}
use Rattle.tl_query.specs.declared.typed_queries.TypedPred.{TypedPred}
use Rattle.tl_query.specs.Passing.{passes}
use Rattle.tl_query.specs.Joins.{times_of}

-- the row is valid at the moment, where one is given
abbrev pub is_valid_at : Option ℤ → plain.Row → Bool
is_valid_at None row = true
is_valid_at (Some moment) row = is_within moment row.period

-- the row stands at the version, is valid at the moment where one is given, and passes
abbrev pub is_selected : TypedPred → Option ℤ → ℕ → plain.Row → Bool
is_selected pred valid_at version row =
    is_visible version row && is_valid_at valid_at row && passes pred row

-- the rows that are lent
abbrev pub lent : List (Bor plain.Row) → List plain.Row
lent rows = map (λ r. r.now) rows

-- the row is there at a moment of the range's time
abbrev pub is_there : Span → ℤ → plain.Row → Bool
is_there span moment row = is_within moment (times_of span row)

-- the rows that are there at a moment of the range's time
abbrev pub there_at : Span → List plain.Row → ℤ → List plain.Row
there_at span rows moment = filter (is_there span moment) rows

-- the change does not come after the first moment and before the second
abbrev pub IsClear : ℤ → ℤ → ℤ → Type 0
IsClear at next change = (change ≤ℤ at) ⊎ (next ≤ℤ change)

-- the row is there at each moment from the first on and before the second, or at none
abbrev pub IsSteady : Span → ℤ → ℤ → plain.Row → Type 0
IsSteady span at next row =
    (moment : ℤ) → at ≤ℤ moment → moment <ℤ next → is_there span moment row ≡ is_there span at row

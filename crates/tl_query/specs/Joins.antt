-- Joins over time.
use Rattle.std.specs.Prelude.{ℕ, ℤ, pos, Bool, ◌&&◌, int_lt, List, Option, Some, None, if◌then◌else◌}
use Rattle.std.specs.List.{filter_map, flat_map}
use Rattle.std.specs.Int.{int_min, int_max}
use Rattle.tl_types.specs.declared.runs.Pair.{Pair}
use Rattle.tl_types.specs.History.{with_ids, is_visible, rows_of, cell_at}
use Rattle.tl_types.specs.Resolving.{same_key}
use Rattle.tl_types.specs.Plain as plain
use Rattle.tl_query.specs.declared.typed_queries.Span.{Span}
use Rattle.tl_query.specs.declared.typed_queries.Span.TheVariants as span
use Rattle.tl_query.specs.declared.typed_queries.TypedPred.{TypedPred}
use Rattle.tl_query.specs.Passing.{passes}
use Rattle.tl_query.specs.Ordered.{in_order, pair_before}
use Rattle.tl_query.specs.Aggregates.{span_start, span_end}

-- the times of a row in the range's time: the versions at which it stands, or its valid period
-- where it stands at the range's version
abbrev pub times_of : Span → plain.Row → Option plain.Period
times_of (span.System from to) row = Some (record { from = pos row.from; to = pos row.to })
times_of (span.Valid version from to) row = if is_visible version row then row.period else None

-- a pair of two rows over these times, where they are not empty
abbrev pub pair_from : ℕ → ℕ → ℤ → ℤ → Option Pair
pair_from left right from to =
    if int_lt from to then Some (record { from = from; to = to; left = left; right = right }) else
    None

-- what the times of two rows and the range have in common, as a pair of these rows, where that is
-- not empty
abbrev pub common_pair : Span → ℕ → ℕ → Option plain.Period → Option plain.Period → Option Pair
common_pair span left right None q = None
common_pair span left right (Some p) None = None
common_pair span left right (Some p) (Some q) =
    pair_from left right (int_max (int_max p.from q.from) (span_start span))
    (int_min (int_min p.to q.to) (span_end span))

-- both rows pass, and their cells in the columns of the join are equal
abbrev pub match_rows : TypedPred → TypedPred → ℕ → ℕ → plain.Row → plain.Row → Bool
match_rows left_pred right_pred left_on right_on left right =
    passes left_pred left && passes right_pred right
    && same_key (cell_at left.cells left_on) (cell_at right.cells right_on)

-- the pair of a left and a right row, where they make one
abbrev pub pair_of : TypedPred → TypedPred → ℕ → ℕ → Span → ℕ × plain.Row → ℕ × plain.Row
    → Option Pair
pair_of left_pred right_pred left_on right_on span left right =
    if match_rows left_pred right_pred left_on right_on left.1 right.1 then common_pair span left.0
    right.0 (times_of span left.1) (times_of span right.1) else None

-- the pairs of all rows of two lists, left row by left row
abbrev pub pairs_of : TypedPred → TypedPred → ℕ → ℕ → Span → List plain.Row → List plain.Row
    → List Pair
pairs_of left_pred right_pred left_on right_on span lefts rights =
    flat_map (λ l. filter_map (pair_of left_pred right_pred left_on right_on span l)
    (with_ids rights)) (with_ids lefts)

-- the pairs of a join, in the order of their first moments, left rows and right rows
unfoldable pub joined_pairs : plain.Database → ℕ → TypedPred → ℕ → TypedPred → ℕ → ℕ → Span
    → List Pair
joined_pairs db left left_pred right right_pred left_on right_on span =
    in_order pair_before
    (pairs_of left_pred right_pred left_on right_on span (rows_of db left) (rows_of db right))

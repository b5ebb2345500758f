-- What is paired of two sides.
use Rattle.std.specs.Prelude.{ℕ, Bool, List, Option}
use Rattle.tl_types.specs.declared.answers.Field.{Field}
use Rattle.tl_types.specs.declared.runs.Pair.{Pair}
use Rattle.tl_types.specs.Plain as plain
use Rattle.tl_query.specs.Ordered.{in_order, pair_before}
use Rattle.tl_query.specs.Joins.{match_rows, pair_of, pairs_of}
use Rattle.tl_query.specs.Answers.{pair_fields}
use Rattle.tl_plain.specs.declared.joins.Sides.{Sides}

-- the rows of the two sides pass and have equal cells
abbrev pub match_sides : Sides → plain.Row → plain.Row → Bool
match_sides sides left right =
    match_rows sides.left.pred.now sides.right.pred.now sides.left.on sides.right.on left right

-- the pair of a left and a right row, where they make one
abbrev pub pair_on : Sides → ℕ × plain.Row → ℕ × plain.Row → Option Pair
pair_on sides left right =
    pair_of sides.left.pred.now sides.right.pred.now sides.left.on sides.right.on sides.span
    left right

-- the pairs of the two sides, left row by left row
abbrev pub pairs_by_row : Sides → List Pair
pairs_by_row sides =
    pairs_of sides.left.pred.now sides.right.pred.now sides.left.on sides.right.on sides.span
    sides.left.rows.now sides.right.rows.now

-- the pairs of the two sides, in order
abbrev pub pairs_on : Sides → List Pair
pairs_on sides = in_order pair_before (pairs_by_row sides)

-- a pair as a row
abbrev pub fields_on : Sides → Pair → List Field
fields_on sides pair = pair_fields sides.left.rows.now sides.right.rows.now pair

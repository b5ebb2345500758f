-- What of a join falls into a piece of its range.
use Rattle.std.specs.Prelude.{◌≡◌, ℕ, pos, Bool, ◌&&◌, ◌||◌, nat_le, nat_lt, int_le, int_lt, List, map, Option, Some, None, min, max, if◌then◌else◌}
use Rattle.std.specs.List.{filter, filter_map}
use Rattle.tl_types.specs.declared.runs.Pair.{Pair}
use Rattle.tl_types.specs.History.{with_ids, is_visible, rows_of}
use Rattle.tl_types.specs.Plain as plain
use Rattle.tl_query.specs.declared.typed_queries.JoinPlan.{JoinPlan}
use Rattle.tl_query.specs.declared.typed_queries.Span.TheVariants as span
use Rattle.tl_query.specs.declared.typed_queries.TypedPred.{TypedPred}
use Rattle.tl_query.specs.Joins.{joined_pairs}
use Rattle.tl_query.specs.Passing.{passes, passing}
use Rattle.tl_join.specs.declared.entries.Entry.{Entry}
use Rattle.tl_types.specs.declared.runs.Piece.{Piece}

-- the pair begins at the first of two versions or later, and before the second
abbrev pub is_in_piece : ℕ → ℕ → Pair → Bool
is_in_piece from to pair = int_le (pos from) pair.from && int_lt pair.from (pos to)

-- the row stands at the piece's first version, or begins in the piece
abbrev pub is_there : ℕ → ℕ → plain.Row → Bool
is_there from to row =
    (nat_le row.from from && nat_lt from row.to) || (nat_lt from row.from && nat_lt row.from to)

-- what a row has of the range from a version on and before another, with the number of its key
abbrev pub entry_of : ℕ → ℕ → (plain.Row → ℕ) → ℕ × plain.Row → Entry
entry_of a b code r =
    record { id = r.0; code = code r.1; begin = pos (max r.1.from a); end = pos (min r.1.to b) }

-- the same of a row that passes and is there in the piece
abbrev pub entry_in : ℕ → ℕ → ℕ → ℕ → TypedPred → (plain.Row → ℕ) → ℕ × plain.Row → Option Entry
entry_in a b from to pred code r =
    if passes pred r.1 && is_there from to r.1 then Some (entry_of a b code r) else None

-- the rows that pass and are there in the piece, in order of id
abbrev pub entries_in : ℕ → ℕ → ℕ → ℕ → TypedPred → (plain.Row → ℕ) → List plain.Row → List Entry
entries_in a b from to pred code rows = filter_map (entry_in a b from to pred code) (with_ids rows)

-- which rows stand at a version and pass
abbrev pub starting : ℕ → TypedPred → List plain.Row → List Bool
starting version pred rows = map (λ row. is_visible version row && passes pred row) rows

-- the sets are those of two predicates at a piece's first version, and the range of the plan is
-- from a version on and before another
pub record AreOf (db : plain.Database) (plan : JoinPlan) (piece : Piece)
    (left_start left_keep right_start right_keep : List Bool) (left_pred right_pred : TypedPred)
    (a b : ℕ) : Type 0 where
  pub from : plan.from ≡ pos a
  pub to : plan.to ≡ pos b
  pub left_keeps : left_keep ≡ passing left_pred (rows_of db plan.left)
  pub left_starts : left_start ≡ starting piece.from left_pred (rows_of db plan.left)
  pub right_keeps : right_keep ≡ passing right_pred (rows_of db plan.right)
  pub right_starts : right_start ≡ starting piece.from right_pred (rows_of db plan.right)

-- the sets are those of some two predicates, and the plan's range is one of versions
abbrev pub AreOfSome : plain.Database → JoinPlan → Piece → List Bool → List Bool → List Bool
    → List Bool → Type 0
AreOfSome db plan piece left_start left_keep right_start right_keep =
    (left_pred : TypedPred) × (right_pred : TypedPred) × (a : ℕ) × (b : ℕ)
    × AreOf db plan piece left_start left_keep right_start right_keep left_pred right_pred a b

-- the pairs of the plan's join that begin in the piece, in their order
unfoldable pub pairs_in : plain.Database → JoinPlan → Piece → TypedPred → TypedPred → ℕ → ℕ
    → List Pair
pairs_in db plan piece left_pred right_pred a b =
    filter (is_in_piece piece.from piece.to) (joined_pairs db plan.left left_pred plan.right
    right_pred plan.left_on plan.right_on (span.System a b))

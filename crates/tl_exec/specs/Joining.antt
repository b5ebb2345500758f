-- Joins over versions, piece by piece.
use Rattle.std.specs.Prelude.{◌≡◌, ◌+◌, ◌<◌, ◌≤◌, pos, Bool, List, length}
use Rattle.tl_types.specs.declared.commits.Entry.{Entry}
use Rattle.tl_types.specs.declared.runs.Pair.{Pair}
use Rattle.tl_types.specs.declared.runs.Piece.{Piece}
use Rattle.tl_types.specs.Entries.{commits_of}
use Rattle.tl_types.specs.History.{database_of, rows_of}
use Rattle.tl_types.specs.Plain as plain
use Rattle.tl_query.specs.declared.typed_queries.JoinPlan.{JoinPlan}
use Rattle.tl_query.specs.declared.typed_queries.TypedPred.{TypedPred}
use Rattle.tl_store.specs.Reading.{columns_of}
use Rattle.tl_join.specs.Pieces.{pairs_in}
use Rattle.tl_query.specs.Passing.{passing}

-- a join of two tables of a snapshot over a range of versions, with the rows of each side that may
-- stand in a pair
pub record JoinOf : Type 0 where
  pub entries : List Entry
  pub plan : JoinPlan
  pub range : Piece
  pub left_keep : List Bool
  pub right_keep : List Bool

-- the database of the join's snapshot
abbrev pub joined_in : JoinOf → plain.Database
joined_in join = database_of (commits_of join.entries)

-- the plan's range is the join's, and the rows of each side that may stand in a pair are those that
-- pass a predicate
pub record IsBetween (join : JoinOf) (left_pred right_pred : TypedPred) : Type 0 where
  pub from : join.plan.from ≡ pos join.range.from
  pub to : join.plan.to ≡ pos join.range.to
  pub lefts : join.left_keep ≡ passing left_pred (rows_of (joined_in join) join.plan.left)
  pub rights : join.right_keep ≡ passing right_pred (rows_of (joined_in join) join.plan.right)

-- the tables, columns and versions of the join are there, and its rows are those that pass some two
-- predicates
pub record CanJoin (join : JoinOf) : Type 0 where
  pub left : join.plan.left < length (joined_in join).tables
  pub right : join.plan.right < length (joined_in join).tables
  pub left_column : join.plan.left_on < length (columns_of (joined_in join) join.plan.left)
  pub right_column : join.plan.right_on < length (columns_of (joined_in join) join.plan.right)
  pub within : join.range.to ≤ (joined_in join).version + 1
  pub left_pred : TypedPred
  pub right_pred : TypedPred
  pub are : IsBetween join left_pred right_pred

-- the piece is within the join's range
pub record IsWithin (join : JoinOf) (piece : Piece) : Type 0 where
  pub from : join.range.from ≤ piece.from
  pub to : piece.to ≤ join.range.to

-- the pairs are those of the join that begin in the piece
abbrev pub ArePairsOver : JoinOf → Piece → List Pair → Type 0
ArePairsOver join piece pairs =
    (left_pred right_pred : TypedPred) → IsBetween join left_pred right_pred
    → pairs ≡ pairs_in (joined_in join) join.plan piece left_pred right_pred join.range.from
    join.range.to

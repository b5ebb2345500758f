-- Joins that suit a database.
use Rattle.std.specs.Prelude.{◌≡◌, ◌+◌, ◌<◌, ◌≤◌, pos, length, IsTrue}
use Rattle.tl_types.specs.Plain as plain
use Rattle.tl_query.specs.declared.typed_queries.Typed.{Typed}
use Rattle.tl_query.specs.declared.typed_queries.Typed.TheVariants as typed
use Rattle.tl_store.specs.Reading.{columns_of, has_periods}
use Rattle.tl_filter.specs.Selecting.{IsTypedPredFor}
use Rattle.tl_exec.specs.declared.join_answers.AskedPairs.{AskedPairs}
use Rattle.tl_exec.specs.declared.join_answers.Joined.{Joined}
use Rattle.tl_exec.specs.declared.moment_joins.JoinedAt.{JoinedAt}

-- the query for the pairs that are asked for
abbrev pub query_of : AskedPairs → Typed
query_of asked =
    typed.Join asked.left asked.left_pred.now asked.right asked.right_pred.now asked.left_on
    asked.right_on asked.span

-- the tables and columns are there, each predicate suits its table, and the range is one of
-- versions that are there
pub record IsJoinFor (db : plain.Database) (joined : Joined) : Type 0 where
  pub left : joined.plan.left < length db.tables
  pub right : joined.plan.right < length db.tables
  pub left_column : joined.plan.left_on < length (columns_of db joined.plan.left)
  pub right_column : joined.plan.right_on < length (columns_of db joined.plan.right)
  pub left_typed : IsTypedPredFor db joined.plan.left joined.left_pred.now
  pub right_typed : IsTypedPredFor db joined.plan.right joined.right_pred.now
  pub from : joined.plan.from ≡ pos joined.range.from
  pub to : joined.plan.to ≡ pos joined.range.to
  pub within : joined.range.to ≤ db.version + 1

-- the tables and columns are there, the rows of both have valid periods, each predicate suits its
-- table, and the version is there
pub record IsJoinAtFor (db : plain.Database) (joined : JoinedAt) : Type 0 where
  pub left : joined.plan.left < length db.tables
  pub right : joined.plan.right < length db.tables
  pub left_valid : IsTrue (has_periods db joined.plan.left)
  pub right_valid : IsTrue (has_periods db joined.plan.right)
  pub left_column : joined.plan.left_on < length (columns_of db joined.plan.left)
  pub right_column : joined.plan.right_on < length (columns_of db joined.plan.right)
  pub left_typed : IsTypedPredFor db joined.plan.left joined.left_pred.now
  pub right_typed : IsTypedPredFor db joined.plan.right joined.right_pred.now
  pub known : joined.version ≤ db.version

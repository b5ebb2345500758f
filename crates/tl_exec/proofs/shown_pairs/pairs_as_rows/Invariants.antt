use Rattle.std.proofs.Common.{◌≡◌, ◌+◌, ◌*◌, ◌≤◌, [], map, take, length}
use Rattle.tl_types.specs.History.{database_of, rows_of}
use Rattle.tl_query.specs.Answers.{pair_fields}
use Rattle.tl_store.specs.Reading.{columns_of}
use Rattle.tl_exec.proofs.shown_pairs.pairs_as_rows.Given as goal

abbrev pub invariant-loop-pair : goal.invariant-loop-pair
invariant-loop-pair g l = record {
  rows : l.rows.rows ≡ map (pair_fields (rows_of (database_of l.store) l.plan.left) (rows_of (database_of l.store) l.plan.right)) (take l.pair-index l.pairs);
  between : l.rows.row ≡ [];
  steps : l.steps ≤ l.initial.steps + (length (columns_of (database_of l.store) l.plan.left) + length (columns_of (database_of l.store) l.plan.right)) * l.pair-index;
}

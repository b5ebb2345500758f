use Rattle.std.proofs.Common.{◌≡◌, ◌+◌, ◌*◌, ◌≤◌, length, map, take}
use Rattle.std.specs.Prelude.{sum_by}
use Rattle.std.specs.List.{list_any}
use Rattle.tl_types.specs.History.{database_of, rows_of}
use Rattle.tl_query.specs.Passing.{passes_all}
use Rattle.tl_filter.specs.Words.{AreNarrowed}
use Rattle.tl_filter.proofs.blocks.pass_lists.Given as goal

abbrev pub invariant-loop-tests : goal.invariant-loop-tests
invariant-loop-tests g l = record {
  long : length l.done ≡ length l.initial.done;
  bits : AreNarrowed (map (λ r. list_any (passes_all r) (take l.tests-index l.lists)) (rows_of (database_of l.store) l.block.table)) l.block.first l.base l.done;
  steps : l.steps ≤ l.initial.steps + sum_by length (take l.tests-index l.lists) * length l.base;
}

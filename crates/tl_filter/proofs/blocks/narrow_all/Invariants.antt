use Rattle.std.proofs.Common.{◌+◌, ◌*◌, ◌≤◌, length, map, take}
use Rattle.tl_types.specs.History.{database_of, rows_of}
use Rattle.tl_query.specs.Passing.{passes_all}
use Rattle.tl_filter.specs.Words.{AreNarrowed}
use Rattle.tl_filter.proofs.blocks.narrow_all.Given as goal

abbrev pub invariant-loop-test : goal.invariant-loop-test
invariant-loop-test g l = record {
  bits : AreNarrowed (map (λ r. passes_all r (take l.test-index l.tests)) (rows_of (database_of l.store) l.block.table)) l.block.first l.initial.words l.words;
  steps : l.steps ≤ l.initial.steps + l.test-index * length l.initial.words;
}

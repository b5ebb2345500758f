use Rattle.std.proofs.Common.{◌≡◌, map, take}
use Rattle.tl_query.specs.CheckingQueries.{typed_test_of}
use Rattle.tl_check.proofs.predicates.typed_tests.Given as goal

abbrev pub invariant-loop-test : goal.invariant-loop-test
invariant-loop-test l = l.typed.items ≡ map (typed_test_of l.schema) (take l.test-index l.tests)

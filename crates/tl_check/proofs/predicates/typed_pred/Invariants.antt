use Rattle.std.proofs.Common.{◌≡◌, map, take}
use Rattle.tl_query.specs.CheckingQueries.{typed_test_of}
use Rattle.tl_check.proofs.predicates.typed_pred.Given as goal

abbrev pub invariant-loop-tests : goal.invariant-loop-tests
invariant-loop-tests l = l.any.items ≡ map (map (typed_test_of l.schema)) (take l.tests-index l.pred.any)

use Rattle.std.proofs.Common.{◌≡◌, take}
use Rattle.std.specs.List.{flat_map}
use Rattle.tl_query.specs.Checking.{first_of}
use Rattle.tl_query.specs.CheckingQueries.{tests_faults}
use Rattle.tl_check.proofs.predicates.any_fault.Given as goal

abbrev pub invariant-loop-tests : goal.invariant-loop-tests
invariant-loop-tests l = l.first ≡ first_of (flat_map (tests_faults l.schema) (take l.tests-index l.any))

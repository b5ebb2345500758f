use Rattle.std.proofs.Common.{◌≡◌, take}
use Rattle.tl_query.specs.Checking.{first_of}
use Rattle.tl_query.specs.CheckingQueries.{tests_faults}
use Rattle.tl_check.proofs.predicates.tests_fault.Given as goal

abbrev pub invariant-loop-test : goal.invariant-loop-test
invariant-loop-test l = l.first ≡ first_of (tests_faults l.schema (take l.test-index l.tests))

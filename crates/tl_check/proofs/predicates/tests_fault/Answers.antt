use Rattle.std.proofs.Common.{ap, sym, ◌∙◌, take}
use Rattle.tl_query.specs.Checking.{earlier, first_of}
use Rattle.tl_query.specs.CheckingQueries.{test_faults, tests_faults}
use Rattle.tl_check.proofs.FirstLemmas.{first_more}
use Rattle.tl_check.proofs.predicates.tests_fault.Goals as goal

pub loop-test-preserved : goal.loop-test-preserved
loop-test-preserved c =
    c.earlier-first.ensures
    ∙ (ap (λ first. earlier first c.test_fault.result) c.loop-test.invariant
    ∙ (ap (earlier (first_of (tests_faults c.args.schema.now (take c.loop-test.test-index c.args.tests.now)))) c.test_fault.ensures
    ∙ sym (first_more (test_faults c.args.schema.now) c.args.tests.now c.loop-test.test-index c.test-item.result c.loop-test-test.true c.test-item.is)))

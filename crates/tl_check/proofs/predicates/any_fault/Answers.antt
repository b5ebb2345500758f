use Rattle.std.proofs.Common.{ap, sym, ◌∙◌, take}
use Rattle.std.specs.List.{flat_map}
use Rattle.tl_query.specs.Checking.{earlier, first_of}
use Rattle.tl_query.specs.CheckingQueries.{tests_faults}
use Rattle.tl_check.proofs.FirstLemmas.{first_more}
use Rattle.tl_check.proofs.predicates.any_fault.Goals as goal

pub loop-tests-preserved : goal.loop-tests-preserved
loop-tests-preserved c =
    c.earlier-first.ensures
    ∙ (ap (λ first. earlier first c.tests_fault.result) c.loop-tests.invariant
    ∙ (ap (earlier (first_of (flat_map (tests_faults c.args.schema.now) (take c.loop-tests.tests-index c.args.any.now)))) (c.tests_fault.ensures ∙ ap (λ tests. first_of (tests_faults c.args.schema.now tests)) c.as_slice.ensures)
    ∙ sym (first_more (tests_faults c.args.schema.now) c.args.any.now c.loop-tests.tests-index c.tests-item.result c.loop-tests-test.true c.tests-item.is)))

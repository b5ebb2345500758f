use Rattle.std.proofs.Common.{get_or, sym, ap, ◌∙◌, ◌&&◌}
use Rattle.std.proofs.lemmas.List.Folds.{list_all_at, list_all_more}
use Rattle.tl_types.specs.History.{new_row}
use Rattle.tl_query.specs.Passing.{passes_test}
use Rattle.tl_watch.proofs.opening.passes_all.Goals as goal

pub returns-then-not-passes_test : goal.returns-then-not-passes_test
returns-then-not-passes_test c = λ version.
    let p = passes_test (new_row version c.args.opened.now) in
    sym (list_all_at p c.args.tests.now c.loop-test.test-index c.test-item.result c.loop-test-test.true (ap p (sym c.test-item.is) ∙ sym (c.passes_test.ensures version) ∙ c.if-not-passes_test.true))

pub loop-test-preserved : goal.loop-test-preserved
loop-test-preserved c = λ version.
    let p = passes_test (new_row version c.args.opened.now) in
    list_all_more p c.args.tests.now c.loop-test.test-index c.test-item.result c.loop-test-test.true
    ∙ ap (λ b. b && p (get_or c.args.tests.now c.loop-test.test-index c.test-item.result)) (c.loop-test.invariant version)
    ∙ (ap p (sym c.test-item.is) ∙ sym (c.passes_test.ensures version) ∙ c.if-not-passes_test.false)

use Rattle.std.proofs.Common.{◌∙◌, ap}
use Rattle.tl_types.specs.declared.keywords.Keyword.TheVariants as words
use Rattle.tl_query.specs.declared.terminals.Terminal.TheVariants as terminals
use Rattle.tl_query.specs.Grammar.{test_parts}
use Rattle.tl_query.specs.Printing.{Written, terminal_word, put, write}
use Rattle.tl_query.proofs.Writing.{write_more}
use Rattle.tl_query.proofs.printing.Printer.further_tests.Goals as goal

pub loop-test-preserved : goal.loop-test-preserved
loop-test-preserved c =
    c.in_ok-test.ensures ∙ ap (λ (w : Written). write w (test_parts c.test-item.result)) (c.in_ok-keyword.ensures ∙ ap (λ (w : Written). put w (terminal_word (terminals.Keyword words.And))) c.loop-test.invariant)
    ∙ write_more (terminals.Keyword words.And) test_parts c.args.tests.now c.loop-test.test-index c.args.self.now c.test-item.result c.loop-test-test.true c.test-item.is

use Rattle.std.proofs.Common.{◌∙◌, ap, List}
use Rattle.tl_types.specs.declared.keywords.Keyword.TheVariants as words
use Rattle.tl_query.specs.declared.terminals.Terminal.TheVariants as terminals
use Rattle.tl_query.specs.declared.ast.Test.{Test}
use Rattle.tl_query.specs.Grammar.{conj_parts}
use Rattle.tl_query.specs.Printing.{Written, terminal_word, put, write}
use Rattle.tl_query.proofs.Writing.{write_more}
use Rattle.tl_query.proofs.printing.Printer.further_any.Goals as goal

pub loop-tests-preserved : goal.loop-tests-preserved
loop-tests-preserved c =
    c.in_ok-tests.ensures ∙ ap (λ (tests : List Test). write c.keyword.new.self (conj_parts tests)) c.as_slice.ensures
    ∙ ap (λ (w : Written). write w (conj_parts c.tests-item.result)) (c.in_ok-keyword.ensures ∙ ap (λ (w : Written). put w (terminal_word (terminals.Keyword words.Or))) c.loop-tests.invariant)
    ∙ write_more (terminals.Keyword words.Or) conj_parts c.args.any.now c.loop-tests.tests-index c.args.self.now c.tests-item.result c.loop-tests-test.true c.tests-item.is

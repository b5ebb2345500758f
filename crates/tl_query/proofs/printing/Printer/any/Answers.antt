use Rattle.std.proofs.Common.{◌∙◌, ap, List}
use Rattle.tl_types.specs.declared.keywords.Keyword.TheVariants as words
use Rattle.tl_query.specs.declared.terminals.Terminal.TheVariants as terminals
use Rattle.tl_query.specs.declared.ast.Test.{Test}
use Rattle.tl_query.specs.Grammar.{conj_parts, each_after}
use Rattle.tl_query.specs.Printing.{Written, write}
use Rattle.tl_query.proofs.Writing.{write_first}
use Rattle.tl_query.proofs.printing.Printer.any.Goals as goal

pub returns-in_ok-further_any : goal.returns-in_ok-further_any
returns-in_ok-further_any c =
    c.in_ok-further_any.ensures
    ∙ ap (λ (w : Written). write w (each_after (terminals.Keyword words.Or) conj_parts c.split_at.result.1.now)) (c.in_ok-tests.ensures ∙ ap (λ (tests : List Test). write c.args.self.now (conj_parts tests)) c.as_slice.ensures)
    ∙ write_first (terminals.Keyword words.Or) conj_parts c.args.any.now c.tests-item.result c.split_at.result.1.now c.args.self.now c.in-len1-up.len_at_least c.tests-item.is c.split_at.ensures.back

use Rattle.std.proofs.Common.{◌∙◌, ap}
use Rattle.tl_query.specs.Grammar.{statement_parts}
use Rattle.tl_query.specs.Printing.{Written, write}
use Rattle.tl_query.proofs.Spelled.{text_again}
use Rattle.tl_query.proofs.printing.print.Goals as goal

pub returns-clause-again : goal.returns-clause-again
returns-clause-again c =
    text_again c.from_vec.result c.args.statement.now c.requires
    (c.from_vec.ensures ∙ ap (λ (w : Written). w.bytes) (c.printer.view_is ∙ c.in_ok-statement.ensures ∙ ap (λ (w : Written). write w (statement_parts c.args.statement.now)) c.new-printer.ensures))

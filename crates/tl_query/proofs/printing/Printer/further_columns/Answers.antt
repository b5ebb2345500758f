use Rattle.std.proofs.Common.{◌∙◌, ap}
use Rattle.tl_query.specs.declared.terminals.Terminal.TheVariants as terminals
use Rattle.tl_query.specs.Grammar.{column_parts}
use Rattle.tl_query.specs.Printing.{Written, terminal_word, put, write}
use Rattle.tl_query.proofs.Writing.{write_more}
use Rattle.tl_query.proofs.printing.Printer.further_columns.Goals as goal

pub loop-column-preserved : goal.loop-column-preserved
loop-column-preserved c =
    c.in_ok-column.ensures ∙ ap (λ (w : Written). write w (column_parts c.column-item.result)) (c.in_ok-terminal.ensures ∙ ap (λ (w : Written). put w (terminal_word terminals.Comma)) c.loop-column.invariant)
    ∙ write_more terminals.Comma column_parts c.args.columns.now c.loop-column.column-index c.args.self.now c.column-item.result c.loop-column-test.true c.column-item.is

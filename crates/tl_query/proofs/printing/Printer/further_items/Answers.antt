use Rattle.std.proofs.Common.{◌∙◌, ap}
use Rattle.tl_query.specs.declared.terminals.Terminal.TheVariants as terminals
use Rattle.tl_query.specs.Grammar.{item_parts}
use Rattle.tl_query.specs.Printing.{Written, terminal_word, put, write}
use Rattle.tl_query.proofs.Writing.{write_more}
use Rattle.tl_query.proofs.printing.Printer.further_items.Goals as goal

pub loop-item-preserved : goal.loop-item-preserved
loop-item-preserved c =
    c.in_ok-item.ensures ∙ ap (λ (w : Written). write w (item_parts c.item-item.result)) (c.in_ok-terminal.ensures ∙ ap (λ (w : Written). put w (terminal_word terminals.Comma)) c.loop-item.invariant)
    ∙ write_more terminals.Comma item_parts c.args.items.now c.loop-item.item-index c.args.self.now c.item-item.result c.loop-item-test.true c.item-item.is

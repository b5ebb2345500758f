use Rattle.std.proofs.Common.{◌≡◌, take}
use Rattle.tl_query.specs.declared.terminals.Terminal.TheVariants as terminals
use Rattle.tl_query.specs.Grammar.{each_after, item_parts}
use Rattle.tl_query.specs.Printing.{write}
use Rattle.tl_query.proofs.printing.Printer.further_items.Given as goal

abbrev pub invariant-loop-item : goal.invariant-loop-item
invariant-loop-item l = l.self ≡ write l.fn.self (each_after terminals.Comma item_parts (take l.item-index l.items))

use Rattle.std.proofs.Common.{◌≡◌, take}
use Rattle.tl_query.specs.declared.terminals.Terminal.TheVariants as terminals
use Rattle.tl_query.specs.Grammar.{each_after, column_parts}
use Rattle.tl_query.specs.Printing.{write}
use Rattle.tl_query.proofs.printing.Printer.further_columns.Given as goal

abbrev pub invariant-loop-column : goal.invariant-loop-column
invariant-loop-column l = l.self ≡ write l.fn.self (each_after terminals.Comma column_parts (take l.column-index l.columns))

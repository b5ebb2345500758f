use Rattle.std.proofs.Common.{◌≡◌, take}
use Rattle.tl_types.specs.declared.keywords.Keyword.TheVariants as words
use Rattle.tl_query.specs.declared.terminals.Terminal.TheVariants as terminals
use Rattle.tl_query.specs.Grammar.{each_after, conj_parts}
use Rattle.tl_query.specs.Printing.{write}
use Rattle.tl_query.proofs.printing.Printer.further_any.Given as goal

abbrev pub invariant-loop-tests : goal.invariant-loop-tests
invariant-loop-tests l = l.self ≡ write l.fn.self (each_after (terminals.Keyword words.Or) conj_parts (take l.tests-index l.any))

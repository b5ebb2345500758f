use Rattle.std.proofs.Common.{◌≡◌, take}
use Rattle.tl_types.specs.declared.keywords.Keyword.TheVariants as words
use Rattle.tl_query.specs.declared.terminals.Terminal.TheVariants as terminals
use Rattle.tl_query.specs.Grammar.{each_after, test_parts}
use Rattle.tl_query.specs.Printing.{write}
use Rattle.tl_query.proofs.printing.Printer.further_tests.Given as goal

abbrev pub invariant-loop-test : goal.invariant-loop-test
invariant-loop-test l = l.self ≡ write l.fn.self (each_after (terminals.Keyword words.And) test_parts (take l.test-index l.tests))

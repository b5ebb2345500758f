use Rattle.std.proofs.Common.{take}
use Rattle.tl_shared.specs.Chunks.{flatten}
use Rattle.tl_column.specs.Runs.{LacksText}
use Rattle.tl_column.proofs.dictionary.Dictionary.code.Given as goal

abbrev pub invariant-searching : goal.invariant-searching
invariant-searching l = LacksText l.self-inside.texts l.text (flatten (take l.run-index l.self-inside.runs.items))

use Rattle.std.proofs.Common.{◌≡◌, take}
use Rattle.tl_program.specs.Commands.{texts_of}
use Rattle.tl_program.proofs.words.texts_of.Given as goal

-- the first words stand as texts
abbrev pub invariant-loop-word : goal.invariant-loop-word
invariant-loop-word l = texts_of l.texts.items ≡ take l.word-index l.given

use Rattle.std.proofs.Common.{◌∙◌}
use Rattle.tl_program.proofs.CommandLemmas.{word_is_utf8}
use Rattle.tl_program.proofs.words.texts_of.Goals as goal

pub as_text-requires : goal.as_text-requires
as_text-requires c =
    word_is_utf8 c.args.given.now c.loop-word.word-index _ c.as_slice.result.now c.requires c.loop-word-test.true
    (c.as_slice.ensures ∙ c.word-item.is)

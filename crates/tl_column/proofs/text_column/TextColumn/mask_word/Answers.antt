use Rattle.std.proofs.Common.{map}
use Rattle.tl_lanes.proofs.LaneMasks.{bits_of_word}
use Rattle.tl_column.specs.Masks.{is_text}
use Rattle.tl_column.proofs.WordLemmas.{text_word}
use Rattle.tl_column.proofs.text_column.TextColumn.mask_word.Goals as goal

pub returns-clause-word : goal.returns-clause-word
returns-clause-word c =
    text_word c.self.inside.dictionary c.self.inside.codes c.args.self.now c.self.invariant c.self.view_is c.args.equal c.args.text.now c.code_for.result c.args.i c.compare_word_u32.result c.items_of_word.result.now c.items_of_word.ensures.items c.code_for.ensures c.compare_word_u32.ensures.word

pub returns-clause-bits : goal.returns-clause-bits
returns-clause-bits c =
    bits_of_word (map (is_text c.args.equal c.args.text.now) c.args.self.now) c.args.i c.compare_word_u32.result
    (text_word c.self.inside.dictionary c.self.inside.codes c.args.self.now c.self.invariant c.self.view_is c.args.equal c.args.text.now c.code_for.result c.args.i c.compare_word_u32.result c.items_of_word.result.now c.items_of_word.ensures.items c.code_for.ensures c.compare_word_u32.ensures.word)

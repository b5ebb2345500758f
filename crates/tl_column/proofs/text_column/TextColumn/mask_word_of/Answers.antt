use Rattle.std.proofs.Common.{map}
use Rattle.tl_lanes.proofs.LaneMasks.{bits_of_word}
use Rattle.tl_column.specs.Dictionary.{dictionary_of}
use Rattle.tl_column.specs.Masks.{has_code}
use Rattle.tl_column.proofs.WordLemmas.{code_word}
use Rattle.tl_column.proofs.text_column.TextColumn.mask_word_of.Goals as goal

pub returns-clause-word : goal.returns-clause-word
returns-clause-word c =
    code_word c.self.inside.dictionary c.self.inside.codes c.args.self.now c.self.invariant c.self.view_is c.args.equal c.args.code c.args.i c.compare_word_u32.result c.items_of_word.result.now c.items_of_word.ensures.items c.compare_word_u32.ensures.word

pub returns-clause-bits : goal.returns-clause-bits
returns-clause-bits c =
    bits_of_word (map (has_code c.args.equal (dictionary_of c.args.self.now) c.args.code) c.args.self.now) c.args.i c.compare_word_u32.result
    (code_word c.self.inside.dictionary c.self.inside.codes c.args.self.now c.self.invariant c.self.view_is c.args.equal c.args.code c.args.i c.compare_word_u32.result c.items_of_word.result.now c.items_of_word.ensures.items c.compare_word_u32.ensures.word)

use Rattle.std.proofs.Common.{ap, ◌∙◌}
use Rattle.tl_lanes.specs.Masks.{bits_of}
use Rattle.tl_bits.proofs.SetLemmas.{set_of_none}
use Rattle.tl_bits.proofs.row_sets.RowSet.none.Goals as goal

pub returns : goal.returns
returns c = c.of_words.ensures ∙ ap (bits_of c.args.rows) c.in_ok-words.ensures ∙ set_of_none c.args.rows c.word_count.result

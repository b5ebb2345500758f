use Rattle.std.proofs.Common.{sym, ◌∙◌}
use Rattle.tl_bits.proofs.SetLemmas.{set_bits_of_words}
use Rattle.tl_bits.proofs.row_sets.count_bits.Goals as goal

pub returns-clause-count : goal.returns-clause-count
returns-clause-count g c = c.count_ones.ensures ∙ sym (set_bits_of_words c.args.words.now (λ i. (c.type_inv.words i).fits))

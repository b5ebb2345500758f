use Rattle.tl_bits.proofs.SetLemmas.{puts_bit}
use Rattle.tl_bits.proofs.row_sets.put_bit.Goals as goal

pub returns-clause-bits : goal.returns-clause-bits
returns-clause-bits c = puts_bit c.args.words.now c.args.row c.from.result c.args.bit c.from.ensures c.requires

use Rattle.tl_bits.proofs.SetLemmas.{no_bit_left, first_bit_is}
use Rattle.tl_bits.proofs.row_sets.first_bit.Goals as goal

pub returns-then-rest-eq0-clause-none : goal.returns-then-rest-eq0-clause-none
returns-then-rest-eq0-clause-none c = no_bit_left c.args.word c.args.from c.if-rest-eq0.true

pub returns-else-rest-eq0-clause-found : goal.returns-else-rest-eq0-clause-found
returns-else-rest-eq0-clause-found c = first_bit_is c.args.word c.args.from c.ranges.word.fits c.requires c.if-rest-eq0.false

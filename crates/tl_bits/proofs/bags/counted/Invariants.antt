use Rattle.tl_bits.proofs.CountLemmas.{Counted}
use Rattle.tl_bits.proofs.bags.counted.Given as goal

abbrev pub invariant-numbers : goal.invariant-numbers
invariant-numbers l = Counted l.counts.items l.last l.many l.numbers l.i

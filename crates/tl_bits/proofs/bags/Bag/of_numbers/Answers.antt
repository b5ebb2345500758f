use Rattle.std.proofs.Common.{subst}
use Rattle.tl_bits.specs.Bags.{AreCounts}
use Rattle.tl_bits.proofs.CountLemmas.{bag_times, bag_some}
use Rattle.tl_bits.proofs.bags.Bag.of_numbers.Goals as goal

pub invariant_of-result : goal.invariant_of-result
invariant_of-result c =
    bag_some c.in_ok-counts.counts.entries c.in_ok-counted.counted.items c.sort_unstable.new.self.items c.in_ok-counts.ensures.0 (subst (AreCounts c.in_ok-counted.counted.items) c.as_slice.ensures.value c.in_ok-counted.ensures)

pub returns : goal.returns
returns c =
    bag_times c.in_ok-counts.counts.entries c.in_ok-counted.counted.items c.args.numbers.items c.sort_unstable.new.self.items c.in_ok-counts.ensures.0 (subst (AreCounts c.in_ok-counted.counted.items) c.as_slice.ensures.value c.in_ok-counted.ensures) c.sort_unstable.ensures.permutation

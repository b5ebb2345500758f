use Rattle.tl_batch.proofs.OpeningLemmas.{few_left}
use Rattle.tl_batch.proofs.opening.push_few.Goals as goal

pub returns : goal.returns
returns g c = λ r there lines full same. few_left r lines c.args.stretches.now c.args.opens.now.items c.push_gaps.new.opens.items (c.in_ok-push_gaps.ensures.timed r there) c.requires.beyond (λ p is. c.in_ok-push_gaps.ensures.gaps r p there is) full same

use Rattle.tl_watch.proofs.NumberLemmas.{none_kept}
use Rattle.tl_watch.proofs.numbers.Numbers.none.Goals as goal

pub returns-clause-stands : goal.returns-clause-stands
returns-clause-stands c = none_kept c.args.kind c.none.result c.none-2.result c.none.ensures.stands c.none-2.ensures

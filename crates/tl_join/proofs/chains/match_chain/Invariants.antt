use Rattle.std.proofs.Common.{get_or}
use Rattle.tl_join.proofs.ChainLemmas.{Following}
use Rattle.tl_join.proofs.chains.match_chain.Given as goal

abbrev pub invariant-following : goal.invariant-following
invariant-following l = Following l.rows l.entry l.turned l.initial.links l.links l.slot l.initial.pairs.items l.pairs.items

abbrev pub decreases-following : goal.decreases-following
decreases-following l = get_or l.links l.slot 0

use Rattle.std.proofs.Common.{◌≡◌, length}
use Rattle.tl_types.specs.declared.keywords.Keyword.TheVariants as words
use Rattle.tl_query.specs.declared.terminals.Terminal.TheVariants as terminals
use Rattle.tl_query.specs.Reading.{several, further, before, conj_at}
use Rattle.tl_query.proofs.clauses.any_at.Given as goal

abbrev pub invariant-loop-next : goal.invariant-loop-next
invariant-loop-next l = several (terminals.Keyword words.Or) conj_at l.tokens ≡ before l.any.items (further (terminals.Keyword words.Or) conj_at l.rest)

abbrev pub decreases-loop-next : goal.decreases-loop-next
decreases-loop-next l = length l.rest

use Rattle.std.proofs.Common.{◌≡◌, length}
use Rattle.tl_query.specs.declared.terminals.Terminal.TheVariants as terminals
use Rattle.tl_query.specs.Reading.{several, further, before, take_at, as_item}
use Rattle.tl_query.proofs.grammar.items_at.Given as goal

abbrev pub invariant-loop-next : goal.invariant-loop-next
invariant-loop-next l = several terminals.Comma (take_at as_item) l.tokens ≡ before l.items.items (further terminals.Comma (take_at as_item) l.rest)

abbrev pub decreases-loop-next : goal.decreases-loop-next
decreases-loop-next l = length l.rest

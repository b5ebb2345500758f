use Rattle.std.proofs.Common.{◌≡◌, ◌≤◌, ◌+◌, ◌-◌, ◌*◌, ◌++◌}
use Rattle.tl_join.specs.There.{opened_in}
use Rattle.tl_join.proofs.there.add_opened.Given as goal

abbrev pub invariant-events : goal.invariant-events
invariant-events g l = (l.first ≤ l.at) × (l.at ≤ l.last) × (l.ids.items ++ opened_in l.events l.at l.last l.keep ≡ l.initial.ids.items ++ opened_in l.events l.first l.last l.keep) × (l.steps ≤ l.initial.steps + 2 * (l.at - l.first))

abbrev pub decreases-events : goal.decreases-events
decreases-events g l = l.last - l.at

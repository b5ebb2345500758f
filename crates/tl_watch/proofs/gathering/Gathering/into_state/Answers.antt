use Rattle.std.proofs.Common.{sym, subst}
use Rattle.tl_watch.specs.Gathering.{GatheringOf, KeepsAs, KeepsAsAt}
use Rattle.tl_watch.specs.Groups.{group_of}
use Rattle.tl_watch.specs.States.{Stands}
use Rattle.tl_watch.proofs.GatherLemmas.{state_stands}
use Rattle.tl_watch.proofs.gathering.Gathering.into_state.Goals as goal

pub returns : goal.returns
returns c = λ plan rows is.
    subst (λ s. Stands plan s rows) (sym c.of_parts.ensures)
    (state_stands plan c.args.self c.in_ok-all.all c.in_ok-groups.groups rows (subst (λ (g : GatheringOf). KeepsAs g.state.all c.in_ok-all.all) c.self.view_is c.in_ok-all.ensures)
    (λ x. subst (λ (g : GatheringOf). KeepsAsAt (group_of g.state.groups x) (group_of c.in_ok-groups.groups x)) c.self.view_is (c.in_ok-groups.ensures x)) is)

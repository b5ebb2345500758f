use Rattle.std.proofs.Common.{◌≡◌, sym, ap, subst, ◌∙◌}
use Rattle.tl_ckpt.specs.Choices.{chosen}
use Rattle.tl_ckpt.specs.Valid.{Rises, merged}
use Rattle.tl_ckpt.proofs.ChoiceLemmas.{chosen_all}
use Rattle.tl_ckpt.proofs.RunLemmas.{rises_sum}
use Rattle.tl_ckpt.proofs.valid_events.ValidEvents.list.Goals as goal

pub returns-clause-events : goal.returns-clause-events
returns-clause-events c = c.in_ok-list.ensures ∙ ap (merged (chosen c.all-all.result c.args.self.now)) c.new.ensures.items ∙ chosen_all c.all-all.result c.args.self.now c.all-all.ensures

pub returns-clause-rises : goal.returns-clause-rises
returns-clause-rises c =
    let same : c.in_ok-list.list.items ≡ c.args.self.now = c.in_ok-list.ensures ∙ ap (merged (chosen c.all-all.result c.args.self.now)) c.new.ensures.items ∙ chosen_all c.all-all.result c.args.self.now c.all-all.ensures in
    subst Rises (c.self.view_is ∙ sym same) (rises_sum c.self.inside.runs.items c.self.invariant)

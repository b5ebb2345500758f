use Rattle.std.proofs.Common.{◌∷◌, ap, ◌∙◌}
use Rattle.tl_ckpt.specs.Choices.{chosen}
use Rattle.tl_ckpt.specs.Runs.{lent}
use Rattle.tl_ckpt.specs.Valid.{merged}
use Rattle.tl_ckpt.proofs.ChoiceLemmas.{chosen_sum}
use Rattle.tl_ckpt.proofs.valid_events.ValidEvents.list_with.Goals as goal

pub returns : goal.returns
returns c =
    let runs = c.self.inside.runs.items in
    chosen_sum c.args.choice.now c.args.changes.items c.in_ok-list.list.items runs (lent c.in_ok-all.all.items) c.self.invariant c.requires.rises c.requires.chosen
    (c.in_ok-all.ensures ∙ ap (λ x. x ∷ c.deref-2.result.now) c.deref.ensures.value ∙ ap (λ rs. c.args.changes.items ∷ rs) c.deref-2.ensures.value)
    c.in_ok-list.ensures
    ∙ ap (λ es. merged (chosen c.args.choice.now es) c.args.changes.items) c.self.view_is

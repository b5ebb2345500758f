use Rattle.std.proofs.Common.{rules, ◌≡◌, true, false, sym, ap, ◌∙◌, subst}
use Rattle.tl_types.specs.declared.events.ValidEvent.{ValidEvent}
use Rattle.tl_ckpt.specs.Valid.{Rises, merged}
use Rattle.tl_ckpt.specs.Choices.{is_chosen, masked}
use Rattle.tl_ckpt.proofs.ChoiceLemmas.{chosen_all, chosen_masked, rises_filter}
use Rattle.tl_ckpt.proofs.lists.chosen_with.Goals as goal

pub returns-then-is_all : goal.returns-then-is_all
returns-then-is_all c =
    let all : c.args.choice.now.all ≡ true = search rules in
    c.in_ok-out.ensures ∙ ap (merged c.args.run.now) c.deref.ensures.value ∙ ap (λ es. merged es c.args.changes.items) (sym (chosen_all c.args.choice.now c.args.run.now all))

pub joined-requires-clause-part : goal.joined-requires-clause-part
joined-requires-clause-part c =
    let some : c.args.choice.now.all ≡ false = search rules in
    let is = c.in_ok-part.ensures ∙ ap (λ mask. masked mask c.args.run.now) c.mask.ensures ∙ sym (chosen_masked c.args.choice.now c.args.run.now some) in
    subst Rises (sym is) (rises_filter (λ (event : ValidEvent). is_chosen c.args.choice.now event.row) c.args.run.now c.requires.run)

pub returns : goal.returns
returns c =
    let some : c.args.choice.now.all ≡ false = search rules in
    let is = c.in_ok-part.ensures ∙ ap (λ mask. masked mask c.args.run.now) c.mask.ensures ∙ sym (chosen_masked c.args.choice.now c.args.run.now some) in
    c.in_ok-out-2.ensures ∙ ap (λ es. merged es c.args.changes.items) is

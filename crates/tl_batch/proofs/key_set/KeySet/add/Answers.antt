use Rattle.std.proofs.Common.{◌||◌, not, w64, rules, SFits, ap, ◌∙◌}
use Rattle.std.proofs.lemmas.Int.{to_z-of_z}
use Rattle.std.specs.List.{list_any}
use Rattle.std.specs.Ordering.{int_eq}
use Rattle.tl_batch.proofs.KeySetLemmas.{one_number, number_added, one_text, text_added}
use Rattle.tl_batch.proofs.key_set.KeySet.add.Goals as goal

pub returns-in_ok-fresh-in-Int-clause-fresh : goal.returns-in_ok-fresh-in-Int-clause-fresh
returns-in_ok-fresh-in-Int-clause-fresh c = one_number c.self.inside.numbers.keys c.self.inside.texts.keys c.args.self.now c.self.view_is c.args.key.now _ c.in-Int.is c.in_ok-fresh-in-Int.fresh (let fits : SFits w64 c.in-Int.number = search rules in c.in_ok-fresh-in-Int.ensures.fresh ∙ ap (λ k. not (list_any (int_eq k) c.self.inside.numbers.keys)) (to_z-of_z w64 c.in-Int.number fits))

pub returns-in_ok-fresh-in-Int-clause-added : goal.returns-in_ok-fresh-in-Int-clause-added
returns-in_ok-fresh-in-Int-clause-added c = number_added c.self.inside.numbers.keys c.self.inside.texts.keys c.args.self.now c.self.view_is c.args.key.now _ c.in-Int.is c.add_number.new.numbers.keys (let fits : SFits w64 c.in-Int.number = search rules in λ x. c.in_ok-fresh-in-Int.ensures.added x ∙ ap (λ k. int_eq x k || list_any (int_eq x) c.self.inside.numbers.keys) (to_z-of_z w64 c.in-Int.number fits))

pub returns-in_ok-fresh-in-Text-clause-fresh : goal.returns-in_ok-fresh-in-Text-clause-fresh
returns-in_ok-fresh-in-Text-clause-fresh c = one_text c.self.inside.numbers.keys c.self.inside.texts.keys c.args.self.now c.self.view_is c.args.key.now _ c.in-Text.is c.in_ok-fresh-in-Text.fresh c.in_ok-fresh-in-Text.ensures.fresh

pub returns-in_ok-fresh-in-Text-clause-added : goal.returns-in_ok-fresh-in-Text-clause-added
returns-in_ok-fresh-in-Text-clause-added c = text_added c.self.inside.numbers.keys c.self.inside.texts.keys c.args.self.now c.self.view_is c.args.key.now _ c.in-Text.is c.add_text.new.texts.keys c.in_ok-fresh-in-Text.ensures.added

use Rattle.std.proofs.Common.{Some, cond, ap, ◌∙◌}
use Rattle.tl_types.specs.Names.{same_bytes}
use Rattle.tl_keys.specs.Keys.{text_number}
use Rattle.tl_keys.proofs.TextLemmas.{more_placed, text_has, more_texts}
use Rattle.tl_keys.proofs.text_keys.TextKeys.insert.Goals as goal

pub invariant_of-self-2 : goal.invariant_of-self-2
invariant_of-self-2 c =
    let old = c.self.inside.numbers.entries in
    let new = c.insert.new.self.entries in
    let none = ap (λ texts. text_number texts c.args.key.now) c.self.view_is ∙ c.requires in
    let more = more_texts old new c.args.number c.args.key c.in_ok-insert.ensures.updates.0 in
    c.put_placed.ensures new (text_has old new c.args.number c.args.key.now more) (more_placed c.self.inside.placed.items old new c.args.number c.args.key.now none more c.self.invariant)

pub returns-clause-ok : goal.returns-clause-ok
returns-clause-ok c = λ q. more_texts c.self.inside.numbers.entries c.insert.new.self.entries c.args.number c.args.key c.in_ok-insert.ensures.updates.0 q ∙ ap (λ texts. cond (same_bytes c.args.key.now q) (Some c.args.number) (text_number texts q)) c.self.view_is

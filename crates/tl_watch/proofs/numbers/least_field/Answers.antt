use Rattle.std.proofs.Common.{ap, ◌∙◌, rules, w64, SFits}
use Rattle.std.proofs.lemmas.Int.{to_z-of_z}
use Rattle.tl_types.specs.declared.answers.Field.TheVariants as field
use Rattle.tl_running.proofs.OrderLemmas.{least_told, least_none}
use Rattle.tl_watch.proofs.numbers.least_field.Goals as goal

pub returns-in-Some : goal.returns-in-Some
returns-in-Some c =
    let fits : SFits w64 c.in-Some.number = search rules in
    λ ns are. c.number_field.ensures ∙ ap field.Number (to_z-of_z w64 c.in-Some.number fits) ∙ least_told c.args.bag.now ns c.in-Some.number are c.in-Some.ensures.least

pub returns-in-None : goal.returns-in-None
returns-in-None c = λ ns are. least_none c.args.bag.now ns are c.in-None.ensures.none

use Rattle.std.proofs.Common.{ap, subst, ◌∙◌, rules, w64, SFits}
use Rattle.std.proofs.lemmas.Int.{to_z-of_z}
use Rattle.tl_types.specs.declared.answers.Field.TheVariants as field
use Rattle.tl_running.specs.Lasting.{IsGreatestOf}
use Rattle.tl_running.proofs.LastingLemmas.{greatest_some, greatest_none_of}
use Rattle.tl_running.proofs.extreme.greatest_field.Goals as goal

pub returns-in-Some : goal.returns-in-Some
returns-in-Some c =
    let fits : SFits w64 c.in-Some.value = search rules in
    λ ns is. c.number_field.ensures ∙ ap field.Number (to_z-of_z w64 c.in-Some.value fits) ∙ greatest_some ns c.in-Some.value (subst (IsGreatestOf ns) c.in-Some.is is)

pub returns-in-None : goal.returns-in-None
returns-in-None c = λ ns is. greatest_none_of ns (subst (IsGreatestOf ns) c.in-None.is is)

use Rattle.std.proofs.Common.{ap, map, subst, ◌∙◌, rules, w64, SFits}
use Rattle.std.proofs.lemmas.Int.{to_z-of_z}
use Rattle.tl_types.specs.declared.answers.Field.TheVariants as field
use Rattle.tl_running.specs.Heaps.{turned}
use Rattle.tl_running.specs.Lasting.{IsGreatestOf}
use Rattle.tl_running.proofs.LastingLemmas.{least_some, least_none_of}
use Rattle.tl_running.proofs.extreme.least_field.Goals as goal

pub returns-in-Some : goal.returns-in-Some
returns-in-Some c =
    let fits : SFits w64 c.in-Some.value = search rules in
    λ ns is. c.turned_field.ensures ∙ ap (λ v. field.Number (turned v)) (to_z-of_z w64 c.in-Some.value fits) ∙ least_some ns c.in-Some.value (subst (IsGreatestOf (map turned ns)) c.in-Some.is is)

pub returns-in-None : goal.returns-in-None
returns-in-None c = λ ns is. least_none_of ns (subst (IsGreatestOf (map turned ns)) c.in-None.is is)

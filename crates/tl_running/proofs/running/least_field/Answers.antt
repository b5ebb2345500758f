use Rattle.std.proofs.Common.{ap, ◌∙◌, rules, w64, SFits}
use Rattle.std.proofs.lemmas.Int.{to_z-of_z}
use Rattle.tl_types.specs.declared.answers.Field.TheVariants as field
use Rattle.tl_query.specs.declared.ast.AggKind.TheVariants as kind
use Rattle.tl_running.specs.Heaps.{bag_of, turned}
use Rattle.tl_running.proofs.HeapLemmas.{turned_least, turned_none}
use Rattle.tl_running.proofs.OrderLemmas.{least_told, least_none}
use Rattle.tl_running.proofs.running.least_field.Goals as goal

pub returns-in-Some : goal.returns-in-Some
returns-in-Some c =
    let fits : SFits w64 c.turned.result = search rules in
    let short : SFits w64 c.in-Some.number = search rules in
    let is = to_z-of_z w64 c.turned.result fits ∙ c.turned.ensures ∙ ap turned (to_z-of_z w64 c.in-Some.number short) in
    λ ns are. c.number_field.ensures ∙ ap field.Number is ∙ least_told (bag_of kind.Min c.args.heaps.now) ns (turned c.in-Some.number) are (turned_least c.args.heaps.now c.in-Some.number c.in-Some.ensures.greatest)

pub returns-in-None : goal.returns-in-None
returns-in-None c = λ ns are. least_none (bag_of kind.Min c.args.heaps.now) ns are (turned_none c.args.heaps.now c.in-None.ensures.none)

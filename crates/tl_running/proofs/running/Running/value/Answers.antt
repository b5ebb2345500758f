use Rattle.std.proofs.Common.{map, refl, ◌∙◌, rules, SFits}
use Rattle.std.specs.Int.{w128}
use Rattle.std.proofs.lemmas.Int.{to_z-of_z}
use Rattle.tl_query.specs.Aggregates.{sum_field, average_field, least_field, greatest_field}
use Rattle.tl_running.specs.Standing.{number_in}
use Rattle.tl_running.proofs.StandingLemmas.{numbers_told}
use Rattle.tl_running.proofs.running.Running.value.Goals as goal

pub returns-in-Sum : goal.returns-in-Sum
returns-in-Sum c =
    let fits : SFits w128 c.self.inside.sum = search rules in
    let whole = to_z-of_z w128 c.self.inside.sum fits in
    rw (← c.self.view_is) (rw c.in-Sum.is (λ column rows stands suits. numbers_told sum_field c.sum_field.result column rows suits (c.sum_field.ensures (map (number_in column) rows) stands.count (whole ∙ stands.sum))))

pub returns-in-Avg : goal.returns-in-Avg
returns-in-Avg c =
    let fits : SFits w128 c.self.inside.sum = search rules in
    let whole = to_z-of_z w128 c.self.inside.sum fits in
    rw (← c.self.view_is) (rw c.in-Avg.is (λ column rows stands suits. numbers_told average_field c.average_field.result column rows suits (c.average_field.ensures (map (number_in column) rows) stands.count (whole ∙ stands.sum))))

pub returns-in-Min : goal.returns-in-Min
returns-in-Min c = rw (← c.self.view_is) (rw c.in-Min.is (λ column rows stands suits. numbers_told least_field c.least_field.result column rows suits (c.least_field.ensures (map (number_in column) rows) (stands.bag refl))))

pub returns-in-Max : goal.returns-in-Max
returns-in-Max c = rw (← c.self.view_is) (rw c.in-Max.is (λ column rows stands suits. numbers_told greatest_field c.greatest_field.result column rows suits (c.greatest_field.ensures (map (number_in column) rows) (stands.bag refl))))

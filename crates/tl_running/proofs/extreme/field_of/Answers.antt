use Rattle.std.proofs.Common.{map, subst}
use Rattle.tl_query.specs.Aggregates.{least_field, greatest_field}
use Rattle.tl_running.specs.Lasting.{IsGreatestOf}
use Rattle.tl_running.specs.Standing.{number_in}
use Rattle.tl_running.proofs.LastingLemmas.{min_ordered, max_ordered}
use Rattle.tl_running.proofs.StandingLemmas.{numbers_told}
use Rattle.tl_running.proofs.extreme.field_of.Goals as goal

pub returns-in-Min : goal.returns-in-Min
returns-in-Min c =
    rw c.in-Min.is (λ column rows is great suits. numbers_told least_field c.least_field.result column rows suits
    (c.least_field.ensures (map (number_in column) rows) (subst (λ ns. IsGreatestOf ns c.args.value) (min_ordered (map (number_in column) rows)) great)))

pub returns-in-Max : goal.returns-in-Max
returns-in-Max c =
    rw c.in-Max.is (λ column rows is great suits. numbers_told greatest_field c.greatest_field.result column rows suits
    (c.greatest_field.ensures (map (number_in column) rows) (subst (λ ns. IsGreatestOf ns c.args.value) (max_ordered (map (number_in column) rows)) great)))

pub returns-in-Count : goal.returns-in-Count
returns-in-Count c = rw c.in-Count.is (λ column rows is great suits. absurd (cc))

pub returns-in-Sum : goal.returns-in-Sum
returns-in-Sum c = rw c.in-Sum.is (λ column rows is great suits. absurd (cc))

pub returns-in-Avg : goal.returns-in-Avg
returns-in-Avg c = rw c.in-Avg.is (λ column rows is great suits. absurd (cc))

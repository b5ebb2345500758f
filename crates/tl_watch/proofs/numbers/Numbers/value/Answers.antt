use Rattle.std.proofs.Common.{map, refl}
use Rattle.tl_query.specs.Aggregates.{least_field, greatest_field}
use Rattle.tl_running.specs.Standing.{number_in}
use Rattle.tl_running.proofs.StandingLemmas.{numbers_told}
use Rattle.tl_watch.proofs.numbers.Numbers.value.Goals as goal

pub returns-in-Min : goal.returns-in-Min
returns-in-Min c = rw (← c.self.view_is) (rw c.in-Min.is (λ column rows stands suits. numbers_told least_field c.least_field.result column rows suits (c.least_field.ensures (map (number_in column) rows) (stands.bag refl))))

pub returns-in-Max : goal.returns-in-Max
returns-in-Max c = rw (← c.self.view_is) (rw c.in-Max.is (λ column rows stands suits. numbers_told greatest_field c.greatest_field.result column rows suits (c.greatest_field.ensures (map (number_in column) rows) (stands.bag refl))))

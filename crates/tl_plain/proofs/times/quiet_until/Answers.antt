use Rattle.std.proofs.Common.{◌≡◌, ◌≤ℤ◌, Some, sym, rules, w64, SFits}
use Rattle.std.proofs.lemmas.Int.{to_z-of_z}
use Rattle.tl_query.specs.Joins.{times_of}
use Rattle.tl_plain.specs.Choosing.{IsClear}
use Rattle.tl_plain.proofs.TimeLemmas.{quiet_times}
use Rattle.tl_plain.proofs.times.quiet_until.Goals as goal

pub returns-in-Some-clause-quiet : goal.returns-in-Some-clause-quiet
returns-in-Some-clause-quiet c = λ moment after before.
    let times = c.in-Some.times in
    let next = c.nearer.result in
    let less = c.nearer-in-Some.result in
    let less_fits : SFits w64 c.nearer-in-Some.result = search rules in
    let next_fits : SFits w64 c.nearer.result = search rules in
    let from_fits : SFits w64 c.from.result = search rules in
    let to_fits : SFits w64 c.to.result = search rules in
    let at_is = to_z-of_z w64 c.args.at c.ranges.at in
    let from_clear : IsClear c.args.at next times.from = rw (at_is, to_z-of_z w64 c.from.result from_fits, c.from.ensures) at c.nearer.ensures.clear in
    let to_clear : IsClear c.args.at less times.to = rw (at_is, to_z-of_z w64 c.to.result to_fits, c.to.ensures) at c.nearer-in-Some.ensures.clear in
    let found : times_of c.args.span c.args.row.now ≡ Some times = sym c.in-Some.ensures in
    let sooner : less ≤ℤ next = rw (to_z-of_z w64 c.nearer.result next_fits) at c.nearer-in-Some.ensures.within in
    quiet_times c.args.span c.args.row.now c.args.at next less times found sooner from_clear to_clear moment after (rw (to_z-of_z w64 c.nearer-in-Some.result less_fits) at before)

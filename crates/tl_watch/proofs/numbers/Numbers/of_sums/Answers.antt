use Rattle.std.proofs.Common.{◌≡◌, subst}
use Rattle.std.specs.Int.{w128}
use Rattle.std.proofs.lemmas.Int.{to_z-of_z}
use Rattle.tl_running.specs.Standing.{summing}
use Rattle.tl_watch.proofs.NumberLemmas.{sums_kept}
use Rattle.tl_watch.proofs.numbers.Numbers.of_sums.Goals as goal

pub returns-clause-stands : goal.returns-clause-stands
returns-clause-stands c =
    let whole = to_z-of_z w128 c.args.sum c.ranges.sum in
    sums_kept c.args.kind c.none-counted.result c.set_sums.new.self c.none.result c.args.count c.args.sum c.requires (subst (λ s. c.set_sums.new.self ≡ summing c.none-counted.result c.args.count s) whole c.set_sums.ensures)

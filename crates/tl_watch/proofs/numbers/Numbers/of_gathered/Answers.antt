use Rattle.std.proofs.Common.{◌≡◌, subst}
use Rattle.std.specs.Int.{w128}
use Rattle.std.proofs.lemmas.Int.{to_z-of_z}
use Rattle.tl_running.specs.Standing.{summing}
use Rattle.tl_watch.proofs.GatherLemmas.{keeps_gathered}
use Rattle.tl_watch.proofs.numbers.Numbers.of_gathered.Goals as goal

pub returns : goal.returns
returns c =
    let whole = to_z-of_z w128 c.args.sum c.ranges.sum in
    keeps_gathered c.args.kind c.none-counted.result c.set_sums.new.self c.in_ok-bag.bag c.args.count c.args.sum c.args.numbers.items
    (subst (λ s. c.set_sums.new.self ≡ summing c.none-counted.result c.args.count s) whole c.set_sums.ensures)
    c.in_ok-bag.ensures.bag

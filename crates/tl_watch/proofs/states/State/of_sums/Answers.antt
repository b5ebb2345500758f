use Rattle.std.proofs.Common.{map, sym, subst}
use Rattle.std.specs.Int.{w128}
use Rattle.std.proofs.lemmas.Int.{to_z-of_z}
use Rattle.tl_running.specs.Standing.{number_in}
use Rattle.tl_watch.specs.Sums.{AddsUp}
use Rattle.tl_watch.proofs.TellLemmas.{sums_stand}
use Rattle.tl_watch.proofs.states.State.of_sums.Goals as goal

pub returns : goal.returns
returns c = λ plan rows kind_is by_is suits count_is adds.
    let whole = to_z-of_z w128 c.args.sum c.ranges.sum in
    sums_stand plan c.of_sums.result c.none.result rows c.args.kind by_is c.of_sums.ensures.kind kind_is (c.of_sums.ensures.stands plan.column rows count_is (subst (AddsUp (map (number_in plan.column) rows)) (sym whole) adds)) suits

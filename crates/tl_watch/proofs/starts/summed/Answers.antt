use Rattle.std.proofs.Common.{map, sym, subst}
use Rattle.std.specs.Int.{w128}
use Rattle.std.proofs.lemmas.Int.{to_z-of_z}
use Rattle.tl_types.specs.History.{database_of}
use Rattle.tl_running.specs.Standing.{number_in}
use Rattle.tl_watch.specs.Sums.{AddsUp}
use Rattle.tl_watch.proofs.StartLemmas.{summed_stands}
use Rattle.tl_watch.proofs.starts.summed.Goals as goal

pub returns-clause-stands : goal.returns-clause-stands
returns-clause-stands g c =
    let whole = to_z-of_z w128 c.set_sum-sum.result (record { sfits = c.set_sum-sum.type_inv }) in
    summed_stands c.args.plan.now (database_of c.args.store.now) c.args.set.now c.args.column c.count-count.result c.set_sum-sum.result c.of_sums.result c.requires.ready c.requires.summed c.count-count.ensures.count c.set_sum-sum.ensures.sum
    (λ plan rows kind_is by_is suits count_is adds. c.of_sums.ensures plan rows kind_is by_is suits count_is (subst (AddsUp (map (number_in plan.column) rows)) (sym whole) adds))

use Rattle.std.proofs.Common.{◌<◌, rules, w64, SFits, sym, ap, ◌∙◌, subst}
use Rattle.std.proofs.lemmas.Int.{to_z-of_z}
use Rattle.tl_bits.specs.Bags.{times, AddsOne}
use Rattle.tl_running.specs.Heaps.{bag_of, turned}
use Rattle.tl_running.specs.Standing.{is_ordered}
use Rattle.tl_running.proofs.HeapLemmas.{turned_adds, turned_there}
use Rattle.tl_running.proofs.running.take_out_far.Goals as goal

pub remove_far-requires : goal.remove_far-requires
remove_far-requires c =
    let fits : SFits w64 c.turned.result = search rules in
    let is = to_z-of_z w64 c.turned.result fits ∙ c.turned.ensures ∙ ap turned (to_z-of_z w64 c.args.number c.ranges.number) in
    let some = subst (λ k. 0 < times (bag_of k c.args.heaps.now) c.args.number) c.in-Min.is (c.requires (ap is_ordered c.in-Min.is)) in
    subst (λ n. 0 < times c.args.heaps.now n) (sym is) (turned_there c.args.heaps.now c.args.number some)

pub returns-in-Min-clause-takes : goal.returns-in-Min-clause-takes
returns-in-Min-clause-takes c done =
    let fits : SFits w64 c.turned.result = search rules in
    let is = to_z-of_z w64 c.turned.result fits ∙ c.turned.ensures ∙ ap turned (to_z-of_z w64 c.args.number c.ranges.number) in
    let adds = subst (AddsOne c.remove_far.new.self c.args.heaps.now) is (c.remove_far.ensures.takes done) in
    subst (λ k. AddsOne (bag_of k c.remove_far.new.self) (bag_of k c.args.heaps.now) c.args.number) (sym c.in-Min.is) (turned_adds c.remove_far.new.self c.args.heaps.now c.args.number adds)

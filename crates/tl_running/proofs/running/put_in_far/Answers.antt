use Rattle.std.proofs.Common.{rules, w64, SFits, sym, ap, ◌∙◌, subst}
use Rattle.std.proofs.lemmas.Int.{to_z-of_z}
use Rattle.tl_bits.specs.Bags.{AddsOne}
use Rattle.tl_running.specs.Heaps.{bag_of, turned}
use Rattle.tl_running.proofs.HeapLemmas.{turned_adds}
use Rattle.tl_running.proofs.running.put_in_far.Goals as goal

pub returns-in-Min-clause-adds : goal.returns-in-Min-clause-adds
returns-in-Min-clause-adds c done =
    let fits : SFits w64 c.turned.result = search rules in
    let is = to_z-of_z w64 c.turned.result fits ∙ c.turned.ensures ∙ ap turned (to_z-of_z w64 c.args.number c.ranges.number) in
    let adds = subst (AddsOne c.args.heaps.now c.add_far.new.self) is (c.add_far.ensures.adds done) in
    subst (λ k. AddsOne (bag_of k c.args.heaps.now) (bag_of k c.add_far.new.self) c.args.number) (sym c.in-Min.is) (turned_adds c.args.heaps.now c.add_far.new.self c.args.number adds)

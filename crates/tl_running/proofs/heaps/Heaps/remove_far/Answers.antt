use Rattle.std.proofs.Common.{◌<◌, w64, subst, sym, List, ℤ, ℕ}
use Rattle.std.proofs.lemmas.Int.{to_z-of_z}
use Rattle.tl_bits.specs.Bags.{times, AddsOne}
use Rattle.tl_running.specs.Heaps.{left_of}
use Rattle.tl_running.proofs.HeapLemmas.{takes, takes_room, takes_settled, far_taken}
use Rattle.tl_running.proofs.heaps.Heaps.remove_far.Goals as goal

pub push_far-requires : goal.push_far-requires
push_far-requires c =
    let some = subst (λ (b : List (ℤ × ℕ)). 0 < times b c.args.number) (sym c.self.view_is) c.requires in
    takes_room c.self.inside.came c.self.inside.gone c.args.number c.self.invariant some

pub invariant_of-self : goal.invariant_of-self
invariant_of-self c =
    let some = subst (λ (b : List (ℤ × ℕ)). 0 < times b c.args.number) (sym c.self.view_is) c.requires in
    let own = to_z-of_z w64 c.args.number c.ranges.number in
    let joins = rw own at c.push_far.ensures.joins in
    let below = rw own at c.push_far.ensures.below in
    far_taken c.self.inside.came c.self.inside.gone c.push_far.new.self c.args.number c.push_far.result c.self.invariant some joins c.push_far.ensures.room below c.push_far.ensures.same

pub returns-clause-takes : goal.returns-clause-takes
returns-clause-takes c is =
    let some = subst (λ (b : List (ℤ × ℕ)). 0 < times b c.args.number) (sym c.self.view_is) c.requires in
    let own = to_z-of_z w64 c.args.number c.ranges.number in
    let joins = rw own at c.push_far.ensures.joins in
    let below = rw own at c.push_far.ensures.below in
    let settles = takes_settled c.self.inside.came c.self.inside.gone c.push_far.new.self c.args.number c.self.invariant some (joins is) (below is) in
    subst (λ (b : List (ℤ × ℕ)). AddsOne (left_of c.self.inside.came.numbers c.push_far.new.self.numbers) b c.args.number) c.self.view_is
    (takes c.self.inside.came c.self.inside.gone c.push_far.new.self c.self.inside.came c.push_far.new.self c.args.number c.self.invariant some (joins is) settles)

use Rattle.std.proofs.Common.{w64, arith, subst, refl, List, ℤ, ℕ}
use Rattle.std.proofs.lemmas.Int.{to_z-of_z}
use Rattle.tl_bits.specs.Bags.{AddsOne}
use Rattle.tl_running.specs.Heaps.{left_of}
use Rattle.tl_running.proofs.HeapLemmas.{far_added, adds}
use Rattle.tl_running.proofs.heaps.Heaps.add_far.Goals as goal

pub invariant_of-self : goal.invariant_of-self
invariant_of-self c =
    let joins = rw (to_z-of_z w64 c.args.number c.ranges.number) at c.push_far.ensures.joins in
    let len = c.len-many.ensures.len in
    let room = c.room-else-many-room.ensures in
    let less = c.if-many-room-2.false in
    far_added c.self.inside.came c.push_far.new.self c.self.inside.gone c.args.number c.push_far.result c.self.invariant joins c.push_far.ensures.same (omega arith)

pub returns-clause-adds : goal.returns-clause-adds
returns-clause-adds c is =
    let joins = rw (to_z-of_z w64 c.args.number c.ranges.number) at c.push_far.ensures.joins in
    subst (λ (b : List (ℤ × ℕ)). AddsOne b (left_of c.push_far.new.self.numbers c.self.inside.gone.numbers) c.args.number) c.self.view_is
    (adds c.self.inside.came c.push_far.new.self c.self.inside.gone c.self.inside.gone c.args.number c.self.invariant refl (joins is))

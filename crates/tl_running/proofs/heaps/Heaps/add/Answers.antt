use Rattle.std.proofs.Common.{w64, arith, subst, ap, refl, List, ℤ, ℕ, length}
use Rattle.std.proofs.lemmas.Int.{to_z-of_z}
use Rattle.tl_bits.specs.Bags.{AddsOne}
use Rattle.tl_running.specs.Heaps.{left_of}
use Rattle.tl_running.proofs.HeapLemmas.{failed_kept, adds, adds_kept}
use Rattle.tl_running.proofs.heaps.Heaps.add.Goals as goal

pub invariant_of-self : goal.invariant_of-self
invariant_of-self c = failed_kept c.self.inside.came c.make_room.new.pile c.self.inside.gone c.self.inside.gone c.self.invariant c.make_room.ensures.numbers refl (omega arith)

pub invariant_of-self-in_err-make_room-2 : goal.invariant_of-self-in_err-make_room-2
invariant_of-self-in_err-make_room-2 c = failed_kept c.self.inside.came c.make_room.new.pile c.self.inside.gone c.make_room-2.new.pile c.self.invariant c.make_room.ensures.numbers c.make_room-2.ensures.numbers c.make_room-2.ensures.room

pub invariant_of-self-2 : goal.invariant_of-self-2
invariant_of-self-2 c =
    let are = failed_kept c.self.inside.came c.make_room.new.pile c.self.inside.gone c.self.inside.gone c.self.invariant c.make_room.ensures.numbers refl (omega arith) in
    let joins = rw (to_z-of_z w64 c.args.number c.ranges.number) at c.push.ensures.joins in
    let long = joins.long in
    let same = ap length c.make_room.ensures.numbers in
    let ok = c.in_ok-make_room-2.ensures.ok in
    let len = c.len-many.ensures.len in
    adds_kept c.make_room.new.pile c.push.new.self c.self.inside.gone c.make_room-2.new.pile c.args.number are c.make_room-2.ensures.numbers joins (omega arith)

pub returns : goal.returns
returns c =
    let are = failed_kept c.self.inside.came c.make_room.new.pile c.self.inside.gone c.self.inside.gone c.self.invariant c.make_room.ensures.numbers refl (omega arith) in
    let joins = rw (to_z-of_z w64 c.args.number c.ranges.number) at c.push.ensures.joins in
    subst (λ (b : List (ℤ × ℕ)). AddsOne b (left_of c.push.new.self.numbers c.make_room-2.new.pile.numbers) c.args.number) c.self.view_is
    (subst (λ (ns : List ℤ). AddsOne (left_of ns c.self.inside.gone.numbers) (left_of c.push.new.self.numbers c.make_room-2.new.pile.numbers) c.args.number) c.make_room.ensures.numbers
    (adds c.make_room.new.pile c.push.new.self c.self.inside.gone c.make_room-2.new.pile c.args.number are c.make_room-2.ensures.numbers joins))

use Rattle.std.proofs.Common.{◌<◌, w64, subst, sym, List, ℤ, ℕ}
use Rattle.std.proofs.lemmas.Int.{to_z-of_z}
use Rattle.tl_bits.specs.Bags.{times, AddsOne}
use Rattle.tl_running.specs.Heaps.{left_of}
use Rattle.tl_running.proofs.HeapLemmas.{takes, takes_below, takes_room}
use Rattle.tl_running.proofs.heaps.Heaps.remove.Goals as goal

pub push-requires : goal.push-requires
push-requires c =
    let some = subst (λ (b : List (ℤ × ℕ)). 0 < times b c.args.number) (sym c.self.view_is) c.requires in
    takes_room c.self.inside.came c.self.inside.gone c.args.number c.self.invariant some

pub settle-requires : goal.settle-requires
settle-requires c =
    let some = subst (λ (b : List (ℤ × ℕ)). 0 < times b c.args.number) (sym c.self.view_is) c.requires in
    let joins = rw (to_z-of_z w64 c.args.number c.ranges.number) at c.push.ensures.joins in
    takes_below c.self.inside.came c.self.inside.gone c.push.new.self c.args.number c.self.invariant some joins

pub returns : goal.returns
returns c =
    let some = subst (λ (b : List (ℤ × ℕ)). 0 < times b c.args.number) (sym c.self.view_is) c.requires in
    let joins = rw (to_z-of_z w64 c.args.number c.ranges.number) at c.push.ensures.joins in
    subst (λ (b : List (ℤ × ℕ)). AddsOne (left_of c.settle.new.came.numbers c.settle.new.gone.numbers) b c.args.number) c.self.view_is
    (takes c.self.inside.came c.self.inside.gone c.push.new.self c.settle.new.came c.settle.new.gone c.args.number c.self.invariant some joins c.settle.ensures)

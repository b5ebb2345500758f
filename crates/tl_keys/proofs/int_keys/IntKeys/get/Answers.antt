use Rattle.std.proofs.Common.{◌-◌, sym, subst, arith, w64}
use Rattle.std.proofs.lemmas.Int.{to_z-of_z}
use Rattle.tl_keys.specs.Small.{AreSmall}
use Rattle.tl_keys.proofs.int_keys.IntKeys.get.Goals as goal

pub returns-then-after-gt0 : goal.returns-then-after-gt0
returns-then-after-gt0 c =
    let t = c.if-after-gt0.true in
    let are = subst (λ ints. AreSmall c.as_slice.result.now ints) c.self.view_is (subst (λ small. AreSmall small c.self.inside.numbers.entries) (sym c.as_slice.ensures.value) c.self.invariant) in
    rw (to_z-of_z w64 c.args.key c.ranges.key) at (sym (c.small_number-after.ensures c.args.self.now (c.small_number-after.result - 1) are (omega arith)))

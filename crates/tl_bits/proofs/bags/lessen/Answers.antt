use Rattle.std.proofs.Common.{sym, ap, ◌∙◌, arith}
use Rattle.std.specs.BTreeMap.{get}
use Rattle.std.specs.Ordering.{int_cmp}
use Rattle.std.proofs.Math.Facts.{to_z-of_z}
use Rattle.tl_bits.proofs.BagLemmas.{not_counted, counted_is}
use Rattle.tl_bits.proofs.bags.lessen.Goals as goal

pub unreachable-requires : goal.unreachable-requires
unreachable-requires c =
    not_counted (get int_cmp c.args.counts.now c.args.value)
    (ap (λ v. get int_cmp c.args.counts.now v) (sym (to_z-of_z c.ranges.value)) ∙ sym c.in_default.ensures.value) c.requires

pub overflow_sub-count : goal.overflow_sub-count
overflow_sub-count c =
    let e = counted_is (get int_cmp c.args.counts.now c.args.value) c.in-Some.count.now
    (ap (λ v. get int_cmp c.args.counts.now v) (sym (to_z-of_z c.ranges.value)) ∙ sym c.in-Some.ensures.value) in
    let r = c.requires in
    omega arith

pub returns-clause-left : goal.returns-clause-left
returns-clause-left c =
    let e = counted_is (get int_cmp c.args.counts.now c.args.value) c.in-Some.count.now
    (ap (λ v. get int_cmp c.args.counts.now v) (sym (to_z-of_z c.ranges.value)) ∙ sym c.in-Some.ensures.value) in
    let r = c.requires in
    omega arith

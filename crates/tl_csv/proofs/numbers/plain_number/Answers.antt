use Rattle.std.proofs.Common.{◌<◌, ◌≤◌, length, rules, arith}
use Rattle.tl_csv.proofs.NumberLemmas.{all_read, below_most}
use Rattle.tl_csv.proofs.numbers.plain_number.Goals as goal

pub with_digit-requires : goal.with_digit-requires
with_digit-requires c = below_most c.loop-byte.number c.loop-byte.byte-index (length c.args.digits.now) c.loop-byte.invariant.small c.loop-byte-test.true (omega (arith, c.if-digits-gt18.false))

pub returns : goal.returns
returns c =
    let ds = c.args.digits.now in
    let i = c.loop-byte.byte-index in
    let some : 0 < length ds = search rules in
    let ended : length ds ≤ i = omega (arith, c.loop-byte-test.false) in
    let few : length ds ≤ 18 = omega (arith, c.if-digits-gt18.false) in
    let at : i ≤ length ds = omega (arith, c.loop-byte.auto.byte-index-end) in
    all_read ds i c.loop-byte.number ended some few at c.loop-byte.invariant.value c.loop-byte.invariant.digits c.loop-byte.invariant.small

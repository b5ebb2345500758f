use Rattle.std.proofs.Common.{◌≡◌, ◌+◌, ◌-◌, length, ap, sym, arith, rules, w64, SFits}
use Rattle.std.proofs.lemmas.Int.{to_z-of_z}
use Rattle.tl_types.specs.History.{is_later}
use Rattle.tl_plain.proofs.StampLemmas.{last_none, later_shown}
use Rattle.tl_plain.proofs.stamps.is_later.Goals as goal

pub returns-then-count-eq0 : goal.returns-then-count-eq0
returns-then-count-eq0 c = sym (ap (is_later c.args.moment) (last_none c.args.stamps.now (omega (arith, c.if-count-eq0.true))))

pub returns : goal.returns
returns c =
    let count : length c.args.stamps.now - 1 + 1 ≡ length c.args.stamps.now = omega (arith, c.if-count-eq0.false) in
    let fits : SFits w64 c.moment.result = search rules in
    rw (to_z-of_z w64 c.moment.result fits, to_z-of_z w64 c.args.moment c.ranges.moment)
    (later_shown c.args.stamps.now (length c.args.stamps.now - 1) c.index-stamps-count.result c.moment.result c.args.moment count c.index-stamps-count.is c.moment.ensures)

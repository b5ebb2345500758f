use Rattle.std.proofs.Common.{◌+◌, ◌-◌, ◌/◌, ◌∙◌, sym, ap, arith, w64}
use Rattle.std.proofs.lemmas.Int.{ints, to_z-of_z}
use Rattle.tl_store.proofs.StampLemmas.{read_first, read_passed}
use Rattle.tl_store.proofs.stamps.Stamps.version_at.Goals as goal

pub overflow_sub-found : goal.overflow_sub-found
overflow_sub-found c =
    let middle = c.halving.low + (c.halving.high - c.halving.low) / 2 in
    let first = read_first c.args.now c.args.moment c.self.inside.list c.args.self.now middle c.at-stamp.result.now c.moment-there.result c.requires c.self.view_is (omega (arith, c.halving.invariant.within)) c.at-stamp.ensures c.moment-there.ensures (let t = c.if-moment-there.true in grind (arith, ints)) in
    omega (arith, first.0, c.version-found.ensures)

pub halving-preserved-then-moment-there : goal.halving-preserved-then-moment-there
halving-preserved-then-moment-there c =
    let same = to_z-of_z w64 c.args.moment c.ranges.moment in
    let middle = c.halving.low + (c.halving.high - c.halving.low) / 2 in
    let first = read_first c.args.now c.args.moment c.self.inside.list c.args.self.now middle c.at-stamp.result.now c.moment-there.result c.requires c.self.view_is (omega (arith, c.halving.invariant.within)) c.at-stamp.ensures c.moment-there.ensures (let t = c.if-moment-there.true in grind (arith, ints)) in record {
      ordered = omega arith;
      within = omega (arith, c.halving.invariant.within);
      front = c.halving.invariant.front;
      back = rw same (ap (λ v. v - 1) c.version-found.ensures ∙ sym first.1);
    }

pub halving-preserved : goal.halving-preserved
halving-preserved c =
    let same = to_z-of_z w64 c.args.moment c.ranges.moment in
    let middle = c.halving.low + (c.halving.high - c.halving.low) / 2 in record {
      ordered = omega arith;
      within = omega (arith, c.halving.invariant.within);
      front = rw same (read_passed c.args.now c.args.moment c.self.inside.list c.args.self.now middle c.at-stamp.result.now c.moment-there.result c.requires c.self.view_is (omega (arith, c.halving.invariant.within)) c.at-stamp.ensures c.moment-there.ensures (let t = c.if-moment-there.false in grind (arith, ints)));
      back = c.halving.invariant.back;
    }

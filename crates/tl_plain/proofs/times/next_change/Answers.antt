use Rattle.std.proofs.Common.{◌≤ℤ◌, ◌<◌, All, length, take, sym, arith, rules, w64, SFits}
use mir.Val.{to_z, of_z}
use Rattle.std.proofs.lemmas.Int.{ints, to_z-of_z}
use Rattle.std.proofs.lemmas.List.Elements.{All-same}
use Rattle.std.specs.Borrow.{Bor}
use Rattle.tl_types.specs.Plain as plain
use Rattle.tl_plain.specs.Choosing.{IsSteady, lent}
use Rattle.tl_plain.proofs.CollectLemmas.{behind_item, behind_within, lent_all}
use Rattle.tl_plain.proofs.TimeLemmas.{more_quiet}
use Rattle.tl_plain.proofs.times.next_change.Goals as goal

pub loop-row-preserved : goal.loop-row-preserved
loop-row-preserved c =
    let at = to_z w64 (of_z w64 c.args.at) in
    let next = to_z w64 c.loop-row.next-bits in
    let less = to_z w64 (of_z w64 c.quiet_until-next.result) in
    let fits : SFits w64 c.quiet_until-next.result = search rules in
    let same = to_z-of_z w64 c.quiet_until-next.result fits in
    let made = c.quiet_until-next.ensures in
    let was = c.loop-row.invariant in
    let here : c.loop-row.row-index < length c.args.rows.now = omega arith in
    let sooner : less ≤ℤ next = rw same made.within in
    record {
      after = rw same made.after;
      within = omega (arith, ints);
      quiet = more_quiet c.args.span (lent c.args.rows.now) c.loop-row.row-index c.row-item.result.now at next less (behind_within (λ (r : Bor plain.Row). r.now) c.args.rows.now c.loop-row.row-index here) (behind_item (λ (r : Bor plain.Row). r.now) c.args.rows.now c.loop-row.row-index c.row-item.result here c.row-item.is) sooner was.quiet (λ moment after before. made.quiet moment after (rw same at before));
    }

pub returns-clause-quiet : goal.returns-clause-quiet
returns-clause-quiet c =
    let at = to_z w64 (of_z w64 c.args.at) in
    let next = to_z w64 c.loop-row.next-bits in
    let at_is = to_z-of_z w64 c.args.at c.ranges.at in
    let all = lent_all c.args.rows.now c.loop-row.row-index c.loop-row-test.false in
    let quiet : All (IsSteady c.args.span at next) (lent c.args.rows.now) = All-same (IsSteady c.args.span at next) (lent c.args.rows.now) (take c.loop-row.row-index (lent c.args.rows.now)) (sym all) c.loop-row.invariant.quiet in
    rw at_is at quiet

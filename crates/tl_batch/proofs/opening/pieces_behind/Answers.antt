use Rattle.std.proofs.Common.{◌≡◌, ◌-◌, arith, drop, subst}
use Rattle.tl_types.specs.Resolving.{put_lines}
use Rattle.tl_batch.specs.Covers.{HoldLines}
use Rattle.tl_batch.proofs.BehindLemmas.{pieces_more, held_more}
use Rattle.tl_batch.proofs.opening.pieces_behind.Goals as goal

pub behind-preserved : goal.behind-preserved
behind-preserved c =
    let some = c.behind-test.true in
    let most = c.behind.invariant.within in
    record {
      within = omega arith;
      back = pieces_more c.args.schema.now c.args.lines.now c.behind.i (c.behind.i - 1) c.index-lines-i.result c.behind.back.items c.push_behind.new.back.items (omega arith) (omega arith) c.index-lines-i.is c.behind.invariant.back (c.in_ok-push_behind.ensures.back (put_lines c.args.schema.now (drop c.behind.i c.args.lines.now)) c.behind.invariant.held);
      held = held_more c.args.schema.now c.args.lines.now c.behind.i (c.behind.i - 1) c.index-lines-i.result c.push_behind.new.periods (omega arith) (omega arith) c.index-lines-i.is (c.in_ok-push_behind.ensures.held (put_lines c.args.schema.now (drop c.behind.i c.args.lines.now)) c.behind.invariant.held);
    }

pub returns-clause-held : goal.returns-clause-held
returns-clause-held c =
    let h = c.behind-test.false in
    let none : c.behind.i ≡ 0 = omega arith in
    subst (λ n. HoldLines c.behind.periods (put_lines c.args.schema.now (drop n c.args.lines.now))) none c.behind.invariant.held

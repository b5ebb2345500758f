use Rattle.std.proofs.Common.{arith}
use Rattle.tl_column.proofs.RunFacts.{run_back, run_left, run_right, times_next}
use Rattle.tl_column.proofs.runs.merged.Goals as goal

pub next_code-requires-clause-left : goal.next_code-requires-clause-left
next_code-requires-clause-left c =
    run_back c.args.texts.now c.taking.run.items c.taking.left.now c.taking.invariant.left

pub next_code-requires-clause-right : goal.next_code-requires-clause-right
next_code-requires-clause-right c =
    run_back c.args.texts.now c.taking.run.items c.taking.right.now c.taking.invariant.right

pub taking-preserved : goal.taking-preserved
taking-preserved c =
    let next = c.in-Some.ensures in
    rw c.in_ok-push.ensures.items
    (record {
      left = run_left c.args.texts.now c.taking.run.items c.taking.left.now c.taking.right.now c.in-Some.code c.in-Some.more_left.now c.in-Some.more_right.now c.taking.invariant.left c.taking.invariant.right next;
      right = run_right c.args.texts.now c.taking.run.items c.taking.left.now c.taking.right.now c.in-Some.code c.in-Some.more_left.now c.in-Some.more_right.now c.taking.invariant.left c.taking.invariant.right next;
      all = λ code. omega (arith, c.taking.invariant.all code, times_next c.args.texts.now code c.taking.run.items c.taking.left.now c.taking.right.now c.in-Some.code c.in-Some.more_left.now c.in-Some.more_right.now next);
    })

use Rattle.std.proofs.Common.{◌≤◌}
use Rattle.tl_ckpt.proofs.valid_events.runs_to_merge.Given as goal

abbrev pub invariant-loop-i : goal.invariant-loop-i
invariant-loop-i l = l.merged ≤ l.i

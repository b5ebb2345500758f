use Rattle.std.proofs.Common.{◌≡◌, ◌++◌, ◌+◌, ◌-◌, ◌≤◌, length, drop}
use Rattle.tl_ckpt.specs.Valid.{merged}
use Rattle.tl_ckpt.proofs.merges.merged_by_steps.Given as goal

abbrev pub invariant-steps : goal.invariant-steps
invariant-steps l = record {
  all : l.out.items ++ merged (drop l.i l.events) (drop l.j l.changes) ≡ merged l.events l.changes;
  events : l.i ≤ length l.events;
  changes : l.j ≤ length l.changes;
}

abbrev pub decreases-steps : goal.decreases-steps
decreases-steps l = (length l.events - l.i) + (length l.changes - l.j)

use Rattle.std.proofs.Common.{◌≡◌, ◌≤◌, ◌-◌, length, drop}
use Rattle.tl_ckpt.specs.Valid.{Rises, merged}
use Rattle.tl_ckpt.specs.Choices.{chosen}
use Rattle.tl_ckpt.specs.Runs.{sum_of, lent}
use Rattle.tl_ckpt.proofs.lists.merged_in_turn.Given as goal

abbrev pub invariant-runs : goal.invariant-runs
invariant-runs l = record {
  within : l.i ≤ length l.runs;
  rises : Rises l.out.items;
  sum : merged (chosen l.choice (sum_of (drop l.i (lent l.runs)))) l.out.items ≡ chosen l.choice (sum_of (lent l.runs));
}

abbrev pub decreases-runs : goal.decreases-runs
decreases-runs l = length l.runs - l.i

use Rattle.std.proofs.Common.{◌≡◌, ◌-◌, ◌++◌, length}
use Rattle.tl_ckpt.specs.Choices.{chosen}
use Rattle.tl_ckpt.specs.Runs.{sum_of, AllRise, lent}
use Rattle.tl_ckpt.proofs.lists.merged_in_pieces.Given as goal

abbrev pub invariant-pieces : goal.invariant-pieces
invariant-pieces l = record {
  all : l.out.items ++ chosen l.choice (sum_of (lent l.rests.items)) ≡ chosen l.choice (sum_of (lent l.fn.runs.items));
  rise : AllRise (lent l.rests.items);
}

abbrev pub decreases-pieces : goal.decreases-pieces
decreases-pieces l = length l.longest - l.at

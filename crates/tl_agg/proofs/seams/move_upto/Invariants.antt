use Rattle.std.proofs.Common.{◌≡◌, ◌++◌, reverse, vec_len}
use Rattle.tl_agg.specs.Seams.{front_upto, rest_behind}
use Rattle.tl_agg.proofs.seams.move_upto.Given as goal

abbrev pub invariant-runs : goal.invariant-runs
invariant-runs l = record {
  done : l.done.items ++ front_upto l.run (reverse l.back.items) ≡ l.initial.done.items ++ front_upto l.run (reverse l.initial.back.items);
  back : rest_behind l.run (reverse l.back.items) ≡ rest_behind l.run (reverse l.initial.back.items);
}

abbrev pub decreases-runs : goal.decreases-runs
decreases-runs l = vec_len l.back

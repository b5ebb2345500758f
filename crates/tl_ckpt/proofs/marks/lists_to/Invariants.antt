use Rattle.std.proofs.Common.{◌≡◌, ◌-◌, ◌<◌, ◌++◌, [], length}
use Rattle.std.specs.Prelude.{replicate}
use Rattle.tl_ckpt.proofs.marks.lists_to.Given as goal

abbrev pub invariant-loop : goal.invariant-loop
invariant-loop l = record {
  lists : l.more.items ≡ l.lists ++ replicate (l.counter - length l.lists) [];
  none : l.count < length l.lists → l.counter ≡ length l.lists;
}

use Rattle.std.proofs.Common.{◌≡◌, ◌≤◌, ◌-◌, ◌++◌}
use Rattle.tl_csv.specs.Sample.{lines_from}
use Rattle.tl_csv.proofs.samples.put_lines.Given as goal

abbrev pub invariant-lines : goal.invariant-lines
invariant-lines l = record {
  lines : l.out.items ++ lines_from l.draw.start l.draw.count (l.to - l.draw.count) ≡ l.fn.out.items ++ lines_from l.fn.draw.start l.fn.draw.count (l.to - l.fn.draw.count);
  within : l.draw.count ≤ l.to;
  start : l.draw.start ≡ l.fn.draw.start;
}

abbrev pub decreases-lines : goal.decreases-lines
decreases-lines l = l.to - l.draw.count

use Rattle.std.proofs.Common.{◌≡◌, ◌+◌}
use Rattle.tl_store.specs.Log.{part}
use Rattle.tl_store.proofs.table.TableData.closes.Given as goal

abbrev pub invariant-loop-place : goal.invariant-loop-place
invariant-loop-place g l = record {
  value : l.closes.items ≡ part l.first l.place l.self.closed;
  ticks : l.steps ≡ l.fn.steps + l.place;
}

use Rattle.std.proofs.Common.{◌≡◌, ◌+◌, map}
use Rattle.tl_store.specs.Log.{part, opened_of}
use Rattle.tl_store.proofs.table.TableData.opens.Given as goal

abbrev pub invariant-loop-place : goal.invariant-loop-place
invariant-loop-place g l = record {
  value : l.opens.items ≡ map opened_of (part l.first l.place l.self.rows);
  ticks : l.steps ≡ l.fn.steps + l.place;
}

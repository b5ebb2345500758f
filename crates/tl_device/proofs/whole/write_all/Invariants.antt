use Rattle.std.proofs.Common.{◌≡◌, ◌≤◌, ◌-◌, length, take}
use Rattle.tl_device.specs.Known.{append_known, spend_room}
use Rattle.tl_device.proofs.whole.write_all.Given as goal

-- the first `at` bytes are written and their room is spent, and no fault rose
abbrev pub invariant-loop-at : goal.invariant-loop-at
invariant-loop-at g l =
    let sink = g.K.Sink in
    record {
      within : l.at ≤ length l.from;
      written : sink.written l.sink ≡ append_known (sink.written l.fn.sink) (take l.at l.from);
      spent : sink.spare l.sink ≡ spend_room (sink.spare l.fn.sink) l.at;
      sure : sink.faults l.sink ≡ sink.faults l.fn.sink;
    }

abbrev pub decreases-loop-at : goal.decreases-loop-at
decreases-loop-at g l = length l.from - l.at

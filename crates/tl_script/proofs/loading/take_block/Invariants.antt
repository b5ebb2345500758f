use Rattle.std.proofs.Common.{◌≡◌, ◌≤◌, ◌+◌, ◌-◌, length}
use Rattle.tl_device.specs.Known.{prepend_known}
use Rattle.tl_script.proofs.loading.take_block.Given as goal

abbrev pub invariant-reading : goal.invariant-reading
invariant-reading g l =
    let source = g.S.Source in
    record {
      order : source.left l.fn.source ≡ prepend_known l.pending (source.left l.source);
      bound : length l.pending ≤ l.most + 65536;
      sure : source.faults l.source ≡ source.faults l.fn.source;
    }

abbrev pub decreases-reading : goal.decreases-reading
decreases-reading g l = (l.most + 65537) - length l.pending

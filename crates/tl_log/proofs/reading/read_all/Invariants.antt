use Rattle.std.proofs.Common.{◌≡◌, ◌<◌, ◌-◌, ◌^◌, length, vec_len}
use Rattle.tl_device.specs.Known.{prepend_known}
use Rattle.tl_log.proofs.reading.read_all.Given as goal

abbrev pub invariant-reading : goal.invariant-reading
invariant-reading g l =
    let source = g.S.Source in
    record {
      order : source.left l.fn.source ≡ prepend_known l.bytes.items (source.left l.source);
      sure : source.faults l.source ≡ source.faults l.fn.source;
      room : 0 < length l.piece.items;
    }

abbrev pub decreases-reading : goal.decreases-reading
decreases-reading g l = 2 ^ 63 - vec_len l.bytes

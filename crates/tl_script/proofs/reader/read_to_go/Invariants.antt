use Rattle.std.proofs.Common.{◌≡◌, ◌≤◌, ◌+◌, ◌-◌, length, take, false}
use Rattle.tl_script.specs.Script.{stands_in}
use Rattle.tl_script.specs.InHand.{IsNamed, SoFar, spot_in}
use Rattle.tl_script.proofs.reader.read_to_go.Given as goal

abbrev pub invariant-reading : goal.invariant-reading
invariant-reading g l =
    let source = g.S.Source in
    record {
      within : l.searched ≤ length l.pending;
      none : stands_in 10 (take l.searched l.pending) ≡ false;
      limits : l.phase.limits ≡ l.fn.phase.limits;
      before : (spot_in l.phase).before ≡ (spot_in l.fn.phase).before;
      is_named : IsNamed (spot_in l.fn.phase) → IsNamed (spot_in l.phase);
      sure : source.faults l.source ≡ source.faults l.fn.source;
      so_far : SoFar l.fn.phase.limits (spot_in l.fn.phase) l.fn.pending (source.left l.fn.source) (spot_in l.phase) l.pending (source.left l.source);
    }

abbrev pub decreases-reading : goal.decreases-reading
decreases-reading g l = (l.fn.phase.limits.phase + l.fn.phase.limits.line + 65537) - (l.phase.size + length l.pending)

use Rattle.std.proofs.Common.{◌≡◌, ◌≤◌, ◌+◌, length, take, drop, false}
use Rattle.tl_script.specs.Script.{stands_in}
use Rattle.tl_script.specs.InHand.{IsNamed, spot_in}
use Rattle.tl_script.proofs.SpotLemmas.{ReadsRest}
use Rattle.tl_script.proofs.lines_in_hand.read_lines.Given as goal

abbrev pub invariant-reading : goal.invariant-reading
invariant-reading l =
    record {
      within : l.used ≤ length l.bytes;
      rest : l.rest ≡ drop l.used l.bytes;
      searched : l.from ≤ length l.rest;
      none : stands_in 10 (take l.from l.rest) ≡ false;
      size : l.fn.phase.size + l.used ≡ l.phase.size;
      limits : l.phase.limits ≡ l.fn.phase.limits;
      before : (spot_in l.phase).before ≡ (spot_in l.fn.phase).before;
      is_named : IsNamed (spot_in l.fn.phase) → IsNamed (spot_in l.phase);
      read : ReadsRest l.fn.phase.limits (spot_in l.fn.phase) l.bytes (spot_in l.phase) l.rest;
    }

abbrev pub decreases-reading : goal.decreases-reading
decreases-reading l = length l.rest

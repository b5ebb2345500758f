use Rattle.std.proofs.Common.{length, take, ◌-◌, ◌≡◌, ◌≤◌}
use Rattle.std.specs.Io.KnownBytes.{Consumes}
use Rattle.tl_device.proofs.named_file.fill.Given as goal

-- what was filled so far the reader has lost, and nothing else
abbrev pub invariant-loop-filled : goal.invariant-loop-filled
invariant-loop-filled g l =
    let reader = g.R.Read in
    record {
      size : length l.into ≡ length l.fn.into;
      within : l.filled ≤ length l.into;
      taken : Consumes (reader.remaining l.fn.reader) (reader.remaining l.reader) (take l.filled l.into);
    }

abbrev pub decreases-loop-filled : goal.decreases-loop-filled
decreases-loop-filled g l = length l.initial.into - l.filled

-- Bytes that are written to a sink.
use Rattle.std.specs.Prelude.{◌≡◌, ℕ, List, take, Option, Some, None}
use Rattle.tl_device.specs.Known.{append_known, Rose}
use Rattle.tl_command.specs.declared.stops.Stop.{Stop}
use Rattle.tl_command.specs.declared.stops.Stop.TheVariants as stop

-- all bytes are written; or the sink failed behind some prefix of them; or memory ran out before
-- the first. What is written and the count of faults are given before and after.
abbrev pub WritesBytes : List ℕ → Option (List ℕ) → Option (List ℕ) → ℕ → ℕ → Option Stop → Type 0
WritesBytes bytes old new before after None =
    (new ≡ append_known old bytes) × (after ≡ before)
WritesBytes bytes old new before after (Some stop.Ended) = ⊥
WritesBytes bytes old new before after (Some (stop.Fault f)) = ⊥
WritesBytes bytes old new before after (Some (stop.Source faults)) = ⊥
WritesBytes bytes old new before after (Some (stop.Sink faults)) =
    (faults ≡ after) × Rose before after
    × ((some : ℕ) × (new ≡ append_known old (take some bytes)))
WritesBytes bytes old new before after (Some stop.NoMemory) = (new ≡ old) × (after ≡ before)

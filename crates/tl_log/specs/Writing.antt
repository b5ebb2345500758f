-- What is written of a text that is written piece by piece, to a sink that may fail.
use Rattle.std.specs.Prelude.{◌≡◌, ◌≤◌, ℕ, List, ◌++◌, length, take, Option}
use Rattle.tl_device.specs.Known.{append_known, Rose}
use Rattle.tl_log.specs.declared.writing.WriteFault.{WriteFault}
use Rattle.tl_log.specs.declared.writing.WriteFault.TheVariants as fault

-- some first part of a text was written
abbrev pub WritesPart : List ℕ → Option (List ℕ) → Option (List ℕ) → Type 0
WritesPart text old new =
    (some : ℕ) × (some ≤ length text) × (new ≡ append_known old (take some text))

-- of a text, the part before this rest was written
pub record Sends (text rest : List ℕ) (old new : Option (List ℕ)) : Type 0 where
  pub sent : List ℕ
  pub written : new ≡ append_known old sent
  pub left : sent ++ rest ≡ text

-- the count of faults of a sink, whose writing failed or for which memory ran out
abbrev pub CountsWritten : WriteFault → ℕ → ℕ → Type 0
CountsWritten (fault.Sink faults) before after = (faults ≡ after) × Rose before after
CountsWritten fault.NoMemory before after = after ≡ before

-- where memory runs out before a text is begun, nothing is written
abbrev pub LeavesUnwritten : WriteFault → Option (List ℕ) → Option (List ℕ) → Type 0
LeavesUnwritten (fault.Sink faults) old new = Unit {0}
LeavesUnwritten fault.NoMemory old new = new ≡ old

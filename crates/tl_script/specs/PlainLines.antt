-- Whole lines of a block that are read together.
use Rattle.std.specs.Prelude.{◌≡◌, ℕ, ◌+◌, ◌-◌, ◌<◌, ◌≤◌, ◌^◌, ◌==◌, Bool, true, false, min, List, [], ◌∷◌, ◌++◌, length, take, drop, if◌then◌else◌}
use Rattle.tl_types.specs.declared.limits.Limits.{Limits}
use Rattle.tl_script.specs.Script.{stands_in}
use Rattle.tl_script.specs.Phases.{Inside, Spot, reading_from}
use Rattle.tl_script.specs.InHand.{IsNamed}

-- how many of the bytes are LF
abbrev pub line_ends : List ℕ → ℕ
line_ends [] = 0
line_ends (b ∷ bytes) = if b == 10 then line_ends bytes + 1 else line_ends bytes

-- the bytes are whole lines: none, or the last of them is LF
abbrev pub are_lines : List ℕ → Bool
are_lines [] = true
are_lines (b ∷ []) = b == 10
are_lines (b ∷ c ∷ bytes) = are_lines (c ∷ bytes)

-- whole lines without a backslash, with which the bytes begin
pub record ArePlain (bytes lines : List ℕ) : Type 0 where
  pub front : lines ≡ take (length lines) bytes
  pub whole : are_lines lines ≡ true
  pub plain : stands_in 92 lines ≡ false

-- behind lines of a block that do not end it
abbrev pub behind_plain : Spot → List ℕ → ℕ → ℕ → List ℕ → List ℕ → Spot
behind_plain spot lines session begun text block =
    record {
      before = spot.before;
      names = spot.names;
      line = min (spot.line + line_ends lines) (2 ^ 64 - 1);
      ended = spot.ended;
      size = spot.size + length lines;
      jobs = spot.jobs;
      place = Inside session begun text (block ++ lines);
    }

-- lines of so many bytes in all have no fault for their number or their length
pub record HasRoom (limits : Limits) (spot : Spot) (number : ℕ) : Type 0 where
  pub ended : spot.ended < limits.phases
  pub line : number ≤ limits.line
  pub phase : spot.size + number ≤ limits.phase

-- so many bytes were read, whole lines after which the phase goes on
pub record PassesLines (limits : Limits) (old : Spot) (bytes : List ℕ) (number : ℕ) (new : Spot)
    : Type 0 where
  pub within : number ≤ length bytes
  pub size : old.size + number ≡ new.size
  pub is_named : IsNamed old → IsNamed new
  pub read : (whole : Bool) (more : List ℕ) → reading_from whole limits old (bytes ++ more)
      ≡ reading_from whole limits new (drop number bytes ++ more)

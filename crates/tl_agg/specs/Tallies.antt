-- What the numbers of rows that come and go add up to.
use Rattle.std.specs.Prelude.{◌≡◌, ℕ, ℤ, pos, neg_ℤ, ◌+ℤ◌, ◌-ℤ◌, ◌≤ℤ◌, ◌+◌, ◌-◌, ◌*◌, ◌^◌, ◌≤◌, Bool, true, false, if◌then◌else◌}
use Rattle.tl_types.specs.declared.events.Event.{Event}
use Rattle.tl_running.specs.Standing.{IsShort}
use Rattle.tl_agg.specs.declared.tallies.Tally.{Tally}
use Rattle.tl_index.specs.Tables.{rows_in}
use Rattle.tl_running.specs.Telling.{TellsNumber}
use Rattle.tl_agg.specs.Scans.{ScanOf}

-- a sum that is far from the ends of a number of 128 bits
abbrev pub IsFarFromEnds : ℤ → Type 0
IsFarFromEnds n = (neg_ℤ (pos (2 ^ 100)) ≤ℤ n) × (n ≤ℤ pos (2 ^ 100))

-- what a row with a number adds to a sum where it comes, and else goes
abbrev pub signed : Bool → ℤ → ℤ
signed opens number = if opens then number else pos 0 -ℤ pos 1 -ℤ number

-- the rows when one with a number comes where `opens`, and else goes
abbrev pub tally_moved : Bool → ℤ → Tally → Tally
tally_moved opens number tally =
    record {
      came = if opens then tally.came + 1 else tally.came;
      kept = tally.kept + 1;
      sum = tally.sum +ℤ signed opens number;
    }

-- the sum of the numbers
abbrev pub total : Tally → ℤ
total tally = tally.sum +ℤ (pos tally.kept -ℤ pos tally.came)

-- how many rows there are, where there were so many
abbrev pub count_with : ℕ → Tally → ℕ
count_with before tally = before + 2 * tally.came - tally.kept

-- of so many events, where there were so many rows before them
pub record IsTally (before events : ℕ) (tally : Tally) : Type 0 where
  pub came : tally.came ≤ tally.kept
  pub kept : tally.kept ≤ events
  pub some : tally.kept ≤ before + 2 * tally.came

-- the row of an event, which is kept, comes or goes
pub record TalliesRow (scan : ScanOf) (event : Event) (old new : Tally) : Type 0 where
  pub number : ℤ
  pub told : TellsNumber scan.plan.kind scan.plan.column (rows_in scan.table) event.row number
  pub short : IsShort number
  pub moved : new ≡ tally_moved event.opens number old

-- the row of an event comes or goes where it is kept
abbrev pub TalliesWhere : Bool → ScanOf → Event → Tally → Tally → Type 0
TalliesWhere true scan event old new = TalliesRow scan event old new
TalliesWhere false scan event old new = new ≡ old

-- What a run over a journal that is opened comes to, once its engine is closed.
use Rattle.std.specs.Prelude.{◌≡◌, ℕ, Bool, false, IsTrue, List, Some}
use Rattle.tl_types.specs.declared.commits.Entry.{Entry}
use Rattle.tl_types.specs.Entries.{commits_of, has_break}
use Rattle.tl_types.specs.Legality.{are_legal}
use Rattle.tl_device.specs.declared.disk.Disk.{Ghosts as DiskGhosts}
use Rattle.tl_script.specs.Script.{ScriptReading}
use Rattle.tl_jobs.specs.Turns.{break_of}
use Rattle.tl_journal.specs.Stands.{DiskStandsFor}
use Rattle.tl_history.specs.Standing.{IsCount, ImageStandsForEntries}
use Rattle.tl_command.specs.declared.stops.Stop.{Stop}
use Rattle.tl_commands.specs.Runs.{Told}
use Rattle.tl_command.specs.Outside.{Streams}
use Rattle.tl_commands.specs.Stopping.{RunStops}

-- The phases stopped for this, and their replies tell of the last entries, which the closed engine
-- has: whether there is a break, and what the disk stands for, where it told its bytes before.
pub record Finishes {D : Type 0} (disks : DiskGhosts D) (begun : D) (opening : List Entry)
    (first_count : ℕ) (script : Bool → List ℕ → ScriptReading) (before after : Streams) (why : Stop)
    (broke : Bool) (disk : D) : Type 0 where
  pub last : List Entry
  pub legal : IsTrue (are_legal last)
  pub stops : RunStops (Told (commits_of opening) (commits_of last) (break_of last)) script why
      before after
  pub broke_is : broke ≡ has_break last
  pub count : IsCount (has_break last) first_count (disks.faults disk)
  pub whole : (b : List ℕ) → disks.reads begun ≡ Some b → has_break last ≡ false
      → (gate : ℕ) × DiskStandsFor disks.reads disks.may_leave disk (commits_of last) gate
  pub leaves : (b : List ℕ) → disks.reads begun ≡ Some b
      → (image : List ℕ) → disks.may_leave disk image → ImageStandsForEntries last image
  pub stands : (b : List ℕ) → disks.reads begun ≡ Some b
      → (image : List ℕ) × (disks.reads disk ≡ Some image) × ImageStandsForEntries last image

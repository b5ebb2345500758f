-- How a look at a journal ends: as the program does over a disk in memory that has the bytes of the
-- journal's file, or, where its words ask for names, as the asking of queries does.
use Rattle.std.specs.Prelude.{◌≡◌, ◌⊎◌, ℕ, Bool, true, false, ◌||◌, List, [], ◌∷◌, Some, codes}
use Rattle.std.specs.declared.option.Option.{Option}
use Rattle.tl_device.specs.Kept.{fresh}
use Rattle.tl_device.specs.Known.{Rose}
use Rattle.tl_device.specs.Plain.{Kept}
use Rattle.tl_device.specs.Replay.{Leaves}
use Rattle.tl_types.specs.Names.{same_bytes}
use Rattle.tl_asking.specs.Asking.{AskEnds}
use Rattle.tl_command.specs.Closing.{Closes}
use Rattle.tl_command.specs.Coming.{script_reads}
use Rattle.tl_command.specs.Outside.{Outside, Streams}
use Rattle.tl_command.specs.declared.statuses.Status.{Status}
use Rattle.tl_command.specs.declared.statuses.Status.TheVariants as status
use Rattle.tl_program.specs.Commands.{command_of, reads_source}
use Rattle.tl_program.specs.Ending.{Ends}
use Rattle.tl_program.specs.Headline.{Completes, Headline, RunCompletes}

-- the words ask for the names of an answer's columns: they are `--names` alone
abbrev pub asks_names : List (List ℕ) → Bool
asks_names [] = false
asks_names (word ∷ []) = same_bytes word (codes "--names")
asks_names (word ∷ more ∷ words) = false

-- a look with these words reads the source: where they ask for names, and where the program reads
-- it
abbrev pub looks_at_source : List (List ℕ) → Bool
looks_at_source words = asks_names words || reads_source (command_of words)

-- a source, a sink, and a disk in memory that never fails
abbrev pub beside : Streams → Kept → Outside
beside streams disk =
    record {
      left = streams.left;
      source_faults = streams.source_faults;
      written = streams.written;
      sink_faults = streams.sink_faults;
      reads = Some disk.bytes;
      may_leave = Leaves disk;
      disk_faults = 0;
    }

-- the program ran over a disk in memory that has these bytes, and left it as some disk
pub record RunsOver (words : List (List ℕ)) (image : List ℕ) (before after : Streams)
    (ended : Status) : Type 0 where
  pub disk : Kept
  pub ends : Ends words (beside before (fresh image)) (beside after disk) ended
  pub headline : Headline words (beside before (fresh image)) (beside after disk) ended
  pub complete : Completes words (beside before (fresh image)) (beside after disk) ended

-- queries were asked over a disk in memory that has these bytes, and it was left as some disk
pub record AsksOver (image : List ℕ) (before after : Streams) (ended : Status) : Type 0 where
  pub disk : Kept
  pub ends : AskEnds script_reads (beside before (fresh image)) (beside after disk) ended
  pub complete : RunCompletes script_reads (beside before (fresh image)) (beside after disk) ended

-- what is done over these bytes, by whether the words ask for names
abbrev pub DoesOver : Bool → List (List ℕ) → List ℕ → Streams → Streams → Status → Type 0
DoesOver true words image before after ended = AsksOver image before after ended
DoesOver false words image before after ended = RunsOver words image before after ended

-- these are all bytes of the file, where it tells them
abbrev pub IsWhole : Option (List ℕ) → List ℕ → Type 0
IsWhole told image = (b : List ℕ) → told ≡ Some b → image ≡ b

-- the file was read whole, without a fault, and what the words ask for was done over its bytes
pub record LooksOver (words : List (List ℕ)) (told : Option (List ℕ)) (first last : ℕ)
    (before after : Streams) (ended : Status) : Type 0 where
  pub image : List ℕ
  pub sure : last ≡ first
  pub whole : IsWhole told image
  pub does : DoesOver (asks_names words) words image before after ended

-- the file failed: nothing was read of the source, and the closing line of a disk that fails was
-- written
pub record FailsToLook (faults_before faults_after : ℕ) (before after : Streams) (ended : Status)
    : Type 0 where
  pub rose : Rose faults_before faults_after
  pub left_same : after.left ≡ before.left
  pub source_same : after.source_faults ≡ before.source_faults
  pub closes : Closes [] (status.DiskFault faults_after) before.written after.written
      before.sink_faults after.sink_faults ended

-- memory ran out before the file was read whole, and all is as it was
abbrev pub StopsBeforehand : Streams → Streams → Status → Type 0
StopsBeforehand before after ended = (after ≡ before) × (ended ≡ status.NoMemory)

-- how a look ends of a file that had these bytes left, where it tells them, by its count of faults
-- before and after, and by the source and the sink before and after
abbrev pub Looks : List (List ℕ) → Option (List ℕ) → ℕ → ℕ → Streams → Streams → Status → Type 0
Looks words told faults_before faults_after before after ended =
    LooksOver words told faults_before faults_after before after ended
    ⊎ (StopsBeforehand before after ended
    ⊎ FailsToLook faults_before faults_after before after ended)

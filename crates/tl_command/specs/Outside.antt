-- The outside of a run: where its bytes come from, where they go, and the disk that keeps its
-- journal.
use Rattle.std.specs.Prelude.{◌≡◌, ℕ, List, Some, None}
use Rattle.std.specs.declared.option.Option.{Option}
use Rattle.tl_types.specs.declared.commits.Commit.{Commit}
use Rattle.tl_types.specs.Limits.{standard_limits}
use Rattle.tl_device.specs.Known.{Rose}
use Rattle.tl_device.specs.Disk.{Only}
use Rattle.tl_device.specs.declared.disk.Disk.{Ghosts as DiskGhosts}
use Rattle.tl_device.specs.declared.sink.Sink.{Ghosts as SinkGhosts}
use Rattle.tl_device.specs.declared.source.Source.{Ghosts as SourceGhosts}
use Rattle.tl_journal.specs.Image.{ImageStandsFor, ImageStandsOnlyFor, BeforeOrAfter}
use Rattle.tl_journal.specs.Moments.{OldOr}
use Rattle.tl_journal.specs.Stands.{SameOrTrimmed}
use Rattle.tl_types.specs.Legality.{FitInTurn}

-- what the source has left, what is written to the sink, and what a read of the disk gives, where
-- each tells that; what a crash now may leave of the disk; and the counts of faults of the three
pub record Outside : Type 1 where
  pub left : Option (List ℕ)
  pub source_faults : ℕ
  pub written : Option (List ℕ)
  pub sink_faults : ℕ
  pub reads : Option (List ℕ)
  pub may_leave : List ℕ → Type 0
  pub disk_faults : ℕ

-- the outside of a sink, a disk and a source that has so much left and so many faults, by what
-- their traits show of them
abbrev pub outside_from : {K D : Type 0} → SinkGhosts K → DiskGhosts D
    → Option (List ℕ) → ℕ → K → D → Outside
outside_from sinks disks left faults sink disk =
    record {
      left = left;
      source_faults = faults;
      written = sinks.written sink;
      sink_faults = sinks.faults sink;
      reads = disks.reads disk;
      may_leave = disks.may_leave disk;
      disk_faults = disks.faults disk;
    }

-- the same of a source
abbrev pub outside : {S K D : Type 0} → SourceGhosts S → SinkGhosts K → DiskGhosts D
    → S → K → D → Outside
outside sources sinks disks source sink disk =
    outside_from sinks disks (sources.left source) (sources.faults source) sink disk

-- the source and the sink of it
pub record Streams : Type 0 where
  pub left : Option (List ℕ)
  pub source_faults : ℕ
  pub written : Option (List ℕ)
  pub sink_faults : ℕ

-- a source and a sink, by what their traits show of them
abbrev pub streams : {S K : Type 0} → SourceGhosts S → SinkGhosts K → S → K → Streams
streams sources sinks source sink =
    record {
      left = sources.left source;
      source_faults = sources.faults source;
      written = sinks.written sink;
      sink_faults = sinks.faults sink;
    }

-- the source and the sink of an outside
abbrev pub streams_of : Outside → Streams
streams_of outside =
    record {
      left = outside.left;
      source_faults = outside.source_faults;
      written = outside.written;
      sink_faults = outside.sink_faults;
    }

-- nothing was taken from the source
abbrev pub IsUnread : Outside → Outside → Type 0
IsUnread before after = (after.left ≡ before.left) × (after.source_faults ≡ before.source_faults)

-- THE DISK

-- a read of the disk gives what it gave, and a crash leaves nothing that it could not leave before
pub record IsSameDisk (before after : Outside) : Type 0 where
  pub reads_same : after.reads ≡ before.reads
  pub no_more : (c : List ℕ) → after.may_leave c → before.may_leave c

-- where the disk tells its bytes, a crash leaves all that it could leave before
abbrev pub LeavesNoLess : Outside → Outside → Type 0
LeavesNoLess before after =
    (b : List ℕ) → before.reads ≡ Some b → (c : List ℕ) → before.may_leave c → after.may_leave c

-- a read gives what it gave, and a crash leaves just what it could leave before
abbrev pub DiskAsBefore : Outside → Outside → Type 0
DiskAsBefore before after = IsSameDisk before after × LeavesNoLess before after

-- where the disk told its bytes, a crash leaves just these
abbrev pub DiskDurable : Outside → Outside → Type 0
DiskDurable before after =
    (b : List ℕ) → before.reads ≡ Some b → (after.reads ≡ Some b) × Only b after.may_leave

-- where the disk told its bytes, a crash leaves just these, or these without what stood past the
-- closed gate
abbrev pub DiskTrimmed : Outside → Outside → Type 0
DiskTrimmed before after =
    (b : List ℕ) → before.reads ≡ Some b
    → (c : List ℕ) × SameOrTrimmed b c × (after.reads ≡ Some c) × Only c after.may_leave

-- a journal that the disk was stays one of the same commits: it is read as before, or without what
-- stood past its closed gate
pub record KeepsJournal (before after : Outside) : Type 0 where
  pub same_or_trimmed : (b : List ℕ) → before.reads ≡ Some b
      → (c : List ℕ) × (after.reads ≡ Some c) × SameOrTrimmed b c
  pub leaves : (b : List ℕ) (cs : List Commit) → before.reads ≡ Some b → ImageStandsFor cs b
      → (c : List ℕ) → after.may_leave c → OldOr before.may_leave (ImageStandsFor cs) c

-- a history opens with these commits: they fit one after the other, and where the disk tells its
-- bytes it is a journal of them, and of no others
pub record OpensWith (opening : List Commit) (before : Outside) : Type 0 where
  pub fitting : FitInTurn standard_limits opening
  pub stands : (b : List ℕ) → before.reads ≡ Some b → ImageStandsOnlyFor opening b

-- the image is a journal of the commits, or, where a break came, of these and the break's
abbrev pub StandsWithBreak : List Commit → Option Commit → List ℕ → Type 0
StandsWithBreak commits None image = ImageStandsFor commits image
StandsWithBreak commits (Some c) image = BeforeOrAfter commits c image

-- a crash leaves what a read gives and nothing else
abbrev pub IsSettled : Outside → Type 0
IsSettled outside =
    (image : List ℕ) × (outside.reads ≡ Some image) × Only image outside.may_leave

-- a break comes only where the disk's count of faults rose
abbrev pub CountsBreak : Option Commit → ℕ → ℕ → Type 0
CountsBreak None before now = now ≡ before
CountsBreak (Some c) before now = Rose before now

-- The disk holds the journal of the commits: where it told its bytes it tells them still, and what
-- a read gives and what a crash now leaves stand for them, or, with a break, for these or these and
-- the break's; without a break a crash leaves what a read gives.
pub record HoldsJournal (commits : List Commit) (broke : Option Commit) (before after : Outside)
    : Type 0 where
  pub counts : CountsBreak broke before.disk_faults after.disk_faults
  pub leaves : (b : List ℕ) → before.reads ≡ Some b
      → (image : List ℕ) → after.may_leave image → StandsWithBreak commits broke image
  pub reads : (b : List ℕ) → before.reads ≡ Some b
      → (image : List ℕ) × (after.reads ≡ Some image) × StandsWithBreak commits broke image
  pub settled : (b : List ℕ) → before.reads ≡ Some b → broke ≡ None → IsSettled after

-- What the disk of a journal holds.
use Rattle.std.proofs.Common.{◌≡◌, ℕ, List, [], ◌∷◌, ◌++◌, Some, None, refl, sym, subst}
use Rattle.tl_types.specs.declared.commits.Commit.{Commit}
use Rattle.tl_device.specs.Disk.{Only}
use Rattle.tl_device.specs.declared.disk.Disk.{Ghosts as DiskGhosts}
use Rattle.tl_journal.specs.Image.{header, ImageStandsFor}
use Rattle.tl_journal.specs.Stands.{DiskStandsFor}
use Rattle.tl_command.specs.Outside.{Outside, HoldsJournal}

-- a read gives the journal of the commits, and a crash leaves just that
abbrev pub Holds : Outside → List Commit → Type 0
Holds after commits = (bytes : List ℕ) × (after.reads ≡ Some bytes) × Only bytes after.may_leave × ImageStandsFor commits bytes

-- an outside whose disk does so holds the journal
pub holds_journal : (commits : List Commit) (before after : Outside) → after.disk_faults ≡ before.disk_faults → ((b : List ℕ) → before.reads ≡ Some b → Holds after commits) → HoldsJournal commits None before after
holds_journal commits before after count holds =
    record {
      counts = count;
      leaves = λ b told image left. let h = holds b told in subst (ImageStandsFor commits) (sym (h.2 image left)) h.3;
      reads = λ b told. let h = holds b told in (h.0, h.1, h.3);
      settled = λ b told none. let h = holds b told in (h.0, h.1, h.2);
    }

-- the image of a disk that stands for commits
pub stored_image : {D : Type 0} (disks : DiskGhosts D) (disk : D) (commits : List Commit) (gate : ℕ) → DiskStandsFor disks.reads disks.may_leave disk commits gate → (bytes : List ℕ) × (disks.reads disk ≡ Some bytes) × Only bytes (disks.may_leave disk) × ImageStandsFor commits bytes
stored_image disks disk commits gate h = ((header ++ h.front) ++ 0 ∷ [], h.stored.reads_as, h.stored.only, (h.front, h.opens, ([], refl)))

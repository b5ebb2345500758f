-- What the disk holds once a history is closed.
use Rattle.std.proofs.Common.{◌≡◌, ℕ, Bool, true, false, List, [], ◌∷◌, ◌++◌, Some, None, refl, sym, subst, inl, inr, ◌⊎◌}
use Rattle.std.specs.declared.option.Option.{Option}
use Rattle.tl_types.specs.declared.commits.Commit.{Commit}
use Rattle.tl_types.specs.declared.commits.Entry.{Entry}
use Rattle.tl_types.specs.Entries.{commits_of, has_break}
use Rattle.tl_device.specs.Disk.{Only}
use Rattle.tl_device.specs.declared.disk.Disk.{Ghosts as DiskGhosts}
use Rattle.tl_jobs.specs.Turns.{break_of}
use Rattle.tl_journal.specs.Image.{header, ImageStandsFor, BeforeOrAfter}
use Rattle.tl_journal.specs.Stands.{DiskStandsFor}
use Rattle.tl_types.specs.Legality.{are_legal}
use Rattle.tl_history.specs.Standing.{IsCount, ImageStandsForEntries}
use Rattle.tl_command.specs.Outside.{Outside, StandsWithBreak, CountsBreak, HoldsJournal}
use Rattle.tl_commands.proofs.EntryLemmas.{break_none, break_some, tried_none, tried_some}

pub some_same : (xs ys : List ℕ) → Some xs ≡ Some ys → xs ≡ ys
some_same xs ys e = cc

counts : (b : Bool) (broke : Option Commit) (first now : ℕ) → IsCount b first now → ((b ≡ false) × (broke ≡ None)) ⊎ ((b ≡ true) × ((c : Commit) × (broke ≡ Some c))) → CountsBreak broke first now
counts false broke first now h (inl e) = subst (λ (o : Option Commit). CountsBreak o first now) (sym e.1) h
counts true broke first now h (inr e) = subst (λ (o : Option Commit). CountsBreak o first now) (sym e.1.1) h
counts true broke first now h (inl e) = absurd (cc (e.0))
counts false broke first now h (inr e) = absurd (cc (e.0))

either : (es : List Entry) → ((has_break es ≡ false) × (break_of es ≡ None)) ⊎ ((has_break es ≡ true) × ((c : Commit) × (break_of es ≡ Some c)))
either es = by_test (has_break es) refl where
  by_test : (t : Bool) → has_break es ≡ t → ((has_break es ≡ false) × (break_of es ≡ None)) ⊎ ((has_break es ≡ true) × ((c : Commit) × (break_of es ≡ Some c)))
  by_test false e = inl (e, break_none es e)
  by_test true e = inr (e, break_some es e)

image : (es : List Entry) (bytes : List ℕ) → are_legal es ≡ true → ImageStandsForEntries es bytes → StandsWithBreak (commits_of es) (break_of es) bytes
image es bytes legal h = by_break (either es) where
  by_break : ((has_break es ≡ false) × (break_of es ≡ None)) ⊎ ((has_break es ≡ true) × ((c : Commit) × (break_of es ≡ Some c))) → StandsWithBreak (commits_of es) (break_of es) bytes
  by_break (inl e) = subst (λ (o : Option Commit). StandsWithBreak (commits_of es) o bytes) (sym e.1) (both h) where
    both : ImageStandsForEntries es bytes → ImageStandsFor (commits_of es) bytes
    both (inl own) = own
    both (inr own) = subst (λ (cs : List Commit). ImageStandsFor cs bytes) (tried_none es legal e.1) own
  by_break (inr e) = subst (λ (o : Option Commit). StandsWithBreak (commits_of es) o bytes) (sym e.1.1) (one h) where
    one : ImageStandsForEntries es bytes → BeforeOrAfter (commits_of es) e.1.0 bytes
    one (inl own) = inl own
    one (inr own) = inr (subst (λ (cs : List Commit). ImageStandsFor cs bytes) (tried_some es e.1.0 legal e.1.1) own)

-- where no break is told there is none
unbroken : (es : List Entry) → break_of es ≡ None → has_break es ≡ false
unbroken es none = by_break (either es) where
  by_break : ((has_break es ≡ false) × (break_of es ≡ None)) ⊎ ((has_break es ≡ true) × ((c : Commit) × (break_of es ≡ Some c))) → has_break es ≡ false
  by_break (inl e) = e.0
  by_break (inr e) = absurd (let f = e.1.1 in cc)

-- what the closed history's disk holds
pub holds : (es : List Entry) (before after : Outside) → are_legal es ≡ true → IsCount (has_break es) before.disk_faults after.disk_faults
    → ((b : List ℕ) → before.reads ≡ Some b → (bytes : List ℕ) → after.may_leave bytes → ImageStandsForEntries es bytes)
    → ((b : List ℕ) → before.reads ≡ Some b → (bytes : List ℕ) × (after.reads ≡ Some bytes) × ImageStandsForEntries es bytes)
    → ((b : List ℕ) → before.reads ≡ Some b → has_break es ≡ false → (bytes : List ℕ) × (after.reads ≡ Some bytes) × Only bytes after.may_leave)
    → HoldsJournal (commits_of es) (break_of es) before after
holds es before after legal count leaves reads whole =
    record {
      counts = counts (has_break es) (break_of es) before.disk_faults after.disk_faults count (either es);
      leaves = λ b told bytes left. image es bytes legal (leaves b told bytes left);
      reads = λ b told. let h = reads b told in (h.0, h.1, image es h.0 legal h.2);
      settled = λ b told none. whole b told (unbroken es none);
    }

-- a whole journal is what a read gives, and all that a crash leaves
pub whole_image : {D : Type 0} (disks : DiskGhosts D) (disk : D) (commits : List Commit) → (gate : ℕ) × DiskStandsFor disks.reads disks.may_leave disk commits gate → (bytes : List ℕ) × (disks.reads disk ≡ Some bytes) × Only bytes (disks.may_leave disk)
whole_image disks disk commits (gate, h) = ((header ++ h.front) ++ 0 ∷ [], h.stored.reads_as, h.stored.only)

-- How a run over a journal that was opened ends.
use Rattle.std.proofs.Common.{◌≡◌, ℕ, Bool, false, List, [], Some, None, is_some, ◌≤◌, arith, refl, sym, ◌∙◌, subst, inl, inr}
use Rattle.std.specs.declared.option.Option.{Option}
use Rattle.tl_types.specs.declared.commits.Commit.{Commit}
use Rattle.tl_types.specs.declared.commits.Entry.{Entry}
use Rattle.tl_types.specs.Entries.{commits_of, has_break}
use Rattle.tl_device.specs.Known.{Rose}
use Rattle.tl_device.specs.declared.disk.Disk.{Ghosts as DiskGhosts}
use Rattle.tl_script.specs.Script.{ScriptReading}
use Rattle.tl_jobs.specs.Turns.{break_of}
use Rattle.tl_journal.specs.Answers.{CountsFaults, IsDeviceOrMemory}
use Rattle.tl_journal.specs.Image.{ImageStandsFor}
use Rattle.tl_journal.specs.Stands.{empty_journal}
use Rattle.tl_journal.specs.declared.faults.JournalFault.{JournalFault}
use Rattle.tl_journal.specs.declared.faults.JournalFault.TheVariants as journal
use Rattle.tl_history.specs.Standing.{IsCount}
use Rattle.tl_command.specs.declared.statuses.Status.{Status}
use Rattle.tl_command.specs.declared.stops.Stop.{Stop}
use Rattle.tl_command.specs.Closing.{EndsFor, ClosesAfter}
use Rattle.tl_commands.specs.Runs.{Told, PhasesEnd, OpenedEnds, RunEnds, SampleEnds, sink_alone}
use Rattle.tl_commands.specs.Finishing.{Finishes}
use Rattle.tl_command.specs.Outside.{Outside, OpensWith, CountsBreak}
use Rattle.tl_commands.proofs.EntryLemmas.{has_break_is}
use Rattle.tl_commands.proofs.HoldsLemmas.{holds, whole_image}

closes_same : (why : Stop) (b c : Bool) (m n : ℕ) (old new : Option (List ℕ)) (before after : ℕ) (ended : Status) → b ≡ c → m ≡ n → ClosesAfter why b m old new before after ended → ClosesAfter why c n old new before after ended
closes_same why b c m n old new before after ended e f h =
    subst (λ (k : ℕ). ClosesAfter why c k old new before after ended) f (subst (λ (t : Bool). ClosesAfter why t m old new before after ended) e h)

-- a run that was closed
pub opened_ends : {D : Type 0} (disks : DiskGhosts D) (begun disk : D) (entries : List Entry) (first_count : ℕ) (script : Bool → List ℕ → ScriptReading)
    (left_before left_after : Option (List ℕ)) (source_before source_after : ℕ) (written_before written_at written_after : Option (List ℕ)) (sink_before sink_at sink_after : ℕ) (why : Stop) (broke : Bool) (count : ℕ) (ended : Status)
    → first_count ≡ disks.faults begun → count ≡ disks.faults disk
    → OpensWith (commits_of entries) (record { left = left_before; source_faults = source_before; written = written_before; sink_faults = sink_before; reads = disks.reads begun; may_leave = disks.may_leave begun; disk_faults = disks.faults begun })
    → Finishes disks begun entries first_count script (record { left = left_before; source_faults = source_before; written = written_before; sink_faults = sink_before }) (record { left = left_after; source_faults = source_after; written = written_at; sink_faults = sink_at }) why broke disk
    → ClosesAfter why broke count written_at written_after sink_at sink_after ended
    → OpenedEnds script (commits_of entries) (record { left = left_before; source_faults = source_before; written = written_before; sink_faults = sink_before; reads = disks.reads begun; may_leave = disks.may_leave begun; disk_faults = disks.faults begun })
    (record { left = left_after; source_faults = source_after; written = written_after; sink_faults = sink_after; reads = disks.reads disk; may_leave = disks.may_leave disk; disk_faults = disks.faults disk }) ended
opened_ends disks begun disk entries first_count script left_before left_after source_before source_after written_before written_at written_after sink_before sink_at sink_after why broke count ended first counted opens f closes =
    let before : Outside = record { left = left_before; source_faults = source_before; written = written_before; sink_faults = sink_before; reads = disks.reads begun; may_leave = disks.may_leave begun; disk_faults = disks.faults begun } in
    let after : Outside = record { left = left_after; source_faults = source_after; written = written_after; sink_faults = sink_after; reads = disks.reads disk; may_leave = disks.may_leave disk; disk_faults = disks.faults disk } in
    record {
      opens = opens;
      all = commits_of f.last;
      broke = break_of f.last;
      holds = holds f.last before after f.legal (subst (λ (n : ℕ). IsCount (has_break f.last) n (disks.faults disk)) first f.count) f.leaves f.stands (λ b told unbroken. whole_image disks disk (commits_of f.last) (f.whole b told unbroken));
      ends = record {
        why = why;
        at = record { left = left_after; source_faults = source_after; written = written_at; sink_faults = sink_at };
        stops = f.stops;
        left_same = refl;
        source_same = refl;
        closes = closes_same why broke (is_some (break_of f.last)) count (disks.faults disk) written_at written_after sink_at sink_after ended (f.broke_is ∙ has_break_is f.last) counted closes;
      };
    }

-- WHERE NO COUNT RISES

pub no_rise : Rose 0 0 → ⊥
no_rise h = let k : 1 ≤ 0 = h.higher in omega (arith, k)

-- no break came
pub no_break : (broke : Option Commit) (first now : ℕ) → CountsBreak broke first now → (Rose first now → ⊥) → broke ≡ None
no_break None first now h sure = refl
no_break (Some c) first now h sure = absurd (sure h)

-- a fault of the disk or being out of memory is the latter
pub only_memory : (fault : JournalFault) (before now : ℕ) → CountsFaults fault before now → (Rose before now → ⊥) → IsDeviceOrMemory fault → fault ≡ journal.NoMemory
only_memory fault before now counts sure (inl e) = e
only_memory fault before now counts sure (inr (n, e)) = absurd (sure (subst (λ (f : JournalFault). CountsFaults f before now) e counts).1)

-- THE SAMPLE

-- the empty journal is a journal of no commit
no_commit : (image : List ℕ) → image ≡ empty_journal → ImageStandsFor [] image
no_commit image e = subst (λ (b : List ℕ). ImageStandsFor [] b) (sym e) ([], refl, ([], refl))

-- the outside of a run without a source, over a disk in memory that never fails
abbrev pub sure_outside : List ℕ → (List ℕ → Type 0) → Option (List ℕ) → ℕ → Outside
sure_outside image may_leave written faults =
    record { left = None; source_faults = 0; written = written; sink_faults = faults; reads = Some image; may_leave = may_leave; disk_faults = 0 }

-- phases that were run over an empty journal on such a disk
pub sample_ends : (image later : List ℕ) (may_leave may_leave_later : List ℕ → Type 0) (reads : Bool → List ℕ → ScriptReading) (reading : ScriptReading) (old new : Option (List ℕ)) (first last : ℕ) (ended : Status)
    → image ≡ empty_journal → reads ≡ (λ whole bytes. reading)
    → RunEnds reads (sure_outside image may_leave old first) (sure_outside later may_leave_later new last) ended
    → SampleEnds reading old new first last ended
sample_ends image later may_leave may_leave_later reads reading old new first last ended empty same (inl refused) =
    inl (subst (λ (f : JournalFault). EndsFor f old new first last ended) memory refused.ends) where
      memory : refused.fault ≡ journal.NoMemory
      memory = only_memory refused.fault 0 0 refused.counts no_rise (refused.honest image [] refl (no_commit image empty) tt)
sample_ends image later may_leave may_leave_later reads reading old new first last ended empty same (inr (opening, h)) = inr (
  h.all,
  subst (λ (r : Bool → List ℕ → ScriptReading). PhasesEnd (Told [] h.all None) r false 0 (sink_alone old first) (sink_alone new last) ended) same
      (subst (λ (o : Option Commit). PhasesEnd (Told [] h.all o) reads (is_some o) 0 (sink_alone old first) (sink_alone new last) ended) none
      (subst (λ (cs : List Commit). PhasesEnd (Told cs h.all h.broke) reads (is_some h.broke) 0 (sink_alone old first) (sink_alone new last) ended) opened h.ends)),
) where
  opened : opening ≡ []
  opened = sym ((h.opens.stands image refl).only [] (no_commit image empty))

  none : h.broke ≡ None
  none = no_break h.broke 0 0 h.holds.counts no_rise

-- How the asking of queries ends over a journal that is refused, or opened.
use Rattle.std.proofs.Common.{◌≡◌, ℕ, Bool, false, List, Ok, Err, refl, ap, ◌∙◌, subst}
use Rattle.std.specs.declared.option.Option.{Option}
use Rattle.tl_types.specs.declared.limits.Limits.{Limits}
use Rattle.tl_types.specs.Entries.{commits_of, has_break}
use Rattle.tl_types.specs.Legality.{FitInTurn}
use Rattle.tl_types.specs.Limits.{standard_limits}
use Rattle.tl_device.specs.declared.disk.Disk.{Ghosts as DiskGhosts}
use Rattle.tl_script.specs.Script.{ScriptReading}
use Rattle.tl_journal.specs.declared.opening.Refused.{Refused}
use Rattle.tl_journal.specs.Stands.{DiskStandsFor}
use Rattle.tl_history.specs.Answers.{Opens}
use Rattle.tl_history.specs.Plain as history
use Rattle.tl_history.specs.Standing.{DiskStandsForHistory}
use Rattle.tl_command.specs.declared.statuses.Status.{Status}
use Rattle.tl_command.specs.Closing.{EndsFor, EndsRefused}
use Rattle.tl_command.specs.Outside.{streams_of}
use Rattle.tl_command.proofs.HeldLemmas.{holds_journal, stored_image}
use Rattle.tl_command.proofs.OpenedLemmas.{ends_refused, outside_of}
use Rattle.tl_commands.specs.Runs.{PhasesEnd}
use Rattle.tl_asking.specs.Answers.{AreAnswered}
use Rattle.tl_asking.specs.Asking.{AskOpened}

-- what an opening says that is refused is the same at any pace
at_no_pace : {D : Type 0} (disks : DiskGhosts D) (limits : Limits) (k : ℕ) (disk : D) (r : Refused D)
    → Opens disks.reads disks.may_leave disks.moment disks.left_since disks.faults limits k disk (Err r) → Opens disks.reads disks.may_leave disks.moment disks.left_since disks.faults limits 0 disk (Err r)
at_no_pace disks limits k disk r o =
    record {
      opened = tt;
      limits = tt;
      count = tt;
      stands = o.stands;
      image = o.image;
      honest = o.honest;
      any_moment = o.any_moment;
      no_journal = o.no_journal;
      no_journal_now = o.no_journal_now;
      now = o.now;
      reads = o.reads;
      faults = o.faults;
      too_short = o.too_short;
      no_less = o.no_less;
      damaged = o.damaged;
      durable = o.durable;
      no_memory = o.no_memory;
      not_long = o.not_long;
    }

-- the journal was refused
pub ask_refused : {D : Type 0} (disks : DiskGhosts D) (disk : D) (limits : Limits) (k : ℕ) (r : Refused D) (left written new : Option (List ℕ)) (source sink last : ℕ) (ended : Status)
    → Opens disks.reads disks.may_leave disks.moment disks.left_since disks.faults limits k disk (Err r) → limits ≡ standard_limits → EndsFor r.fault written new sink last ended
    → EndsRefused (outside_of disks left source written sink disk) (outside_of disks left source new last r.disk) ended
ask_refused disks disk limits k r left written new source sink last ended opens standard ends =
    ends_refused disks disk limits (Err r) r left written new source sink last ended (at_no_pace disks limits k disk r opens) refl standard ends

-- the journal was opened, and its queries were answered
pub ask_opened : {D : Type 0} (disks : DiskGhosts D) (disk last : D) (limits : Limits) (k : ℕ) (h : history.History D) (reads : Bool → List ℕ → ScriptReading) (left left_after written new : Option (List ℕ)) (source source_after sink sink_after : ℕ) (ended : Status)
    → Opens disks.reads disks.may_leave disks.moment disks.left_since disks.faults limits k disk (Ok h) → limits ≡ standard_limits → last ≡ h.journal.disk
    → (DiskStandsForHistory disks.reads disks.may_leave h → has_break h.entries ≡ false → DiskStandsFor disks.reads disks.may_leave last (commits_of h.entries) h.journal.gate)
    → PhasesEnd (AreAnswered (commits_of h.entries)) reads false 0 (streams_of (outside_of disks left source written sink disk)) (streams_of (outside_of disks left_after source_after new sink_after last)) ended
    → AskOpened reads (commits_of h.entries) (outside_of disks left source written sink disk) (outside_of disks left_after source_after new sink_after last) ended
ask_opened disks disk last limits k h reads left left_after written new source source_after sink sink_after ended o standard same whole ends =
    record {
      opens = record {
        fitting = subst (λ (l : Limits). FitInTurn l (commits_of h.entries)) (o.limits ∙ standard) o.opened.fitting;
        stands = λ b told. o.image b told;
      };
      holds = holds_journal (commits_of h.entries) (outside_of disks left source written sink disk) (outside_of disks left_after source_after new sink_after last) (ap disks.faults same ∙ o.count.1)
          (λ b told. stored_image disks last (commits_of h.entries) h.journal.gate (whole (o.stands b told) o.opened.whole));
      ends = ends;
    }

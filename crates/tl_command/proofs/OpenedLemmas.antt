-- A journal that is not opened, or is: what a command that opens one without marks says of it.
use Rattle.std.proofs.Common.{◌≡◌, ℕ, List, IfSome, Result, Ok, Err, refl, sym, ◌∙◌, subst, le_refl}
use Rattle.std.specs.declared.option.Option.{Option}
use Rattle.tl_types.specs.declared.limits.Limits.{Limits}
use Rattle.tl_types.specs.Entries.{commits_of}
use Rattle.tl_types.specs.Legality.{FitInTurn}
use Rattle.tl_types.specs.Limits.{standard_limits}
use Rattle.tl_device.specs.declared.disk.Disk.{Ghosts as DiskGhosts}
use Rattle.tl_journal.specs.declared.opening.Refused.{Refused}
use Rattle.tl_history.specs.Answers.{Opens}
use Rattle.tl_replay.specs.Fitting.{IsDamaged}
use Rattle.tl_history.specs.Plain as history
use Rattle.tl_command.specs.declared.statuses.Status.{Status}
use Rattle.tl_command.specs.Closing.{EndsFor, EndsRefused}
use Rattle.tl_command.specs.Outside.{Outside, OpensWith}
use Rattle.tl_command.proofs.OpeningLemmas.{either_of, refused_by}

-- the outside of a command, by the disk that it is given or hands back
abbrev pub outside_of : {D : Type 0} → DiskGhosts D → Option (List ℕ) → ℕ → Option (List ℕ) → ℕ → D → Outside
outside_of disks left source written sink disk =
    record { left = left; source_faults = source; written = written; sink_faults = sink; reads = disks.reads disk; may_leave = disks.may_leave disk; disk_faults = disks.faults disk }

-- the opening was refused
pub ends_refused : {D : Type 0} (disks : DiskGhosts D) (disk : D) (limits : Limits) (answer : Result (history.History D) (Refused D)) (r : Refused D) (left written new : Option (List ℕ)) (source sink last : ℕ) (ended : Status)
    → Opens disks.reads disks.may_leave disks.moment disks.left_since disks.faults limits 0 disk answer → answer ≡ Err r → limits ≡ standard_limits → EndsFor r.fault written new sink last ended
    → EndsRefused (outside_of disks left source written sink disk) (outside_of disks left source new last r.disk) ended
ends_refused disks disk limits answer r left written new source sink last ended opens is standard ends =
    by_answer (subst (Opens disks.reads disks.may_leave disks.moment disks.left_since disks.faults limits 0 disk) is opens) where
      by_answer : Opens disks.reads disks.may_leave disks.moment disks.left_since disks.faults limits 0 disk (Err r) → EndsRefused (outside_of disks left source written sink disk) (outside_of disks left source new last r.disk) ended
      by_answer o =
          record {
            fault = r.fault;
            refused = refused_by r.fault (outside_of disks left source written sink disk) (outside_of disks left source new last r.disk)
                (λ e. either_of (o.no_memory e)
                (λ h. (record { reads_same = h.0.reads_same; no_more = h.0.no_more }, h.1))
                (λ h b told. let k = h b told in (k.0, k.1, k.2.reads_as, k.2.only)))
                (λ len e. let h = o.too_short len e in (h.0, h.1, record { reads_same = h.2.reads_same; no_more = h.2.no_more }, o.no_less len e))
                (λ len e. o.not_long len e)
                (λ at e.
                let h = o.damaged at e in (
                  subst (λ (l : Limits). IfSome (disks.reads disk) (IsDamaged l at)) standard h.0,
                  record { reads_same = h.1.reads_same; no_more = h.1.no_more },
                  λ b told. let s = o.durable at e b told in (s.reads_as, s.only),
                ));
            counts = o.faults;
            unread = (refl, refl);
            keeps = record { same_or_trimmed = o.reads; leaves = o.now };
            honest = λ b cs told stands fit.
                o.honest b cs limits told stands (record { tables = le_refl _; rows = le_refl _; versions = le_refl _ }) (subst (λ (l : Limits). FitInTurn l cs) (sym standard) fit);
            ends = ends;
          }

-- a history was opened
pub opens_with : {D : Type 0} (disks : DiskGhosts D) (disk : D) (limits : Limits) (h : history.History D) (left written : Option (List ℕ)) (source sink : ℕ)
    → Opens disks.reads disks.may_leave disks.moment disks.left_since disks.faults limits 0 disk (Ok h) → limits ≡ standard_limits → OpensWith (commits_of h.entries) (outside_of disks left source written sink disk)
opens_with disks disk limits h left written source sink o standard =
    record {
      fitting = subst (λ (l : Limits). FitInTurn l (commits_of h.entries)) (o.limits ∙ standard) o.opened.fitting;
      stands = λ b told. o.image b told;
    }

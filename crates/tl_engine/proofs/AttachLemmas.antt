-- A history that goes on to be an engine's.
use Rattle.std.proofs.Common.{◌≡◌, inl, inr, ℕ, List, sym, ap, ◌∙◌, subst}
use Rattle.std.specs.Prelude.{Some, Result, Ok, Err, IfOk, IfErr}
use Rattle.std.specs.declared.option.Option.{Option}
use Rattle.tl_types.specs.declared.limits.Limits.{Limits}
use Rattle.tl_device.specs.Disk.{IsStored}
use Rattle.tl_journal.specs.Answers.{CountsFaults}
use Rattle.tl_journal.specs.Image.{ImageStandsFor}
use Rattle.tl_journal.specs.Moments.{EachMoment, EachMomentBySync, IsUntouched, OldOr}
use Rattle.tl_journal.specs.Stands.{SameOrTrimmed}
use Rattle.tl_journal.specs.declared.faults.JournalFault.{JournalFault}
use Rattle.tl_journal.specs.declared.faults.JournalFault.TheVariants as fault
use Rattle.tl_journal.specs.declared.opening.Refused.{Refused}
use Rattle.tl_history.specs.Answers.{Opens, disk_opened}
use Rattle.tl_history.specs.Plain as history
use Rattle.tl_history.proofs.OpenLemmas.{trimmed_there}
use Rattle.tl_engine.specs.Naming.{history_attached}
use Rattle.tl_engine.specs.Plain as plain

-- the want of memory is no other fault
other_than_memory : (e f : JournalFault) → (fault.NoMemory ≡ f → ⊥) → e ≡ fault.NoMemory → e ≡ f → ⊥
other_than_memory e f none no_memory is = none (sym no_memory ∙ is)

short_is_other : (len : ℕ) → fault.NoMemory ≡ fault.NotInitialised len → ⊥
short_is_other len e = absurd (cc)

damaged_is_other : (at : ℕ) → fault.NoMemory ≡ fault.Damaged at → ⊥
damaged_is_other at e = absurd (cc)

long_is_other : (len : ℕ) → fault.NoMemory ≡ fault.AlreadyInitialised len → ⊥
long_is_other len e = absurd (cc)

module _ {D : Type 0} (read : D → Option (List ℕ)) (may_leave : D → List ℕ → Type 0) (moment : D → ℕ) (left_since : D → ℕ → List ℕ → Type 0) (fault_count : D → ℕ) where
  -- a history goes on to be an engine's, or there is no memory for it
  pub opens_on : (given : Limits) (k : ℕ) (disk : D) (h : history.History D) (answer : Result (plain.Opening D) (Refused D)) → Opens read may_leave moment left_since fault_count given k disk (Ok h) → IfOk answer (λ o. o.history ≡ h) → IfErr answer (λ r. r.fault ≡ fault.NoMemory) → disk_opened (history_attached answer) ≡ h.journal.disk → Opens read may_leave moment left_since fault_count given k disk (history_attached answer)
  opens_on given k disk h (Ok o) opens same no_memory at =
      subst (λ x. Opens read may_leave moment left_since fault_count given k disk (Ok x)) (sym same) opens
  opens_on given k disk h (Err r) opens same no_memory at =
      record {
        opened = tt;
        limits = tt;
        count = tt;
        stands = λ b told. tt;
        image = λ b told. tt;
        honest = λ b cs smaller told stands within fitting. inl no_memory;
        any_moment = λ b cs told stands. subst (λ d. EachMomentBySync read may_leave moment left_since disk d (ImageStandsFor cs)) (sym at) (opens.any_moment b cs told stands);
        no_journal = λ b told none. subst (λ d. EachMoment moment left_since disk d (may_leave disk)) (sym at) (opens.no_journal b told none);
        no_journal_now = λ b told none. subst (λ d. IsUntouched read may_leave disk d) (sym at) (opens.no_journal_now b told none);
        now = λ b cs told stands. subst (λ d. (c : List ℕ) → may_leave d c → OldOr (may_leave disk) (ImageStandsFor cs) c) (sym at) (opens.now b cs told stands);
        reads = λ b told. subst (λ d. (c : List ℕ) × (read d ≡ Some c) × SameOrTrimmed b c) (sym at) (opens.reads b told);
        faults = subst (λ f. CountsFaults f (fault_count disk) (fault_count r.disk)) (sym no_memory) (ap fault_count at ∙ opens.count.1);
        too_short = λ len is. absurd (other_than_memory r.fault (fault.NotInitialised len) (short_is_other len) no_memory is);
        no_less = λ len is. absurd (other_than_memory r.fault (fault.NotInitialised len) (short_is_other len) no_memory is);
        damaged = λ at is. absurd (other_than_memory r.fault (fault.Damaged at) (damaged_is_other at) no_memory is);
        durable = λ at is. absurd (other_than_memory r.fault (fault.Damaged at) (damaged_is_other at) no_memory is);
        no_memory = λ is. inr (λ b told.
            subst (λ d. (c : List ℕ) × SameOrTrimmed b c × IsStored read may_leave d c) (sym at)
            (trimmed_there read may_leave h b opens.opened.whole (opens.stands b told) (opens.reads b told)));
        not_long = λ len is. other_than_memory r.fault (fault.AlreadyInitialised len) (long_is_other len) no_memory is;
      }

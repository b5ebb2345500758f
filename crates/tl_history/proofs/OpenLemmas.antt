-- What the opening of a journal says of a history.
use Rattle.std.proofs.Common.{◌≡◌, ◌⊎◌, inl, inr, ℕ, Bool, false, List, [], ◌∷◌, ◌++◌, refl, sym, ap, ◌∙◌, subst}
use Rattle.std.specs.Prelude.{Some, Ok, Err}
use Rattle.std.specs.declared.option.Option.{Option}
use Rattle.tl_types.specs.declared.commits.Commit.{Commit}
use Rattle.tl_types.specs.declared.limits.Limits.{Limits}
use Rattle.tl_types.specs.Entries.{commits_of, has_break}
use Rattle.tl_types.specs.Legality.{FitInTurn}
use Rattle.tl_types.specs.Marks.{paced}
use Rattle.tl_types.proofs.MarkLemmas.{paced_commits}
use Rattle.tl_journal.specs.Image.{header, ImageStandsOnlyFor}
use Rattle.tl_journal.specs.Moments.{IsAsBefore, IsAsBeforeOrDurable}
use Rattle.tl_journal.specs.Stands.{JournalStandsFor, SameOrTrimmed}
use Rattle.tl_journal.specs.declared.faults.JournalFault.TheVariants as fault
use Rattle.tl_journal.specs.declared.opening.Refused.{Refused}
use Rattle.tl_device.specs.Disk.{IsStored}
use Rattle.tl_replay.specs.Opening.{Opens as ReplayOpens, IsOpened as IsReplayed}
use Rattle.tl_replay.specs.declared.opening.Opened.{Opened}
use Rattle.tl_history.specs.Answers.{KeepsOrTrims, Opens}
use Rattle.tl_history.specs.Plain as plain
use Rattle.tl_history.specs.Standing.{IsCount, DiskStandsForHistory}
use Rattle.tl_history.specs.declared.replaying.PacedReplay.{PacedReplay}
use Rattle.tl_history.proofs.FitLemmas.{fit_within, paces}
use Rattle.tl_history.proofs.MomentLemmas.{no_moment}
use Rattle.tl_history.proofs.StandingLemmas.{stands_alone}

-- a count that stays
pub count_still : (b c : Bool) (first old new : ℕ) → b ≡ false → c ≡ false → new ≡ old → IsCount b first old → IsCount c first new
count_still b c first old new none still same count =
    let e : old ≡ first = subst (λ x. IsCount x first old) none count in
    subst (λ x. IsCount x first new) (sym still) (same ∙ e)

some_same : (b c : List ℕ) → Some b ≡ Some c → b ≡ c
some_same b c e = cc

module _ {D : Type 0} (reads : D → Option (List ℕ)) (may_leave : D → List ℕ → Type 0) where
  -- the disk of a history without a break has just the bytes that a read gives
  pub trimmed_there : (h : plain.History D) (b : List ℕ) → has_break h.entries ≡ false → DiskStandsForHistory reads may_leave h → (c : List ℕ) × (reads h.journal.disk ≡ Some c) × SameOrTrimmed b c → (c : List ℕ) × SameOrTrimmed b c × IsStored reads may_leave h.journal.disk c
  trimmed_there h b whole stands told =
      let on_disk = (stands.whole whole).on_disk in
      let image = (header ++ on_disk.front) ++ 0 ∷ [] in
      let same : told.0 ≡ image = some_same told.0 image (sym told.1 ∙ on_disk.stored.reads_as) in
      (told.0, told.2, subst (λ c. IsStored reads may_leave h.journal.disk c) (sym same) on_disk.stored)

  -- kept bytes are not trimmed
  pub keeps_whole : (old last : D) → IsAsBeforeOrDurable reads may_leave old last → IsAsBefore reads may_leave old last ⊎ KeepsOrTrims reads may_leave old last
  keeps_whole old last (inl same) = inl same
  keeps_whole old last (inr kept) = inr (λ b told. (b, inl refl, kept.1 b told))

module _ {D : Type 0} (read : D → Option (List ℕ)) (may_leave : D → List ℕ → Type 0) (moment : D → ℕ) (left_since : D → ℕ → List ℕ → Type 0) (fault_count : D → ℕ) where
  -- a journal was not opened
  pub refused_there : {A : Type 0} (makes : A → List Commit → A → Type 0) (first : A) (given : Limits) (k : ℕ) (disk : D) (r : Refused D) → ReplayOpens {A = A} read may_leave moment left_since fault_count makes given first disk (Err r) → Opens read may_leave moment left_since fault_count given k disk (Err r)
  refused_there makes first given k disk r o =
      record {
        opened = tt;
        limits = tt;
        count = tt;
        stands = λ b told. tt;
        image = λ b told. tt;
        honest = λ b cs smaller told stands within fitting. o.honest b cs told stands (fit_within smaller given cs within fitting);
        any_moment = o.any_moment;
        no_journal = o.no_journal;
        no_journal_now = o.no_journal_now;
        now = o.now;
        reads = o.reads;
        faults = o.faults;
        too_short = o.too_short;
        no_less = o.no_less;
        damaged = o.damaged;
        durable = o.durable;
        no_memory = λ e. keeps_whole read may_leave disk r.disk (o.no_memory e);
        not_long = o.not_long;
      }

  -- memory ran out before the first call of the disk
  pub nothing_done : (given : Limits) (k : ℕ) (disk : D) → ((c : List ℕ) → left_since disk (moment disk) c → may_leave disk c) → Opens read may_leave moment left_since fault_count given k disk (Err (record { fault = fault.NoMemory; disk = disk }))
  nothing_done given k disk only_now =
      record {
        opened = tt;
        limits = tt;
        count = tt;
        stands = λ b told. tt;
        image = λ b told. tt;
        honest = λ b cs smaller told stands within fitting. inl refl;
        any_moment = λ b cs told stands. inl (no_moment moment left_since may_leave disk only_now);
        no_journal = λ b told none. no_moment moment left_since may_leave disk only_now;
        no_journal_now = λ b told none. record { reads_same = refl; no_more = λ c left. left };
        now = λ b cs told stands c left. inl left;
        reads = λ b told. (b, told, inl refl);
        faults = refl;
        too_short = λ len e. absurd (cc);
        no_less = λ len e. absurd (cc);
        damaged = λ at e. absurd (cc);
        durable = λ at e. absurd (cc);
        no_memory = λ e. inl (record { reads_same = refl; no_more = λ c left. left }, λ b told c left. left);
        not_long = λ len e. absurd (cc);
      }

  -- a journal was opened, and the commits were applied with the marks that are due
  opened_over : (first : PacedReplay) (given : Limits) (disk : D) (o : Opened D PacedReplay) (commits : List Commit) → has_break o.applied.replay ≡ false
      → IsReplayed read may_leave fault_count paces given first disk commits o → ReplayOpens read may_leave moment left_since fault_count paces given first disk (Ok o)
      → Opens read may_leave moment left_since fault_count given first.k disk (Ok (record { entries = o.applied.replay; journal = o.journal; first_count = fault_count o.journal.disk; limits = given }))
  opened_over first given disk o commits whole is opens =
      let made = is.made in
      let history : plain.History D = record { entries = o.applied.replay; journal = o.journal; first_count = fault_count o.journal.disk; limits = given } in
      let same : commits ≡ commits_of o.applied.replay = sym (ap commits_of made.entries_are ∙ paced_commits commits first.k) in
      record {
        opened = record {
          pace = made.entries_are ∙ ap (λ cs. paced cs first.k) same;
          whole = whole;
          fitting = subst (λ cs. FitInTurn given cs) same is.fitting;
        };
        limits = refl;
        count = (is.count, is.count);
        stands = λ b told. stands_alone read may_leave history (subst (λ cs. JournalStandsFor read may_leave o.journal cs) same (is.stands b told));
        image = λ b told. subst (λ cs. ImageStandsOnlyFor cs b) same (is.image b told);
        honest = λ b cs smaller told stands within fitting. tt;
        any_moment = opens.any_moment;
        no_journal = opens.no_journal;
        no_journal_now = opens.no_journal_now;
        now = opens.now;
        reads = opens.reads;
        faults = tt;
        too_short = λ len. tt;
        no_less = λ len. tt;
        damaged = λ at. tt;
        durable = λ at. tt;
        no_memory = tt;
        not_long = λ len. tt;
      }

  -- the same of the history that is made of it
  pub opened_there : (first : PacedReplay) (given : Limits) (disk : D) (o : Opened D PacedReplay) (h : plain.History D)
      → h ≡ record { entries = o.applied.replay; journal = o.journal; first_count = fault_count o.journal.disk; limits = given } → has_break h.entries ≡ false → ReplayOpens read may_leave moment left_since fault_count paces given first disk (Ok o)
      → Opens read may_leave moment left_since fault_count given first.k disk (Ok h)
  opened_there first given disk o h same whole opens =
      let none : has_break o.applied.replay ≡ false = sym (ap (λ x. has_break x.entries) same) ∙ whole in
      subst (λ x. Opens read may_leave moment left_since fault_count given first.k disk (Ok x)) (sym same)
      (opened_over first given disk o opens.opened.0 none opens.opened.1 opens)

-- A commit in two steps: it is made ready, and it is written.
use Rattle.std.proofs.Common.{◌≡◌, ℕ, ◌+◌, false, List, [], ◌∷◌, ◌++◌, Option, Result, Ok, Err, IfOk, IfErr, sym, ap, ◌∙◌, subst}
use Rattle.tl_types.specs.declared.batches.Batch.{Batch}
use Rattle.tl_types.specs.declared.commits.Commit.{Commit}
use Rattle.tl_types.specs.declared.commits.Entry.{Entry}
use Rattle.tl_types.specs.Entries.{commits_of, has_break}
use Rattle.tl_types.specs.History.{database_of}
use Rattle.tl_types.specs.Resolving.{resolved}
use Rattle.tl_device.specs.Known.{Rose}
use Rattle.tl_index.specs.Snapshots.{commit_entry, break_entry}
use Rattle.tl_journal.specs.Moments.{EachMoment}
use Rattle.tl_history.specs.declared.faults.CommitFault.{CommitFault}
use Rattle.tl_history.specs.declared.faults.CommitFault.TheVariants as fault
use Rattle.tl_history.specs.Answers.{Appends, Fails, version_of}
use Rattle.tl_history.specs.Plain as plain
use Rattle.tl_history.specs.Lists.{version_after}
use Rattle.tl_history.specs.Standing.{HasRoomAlone, ImageStandsForEither, DiskStandsForHistory}
use Rattle.tl_history.specs.Writing.{DraftFails, WriteFails}
use Rattle.tl_history.proofs.MomentLemmas.{next_moments}
use Rattle.tl_history.proofs.StandingLemmas.{one_of_old}

module _ {D : Type 0} (reads : D → Option (List ℕ)) (may_leave : D → List ℕ → Type 0) (faults : D → ℕ) (author : ℕ) (b : Batch) (old : plain.History D) where
  -- where it is not made ready
  pub draft_fails : (new : plain.History D) (f : CommitFault) → DraftFails reads may_leave faults author b old new f → Fails reads may_leave faults author b old new f
  draft_fails new (fault.Broken version) fails = fails
  draft_fails new (fault.Refused version refusal) fails = fails
  draft_fails new fault.NoMemory fails = fails
  draft_fails new (fault.Device version count) fails = absurd fails

  -- an entry more after the two steps
  pub appends : (mid new : plain.History D) (c : Commit) (of_commit : Commit → Entry) → HasRoomAlone reads may_leave faults old mid → has_break mid.entries ≡ false → resolved old.limits (database_of (commits_of old.entries)) author b ≡ Ok c → new.entries ≡ mid.entries ++ of_commit c ∷ [] → Appends author b of_commit old new
  appends mid new c of_commit room whole makes more =
      record {
        commit = c;
        whole = ap has_break (sym room.entries_same) ∙ whole;
        resolves = makes;
        entries_are = more ∙ ap (λ es. es ++ of_commit c ∷ []) room.entries_same;
      }

  -- where it is not written
  pub write_fails : (mid new : plain.History D) (c : Commit) (f : CommitFault) → HasRoomAlone reads may_leave faults old mid → mid.first_count ≡ old.first_count → has_break mid.entries ≡ false → resolved old.limits (database_of (commits_of old.entries)) author b ≡ Ok c → WriteFails faults c mid new f → Fails reads may_leave faults author b old new f
  write_fails mid new c (fault.Broken version) room first whole makes fails = absurd fails
  write_fails mid new c (fault.Refused version refusal) room first whole makes fails = absurd fails
  write_fails mid new c fault.NoMemory room first whole makes fails =
      (ap has_break (sym room.entries_same) ∙ whole, subst (λ h. HasRoomAlone reads may_leave faults old h) (sym fails) room)
  write_fails mid new c (fault.Device version count) room first whole makes fails =
      (appends mid new c break_entry room whole makes fails.0, fails.1 ∙ ap version_after room.entries_same, fails.2, subst (λ n. Rose n count) first fails.3)

  -- the same of an answer
  pub commit_ok : (mid new : plain.History D) (c : Commit) (answer : Result ℕ CommitFault) → HasRoomAlone reads may_leave faults old mid → has_break mid.entries ≡ false → resolved old.limits (database_of (commits_of old.entries)) author b ≡ Ok c → IfOk answer (λ v. (new.entries ≡ mid.entries ++ commit_entry c ∷ []) × (v ≡ version_of mid + 1)) → IfOk answer (λ v. Appends author b commit_entry old new × (v ≡ version_of old + 1))
  commit_ok mid new c (Ok v) room whole makes ok =
      (appends mid new c commit_entry room whole makes ok.0, ok.1 ∙ ap (λ es. version_after es + 1) room.entries_same)
  commit_ok mid new c (Err f) room whole makes ok = tt

  pub commit_err : (mid new : plain.History D) (c : Commit) (answer : Result ℕ CommitFault) → HasRoomAlone reads may_leave faults old mid → mid.first_count ≡ old.first_count → has_break mid.entries ≡ false → resolved old.limits (database_of (commits_of old.entries)) author b ≡ Ok c → IfErr answer (WriteFails faults c mid new) → IfErr answer (Fails reads may_leave faults author b old new)
  commit_err mid new c (Ok v) room first whole makes err = tt
  commit_err mid new c (Err f) room first whole makes err = write_fails mid new c f room first whole makes err

-- what each moment of the two steps leaves
pub moments_of_two : {D : Type 0} (reads : D → Option (List ℕ)) (may_leave : D → List ℕ → Type 0) (moment : D → ℕ) (left_since : D → ℕ → List ℕ → Type 0) (old mid new : plain.History D) → mid.entries ≡ old.entries → has_break mid.entries ≡ false → DiskStandsForHistory reads may_leave old → EachMoment moment left_since old.journal.disk mid.journal.disk (may_leave old.journal.disk) → EachMoment moment left_since mid.journal.disk new.journal.disk (ImageStandsForEither mid.entries new.entries) → EachMoment moment left_since old.journal.disk new.journal.disk (ImageStandsForEither old.entries new.entries)
moments_of_two reads may_leave moment left_since old mid new same whole stands first second =
    next_moments moment left_since old.journal.disk mid.journal.disk new.journal.disk (may_leave old.journal.disk) (ImageStandsForEither mid.entries new.entries) (ImageStandsForEither old.entries new.entries)
    first second (one_of_old reads may_leave old new.entries (ap has_break (sym same) ∙ whole) stands) (λ image one. subst (λ es. ImageStandsForEither es new.entries image) same one)

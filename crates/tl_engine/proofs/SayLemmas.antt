-- What the answer to a commit says, and what a committer then keeps.
use Rattle.std.proofs.Common.{◌≡◌, ℕ, ◌+◌, Bool, true, false, List, [], ◌∷◌, ◌++◌, Option, Some, None, Result, Ok, Err, IfOk, IfErr, refl, sym, ap, ◌∙◌, subst}
use mathlib.Core.List.{IsPrefix}
use Rattle.tl_types.specs.declared.batches.Batch.{Batch}
use Rattle.tl_types.specs.declared.commits.Commit.{Commit}
use Rattle.tl_types.specs.declared.commits.Entry.{Entry}
use Rattle.tl_types.specs.declared.limits.Limits.{Limits}
use Rattle.tl_types.specs.Entries.{has_break}
use Rattle.tl_device.specs.Known.{Rose}
use Rattle.tl_index.specs.Snapshots.{commit_entry, break_entry}
use Rattle.tl_history.specs.declared.faults.CommitFault.{CommitFault}
use Rattle.tl_history.specs.declared.faults.CommitFault.TheVariants as fault
use Rattle.tl_history.specs.Answers.{version_of}
use Rattle.tl_history.specs.Lists.{version_after}
use Rattle.tl_history.specs.Standing.{DiskStandsForHistory}
use Rattle.tl_engine.specs.Naming.{IsCommitting, WereWritten}
use Rattle.tl_history.specs.Plain as plain
use Rattle.tl_engine.specs.Saying.{CommitSays, FailSays, becomes, shown_by}
use Rattle.tl_history.specs.Writing.{DraftFails, WriteFails}
use Rattle.tl_engine.proofs.CountLemmas.{continues_with_commit, continues_with_break}

-- where no commit is ready
pub draft_says : {D : Type 0} (reads : D → Option (List ℕ)) (may_leave : D → List ℕ → Type 0) (faults : D → ℕ) (author : ℕ) (b : Batch) (old new : plain.History D) (limits : Limits) (first_count : ℕ) (seen now : List Entry) (before after : ℕ) (f : CommitFault)
    → DraftFails reads may_leave faults author b old new f → old.limits ≡ limits → now ≡ old.entries → IsPrefix seen old.entries → after ≡ before
    → FailSays (becomes limits author b) first_count seen now before after f
draft_says reads may_leave faults author b old new limits first_count seen now before after (fault.Broken version) fails limits_are now_is begins same =
    (subst (IsPrefix seen) (sym now_is) begins, ap has_break now_is ∙ fails.0, fails.1 ∙ ap version_after (sym now_is), same)
draft_says reads may_leave faults author b old new limits first_count seen now before after (fault.Refused version refusal) fails limits_are now_is begins same = (
  subst (IsPrefix seen) (sym now_is) begins,
  ap has_break now_is ∙ fails.0,
  fails.1 ∙ ap version_after (sym now_is),
  same,
  subst (λ (z : Limits × List Entry). becomes z.0 author b z.1 ≡ Err refusal) (λ i. (limits_are i, sym now_is i)) fails.3,
)
draft_says reads may_leave faults author b old new limits first_count seen now before after fault.NoMemory fails limits_are now_is begins same =
    (subst (IsPrefix seen) (sym now_is) begins, same)
draft_says reads may_leave faults author b old new limits first_count seen now before after (fault.Device version count) fails limits_are now_is begins same = absurd fails

-- where the commit, or its break, is written and published
pub write_says : {D : Type 0} (faults : D → ℕ) (author : ℕ) (b : Batch) (limits : Limits) (first_count : ℕ) (mid last : plain.History D) (c : Commit) (seen now next broken shown : List Entry) (before after : ℕ) (answer : Result ℕ CommitFault)
    → IfOk answer (λ v. (last.entries ≡ mid.entries ++ commit_entry c ∷ []) × (v ≡ version_of mid + 1)) → IfErr answer (WriteFails faults c mid last)
    → next ≡ mid.entries ++ commit_entry c ∷ [] → broken ≡ mid.entries ++ break_entry c ∷ [] → Some shown ≡ shown_by answer next broken → now ≡ shown
    → has_break mid.entries ≡ false → becomes limits author b mid.entries ≡ Ok c → mid.first_count ≡ first_count → IsPrefix seen mid.entries → after ≡ before + 1
    → CommitSays (becomes limits author b) first_count seen now before after answer
write_says faults author b limits first_count mid last c seen now next broken shown before after (Ok v) ok err next_is broken_is chosen now_is whole makes first begins counted =
    let e : shown ≡ next = cc in
    (record { base = mid.entries; commit = c; begins = begins; whole = whole; makes = makes; entries_are = now_is ∙ (e ∙ next_is) }, ok.1, counted)
write_says faults author b limits first_count mid last c seen now next broken shown before after (Err (fault.Broken version)) ok err next_is broken_is chosen now_is whole makes first begins counted = absurd err
write_says faults author b limits first_count mid last c seen now next broken shown before after (Err (fault.Refused version refusal)) ok err next_is broken_is chosen now_is whole makes first begins counted = absurd err
write_says faults author b limits first_count mid last c seen now next broken shown before after (Err fault.NoMemory) ok err next_is broken_is chosen now_is whole makes first begins counted = absurd (cc)
write_says faults author b limits first_count mid last c seen now next broken shown before after (Err (fault.Device version count)) ok err next_is broken_is chosen now_is whole makes first begins counted =
    let e : shown ≡ broken = cc in
    (record { base = mid.entries; commit = c; begins = begins; whole = whole; makes = makes; entries_are = now_is ∙ (e ∙ broken_is) }, err.1, subst (λ n. Rose n count) first err.3, counted)

-- where nothing is published
pub unwritten_says : {D : Type 0} (faults : D → ℕ) (meaning : List Entry → Result Commit Rattle.tl_types.specs.declared.batches.BatchFault.BatchFault) (first_count : ℕ) (mid last : plain.History D) (c : Commit) (seen now next broken : List Entry) (before after : ℕ) (answer : Result ℕ CommitFault)
    → IfErr answer (WriteFails faults c mid last) → None ≡ shown_by answer next broken → now ≡ mid.entries → IsPrefix seen mid.entries → after ≡ before
    → CommitSays meaning first_count seen now before after answer
unwritten_says faults meaning first_count mid last c seen now next broken before after (Ok v) err chosen now_is begins same = absurd (cc)
unwritten_says faults meaning first_count mid last c seen now next broken before after (Err (fault.Broken version)) err chosen now_is begins same = absurd err
unwritten_says faults meaning first_count mid last c seen now next broken before after (Err (fault.Refused version refusal)) err chosen now_is begins same = absurd err
unwritten_says faults meaning first_count mid last c seen now next broken before after (Err fault.NoMemory) err chosen now_is begins same = (subst (IsPrefix seen) (sym now_is) begins, same)
unwritten_says faults meaning first_count mid last c seen now next broken before after (Err (fault.Device version count)) err chosen now_is begins same = absurd (cc)

-- a committer that has published
pub keeps_written : {D : Type 0} (faults : D → ℕ) (first_entries : List Entry) (count : ℕ) (limits : Limits) (written more : List Entry) (total next_total : ℕ) (old mid last : plain.History D) (c : Commit) (next broken shown : List Entry) (answer : Result ℕ CommitFault)
    → IfOk answer (λ v. (last.entries ≡ mid.entries ++ commit_entry c ∷ []) × (v ≡ version_of mid + 1)) → IfErr answer (WriteFails faults c mid last)
    → next ≡ mid.entries ++ commit_entry c ∷ [] → broken ≡ mid.entries ++ break_entry c ∷ [] → Some shown ≡ shown_by answer next broken
    → more ≡ shown → next_total ≡ total + 1
    → mid.entries ≡ old.entries → last.first_count ≡ old.first_count → last.limits ≡ old.limits → IsCommitting first_entries count limits written total old
    → IsCommitting first_entries count limits more next_total last
keeps_written faults first_entries count limits written more total next_total old mid last c next broken shown (Ok v) ok err next_is broken_is chosen more_is counted entries first same kept =
    let e : shown ≡ next = cc in
    let at : mid.entries ≡ written = entries ∙ kept.entries_are in
    let all : more ≡ mid.entries ++ commit_entry c ∷ [] = more_is ∙ (e ∙ next_is) in
    record {
      entries_are = ok.0 ∙ sym all;
      count_is = first ∙ kept.count_is;
      limits_are = same ∙ kept.limits_are;
      continues = continues_with_commit first_entries written more total next_total c (all ∙ ap (λ es. es ++ commit_entry c ∷ []) at) counted kept.continues;
    }
keeps_written faults first_entries count limits written more total next_total old mid last c next broken shown (Err (fault.Broken version)) ok err next_is broken_is chosen more_is counted entries first same kept = absurd err
keeps_written faults first_entries count limits written more total next_total old mid last c next broken shown (Err (fault.Refused version refusal)) ok err next_is broken_is chosen more_is counted entries first same kept = absurd err
keeps_written faults first_entries count limits written more total next_total old mid last c next broken shown (Err fault.NoMemory) ok err next_is broken_is chosen more_is counted entries first same kept = absurd (cc)
keeps_written faults first_entries count limits written more total next_total old mid last c next broken shown (Err (fault.Device version number)) ok err next_is broken_is chosen more_is counted entries first same kept =
    let e : shown ≡ broken = cc in
    let at : mid.entries ≡ written = entries ∙ kept.entries_are in
    let all : more ≡ mid.entries ++ break_entry c ∷ [] = more_is ∙ (e ∙ broken_is) in
    record {
      entries_are = err.0 ∙ sym all;
      count_is = first ∙ kept.count_is;
      limits_are = same ∙ kept.limits_are;
      continues = continues_with_break first_entries written more total next_total c (all ∙ ap (λ es. es ++ break_entry c ∷ []) at) counted kept.continues;
    }

-- what is published is what was written and one entry more
pub one_more : {D : Type 0} (faults : D → ℕ) (mid last : plain.History D) (c : Commit) (written next broken shown : List Entry) (answer : Result ℕ CommitFault)
    → IfErr answer (WriteFails faults c mid last) → next ≡ mid.entries ++ commit_entry c ∷ [] → broken ≡ mid.entries ++ break_entry c ∷ [] → Some shown ≡ shown_by answer next broken → mid.entries ≡ written
    → (e : Entry) × (shown ≡ written ++ e ∷ [])
one_more faults mid last c written next broken shown (Ok v) err next_is broken_is chosen at =
    let e : shown ≡ next = cc in
    (commit_entry c, e ∙ (next_is ∙ ap (λ es. es ++ commit_entry c ∷ []) at))
one_more faults mid last c written next broken shown (Err (fault.Broken version)) err next_is broken_is chosen at = absurd err
one_more faults mid last c written next broken shown (Err (fault.Refused version refusal)) err next_is broken_is chosen at = absurd err
one_more faults mid last c written next broken shown (Err fault.NoMemory) err next_is broken_is chosen at = absurd (cc)
one_more faults mid last c written next broken shown (Err (fault.Device version count)) err next_is broken_is chosen at =
    let e : shown ≡ broken = cc in
    (break_entry c, e ∙ (broken_is ∙ ap (λ es. es ++ break_entry c ∷ []) at))

-- WHAT WAS SEEN UNDER THE LOCK

-- what a committer has written was written
pub were_written : {D : Type 0} (reads : D → Option (List ℕ)) (may_leave : D → List ℕ → Type 0) (told : Bool) (first_entries : List Entry) (count : ℕ) (limits : Limits) (written seen : List Entry) (total : ℕ) (history : plain.History D)
    → seen ≡ written → IsCommitting first_entries count limits written total history → (told ≡ true → DiskStandsForHistory reads may_leave history)
    → WereWritten reads may_leave told first_entries count limits seen
were_written reads may_leave told first_entries count limits written seen total history is commits stands =
    record {
      history = history;
      total = total;
      commits = subst (λ es. IsCommitting first_entries count limits es total history) (sym is) commits;
      stands = stands;
    }

-- where nothing is published memory ran out
pub nothing_shown : {D : Type 0} (faults : D → ℕ) (mid last : plain.History D) (c : Commit) (next broken : List Entry) (answer : Result ℕ CommitFault)
    → IfErr answer (WriteFails faults c mid last) → None ≡ shown_by answer next broken → answer ≡ Err fault.NoMemory
nothing_shown faults mid last c next broken (Ok v) err chosen = absurd (cc)
nothing_shown faults mid last c next broken (Err (fault.Broken version)) err chosen = absurd err
nothing_shown faults mid last c next broken (Err (fault.Refused version refusal)) err chosen = absurd err
nothing_shown faults mid last c next broken (Err fault.NoMemory) err chosen = refl
nothing_shown faults mid last c next broken (Err (fault.Device version count)) err chosen = absurd (cc)

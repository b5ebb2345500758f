-- A history with one mark more.
use Rattle.std.proofs.Common.{◌≡◌, ℕ, List, Option, [], ◌∷◌, ◌++◌, refl, sym, ap, ◌∙◌, subst}
use Rattle.std.specs.declared.option.Option.{Option}
use Rattle.tl_types.specs.declared.commits.Entry.{Entry}
use Rattle.tl_types.specs.declared.commits.Entry.TheVariants as entry
use Rattle.tl_types.specs.Entries.{commits_of, has_break}
use Rattle.tl_types.proofs.MarkLemmas.{break_with_mark, commits_with_mark}
use Rattle.tl_batch.specs.KeyIndex.{IdsByKey}
use Rattle.tl_index.specs.Snapshots.{mark_entry}
use Rattle.tl_history.specs.Lists.{tried_commits}
use Rattle.tl_history.specs.Plain as plain
use Rattle.tl_history.specs.Standing.{IsHistory, DiskStandsForHistory}

-- all that was tried is the same
tried_with_mark : (entries : List Entry) (t v : ℕ) → tried_commits (entries ++ mark_entry t v ∷ []) ≡ tried_commits entries
tried_with_mark [] t v = refl
tried_with_mark (entry.Commit d ∷ entries) t v = ap (λ cs. d ∷ cs) (tried_with_mark entries t v)
tried_with_mark (entry.Mark table version ∷ entries) t v = tried_with_mark entries t v
tried_with_mark (entry.Break d ∷ entries) t v = ap (λ cs. d ∷ cs) (tried_with_mark entries t v)

-- what a history keeps speaks of its commits and its break alone
pub keeps_with_mark : {D : Type 0} (faults : D → ℕ) (keys : List (Option IdsByKey)) (old new : plain.History D) (t v : ℕ)
    → new.entries ≡ old.entries ++ mark_entry t v ∷ [] → new.journal ≡ old.journal → new.first_count ≡ old.first_count → new.limits ≡ old.limits
    → IsHistory faults keys old → IsHistory faults keys new
keeps_with_mark faults keys old new t v more journal first limits kept =
    let cs : commits_of new.entries ≡ commits_of old.entries = ap commits_of more ∙ commits_with_mark old.entries t v in
    let b : has_break new.entries ≡ has_break old.entries = ap has_break more ∙ break_with_mark old.entries t v in
    rw (limits) (record {
      within = kept.within;
      keeps_up = record {
        keys_stand = λ w. rw cs (kept.keeps_up.keys_stand (sym b ∙ w));
        unbroken = λ w. rw journal (kept.keeps_up.unbroken (sym b ∙ w));
      };
      count = rw (b, first, journal) kept.count;
    })

pub stands_with_mark : {D : Type 0} (reads : D → Option (List ℕ)) (may_leave : D → List ℕ → Type 0) (old new : plain.History D) (t v : ℕ)
    → new.entries ≡ old.entries ++ mark_entry t v ∷ [] → new.journal ≡ old.journal
    → DiskStandsForHistory reads may_leave old → DiskStandsForHistory reads may_leave new
stands_with_mark reads may_leave old new t v more journal stands =
    let cs : commits_of new.entries ≡ commits_of old.entries = ap commits_of more ∙ commits_with_mark old.entries t v in
    let b : has_break new.entries ≡ has_break old.entries = ap has_break more ∙ break_with_mark old.entries t v in
    let tried : tried_commits new.entries ≡ tried_commits old.entries = ap tried_commits more ∙ tried_with_mark old.entries t v in
    record {
      whole = λ w. rw (journal, cs) (stands.whole (sym b ∙ w));
      leaves = λ image left. rw (cs, tried) (stands.leaves image (subst (λ (j : Rattle.tl_journal.specs.Plain.Journal _). may_leave j.disk image) journal left));
      reads_as = rw (journal, cs, tried) stands.reads_as;
    }

-- More commits that wait.
use Rattle.std.proofs.Common.{◌≡◌, ℕ, ◌≤◌, List, [], ◌∷◌, ◌++◌, length, map, take, drop, sym, refl, ◌∙◌, ap, subst, arith, length-append, take-append-drop, append-nil, append_assoc, inl, Option, Some}
use Rattle.std.proofs.lemmas.List.{take-append-le, drop-append-le, map-append}
use Rattle.tl_types.specs.declared.commits.Commit.{Commit}
use Rattle.tl_types.specs.declared.commits.Entry.{Entry}
use Rattle.tl_types.specs.Entries.{commits_of, has_break}
use Rattle.tl_types.proofs.EntryLemmas.{commits_of-append}
use Rattle.tl_types.specs.Limits.{standard_limits}
use Rattle.tl_batch.specs.Made.{AreWithin}
use Rattle.tl_index.specs.Snapshots.{commit_entry}
use Rattle.tl_journal.specs.Image.{header, ImageStandsFor, NoneOrAll, body_of}
use Rattle.tl_journal.specs.Plain as journal
use Rattle.tl_journal.specs.Stands.{JournalStandsFor, DiskStandsFor}
use Rattle.tl_history.specs.Committing.{TakesRoom}
use Rattle.tl_history.proofs.ListLemmas.{break_same}
use Rattle.tl_group.specs.Bodies.{IsWaitingBody, MayWait}
use Rattle.tl_group.specs.Keeping.{IsKept, waiting_commits, journal_commits}
use Rattle.tl_group.specs.Standing.{WaitsWith, WaitsWithAll, DiskStandsForGroup, IsGivenBack}
use Rattle.tl_group.specs.Plain as plain

-- the commits of entries with the entries of commits behind them
commits_of_commits : (cs : List Commit) → commits_of (map commit_entry cs) ≡ cs
commits_of_commits [] = refl
commits_of_commits (c ∷ cs) = ap (λ l. c ∷ l) (commits_of_commits cs)

pub commits_behind : (entries : List Entry) (cs : List Commit) → commits_of (entries ++ map commit_entry cs) ≡ commits_of entries ++ cs
commits_behind entries cs = commits_of-append entries (map commit_entry cs) ∙ ap (λ l. commits_of entries ++ l) (commits_of_commits cs)

-- these have no break
break_behind : (entries : List Entry) (cs : List Commit) → has_break (entries ++ map commit_entry cs) ≡ has_break entries
break_behind entries [] = ap has_break (append-nil entries)
break_behind entries (c ∷ cs) =
    ap has_break (sym (append_assoc entries (commit_entry c ∷ []) (map commit_entry cs))) ∙ break_behind (entries ++ commit_entry c ∷ []) cs ∙ break_same entries c

-- what waits with more commits
pub waits_with_all : {D : Type 0} (old new : plain.Group D) (cs : List Commit) → old.first ≤ length (commits_of old.entries) → new.entries ≡ old.entries ++ map commit_entry cs → new.first ≡ old.first → WaitsWithAll cs old new
waits_with_all old new cs there more same =
    let commits = ap commits_of more ∙ commits_behind old.entries cs in
    record {
      entries_are = more;
      waiting_are = ap (λ n. drop n (commits_of new.entries)) same ∙ ap (λ l. drop old.first l) commits ∙ drop-append-le old.first (commits_of old.entries) cs there;
      journal_same = ap (λ n. take n (commits_of new.entries)) same ∙ ap (λ l. take old.first l) commits ∙ take-append-le old.first (commits_of old.entries) cs there;
    }

-- what waits with one commit more
pub waits_with : {D : Type 0} (old new : plain.Group D) (c : Commit) → old.first ≤ length (commits_of old.entries) → new.entries ≡ old.entries ++ commit_entry c ∷ [] → new.first ≡ old.first → WaitsWith c old new
waits_with old new c there more same =
    let all = waits_with_all old new (c ∷ []) there more same in
    record { entries_are = all.entries_are; waiting_are = all.waiting_are; journal_same = all.journal_same }

-- what a group keeps with more commits
pub kept_all : {D : Type 0} (body later : plain.GroupBody) (old new : plain.Group D) (cs : List Commit) → IsKept body old → new.entries ≡ old.entries ++ map commit_entry cs → new.first ≡ old.first → new.limits ≡ old.limits → new.journal.broken ≡ old.journal.broken → IsWaitingBody (waiting_commits old ++ cs) later.bytes → later.room ≤ new.journal.spare → IsKept later new
kept_all body later old new cs kept more first limits broken is room =
    let commits = ap commits_of more ∙ commits_behind old.entries cs in
    let waits = waits_with_all old new cs kept.first_there more first in
    record {
      within = subst (λ l. AreWithin l standard_limits) (sym limits) kept.within;
      alone = more ∙ ap (λ es. es ++ map commit_entry cs) kept.alone ∙ sym (map-append commit_entry (commits_of old.entries) cs) ∙ ap (λ l. map commit_entry l) (sym commits);
      whole = ap has_break more ∙ break_behind old.entries cs ∙ kept.whole;
      first_there = further (commits_of old.entries) (commits_of new.entries) cs old.first new.first kept.first_there first commits;
      unbroken = broken ∙ kept.unbroken;
      body_is = is.1 ∙ ap body_of (sym waits.waiting_are);
      written = subst (λ l. MayWait l) (sym waits.waiting_are) is.0;
      room = room;
    }
  where
    further : (xs ys cs : List Commit) (n m : ℕ) → n ≤ length xs → m ≡ n → ys ≡ xs ++ cs → m ≤ length ys
    further xs ys cs n m le same e = omega (arith, le, same, ap length e, length-append xs cs)

-- the disk of a group that is given up
pub given_back : {D : Type 0} (reads : D → Option (List ℕ)) (may_leave : D → List ℕ → Type 0) (moment : D → ℕ) (left_since : D → ℕ → List ℕ → Type 0) (faults : D → ℕ) (group : plain.Group D) (journal : journal.Journal D) (disk : D) → disk ≡ journal.disk → TakesRoom reads may_leave moment left_since faults group.journal journal → IsGivenBack reads may_leave faults group disk
given_back reads may_leave moment left_since faults group journal disk is takes = record {
  count_same = ap faults is ∙ takes.count_same;
  stands = λ s. (journal.gate, subst (λ d. DiskStandsFor reads may_leave d (journal_commits group) journal.gate) (sym is) (takes.stands (journal_commits group) s).on_disk);
}

pub given_back_at_once : {D : Type 0} (reads : D → Option (List ℕ)) (may_leave : D → List ℕ → Type 0) (faults : D → ℕ) (group : plain.Group D) (disk : D) → disk ≡ group.journal.disk → IsGivenBack reads may_leave faults group disk
given_back_at_once reads may_leave faults group disk is = record {
  count_same = ap faults is;
  stands = λ s. (group.journal.gate, subst (λ d. DiskStandsFor reads may_leave d (journal_commits group) group.journal.gate) (sym is) s.on_disk);
}

-- the commits of the journal and those that wait are all
pub all_commits : {D : Type 0} (group : plain.Group D) → journal_commits group ++ waiting_commits group ≡ commits_of group.entries
all_commits group = take-append-drop group.first (commits_of group.entries)

-- the disk stands for the group as before
pub stands_on : {D : Type 0} (reads : D → Option (List ℕ)) (may_leave : D → List ℕ → Type 0) (old new : plain.Group D) → journal_commits new ≡ journal_commits old → ((cs : List Commit) → JournalStandsFor reads may_leave old.journal cs → JournalStandsFor reads may_leave new.journal cs) → DiskStandsForGroup reads may_leave old → DiskStandsForGroup reads may_leave new
stands_on reads may_leave old new same on stands = subst (λ cs. JournalStandsFor reads may_leave new.journal cs) (sym same) (on (journal_commits old) stands)

-- where none waits, a crash leaves all, and a read gives it
pub none_left : {D : Type 0} (reads : D → Option (List ℕ)) (may_leave : D → List ℕ → Type 0) (group : plain.Group D) (disk : D) → disk ≡ group.journal.disk → waiting_commits group ≡ [] → DiskStandsForGroup reads may_leave group → (image : List ℕ) → may_leave disk image → ImageStandsFor (commits_of group.entries) image
none_left reads may_leave group disk is none s image left =
    let same = sym (append-nil (journal_commits group)) ∙ ap (λ l. journal_commits group ++ l) (sym none) ∙ all_commits group in
    subst (λ cs. ImageStandsFor cs image) same (s.on_disk.front, s.on_disk.opens, ([], s.on_disk.stored.only image (subst (λ d. may_leave d image) is left)))

pub none_read : {D : Type 0} (reads : D → Option (List ℕ)) (may_leave : D → List ℕ → Type 0) (group : plain.Group D) (disk : D) → disk ≡ group.journal.disk → DiskStandsForGroup reads may_leave group → (image : List ℕ) × (reads disk ≡ Some image) × NoneOrAll (journal_commits group) (waiting_commits group) image
none_read reads may_leave group disk is s = ((header ++ s.on_disk.front) ++ 0 ∷ [], ap reads is ∙ s.on_disk.stored.reads_as, inl (s.on_disk.front, s.on_disk.opens, ([], refl)))

-- and the disk has just them
pub none_stand : {D : Type 0} (reads : D → Option (List ℕ)) (may_leave : D → List ℕ → Type 0) (group : plain.Group D) (disk : D) → disk ≡ group.journal.disk → waiting_commits group ≡ [] → DiskStandsForGroup reads may_leave group → (gate : ℕ) × DiskStandsFor reads may_leave disk (commits_of group.entries) gate
none_stand reads may_leave group disk is none s =
    let same = sym (append-nil (journal_commits group)) ∙ ap (λ l. journal_commits group ++ l) (sym none) ∙ all_commits group in
    (group.journal.gate, subst (λ cs. DiskStandsFor reads may_leave disk cs group.journal.gate) same (subst (λ d. DiskStandsFor reads may_leave d (journal_commits group) group.journal.gate) (sym is) s.on_disk))

-- where all were appended, the disk has just them, and a crash leaves them
pub all_stand : {D : Type 0} (reads : D → Option (List ℕ)) (may_leave : D → List ℕ → Type 0) (group : plain.Group D) (journal : journal.Journal D) (disk : D) → disk ≡ journal.disk → JournalStandsFor reads may_leave journal (journal_commits group ++ waiting_commits group) → (gate : ℕ) × DiskStandsFor reads may_leave disk (commits_of group.entries) gate
all_stand reads may_leave group journal disk is s =
    (journal.gate, subst (λ cs. DiskStandsFor reads may_leave disk cs journal.gate) (all_commits group) (subst (λ d. DiskStandsFor reads may_leave d (journal_commits group ++ waiting_commits group) journal.gate) (sym is) s.on_disk))

pub all_left : {D : Type 0} (reads : D → Option (List ℕ)) (may_leave : D → List ℕ → Type 0) (group : plain.Group D) (journal : journal.Journal D) (disk : D) → disk ≡ journal.disk → JournalStandsFor reads may_leave journal (journal_commits group ++ waiting_commits group) → (image : List ℕ) → may_leave disk image → ImageStandsFor (commits_of group.entries) image
all_left reads may_leave group journal disk is s image left =
    subst (λ cs. ImageStandsFor cs image) (all_commits group) (s.on_disk.front, s.on_disk.opens, ([], s.on_disk.stored.only image (subst (λ d. may_leave d image) is left)))

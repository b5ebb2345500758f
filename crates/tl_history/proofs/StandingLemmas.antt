-- What the disk of a history stands for after a commit.
use Rattle.std.proofs.Common.{◌≡◌, ℕ, true, false, List, [], ◌∷◌, ◌++◌, Some, refl, sym, ap, ◌∙◌, subst, inl, inr}
use Rattle.std.specs.declared.option.Option.{Option}
use Rattle.tl_types.specs.declared.commits.Commit.{Commit}
use Rattle.tl_types.specs.declared.commits.Entry.{Entry}
use Rattle.tl_types.specs.Entries.{commits_of, has_break}
use Rattle.tl_index.specs.Snapshots.{commit_entry, break_entry}
use Rattle.tl_journal.specs.Image.{header, ImageStandsFor, BeforeOrAfter}
use Rattle.tl_journal.specs.Moments.{EachMoment, IsUntouched, TellsStill}
use Rattle.tl_journal.specs.Stands.{JournalStandsFor}
use Rattle.tl_journal.specs.Plain as journal
use Rattle.tl_history.specs.Lists.{tried_commits}
use Rattle.tl_history.specs.Standing.{ImageStandsForEntries, ImageStandsForEither, DiskStandsForHistory}
use Rattle.tl_history.specs.Plain as plain
use Rattle.tl_history.proofs.ListLemmas.{commits_more, commits_at_break, break_there, tried_more, tried_at_break, tried_whole}
use Rattle.tl_history.proofs.MomentLemmas.{next_moments, looser_moments}

-- what a crash leaves of a journal
pub image_left : {D : Type 0} (reads : D → Option (List ℕ)) (may_leave : D → List ℕ → Type 0) (j : journal.Journal D) (cs : List Commit) → JournalStandsFor reads may_leave j cs → (image : List ℕ) → may_leave j.disk image → ImageStandsFor cs image
image_left reads may_leave j cs stands image left =
    (stands.on_disk.front, stands.on_disk.opens, ([], stands.on_disk.stored.only image left))

-- and what a read gives of it
pub image_read : {D : Type 0} (reads : D → Option (List ℕ)) (may_leave : D → List ℕ → Type 0) (j : journal.Journal D) (cs : List Commit) → JournalStandsFor reads may_leave j cs → (image : List ℕ) × (reads j.disk ≡ Some image) × ImageStandsFor cs image
image_read reads may_leave j cs stands =
    let front = stands.on_disk.front in
    ((header ++ front) ++ 0 ∷ [], stands.on_disk.stored.reads_as, (front, stands.on_disk.opens, ([], refl)))

-- after an append a disk that told its bytes tells an image
pub image_told : {D : Type 0} (reads : D → Option (List ℕ)) (may_leave : D → List ℕ → Type 0) (old new : journal.Journal D) (cs : List Commit) (c : Commit) → JournalStandsFor reads may_leave old cs → TellsStill reads old.disk new.disk → ((image : List ℕ) → reads new.disk ≡ Some image → BeforeOrAfter cs c image) → (image : List ℕ) × (reads new.disk ≡ Some image) × BeforeOrAfter cs c image
image_told reads may_leave old new cs c stands tells either =
    let front = stands.on_disk.front in
    let told = tells ((header ++ front) ++ 0 ∷ []) stands.on_disk.stored.reads_as in
    (told.0, told.1, either told.0 told.1)

-- the image before an append or after it stands for entries with a break
either_of : (entries : List Entry) (cs : List Commit) (c : Commit) (image : List ℕ) → commits_of entries ≡ cs → tried_commits entries ≡ cs ++ c ∷ [] → BeforeOrAfter cs c image → ImageStandsForEntries entries image
either_of entries cs c image same tried (inl s) = inl (subst (λ l. ImageStandsFor l image) (sym same) s)
either_of entries cs c image same tried (inr s) = inr (subst (λ l. ImageStandsFor l image) (sym tried) s)

module _ {D : Type 0} (reads : D → Option (List ℕ)) (may_leave : D → List ℕ → Type 0) where
  -- a journal of commits alone
  pub stands_alone : (h : plain.History D) → JournalStandsFor reads may_leave h.journal (commits_of h.entries) → DiskStandsForHistory reads may_leave h
  stands_alone h stands =
      record {
        whole = λ w. stands;
        leaves = λ image left. inl (image_left reads may_leave h.journal (commits_of h.entries) stands image left);
        reads_as = let told = image_read reads may_leave h.journal (commits_of h.entries) stands in (told.0, told.1, inl told.2);
      }

  -- with one commit more
  pub stands_more : (old : List Entry) (h : plain.History D) (c : Commit) → h.entries ≡ old ++ commit_entry c ∷ [] → JournalStandsFor reads may_leave h.journal (commits_of old ++ c ∷ []) → DiskStandsForHistory reads may_leave h
  stands_more old h c more stands =
      let e : commits_of h.entries ≡ commits_of old ++ c ∷ [] = ap commits_of more ∙ commits_more old c in
      stands_alone h (subst (λ cs. JournalStandsFor reads may_leave h.journal cs) (sym e) stands)

  -- with the break of a commit
  pub stands_broken : (old : List Entry) (h : plain.History D) (c : Commit) → has_break old ≡ false → h.entries ≡ old ++ break_entry c ∷ [] → ((image : List ℕ) → may_leave h.journal.disk image → BeforeOrAfter (commits_of old) c image) → (image : List ℕ) × (reads h.journal.disk ≡ Some image) × BeforeOrAfter (commits_of old) c image → DiskStandsForHistory reads may_leave h
  stands_broken old h c none more now told =
      let there : has_break h.entries ≡ true = ap has_break more ∙ break_there old c in
      let same : commits_of h.entries ≡ commits_of old = ap commits_of more ∙ commits_at_break old c in
      let tried : tried_commits h.entries ≡ commits_of old ++ c ∷ [] = ap tried_commits more ∙ (tried_at_break old c ∙ ap (λ cs. cs ++ c ∷ []) (tried_whole old none)) in
      record {
        whole = λ w. absurd (let e : true ≡ false = sym there ∙ w in cc);
        leaves = λ image left. either_of h.entries (commits_of old) c image same tried (now image left);
        reads_as = (told.0, told.1, either_of h.entries (commits_of old) c told.0 same tried told.2);
      }

  -- with nothing but room
  pub stands_still : (old h : plain.History D) → h.entries ≡ old.entries → (JournalStandsFor reads may_leave old.journal (commits_of old.entries) → JournalStandsFor reads may_leave h.journal (commits_of old.entries)) → IsUntouched reads may_leave old.journal.disk h.journal.disk → DiskStandsForHistory reads may_leave old → DiskStandsForHistory reads may_leave h
  stands_still old h same as_before untouched stands =
      let told = stands.reads_as in
      record {
        whole = λ w.
            subst (λ es. JournalStandsFor reads may_leave h.journal (commits_of es)) (sym same)
            (as_before (stands.whole (ap has_break (sym same) ∙ w)));
        leaves = λ image left. subst (λ es. ImageStandsForEntries es image) (sym same) (stands.leaves image (untouched.no_more image left));
        reads_as = (told.0, untouched.reads_same ∙ told.1, subst (λ es. ImageStandsForEntries es told.0) (sym same) told.2);
      }

  -- what a crash leaves of a history is one of its old and new images
  pub one_of_same : (h : plain.History D) (new : List Entry) → new ≡ h.entries → DiskStandsForHistory reads may_leave h → (image : List ℕ) → may_leave h.journal.disk image → ImageStandsForEither h.entries new image
  one_of_same h new same stands image left = subst (λ es. ImageStandsForEither h.entries es image) (sym same) (stands.leaves image left)

  -- while there is no break it is that of the commits
  pub one_of_old : (h : plain.History D) (new : List Entry) → has_break h.entries ≡ false → DiskStandsForHistory reads may_leave h → (image : List ℕ) → may_leave h.journal.disk image → ImageStandsForEither h.entries new image
  one_of_old h new none stands image left =
      inl (image_left reads may_leave h.journal (commits_of h.entries) (stands.whole none) image left)

-- the image before an append or after it, of the commit or of its break
pub one_of_tried : (old new : List Entry) (c : Commit) → tried_commits new ≡ commits_of old ++ c ∷ [] → (image : List ℕ) → BeforeOrAfter (commits_of old) c image → ImageStandsForEither old new image
one_of_tried old new c tried image either =
    elim either as (λ _. ImageStandsForEither old new image) [
      | inl s ↦ inl s
      | inr s ↦ inr (subst (λ cs. ImageStandsFor cs image) (sym tried) s)
    ]

-- all that was tried with one commit more, or with its break
pub tried_commit : (old new : List Entry) (c : Commit) → has_break old ≡ false → new ≡ old ++ commit_entry c ∷ [] → tried_commits new ≡ commits_of old ++ c ∷ []
tried_commit old new c none more = ap tried_commits more ∙ (tried_more old c ∙ ap (λ cs. cs ++ c ∷ []) (tried_whole old none))

pub tried_break : (old new : List Entry) (c : Commit) → has_break old ≡ false → new ≡ old ++ break_entry c ∷ [] → tried_commits new ≡ commits_of old ++ c ∷ []
tried_break old new c none more = ap tried_commits more ∙ (tried_at_break old c ∙ ap (λ cs. cs ++ c ∷ []) (tried_whole old none))

module _ {D : Type 0} (reads : D → Option (List ℕ)) (may_leave : D → List ℕ → Type 0) (moment : D → ℕ) (left_since : D → ℕ → List ℕ → Type 0) where
  -- what each moment of a commit leaves where the disk is written
  pub moments_more : (old : plain.History D) (mid last : D) (new : List Entry) (c : Commit) → DiskStandsForHistory reads may_leave old → has_break old.entries ≡ false → EachMoment moment left_since old.journal.disk mid (may_leave old.journal.disk) → EachMoment moment left_since mid last (BeforeOrAfter (commits_of old.entries) c) → tried_commits new ≡ commits_of old.entries ++ c ∷ [] → EachMoment moment left_since old.journal.disk last (ImageStandsForEither old.entries new)
  moments_more old mid last new c stands none first second tried =
      next_moments moment left_since old.journal.disk mid last (may_leave old.journal.disk) (BeforeOrAfter (commits_of old.entries) c) (ImageStandsForEither old.entries new)
      first second (one_of_old reads may_leave old new none stands) (one_of_tried old.entries new c tried)

  -- and where it is not
  pub moments_still : (old : plain.History D) (last : D) (new : List Entry) → DiskStandsForHistory reads may_leave old → new ≡ old.entries → EachMoment moment left_since old.journal.disk last (may_leave old.journal.disk) → EachMoment moment left_since old.journal.disk last (ImageStandsForEither old.entries new)
  moments_still old last new stands same first =
      looser_moments moment left_since old.journal.disk last (may_leave old.journal.disk) (ImageStandsForEither old.entries new) first (one_of_same reads may_leave old new same stands)

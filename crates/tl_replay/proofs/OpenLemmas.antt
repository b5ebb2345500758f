-- The end of the opening of a journal.
use Rattle.std.proofs.Common.{◌≡◌, inr, ℕ, ◌≤◌, List, sym, ◌∙◌, subst, arith}
use Rattle.std.specs.Prelude.{Some, None, Result, Ok, Err, IfOk, IfErr}
use Rattle.std.specs.declared.option.Option.{Option}
use Rattle.tl_types.specs.declared.commits.Commit.{Commit}
use Rattle.tl_types.specs.declared.limits.Limits.{Limits}
use Rattle.tl_device.specs.Disk.{IsStored}
use Rattle.tl_journal.specs.Answers.{IsDevice, IsDeviceOrMemory}
use Rattle.tl_journal.specs.Image.{ImageStandsFor, ImageStandsOnlyFor}
use Rattle.tl_journal.specs.Moments.{EachMoment, EachMomentBySync, OldOr}
use Rattle.tl_journal.specs.Stands.{JournalStandsFor}
use Rattle.tl_journal.specs.Plain as journal
use Rattle.tl_journal.specs.declared.faults.JournalFault.{JournalFault}
use Rattle.tl_journal.specs.declared.faults.JournalFault.TheVariants as fault
use Rattle.tl_journal.specs.declared.opening.Refused.{Refused}
use Rattle.tl_replay.specs.Applying.{HasAppliedAll}
use Rattle.tl_replay.specs.Opening.{HasImage, IsOpened}
use Rattle.tl_replay.specs.declared.opening.Opened.{Opened}

module _ {D : Type 0} (reads : D → Option (List ℕ)) (may_leave : D → List ℕ → Type 0) where
  -- the image of a disk that was read
  stored_there : (found_commits : journal.FoundCommits D) (image : List ℕ) → HasImage reads may_leave image found_commits → IsStored reads may_leave found_commits.disk image
  stored_there found_commits image has = subst (λ b. IsStored reads may_leave found_commits.disk b) has.same has.stored

  -- the commits that were read are those that the disk stood for
  pub found_there : (found_commits : journal.FoundCommits D) (found cs : List Commit) (image : List ℕ) → ImageStandsOnlyFor found found_commits.image → HasImage reads may_leave image found_commits → ImageStandsFor cs image → found ≡ cs
  found_there found_commits found cs image whole has stands =
      sym (whole.only cs (subst (λ b. ImageStandsFor cs b) (sym has.same) stands))

  -- the disk stood for some
  pub some_there : (found_commits : journal.FoundCommits D) (found : List Commit) (image : List ℕ) → ImageStandsOnlyFor found found_commits.image → HasImage reads may_leave image found_commits → ImageStandsFor found image
  some_there found_commits found image whole has = subst (λ b. ImageStandsFor found b) has.same whole.stands

  pub now_there : (last : D) (found cs : List Commit) (old : List ℕ → Type 0) → found ≡ cs → ((c : List ℕ) → may_leave last c → ImageStandsFor found c) → (c : List ℕ) → may_leave last c → OldOr old (ImageStandsFor cs) c
  now_there last found cs old same leaves c left = inr (subst (λ l. ImageStandsFor l c) same (leaves c left))

module _ {D : Type 0} (reads : D → Option (List ℕ)) (may_leave : D → List ℕ → Type 0) (moment : D → ℕ) (left_since : D → ℕ → List ℕ → Type 0) where
  -- what each moment of an opening leaves
  pub opened_moments : (disk last : D) (found_commits : journal.FoundCommits D) (found cs : List Commit) → ((b : List ℕ) → reads disk ≡ Some b → HasImage reads may_leave b found_commits) → ((d : D) (t : ℕ) (c : List ℕ) → t ≤ moment d → may_leave d c → left_since d t c) → found ≡ cs → EachMoment moment left_since disk found_commits.disk (may_leave disk) → EachMoment moment left_since found_commits.disk last (ImageStandsFor found) → EachMomentBySync reads may_leave moment left_since disk last (ImageStandsFor cs)
  opened_moments disk last found_commits found cs image also_now same first second =
      inr (record {
        synced = found_commits.disk;
        stored = λ b told. stored_there reads may_leave found_commits b (image b told);
        until_then = first;
        from_then = subst (λ l. EachMoment moment left_since found_commits.disk last (ImageStandsFor l)) same second;
        on_run = λ c left.
            let here : moment found_commits.disk ≤ moment found_commits.disk = omega arith in
            second.nothing_lost (moment found_commits.disk) c here (also_now found_commits.disk (moment found_commits.disk) c here left);
      })

-- a fault of the disk is none of these
pub not_short : (len : ℕ) → IsDevice (fault.NotInitialised len) → ⊥
not_short len kind = let e = kind.1 in absurd (cc)

pub not_damaged : (at : ℕ) → IsDevice (fault.Damaged at) → ⊥
not_damaged at kind = let e = kind.1 in absurd (cc)

pub not_memory : IsDevice fault.NoMemory → ⊥
not_memory kind = let e = kind.1 in absurd (cc)

pub not_long : (len : ℕ) → IsDevice (fault.AlreadyInitialised len) → ⊥
not_long len kind = let e = kind.1 in absurd (cc)

-- what is refused for the disk has no other fault
pub other_fault : {D T : Type 0} (answer : Result T (Refused D)) (f : JournalFault) (P : Refused D → Type 0) → (IsDevice f → ⊥) → IfErr answer (λ r. IsDevice r.fault) → IfErr answer (λ r. r.fault ≡ f → P r)
other_fault (Ok o) f P none kinds = tt
other_fault (Err r) f P none kinds = λ is. absurd (none (subst (λ e. IsDevice e) is kinds))

-- a fault of the disk is one of the disk or of memory
pub device_or_memory : {D T : Type 0} (answer : Result T (Refused D)) → IfErr answer (λ r. IsDevice r.fault) → IfErr answer (λ r. IsDeviceOrMemory r.fault)
device_or_memory (Ok o) kinds = tt
device_or_memory (Err r) kinds = inr kinds

-- a journal is opened with the commits that were applied
pub opened_there : {D A : Type 0} (reads : D → Option (List ℕ)) (may_leave : D → List ℕ → Type 0) (faults : D → ℕ) (makes : A → List Commit → A → Type 0) (given : Limits) (first : A) (disk : D) (commits : List Commit) (found_commits : journal.FoundCommits D) (applied : A) (answer : Result (Opened D A) (Refused D))
    → HasAppliedAll makes given first commits found_commits applied → ((b : List ℕ) → reads disk ≡ Some b → HasImage reads may_leave b found_commits) → faults found_commits.disk ≡ faults disk
    → IfOk answer (λ o. o.applied ≡ applied) → IfOk answer (λ o. o.journal.broken ≡ None) → (IsStored reads may_leave found_commits.disk found_commits.image → IfOk answer (λ o. JournalStandsFor reads may_leave o.journal commits)) → IfOk answer (λ o. faults o.journal.disk ≡ faults found_commits.disk)
    → IfOk answer (λ o. (commits : List Commit) × IsOpened reads may_leave faults makes given first disk commits o)
opened_there reads may_leave faults makes given first disk commits found_commits applied (Ok o) all image count same whole stands sure = (
  commits,
  record {
    made = subst (λ a. makes first commits a) (sym same) all.so_far.made;
    fitting = all.so_far.fitting;
    unbroken = whole;
    count = sure ∙ count;
    stands = λ b told. stands (image b told).stored;
    image = λ b told. subst (λ i. ImageStandsOnlyFor commits i) (image b told).same all.whole;
  },
)
opened_there reads may_leave faults makes given first disk commits found_commits applied (Err r) all image count same whole stands sure = tt

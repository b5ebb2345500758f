-- What has been read of a journal's image.
use Rattle.std.proofs.Common.{◌≡◌, inl, inr, true, false, ℕ, ◌+◌, ◌≤◌, ◌<◌, ◌-◌, List, [], ◌∷◌, ◌++◌, length, drop, refl, sym, ap, ◌∙◌, subst, arith, append_assoc, length-append}
use Rattle.tl_types.specs.declared.commits.Commit.{Commit}
use Rattle.tl_types.specs.declared.limits.Limits.{Limits}
use Rattle.tl_record.specs.Spelling.{spelling}
use Rattle.std.specs.Prelude.{Option, Some, None, IfSome, Result, Err}
use Rattle.tl_journal.specs.Answers.{IsTooShort, IsDeviceOrMemory}
use Rattle.tl_journal.specs.Image.{header, OpenGates, ImageStandsFor, ImageStandsOnlyFor, IsDamagedOnlyAt, size_of}
use Rattle.tl_journal.specs.declared.found.Found.{Found}
use Rattle.tl_journal.specs.declared.faults.JournalFault.{JournalFault}
use Rattle.tl_journal.specs.declared.faults.JournalFault.TheVariants as fault
use Rattle.tl_journal.specs.Opening.{HasRead, IsAtClosedGate, HasRecordAt}
use Rattle.tl_journal.specs.Plain as journal
use Rattle.tl_types.specs.Legality.{FitInTurn}
use Rattle.tl_replay.specs.Fitting.{IsUnfitAt, IsDamaged}
use Rattle.tl_replay.specs.Applying.{IsAppliedTo, HasApplied, AppliesAll, IsFirstUnfit, StopsAt}
use Rattle.tl_replay.proofs.FitLemmas.{fit_next, none_unfit}

-- gates and records take as many bytes as their commits say
length_opens : (cs : List Commit) (front : List ℕ) → OpenGates cs front → length front ≡ size_of cs
length_opens [] front opens = ap length opens
length_opens (c ∷ cs) front opens =
    let tail : List ℕ = opens.1 in
    let e : length front ≡ length (opens.0 ∷ (spelling c ++ tail)) = ap length opens.4 in
    let more : length tail ≡ size_of cs = length_opens cs tail opens.5 in
    omega (arith, e, more, length-append (spelling c) tail)

-- the place of the next gate
pub place_read : {D : Type 0} (found : List Commit) (found_commits : journal.FoundCommits D) → HasRead found found_commits → found_commits.at ≡ 16 + size_of found
place_read found found_commits read =
    let n = length_opens found read.front read.opens in
    let e : length (header ++ read.front) ≡ 16 + length read.front = length-append header read.front in
    read.at_is ∙ (e ∙ ap (λ k. 16 + k) n)

-- it lies within the image
pub read_within : {D : Type 0} (found : List Commit) (found_commits : journal.FoundCommits D) → HasRead found found_commits → found_commits.at ≤ length found_commits.image
read_within found found_commits read =
    let e : length found_commits.image ≡ length ((header ++ read.front) ++ drop found_commits.at found_commits.image) = ap length read.image_is in
    let at = read.at_is in
    omega (arith, e, at, length-append (header ++ read.front) (drop found_commits.at found_commits.image))

-- where all is spelled well, the gate of the first unfit commit is where the journal is damaged
unfit_read : {D : Type 0} (limits : Limits) (found_commits : journal.FoundCommits D) (before : List Commit) (at : ℕ) (image : List ℕ) → (first : IsFirstUnfit limits before found_commits at) → (later : List Commit) → ImageStandsOnlyFor ((before ++ first.commit ∷ []) ++ later) image → IsUnfitAt limits at image
unfit_read limits found_commits before at image first later whole =
    record {
      before = before;
      commit = first.commit;
      later = later;
      whole = subst (λ cs. ImageStandsOnlyFor cs image) (append_assoc before (first.commit ∷ []) later) whole;
      fitting = first.fitting;
      unfit = first.unfit;
      at_is = first.at_is;
    }

-- an image whose commits all fit is not damaged
pub fit_undamaged : (limits : Limits) (at : ℕ) (image : List ℕ) (cs : List Commit) → ImageStandsFor cs image → FitInTurn limits cs → IsDamaged limits at image → ⊥
fit_undamaged limits at image cs stands fitting damaged =
    elim damaged as (λ _. ⊥) [
      | inl d ↦ d.no_journal cs stands
      | inr u ↦
          let e : cs ≡ u.before ++ u.commit ∷ u.later = u.whole.only cs stands in
          none_unfit limits u.before u.commit u.later (subst (λ l. FitInTurn limits l) e fitting) u.unfit
    ]

-- WHILE THE COMMITS ARE READ

-- what was read goes on with nothing at first
pub read_start : {D : Type 0} (found_commits : journal.FoundCommits D) (found : List Commit) → HasRead found found_commits → (later : List Commit) × HasRead (found ++ later) found_commits
read_start found_commits found read = ([], subst (λ cs. HasRead cs found_commits) (sym (append-nil found)) read) where
  append-nil : (xs : List Commit) → xs ++ [] ≡ xs
  append-nil [] = refl
  append-nil (x ∷ xs) = ap (λ l. x ∷ l) (append-nil xs)

-- and then with one commit more
pub read_next : {D : Type 0} (new : journal.FoundCommits D) (found later : List Commit) (o : Option Found) (f : Found) → o ≡ Some f → IfSome o (λ g. HasRead ((found ++ later) ++ g.commit ∷ []) new) → (more : List Commit) × HasRead (found ++ more) new
read_next new found later o f is read =
    let r : HasRead ((found ++ later) ++ f.commit ∷ []) new = subst (λ p. IfSome p (λ g. HasRead ((found ++ later) ++ g.commit ∷ []) new)) is read in
    (later ++ f.commit ∷ [], subst (λ cs. HasRead cs new) (append_assoc found later (f.commit ∷ [])) r)

-- each commit leaves fewer bytes
pub fewer_left : {D : Type 0} (found_commits new : journal.FoundCommits D) (found : List Commit) (o : Option Found) (f : Found) → o ≡ Some f → new.image ≡ found_commits.image → IfSome o (λ g. new.at ≡ found_commits.at + (1 + length (spelling g.commit))) → IfSome o (λ g. HasRead (found ++ g.commit ∷ []) new) → length new.image - new.at < length found_commits.image - found_commits.at
fewer_left found_commits new found o f is same on read =
    let r : HasRead (found ++ f.commit ∷ []) new = subst (λ p. IfSome p (λ g. HasRead (found ++ g.commit ∷ []) new)) is read in
    let n : new.at ≡ found_commits.at + (1 + length (spelling f.commit)) = subst (λ p. IfSome p (λ g. new.at ≡ found_commits.at + (1 + length (spelling g.commit)))) is on in
    let within = read_within (found ++ f.commit ∷ []) new r in
    let l : length new.image ≡ length found_commits.image = ap length same in
    omega (arith, n, within, l)

-- the commits that are applied, with one more that fits
pub applied_next : {D A : Type 0} (makes : A → List Commit → A → Type 0) (limits : Limits) (first : A) (commits : List Commit) (old new : journal.FoundCommits D) (applied next : A) (o : Option Found) (f : Found) → o ≡ Some f → HasApplied makes limits first commits old applied → IfSome o (λ g. HasRead (commits ++ g.commit ∷ []) new)
    → IsAppliedTo makes limits first commits f.commit next true → HasApplied makes limits first (commits ++ f.commit ∷ []) new next
applied_next makes limits first commits old new applied next o f is before read fits =
    record {
      read = subst (λ p. IfSome p (λ g. HasRead (commits ++ g.commit ∷ []) new)) is read;
      fitting = fit_next limits commits f.commit before.fitting fits.0;
      made = fits.1;
    }

-- the first commit that does not fit
pub first_unfit : {D A : Type 0} (makes : A → List Commit → A → Type 0) (limits : Limits) (first : A) (commits : List Commit) (old new : journal.FoundCommits D) (applied next : A) (o : Option Found) (f : Found) → o ≡ Some f → HasApplied makes limits first commits old applied → IfSome o (λ g. g.at ≡ old.at)
    → IfSome o (λ g. HasRead (commits ++ g.commit ∷ []) new) → IsAppliedTo makes limits first commits f.commit next false → IsFirstUnfit limits commits new f.at
first_unfit makes limits first commits old new applied next o f is before gate read fits =
    let at : f.at ≡ old.at = subst (λ p. IfSome p (λ g. g.at ≡ old.at)) is gate in
    record {
      commit = f.commit;
      read = subst (λ p. IfSome p (λ g. HasRead (commits ++ g.commit ∷ []) new)) is read;
      fitting = before.fitting;
      unfit = fits.0;
      at_is = at ∙ place_read commits old before.read;
    }

-- all commits are applied once the closed gate comes next
pub all_applied : {D A : Type 0} (makes : A → List Commit → A → Type 0) (limits : Limits) (first : A) (commits : List Commit) (old new : journal.FoundCommits D) (applied : A) → HasApplied makes limits first commits old applied → new ≡ old → IsAtClosedGate new → ImageStandsOnlyFor commits old.image → AppliesAll makes limits first new applied
all_applied makes limits first commits old new applied so_far same end whole = (
  commits,
  record {
    so_far = subst (λ o. HasApplied makes limits first commits o applied) (sym same) so_far;
    at_end = end;
    whole = subst (λ (o : journal.FoundCommits _). ImageStandsOnlyFor commits o.image) (sym same) whole;
  },
)

-- the record behind the gate of the commit that was found
pub record_found : {D : Type 0} (new : journal.FoundCommits D) (o : Option Found) (f : Found) → o ≡ Some f → IfSome o (λ g. HasRecordAt g.at g.commit new) → HasRecordAt f.at f.commit new
record_found new o f is there = subst (λ p. IfSome p (λ g. HasRecordAt g.at g.commit new)) is there

-- a damage of the image that is read is one of the image at the start
pub damaged_there : (at : ℕ) (here there : List ℕ) → here ≡ there → IsDamagedOnlyAt at here → IsDamagedOnlyAt at there
damaged_there at here there same damaged = subst (λ b. IsDamagedOnlyAt at b) same damaged

-- where the bytes are no journal's, the image is damaged
pub bytes_damaged : (limits : Limits) (at : ℕ) (o : Option (List ℕ)) → IfSome o (λ b. IsDamagedOnlyAt at b) → IfSome o (λ b. IsDamaged limits at b)
bytes_damaged limits at None d = d
bytes_damaged limits at (Some b) d = inl d

-- AT THE END OF A CALL

-- what an error that was passed on says of its place
pub damaged_by : {T U : Type 0} (r : Result T JournalFault) (x y : JournalFault) (at : ℕ) (P : Type 0) → r ≡ Err x → x ≡ y → r ≡ Err (fault.Damaged at) → (◌≡◌ {A = Result U JournalFault} (Err y) (Err (fault.Damaged at)) → P) → P
damaged_by r x y at P p q e d =
    let k : Err x ≡ Err (fault.Damaged at) = sym p ∙ e in
    let m : x ≡ fault.Damaged at = cc in
    d (ap (λ z. Err z) (sym q ∙ m))

-- the place of a fault
pub place_of_err : {T : Type 0} (a b : ℕ) → ◌≡◌ {A = Result T JournalFault} (Err (fault.Damaged a)) (Err (fault.Damaged b)) → a ≡ b
place_of_err a b e = cc

-- where all is spelled well, the journal is damaged at the gate of the first commit that does not fit
pub unfit_there : {D A : Type 0} (makes : A → List Commit → A → Type 0) (limits : Limits) (first : A) (found_commits : journal.FoundCommits D) (applied : A) (o : Option ℕ) (at place : ℕ) (image : List ℕ) → o ≡ Some at → StopsAt makes limits first found_commits applied o
    → ((found : List Commit) → HasRead found found_commits → (later : List Commit) × ImageStandsOnlyFor (found ++ later) found_commits.image) → found_commits.image ≡ image → at ≡ place → IsDamaged limits place image
unfit_there makes limits first found_commits applied o at place image is stops whole same there =
    let unfit = subst (λ p. StopsAt makes limits first found_commits applied p) is stops in
    let later = whole (unfit.0 ++ unfit.1.commit ∷ []) unfit.1.read in
    let u = unfit_read limits found_commits unfit.0 at found_commits.image unfit.1 later.0 later.1 in
    subst (λ n. IsDamaged limits n image) there (subst (λ b. IsDamaged limits at b) same (inr u))

-- what was read when the first commit did not fit
pub read_there : {D A : Type 0} (makes : A → List Commit → A → Type 0) (limits : Limits) (first : A) (found_commits : journal.FoundCommits D) (applied : A) (o : Option ℕ) (at : ℕ) → o ≡ Some at → StopsAt makes limits first found_commits applied o → (found : List Commit) × HasRead found found_commits
read_there makes limits first found_commits applied o at is stops =
    let unfit = subst (λ p. StopsAt makes limits first found_commits applied p) is stops in
    (unfit.0 ++ unfit.1.commit ∷ [], unfit.1.read)

-- what was applied when all commits fitted
pub all_there : {D A : Type 0} (makes : A → List Commit → A → Type 0) (limits : Limits) (first : A) (found_commits : journal.FoundCommits D) (applied : A) (o : Option ℕ) → o ≡ None → StopsAt makes limits first found_commits applied o → AppliesAll makes limits first found_commits applied
all_there makes limits first found_commits applied o is stops = subst (λ p. StopsAt makes limits first found_commits applied p) is stops

-- a journal has 17 bytes at least
stands_long : (cs : List Commit) (b : List ℕ) → ImageStandsFor cs b → 17 ≤ length b
stands_long cs b stands =
    let e : length b ≡ length ((header ++ stands.0) ++ 0 ∷ stands.2.0) = ap length stands.2.1 in
    let l : length (header ++ stands.0) ≡ 16 + length stands.0 = length-append header stands.0 in
    omega (arith, e, l, length-append (header ++ stands.0) (0 ∷ stands.2.0))

-- a journal whose commits fit meets faults of the disk or of memory alone
pub honest_fault : (limits : Limits) (e : JournalFault) (o : Option (List ℕ)) (b : List ℕ) (cs : List Commit) → o ≡ Some b → ImageStandsFor cs b → FitInTurn limits cs
    → ((len : ℕ) → e ≡ fault.NotInitialised len → (len < 17) × IfSome o (IsTooShort len))
    → ((at : ℕ) → e ≡ fault.Damaged at → IfSome o (IsDamaged limits at))
    → ((len : ℕ) → e ≡ fault.AlreadyInitialised len → ⊥) → IsDeviceOrMemory e
honest_fault limits (fault.Device faults) o b cs told stands fitting short damaged long = inr (faults, refl)
honest_fault limits (fault.NotInitialised len) o b cs told stands fitting short damaged long =
    let s = (short len refl).1 in
    let t : IsTooShort len b = subst (λ p. IfSome p (IsTooShort len)) told s in
    let l = stands_long cs b stands in
    let e = t.0 in let f = t.1 in
    absurd (omega arith)
honest_fault limits (fault.AlreadyInitialised len) o b cs told stands fitting short damaged long = absurd (long len refl)
honest_fault limits (fault.Damaged at) o b cs told stands fitting short damaged long =
    absurd (fit_undamaged limits at b cs stands fitting (subst (λ p. IfSome p (IsDamaged limits at)) told (damaged at refl)))
honest_fault limits fault.NoMemory o b cs told stands fitting short damaged long = inl refl

-- What opening leaves, from its begin to its end.
use Rattle.std.proofs.Common.{◌≡◌, inr, ℕ, List, sym, ◌∙◌, ap, subst, arith, Option, Some}
use Rattle.tl_types.specs.declared.commits.Commit.{Commit}
use Rattle.tl_device.specs.Disk.{IsStored}
use Rattle.tl_journal.specs.Image.{ImageStandsFor, ImageStandsOnlyFor}
use Rattle.tl_journal.specs.Stands.{SameOrTrimmed}
use Rattle.tl_journal.specs.Moments.{EachMoment, EachMomentBySync, SyncsFirst, OldOr}

-- what is stored in one state is stored in an equal one, of equal bytes
pub stored_there : {D : Type 0} (reads : D → Option (List ℕ)) (may_leave : D → List ℕ → Type 0) (mid opened : D) (b read : List ℕ) → IsStored reads may_leave mid b → opened ≡ mid → read ≡ b → IsStored reads may_leave opened read
stored_there reads may_leave mid opened b read stored same bytes =
    subst (λ d. IsStored reads may_leave d read) (sym same) (subst (λ l. IsStored reads may_leave mid l) (sym bytes) stored)

pub opened_moments : {D : Type 0} (reads : D → Option (List ℕ)) (may_leave : D → List ℕ → Type 0) (moment : D → ℕ) (left_since : D → ℕ → List ℕ → Type 0) (old mid opened last new : D) (b : List ℕ) (found cs : List Commit) → ((b : List ℕ) → reads old ≡ Some b → IsStored reads may_leave mid b) → ((c : List ℕ) → may_leave mid c → left_since mid (moment mid) c) → EachMoment moment left_since old mid (may_leave old) → opened ≡ mid → last ≡ new → EachMoment moment left_since opened last (ImageStandsFor found) → ImageStandsOnlyFor found b → ImageStandsFor cs b → EachMomentBySync reads may_leave moment left_since old new (ImageStandsFor cs)
opened_moments reads may_leave moment left_since old mid opened last new b found cs stored begins until same end from all s =
    let names : EachMoment moment left_since opened last (ImageStandsFor cs) = subst (λ l. EachMoment moment left_since opened last (ImageStandsFor l)) (sym (all.only cs s)) from in
    let begun : EachMoment moment left_since mid last (ImageStandsFor cs) = subst (λ d. EachMoment moment left_since d last (ImageStandsFor cs)) same names in
    let whole : EachMoment moment left_since mid new (ImageStandsFor cs) = subst (λ d. EachMoment moment left_since mid d (ImageStandsFor cs)) end begun in
    let first : SyncsFirst reads may_leave moment left_since old new (ImageStandsFor cs) = record { synced = mid; stored = stored; until_then = until; from_then = whole; on_run = λ c left. whole.nothing_lost (moment mid) c (omega arith) (begins c left) } in
    inr first

pub opened_now : {D : Type 0} (may_leave : D → List ℕ → Type 0) (old last new : D) (b : List ℕ) (found cs : List Commit) → last ≡ new → ((c : List ℕ) → may_leave last c → ImageStandsFor found c) → ImageStandsOnlyFor found b → ImageStandsFor cs b → (c : List ℕ) → may_leave new c → OldOr (may_leave old) (ImageStandsFor cs) c
opened_now may_leave old last new b found cs end now all s c left =
    inr (subst (λ l. ImageStandsFor l c) (sym (all.only cs s)) (now c (subst (λ d. may_leave d c) (sym end) left)))

pub opened_reads : {D : Type 0} (reads : D → Option (List ℕ)) (last new : D) (b : List ℕ) → last ≡ new → (c : List ℕ) × (reads last ≡ Some c) × SameOrTrimmed b c → (c : List ℕ) × (reads new ≡ Some c) × SameOrTrimmed b c
opened_reads reads last new b end t = (t.0, ap (λ d. reads d) (sym end) ∙ t.1, t.2)

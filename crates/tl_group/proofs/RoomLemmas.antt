-- Room that is taken in several steps.
use Rattle.std.proofs.Common.{◌≡◌, ℕ, List, [], ◌∷◌, ◌++◌, Option, ap, sym, subst, refl, ◌∙◌, append_assoc, append-nil}
use Rattle.tl_types.specs.declared.commits.Commit.{Commit}
use Rattle.tl_journal.specs.Plain as journal
use Rattle.tl_journal.proofs.Phases.{still}
use Rattle.tl_history.specs.Committing.{TakesRoom}
use Rattle.tl_history.proofs.MomentLemmas.{no_moment}
use Rattle.tl_group.specs.Bodies.{IsWaitingBody, PutsRecords}

-- nothing was taken
pub takes_none : {D : Type 0} (reads : D → Option (List ℕ)) (may_leave : D → List ℕ → Type 0) (moment : D → ℕ) (left_since : D → ℕ → List ℕ → Type 0) (faults : D → ℕ) (old : journal.Journal D) → ((c : List ℕ) → left_since old.disk (moment old.disk) c → may_leave old.disk c) → TakesRoom reads may_leave moment left_since faults old old
takes_none reads may_leave moment left_since faults old only_now = record {
  gate_same = refl;
  broken_same = refl;
  untouched = record { reads_same = refl; no_more = λ c left. left };
  back = λ c left. left;
  moments = no_moment moment left_since may_leave old.disk only_now;
  count_same = refl;
  stands = λ cs s. s;
}

-- one step after the other
pub takes_on : {D : Type 0} (reads : D → Option (List ℕ)) (may_leave : D → List ℕ → Type 0) (moment : D → ℕ) (left_since : D → ℕ → List ℕ → Type 0) (faults : D → ℕ) (old mid new : journal.Journal D) → TakesRoom reads may_leave moment left_since faults old mid → TakesRoom reads may_leave moment left_since faults mid new → TakesRoom reads may_leave moment left_since faults old new
takes_on reads may_leave moment left_since faults old mid new a b = record {
  gate_same = b.gate_same ∙ a.gate_same;
  broken_same = b.broken_same ∙ a.broken_same;
  untouched = record {
    reads_same = b.untouched.reads_same ∙ a.untouched.reads_same;
    no_more = λ c left. a.untouched.no_more c (b.untouched.no_more c left);
  };
  back = λ c left. b.back c (a.back c left);
  moments = still (moment old.disk) (moment mid.disk) (moment new.disk) (left_since old.disk) (left_since mid.disk) (left_since new.disk) (may_leave old.disk) (may_leave mid.disk) a.moments a.untouched.no_more b.moments;
  count_same = b.count_same ∙ a.count_same;
  stands = λ cs s. b.stands cs (a.stands cs s);
}

-- no record was put behind a body
pub puts_none : (old : List ℕ) → PutsRecords [] old old
puts_none old = λ group is. subst (λ cs. IsWaitingBody cs old) (sym (append-nil group)) is

-- some records, and then others
pub puts_on : (cs ds all : List Commit) (old mid new : List ℕ) → PutsRecords cs old mid → PutsRecords ds mid new → all ≡ cs ++ ds → PutsRecords all old new
puts_on cs ds all old mid new a b e = λ group is.
    subst (λ l. IsWaitingBody l new) (append_assoc group cs ds ∙ ap (λ l. group ++ l) (sym e)) (b (group ++ cs) (a group is))

-- What a crash leaves at each moment, call by call.
use Rattle.std.proofs.Common.{inl, inr, ⊎_elim, ℕ, List, Option, sym, ◌∙◌, subst, arith}
use Rattle.tl_device.specs.Disk.{Only, Elapses, LeavesOnly}
use Rattle.tl_journal.specs.Moments.{IsUntouched, LosesNothing, IsAsBefore}

-- at the start nothing has happened
pub starts : (now : ℕ) (since : ℕ → List ℕ → Type 0) (may_leave : List ℕ → Type 0) (file : List ℕ) (P : List ℕ → Type 0) → ((c : List ℕ) → since now c → may_leave c) → Only file may_leave → P file → LeavesOnly now now since since P
starts now since may_leave file P only_now only here = record { later = omega arith; each = λ c left. subst P (sym (only c (only_now c left))) here; before = λ t c le left. inl left; nothing_lost = λ t c le past. past }

-- one call more, after which a crash leaves what has P
pub goes : (was mid now : ℕ) (past half since : ℕ → List ℕ → Type 0) (P may_leave : List ℕ → Type 0) → LeavesOnly was mid past half P → Elapses mid now half since may_leave → ((c : List ℕ) → may_leave c → P c) → LeavesOnly was now past since P
goes was mid now past half since P may_leave so time here = record {
  later = omega (arith, so.later, time.later);
  each = λ c left. ⊎_elim (so.each c) (here c) (time.nothing_else was c so.later left);
  before = λ t c le left. ⊎_elim (so.before t c le) (λ now. inr (here c now)) (time.nothing_else t c (omega (arith, le, so.later)) left);
  nothing_lost = λ t c le past. time.nothing_lost t c (omega (arith, le, so.later)) (so.nothing_lost t c le past);
}

-- one part after the other
pub then : (was mid now : ℕ) (past half since : ℕ → List ℕ → Type 0) (P : List ℕ → Type 0) → LeavesOnly was mid past half P → LeavesOnly mid now half since P → LeavesOnly was now past since P
then was mid now past half since P f g = record {
  later = omega (arith, f.later, g.later);
  each = λ c left. ⊎_elim (f.each c) (λ p. p) (g.before was c f.later left);
  before = λ t c le left. ⊎_elim (f.before t c le) (λ p. inr p) (g.before t c (omega (arith, le, f.later)) left);
  nothing_lost = λ t c le past. g.nothing_lost t c (omega (arith, le, f.later)) (f.nothing_lost t c le past);
}

-- what has P has Q
pub weaker : (was now : ℕ) (past since : ℕ → List ℕ → Type 0) (P Q : List ℕ → Type 0) → ((c : List ℕ) → P c → Q c) → LeavesOnly was now past since P → LeavesOnly was now past since Q
weaker was now past since P Q from f = record { later = f.later; each = λ c left. from c (f.each c left); before = λ t c le left. ⊎_elim (λ p. inl p) (λ p. inr (from c p)) (f.before t c le left); nothing_lost = f.nothing_lost }

-- two parts that leave only what could be left before
pub still : (was mid now : ℕ) (past half since : ℕ → List ℕ → Type 0) (old new : List ℕ → Type 0) → LeavesOnly was mid past half old → ((c : List ℕ) → new c → old c) → LeavesOnly mid now half since new → LeavesOnly was now past since old
still was mid now past half since old new f no_more g =
    then was mid now past half since old f (weaker mid now half since new old no_more g)

-- what changed nothing, twice
pub as_before_twice : {D : Type 0} (reads : D → Option (List ℕ)) (may_leave : D → List ℕ → Type 0) (old mid new : D) → IsUntouched reads may_leave old mid → LosesNothing reads may_leave old mid → IsAsBefore reads may_leave mid new → IsAsBefore reads may_leave old new
as_before_twice reads may_leave old mid new same all next = (
  record { reads_same = next.0.reads_same ∙ same.reads_same; no_more = λ c left. same.no_more c (next.0.no_more c left) },
  λ b told c left. next.1 b (same.reads_same ∙ told) c (all b told c left),
)

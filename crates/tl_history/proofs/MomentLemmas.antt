-- What a crash leaves at each moment of several calls.
use Rattle.std.proofs.Common.{◌⊎◌, ℕ, ◌≤◌, List, arith, inl, inr}
use Rattle.tl_journal.specs.Moments.{EachMoment}

-- no call at all
pub no_moment : {D : Type 0} (moment : D → ℕ) (left_since : D → ℕ → List ℕ → Type 0) (may_leave : D → List ℕ → Type 0) (disk : D) → ((c : List ℕ) → left_since disk (moment disk) c → may_leave disk c) → EachMoment moment left_since disk disk (may_leave disk)
no_moment moment left_since may_leave disk only_now =
    record {
      later = omega arith;
      each = only_now;
      before = λ t c le since. inl since;
      nothing_lost = λ t c le past. past;
    }

-- one call after another
pub next_moments : {D : Type 0} (moment : D → ℕ) (left_since : D → ℕ → List ℕ → Type 0) (a b c : D) (P Q R : List ℕ → Type 0) → EachMoment moment left_since a b P → EachMoment moment left_since b c Q → ((x : List ℕ) → P x → R x) → ((x : List ℕ) → Q x → R x) → EachMoment moment left_since a c R
next_moments moment left_since a b c P Q R first second from_p from_q =
    record {
      later = (let l = first.later in let m = second.later in omega arith);
      each = λ x since.
          elim (second.before (moment a) x first.later since) as (λ _. R x) [
            | inl past ↦ from_p x (first.each x past)
            | inr q ↦ from_q x q
          ];
      before = λ t x le since.
          let le_b : t ≤ moment b = (let l = first.later in omega arith) in
          elim (second.before t x le_b since) as (λ _. left_since a t x ⊎ R x) [
            | inl past ↦ elim (first.before t x le past) as (λ _. left_since a t x ⊎ R x) [ inl p ↦ inl p | inr p ↦ inr (from_p x p) ]
            | inr q ↦ inr (from_q x q)
          ];
      nothing_lost = λ t x le past.
          let le_b : t ≤ moment b = (let l = first.later in omega arith) in
          second.nothing_lost t x le_b (first.nothing_lost t x le past);
    }

-- what is left may be said more loosely
pub looser_moments : {D : Type 0} (moment : D → ℕ) (left_since : D → ℕ → List ℕ → Type 0) (a b : D) (P R : List ℕ → Type 0) → EachMoment moment left_since a b P → ((x : List ℕ) → P x → R x) → EachMoment moment left_since a b R
looser_moments moment left_since a b P R first from_p =
    record {
      later = first.later;
      each = λ x since. from_p x (first.each x since);
      before = λ t x le since.
          elim (first.before t x le since) as (λ _. left_since a t x ⊎ R x) [ inl p ↦ inl p | inr p ↦ inr (from_p x p) ];
      nothing_lost = first.nothing_lost;
    }

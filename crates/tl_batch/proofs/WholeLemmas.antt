-- What lines affect has a moment in common with one of them.
use Rattle.std.proofs.Common.{◌≡◌, ℤ, ◌<ℤ◌, int_lt, Bool, true, false, ◌&&◌, ◌||◌, List, [], ◌∷◌, Option, Some, None, refl, ap, arith}
use Rattle.std.specs.List.{list_any}
use Rattle.std.proofs.lemmas.Int.{ints}
use Rattle.tl_types.specs.Plain as plain
use Rattle.tl_types.specs.History.{is_within}
use Rattle.tl_batch.specs.Pieces.{affects_period, cuts}
use Rattle.tl_batch.specs.Covers.{Full}
use Rattle.tl_batch.proofs.GapLemmas.{within_true}
use Rattle.tl_batch.proofs.FaultLemmas.{whole_left}

-- PERIODS

-- a moment of a period that some lines cover
pub record Shares (p : plain.Period) (lines : List (Option plain.Period)) : Type 0 where
  pub t : ℤ
  pub inside : is_within t (Some p) ≡ true
  pub covered : list_any (is_within t) lines ≡ true

pub shared : (lines : List (Option plain.Period)) (p : plain.Period) → p.from <ℤ p.to → Full lines → list_any (λ line. affects_period true line (Some p)) lines ≡ true → Shares p lines
shared [] p h full e = absurd (cc)
shared (None ∷ lines) p h full e = let s = shared lines p h full e in record { t = s.t; inside = s.inside; covered = s.covered }
shared (Some q ∷ lines) p h full e = by (int_lt p.from q.to) (int_lt q.from p.to) refl refl e (shared lines p h full.1) where
  first : p.from <ℤ q.to → q.from <ℤ p.to → (b : Bool) → int_lt p.from q.from ≡ b → Shares p (Some q ∷ lines)
  first k l true f = record {
    t = q.from;
    inside = within_true q.from p (omega (arith, ints)) l;
    covered = ap (λ b. b || list_any (is_within q.from) lines) (within_true q.from q (omega (arith, ints)) full.0);
  }
  first k l false f = record {
    t = p.from;
    inside = within_true p.from p (omega (arith, ints)) h;
    covered = ap (λ b. b || list_any (is_within p.from) lines) (within_true p.from q (omega (arith, ints)) k);
  }

  by : (a b : Bool) → int_lt p.from q.to ≡ a → int_lt q.from p.to ≡ b → ((a && b) || list_any (λ line. affects_period true line (Some p)) lines) ≡ true → (list_any (λ line. affects_period true line (Some p)) lines ≡ true → Shares p lines) → Shares p (Some q ∷ lines)
  by true true f g e later = first (omega (arith, ints)) (omega (arith, ints)) (int_lt p.from q.from) refl
  by true false f g e later = let s = later e in record { t = s.t; inside = s.inside; covered = grind (arith, s.covered) }
  by false b f g e later = let s = later e in record { t = s.t; inside = s.inside; covered = grind (arith, s.covered) }

pub none_affected : (lines : List (Option plain.Period)) → list_any (λ line. affects_period true line None) lines ≡ false
none_affected [] = refl
none_affected (line ∷ lines) = none_affected lines

pub none_cut : (lines : List (Option plain.Period)) → cuts true lines None ≡ None ∷ []
none_cut lines = whole_left true lines None (none_affected lines)

-- A stretch has a moment of a period just where a line affects the period.
use Rattle.std.proofs.Common.{◌≡◌, ℤ, ◌≤ℤ◌, ◌<ℤ◌, int_lt, Bool, true, false, ◌&&◌, ◌||◌, not, List, [], ◌∷◌, Option, Some, refl, sym, ap, ◌∙◌, arith}
use Rattle.std.specs.List.{list_any}
use Rattle.std.specs.Ordering.{int_cmp}
use Rattle.std.specs.BTreeMap.Range.{entries_between}
use Rattle.std.specs.declared.ops.Bound.TheVariants.{Excluded, Unbounded}
use Rattle.std.proofs.lemmas.Int.{ints}
use Rattle.tl_types.specs.Plain as plain
use Rattle.tl_types.specs.History.{is_within}
use Rattle.tl_batch.specs.Pieces.{affects_period}
use Rattle.tl_batch.specs.Covers.{is_between, is_covered, Full, Beyond, before_all, first_begins}
use Rattle.tl_batch.specs.declared.cover.StretchesRef.{StretchesRef}
use Rattle.tl_batch.specs.declared.cover.StretchesRef.TheVariants as one
use Rattle.tl_batch.specs.StretchesRefs.{stretches_shown}
use Rattle.tl_batch.proofs.GapLemmas.{lt_true, lt_false}
use Rattle.tl_batch.proofs.PeriodSetLemmas.{ends_past}
use Rattle.tl_batch.proofs.SwapLemmas.{affected_at}
use Rattle.tl_batch.proofs.WholeLemmas.{shared}

-- one of the stretches has a moment of those from one on and before another
abbrev meets : ℤ → ℤ → List (ℤ × ℤ) → Bool
meets from to stretches = list_any (λ s. int_lt from s.0 && int_lt s.1 to) stretches

-- the first of the stretches begins before a moment
abbrev begins : ℤ → List (ℤ × ℤ) → Bool
begins to [] = false
begins to (s ∷ stretches) = int_lt s.1 to

-- THE FIRST STRETCH

none_late : (from to low : ℤ) (stretches : List (ℤ × ℤ)) → to ≤ℤ low → Beyond low stretches → meets from to stretches ≡ false
none_late from to low [] h all = refl
none_late from to low (s ∷ stretches) h all = let k = all.0 in let m = all.1 in grind (arith, lt_false s.1 to (omega (arith, ints)), none_late from to s.0 stretches (omega (arith, ints)) all.2)

late : (from to : ℤ) (s : ℤ × ℤ) (stretches : List (ℤ × ℤ)) → s.1 <ℤ s.0 → Beyond s.0 stretches → (int_lt s.1 to || not (meets from to stretches)) ≡ true
late from to s stretches h all = by (int_lt s.1 to) refl where
  by : (b : Bool) → int_lt s.1 to ≡ b → (b || not (meets from to stretches)) ≡ true
  by true e = refl
  by false e = ap not (none_late from to s.0 stretches (omega (arith, ints)) all)

first_meets : (from to low : ℤ) (stretches : List (ℤ × ℤ)) → Beyond low stretches → begins to (entries_between int_cmp (Excluded from) Unbounded stretches) ≡ meets from to stretches
first_meets from to low [] all = refl
first_meets from to low (s ∷ stretches) all = grind (arith, ends_past from s.0, late from to s stretches all.1 all.2, first_meets from to s.0 stretches all.2)

pub first_ended : (from to low : ℤ) (stretches : List (ℤ × ℤ)) → Beyond low stretches → first_begins from to stretches ≡ meets from to stretches
first_ended from to low [] all = refl
first_ended from to low (s ∷ stretches) all = grind (arith, late from to s stretches all.1 all.2, first_ended from to s.0 stretches all.2)

-- MOMENTS

-- a moment of a period that a stretch has
record Meets (from to : ℤ) (stretches : List (ℤ × ℤ)) : Type 0 where
  t : ℤ
  inside : is_between t from to ≡ true
  covered : is_covered t stretches ≡ true

meeting : (from to low : ℤ) (stretches : List (ℤ × ℤ)) → from <ℤ to → Beyond low stretches → meets from to stretches ≡ true → Meets from to stretches
meeting from to low [] h all e = absurd (cc)
meeting from to low (s ∷ stretches) h all e = by (int_lt from s.0) (int_lt s.1 to) (int_lt from s.1) refl refl refl e (meeting from to s.0 stretches h all.2) where
  by : (a b c : Bool) → int_lt from s.0 ≡ a → int_lt s.1 to ≡ b → int_lt from s.1 ≡ c → ((a && b) || meets from to stretches) ≡ true → (meets from to stretches ≡ true → Meets from to stretches) → Meets from to (s ∷ stretches)
  by true true true f g k e later = let m = all.1 in record { t = s.1; inside = grind (arith, ints); covered = grind (arith, ints) }
  by true true false f g k e later = record { t = from; inside = grind (arith, ints); covered = grind (arith, ints) }
  by true false c f g k e later = let m = later e in record { t = m.t; inside = m.inside; covered = grind (arith, m.covered) }
  by false b c f g k e later = let m = later e in record { t = m.t; inside = m.inside; covered = grind (arith, m.covered) }

not_apart : (t from to : ℤ) (stretches : List (ℤ × ℤ)) → ((is_between t from to && is_covered t stretches) && not (meets from to stretches)) ≡ false
not_apart t from to [] = grind arith
not_apart t from to (s ∷ stretches) = grind (arith, ints, not_apart t from to stretches)

met : (t from to : ℤ) (stretches : List (ℤ × ℤ)) → is_between t from to ≡ true → is_covered t stretches ≡ true → meets from to stretches ≡ true
met t from to stretches e f = grind (arith, not_apart t from to stretches)

-- LINES

-- the lines have the moments that the stretches cover
abbrev Hold : List (ℤ × ℤ) → List (Option plain.Period) → Type 0
Hold stretches lines = (t : ℤ) → is_covered t stretches ≡ list_any (is_within t) lines

meets_affects : (lines : List (Option plain.Period)) (p : plain.Period) (low : ℤ) (stretches : List (ℤ × ℤ)) → p.from <ℤ p.to → Beyond low stretches → Full lines → Hold stretches lines
    → meets p.from p.to stretches ≡ list_any (λ line. affects_period true line (Some p)) lines
meets_affects lines p low stretches some all full same = by (meets p.from p.to stretches) (list_any (λ line. affects_period true line (Some p)) lines) refl refl where
  by : (a b : Bool) → meets p.from p.to stretches ≡ a → list_any (λ line. affects_period true line (Some p)) lines ≡ b → a ≡ b
  by true true e f = refl
  by false false e f = refl
  by true false e f = let m = meeting p.from p.to low stretches some all e in absurd (let g = affected_at m.t lines p m.inside (sym (same m.t) ∙ m.covered) in cc)
  by false true e f = let s = shared lines p some full f in absurd (let g = met s.t p.from p.to stretches s.inside (same s.t ∙ s.covered) in cc)

-- a stretch ends after the beginning of the period
pub meets_first : (lines : List (Option plain.Period)) (p : plain.Period) (found : Bool) (end start from : ℤ) (range rest stretches all : List (ℤ × ℤ)) → range ≡ entries_between int_cmp (Excluded from) Unbounded stretches → range ≡ (end, start) ∷ rest
    → from ≡ p.from → found ≡ int_lt start p.to → p.from <ℤ p.to → Beyond before_all stretches → stretches ≡ all → Full lines → Hold all lines → found ≡ list_any (λ line. affects_period true line (Some p)) lines
meets_first lines p found end start from range rest stretches all is first same e some beyond view full hold =
    e ∙ (sym (ap (begins p.to) first) ∙ (ap (begins p.to) is ∙ (ap (λ z. begins p.to (entries_between int_cmp (Excluded z) Unbounded stretches)) same
    ∙ (first_meets p.from p.to before_all stretches beyond ∙ meets_affects lines p before_all stretches some beyond full (λ t. ap (is_covered t) view ∙ hold t)))))

-- no stretch ends after the beginning of the period
pub meets_none : (lines : List (Option plain.Period)) (p : plain.Period) (from : ℤ) (range stretches all : List (ℤ × ℤ)) → range ≡ entries_between int_cmp (Excluded from) Unbounded stretches → range ≡ []
    → from ≡ p.from → p.from <ℤ p.to → Beyond before_all stretches → stretches ≡ all → Full lines → Hold all lines → false ≡ list_any (λ line. affects_period true line (Some p)) lines
meets_none lines p from range stretches all is none same some beyond view full hold =
    sym (ap (begins p.to) none) ∙ (ap (begins p.to) is ∙ (ap (λ z. begins p.to (entries_between int_cmp (Excluded z) Unbounded stretches)) same
    ∙ (first_meets p.from p.to before_all stretches beyond ∙ meets_affects lines p before_all stretches some beyond full (λ t. ap (is_covered t) view ∙ hold t))))

-- the first of few stretches that end after the beginning of the period
pub meets_few : (lines : List (Option plain.Period)) (p : plain.Period) (found : Bool) (from to : ℤ) (list stretches all : List (ℤ × ℤ)) → found ≡ first_begins from to list
    → from ≡ p.from → to ≡ p.to → list ≡ stretches → p.from <ℤ p.to → Beyond before_all stretches → stretches ≡ all → Full lines → Hold all lines → found ≡ list_any (λ line. affects_period true line (Some p)) lines
meets_few lines p found from to list stretches all is first last lent some beyond view full hold =
    is ∙ (ap (λ z. first_begins z to list) first ∙ (ap (λ z. first_begins p.from z list) last ∙ (ap (first_begins p.from p.to) lent
    ∙ (first_ended p.from p.to before_all stretches beyond ∙ meets_affects lines p before_all stretches some beyond full (λ t. ap (is_covered t) view ∙ hold t)))))

-- one stretch, which ends after the beginning of the period
pub meets_one : (lines : List (Option plain.Period)) (p : plain.Period) (from end start low to : ℤ) → from ≡ p.from → low ≡ start → to ≡ p.to → from <ℤ end → p.from <ℤ p.to → Beyond before_all ((end, start) ∷ []) → Full lines → Hold ((end, start) ∷ []) lines
    → int_lt low to ≡ list_any (λ line. affects_period true line (Some p)) lines
meets_one lines p from end start low to first begins last behind some beyond full hold =
    let b : p.from <ℤ end = let e = first in let h = behind in omega (arith, ints) in
    let found : int_lt low to ≡ first_begins p.from p.to ((end, start) ∷ []) = rw (lt_true p.from end b) (ap (λ z. int_lt z to) begins ∙ ap (int_lt start) last) in
    meets_few lines p (int_lt low to) p.from p.to ((end, start) ∷ []) ((end, start) ∷ []) ((end, start) ∷ []) found refl refl refl some beyond refl full hold

-- one stretch, which does not
pub meets_not : (lines : List (Option plain.Period)) (p : plain.Period) (from end start : ℤ) → from ≡ p.from → end ≤ℤ from → p.from <ℤ p.to → Beyond before_all ((end, start) ∷ []) → Full lines → Hold ((end, start) ∷ []) lines
    → false ≡ list_any (λ line. affects_period true line (Some p)) lines
meets_not lines p from end start first late some beyond full hold =
    let b : end ≤ℤ p.from = let e = first in let h = late in omega (arith, ints) in
    let found : false ≡ first_begins p.from p.to ((end, start) ∷ []) = rw (lt_false p.from end b) refl in
    meets_few lines p false p.from p.to ((end, start) ∷ []) ((end, start) ∷ []) ((end, start) ∷ []) found refl refl refl some beyond refl full hold

-- what tells of one stretch that is lent tells of the cover
pub one_affects : (lines : List (Option plain.Period)) (whole : Option plain.Period) (p : plain.Period) (found : Bool) (high low end start : ℤ) (lent : StretchesRef) (all : List (ℤ × ℤ)) → whole ≡ Some p → high ≡ end → low ≡ start → lent ≡ one.One end start → stretches_shown lent ≡ all
    → ((ls : List (Option plain.Period)) → Full ls → Hold ((high, low) ∷ []) ls → found ≡ list_any (λ line. affects_period true line (Some p)) ls) → Full lines → Hold all lines → found ≡ list_any (λ line. affects_period true line whole) lines
one_affects lines whole p found high low end start lent all is e f kind view tells full hold =
    let shown : (high, low) ∷ [] ≡ all = ap (λ z. (z, low) ∷ []) e ∙ (ap (λ z. (end, z) ∷ []) f ∙ (sym (ap stretches_shown kind) ∙ view)) in
    tells lines full (λ t. ap (is_covered t) shown ∙ hold t) ∙ ap (λ w. list_any (λ line. affects_period true line w) lines) (sym is)

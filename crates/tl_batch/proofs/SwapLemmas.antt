-- Whether a line affects what earlier lines left of some periods, by what the earlier lines left of the line.
use Rattle.std.proofs.Common.{◌≡◌, ℤ, pos, ◌+ℤ◌, ◌<ℤ◌, Bool, true, false, ◌||◌, List, [], ◌∷◌, Option, Some, None, subst, refl, sym, ap, ◌∙◌, arith}
use Rattle.std.specs.List.{list_any}
use Rattle.std.proofs.lemmas.Int.{ints}
use Rattle.tl_types.specs.Plain as plain
use Rattle.tl_types.specs.History.{is_within}
use Rattle.tl_batch.specs.Pieces.{affects_period, cuts}
use Rattle.tl_batch.specs.Covers.{Full}
use Rattle.tl_batch.proofs.GapLemmas.{Apart, cuts_apart, cuts_holds}
use Rattle.tl_batch.proofs.FaultLemmas.{whole_left}
use Rattle.tl_batch.proofs.WholeLemmas.{shared, none_affected, none_cut}

-- a line affects what earlier lines left of one of the periods
abbrev pub affects_rest : Option plain.Period → List (Option plain.Period) → List (Option plain.Period) → Bool
affects_rest line earlier wholes = list_any (λ p. list_any (λ q. affects_period true line q) (cuts true earlier p)) wholes

-- what earlier lines left of a line affects one of the periods
abbrev pub rest_affects : Option plain.Period → List (Option plain.Period) → List (Option plain.Period) → Bool
rest_affects line earlier wholes = list_any (λ g. list_any (λ p. affects_period true p g) wholes) (cuts true earlier line)

affects_period-swap : (p q : Option plain.Period) → affects_period true p q ≡ affects_period true q p
affects_period-swap p q = grind arith

any-swap : (line : Option plain.Period) (ps : List (Option plain.Period)) → list_any (λ q. affects_period true line q) ps ≡ list_any (λ q. affects_period true q line) ps
any-swap line [] = refl
any-swap line (p ∷ ps) = grind (arith, affects_period-swap line p, any-swap line ps)

apart_full : (low high : ℤ) (ps : List (Option plain.Period)) → Apart low high ps → Full ps
apart_full low high [] a = tt
apart_full low high (None ∷ ps) a = absurd (a)
apart_full low high (Some p ∷ ps) a = (a.1, apart_full (p.to +ℤ pos 1) high ps a.3)

cut_full : (lines : List (Option plain.Period)) (p : Option plain.Period) → Full lines → Full (p ∷ []) → Full (cuts true lines p)
cut_full lines None full h = subst Full (sym (none_cut lines)) tt
cut_full lines (Some p) full h = apart_full p.from p.to (cuts true lines (Some p)) (cuts_apart lines full p.from p.to p (omega (arith, ints)) h.0 (omega (arith, ints)))

-- a moment in common is a part in common
pub affected_at : (t : ℤ) (lines : List (Option plain.Period)) (p : plain.Period) → is_within t (Some p) ≡ true → list_any (is_within t) lines ≡ true → list_any (λ line. affects_period true line (Some p)) lines ≡ true
affected_at t lines p e f = by (list_any (λ line. affects_period true line (Some p)) lines) refl where
  by : (b : Bool) → list_any (λ line. affects_period true line (Some p)) lines ≡ b → b ≡ true
  by true g = refl
  by false g = absurd (let one = ap (list_any (is_within t)) (whole_left true lines (Some p) g) in let none = cuts_holds t lines (Some p) in grind arith)

-- a moment of the line and of one of the periods, which no earlier line has
record Free (line : plain.Period) (earlier wholes : List (Option plain.Period)) : Type 0 where
  t : ℤ
  on_line : is_within t (Some line) ≡ true
  on_whole : list_any (is_within t) wholes ≡ true
  free : list_any (is_within t) earlier ≡ false

kept : (t : ℤ) (earlier : List (Option plain.Period)) (p : Option plain.Period) → is_within t p ≡ true → list_any (is_within t) earlier ≡ false → list_any (is_within t) (cuts true earlier p) ≡ true
kept t earlier p e f = grind (arith, cuts_holds t earlier p)

parts_of : (t : ℤ) (earlier : List (Option plain.Period)) (p : Option plain.Period) → list_any (is_within t) (cuts true earlier p) ≡ true → (is_within t p ≡ true) × (list_any (is_within t) earlier ≡ false)
parts_of t earlier p e = grind (arith, cuts_holds t earlier p)

free_left : (line : plain.Period) (earlier wholes : List (Option plain.Period)) → line.from <ℤ line.to → Full earlier → Full wholes → affects_rest (Some line) earlier wholes ≡ true → Free line earlier wholes
free_left line earlier [] h full all e = absurd (cc)
free_left line earlier (p ∷ wholes) h full all e = by (list_any (λ q. affects_period true (Some line) q) (cuts true earlier p)) refl e (free_left line earlier wholes h full (rest p all)) where
  rest : (p : Option plain.Period) → Full (p ∷ wholes) → Full wholes
  rest None a = a
  rest (Some q) a = a.1

  one : (p : Option plain.Period) → Full (p ∷ wholes) → Full (p ∷ [])
  one None a = tt
  one (Some q) a = (a.0, tt)

  by : (b : Bool) → list_any (λ q. affects_period true (Some line) q) (cuts true earlier p) ≡ b → (b || affects_rest (Some line) earlier wholes) ≡ true → (affects_rest (Some line) earlier wholes ≡ true → Free line earlier wholes) → Free line earlier (p ∷ wholes)
  by true f g later =
      let s = shared (cuts true earlier p) line h (cut_full earlier p full (one p all)) (sym (any-swap (Some line) (cuts true earlier p)) ∙ f) in
      let both = parts_of s.t earlier p s.covered in
      record { t = s.t; on_line = s.inside; on_whole = ap (λ b. b || list_any (is_within s.t) wholes) both.0; free = both.1 }
  by false f g later = let s = later g in record { t = s.t; on_line = s.on_line; on_whole = grind (arith, s.on_whole); free = s.free }

left_free : (t : ℤ) (line : plain.Period) (earlier wholes : List (Option plain.Period)) → is_within t (Some line) ≡ true → list_any (is_within t) wholes ≡ true → list_any (is_within t) earlier ≡ false → affects_rest (Some line) earlier wholes ≡ true
left_free t line earlier [] e f g = absurd (cc)
left_free t line earlier (p ∷ wholes) e f g = by (is_within t p) refl f (λ k. left_free t line earlier wholes e k g) where
  by : (b : Bool) → is_within t p ≡ b → (b || list_any (is_within t) wholes) ≡ true → (list_any (is_within t) wholes ≡ true → affects_rest (Some line) earlier wholes ≡ true) → (list_any (λ q. affects_period true (Some line) q) (cuts true earlier p) || affects_rest (Some line) earlier wholes) ≡ true
  by true h k later = ap (λ b. b || affects_rest (Some line) earlier wholes) (any-swap (Some line) (cuts true earlier p) ∙ affected_at t (cuts true earlier p) line e (kept t earlier p h g))
  by false h k later = grind (arith, later k)

-- a part affects one of the periods
part_affected : (parts wholes : List (Option plain.Period)) → Full parts → Full wholes → list_any (λ g. list_any (λ p. affects_period true p g) wholes) parts ≡ true → (t : ℤ) × (list_any (is_within t) parts ≡ true) × (list_any (is_within t) wholes ≡ true)
part_affected [] wholes full all e = absurd (cc)
part_affected (None ∷ parts) wholes full all e = part_affected parts wholes full all (sym (ap (λ b. b || list_any (λ g. list_any (λ p. affects_period true p g) wholes) parts) (none_affected wholes)) ∙ e)
part_affected (Some g ∷ parts) wholes full all e = by (list_any (λ p. affects_period true p (Some g)) wholes) refl e (part_affected parts wholes full.1 all) where
  by : (b : Bool) → list_any (λ p. affects_period true p (Some g)) wholes ≡ b → (b || list_any (λ h. list_any (λ p. affects_period true p h) wholes) parts) ≡ true
      → (list_any (λ h. list_any (λ p. affects_period true p h) wholes) parts ≡ true → (t : ℤ) × (list_any (is_within t) parts ≡ true) × (list_any (is_within t) wholes ≡ true)) → (t : ℤ) × (list_any (is_within t) (Some g ∷ parts) ≡ true) × (list_any (is_within t) wholes ≡ true)
  by true f k later = let s = shared wholes g full.0 all f in (s.t, ap (λ b. b || list_any (is_within s.t) parts) s.inside, s.covered)
  by false f k later = let s = later k in (s.0, (grind (arith, s.1)), s.2)

affected_part : (t : ℤ) (parts wholes : List (Option plain.Period)) → list_any (is_within t) parts ≡ true → list_any (is_within t) wholes ≡ true → list_any (λ g. list_any (λ p. affects_period true p g) wholes) parts ≡ true
affected_part t [] wholes e f = absurd (cc)
affected_part t (None ∷ parts) wholes e f = grind (arith, affected_part t parts wholes e f)
affected_part t (Some g ∷ parts) wholes e f = by (is_within t (Some g)) refl e (λ k. affected_part t parts wholes k f) where
  by : (b : Bool) → is_within t (Some g) ≡ b → (b || list_any (is_within t) parts) ≡ true → (list_any (is_within t) parts ≡ true → list_any (λ h. list_any (λ p. affects_period true p h) wholes) parts ≡ true)
      → (list_any (λ p. affects_period true p (Some g)) wholes || list_any (λ h. list_any (λ p. affects_period true p h) wholes) parts) ≡ true
  by true h k later = ap (λ b. b || list_any (λ q. list_any (λ p. affects_period true p q) wholes) parts) (affected_at t wholes g h f)
  by false h k later = grind (arith, later k)

-- either way
pub swapped : (line : Option plain.Period) (earlier wholes : List (Option plain.Period)) → Full (line ∷ []) → Full earlier → Full wholes → rest_affects line earlier wholes ≡ affects_rest line earlier wholes
swapped None earlier wholes some full all = grind (arith, none_cut earlier, none_affected wholes, nothing wholes) where
  nothing : (ps : List (Option plain.Period)) → affects_rest None earlier ps ≡ false
  nothing [] = refl
  nothing (p ∷ ps) = grind (arith, any-swap None (cuts true earlier p), none_affected (cuts true earlier p), nothing ps)
swapped (Some line) earlier wholes some full all = by (rest_affects (Some line) earlier wholes) (affects_rest (Some line) earlier wholes) refl refl where
  forth : rest_affects (Some line) earlier wholes ≡ true → affects_rest (Some line) earlier wholes ≡ true
  forth e =
      let s = part_affected (cuts true earlier (Some line)) wholes (cut_full earlier (Some line) full some) all e in
      let both = parts_of s.0 earlier (Some line) s.1 in
      left_free s.0 line earlier wholes both.0 s.2 both.1

  back : affects_rest (Some line) earlier wholes ≡ true → rest_affects (Some line) earlier wholes ≡ true
  back e = let s = free_left line earlier wholes some.0 full all e in affected_part s.t (cuts true earlier (Some line)) wholes (kept s.t earlier (Some line) s.on_line s.free) s.on_whole

  by : (a b : Bool) → rest_affects (Some line) earlier wholes ≡ a → affects_rest (Some line) earlier wholes ≡ b → a ≡ b
  by true b e f = sym (forth e) ∙ f
  by false true e f = sym e ∙ back f
  by false false e f = refl

-- The periods of rows that lines affect tell what a line affects of what earlier lines left.
use Rattle.std.proofs.Common.{◌≡◌, ℕ, zero, suc, ◌<◌, Bool, true, false, ◌||◌, cond, List, [], ◌∷◌, length, get_or, Option, Some, None, refl, sym, ap, ◌∙◌, arith}
use Rattle.std.specs.List.{list_any, flat_map}
use Rattle.std.proofs.lemmas.Int.{ints}
use Rattle.std.proofs.lemmas.List.Folds.{list_any-append}
use Rattle.tl_types.specs.Plain as plain
use Rattle.tl_types.specs.declared.batches.KeyLine.{KeyLine}
use Rattle.tl_batch.specs.Pieces.{affects_period, cut, cuts, periods_with}
use Rattle.tl_batch.specs.Faults.{affected_periods}
use Rattle.tl_batch.specs.Lines.{lines_of}
use Rattle.tl_batch.proofs.KeyIndexLemmas.{cell_self}
use Rattle.tl_batch.proofs.SwapLemmas.{affects_rest}

-- A PART OF A PERIOD

-- what affects a part affects the whole
within_cut : (line l p : Option plain.Period) → list_any (λ q. affects_period true line q) (cut true l p) ≡ true → affects_period true line p ≡ true
within_cut line l None e = absurd (cc)
within_cut line None (Some p) e = grind arith
within_cut None (Some l) (Some p) e = grind arith
within_cut (Some w) (Some l) (Some p) e = grind (arith, ints)

any_rest : (line : Option plain.Period) (lines wholes : List (Option plain.Period)) → ((p : Option plain.Period) → list_any (λ q. affects_period true line q) (cuts true lines p) ≡ true → affects_period true line p ≡ true)
    → list_any (λ q. affects_period true line q) (flat_map (cuts true lines) wholes) ≡ true → list_any (λ q. affects_period true line q) wholes ≡ true
any_rest line lines [] each e = e
any_rest line lines (w ∷ wholes) each e = by (affected (cuts true lines w)) refl (any_rest line lines wholes each) where
  affected : List (Option plain.Period) → Bool
  affected ps = list_any (λ q. affects_period true line q) ps

  by : (b : Bool) → affected (cuts true lines w) ≡ b → (affected (flat_map (cuts true lines) wholes) ≡ true → affected wholes ≡ true) → affected (w ∷ wholes) ≡ true
  by true f later = ap (λ b. b || affected wholes) (each w f)
  by false f later =
      let g : affected (flat_map (cuts true lines) wholes) ≡ true = sym (ap (λ b. b || affected (flat_map (cuts true lines) wholes)) f) ∙ (sym (list_any-append (λ q. affects_period true line q) (cuts true lines w) (flat_map (cuts true lines) wholes)) ∙ e) in
      let h = later g in
      grind arith

rest_within : (line : Option plain.Period) (lines : List (Option plain.Period)) (p : Option plain.Period) → list_any (λ q. affects_period true line q) (cuts true lines p) ≡ true → affects_period true line p ≡ true
rest_within line [] p e = grind arith
rest_within line (l ∷ lines) p e =
    let one : list_any (λ q. affects_period true line q) (cut true l p) ≡ true = any_rest line lines (cut true l p) (rest_within line lines) e in
    within_cut line l p one

-- PERIODS THAT LINES AFFECT

-- a line that is among the lines affects of all periods only some that the lines affect
pub met_rest : (line : Option plain.Period) (earlier lines ps : List (Option plain.Period)) → ((p : Option plain.Period) → affects_period true line p ≡ true → list_any (λ l. affects_period true l p) lines ≡ true) → affects_rest line earlier (affected_periods lines ps) ≡ affects_rest line earlier ps
met_rest line earlier lines [] among = refl
met_rest line earlier lines (p ∷ ps) among = by (list_any (λ l. affects_period true l p) lines) refl (met_rest line earlier lines ps among) where
  here : Bool
  here = list_any (λ q. affects_period true line q) (cuts true earlier p)

  none : (b : Bool) → here ≡ b → list_any (λ l. affects_period true l p) lines ≡ false → affects_rest line earlier ps ≡ (here || affects_rest line earlier ps)
  none true g f = absurd (let h = among p (rest_within line earlier p g) in let k : false ≡ true = sym f ∙ h in cc)
  none false g f = sym (ap (λ b. b || affects_rest line earlier ps) g)

  by : (b : Bool) → list_any (λ l. affects_period true l p) lines ≡ b → affects_rest line earlier (affected_periods lines ps) ≡ affects_rest line earlier ps → affects_rest line earlier (cond b (p ∷ affected_periods lines ps) (affected_periods lines ps)) ≡ (here || affects_rest line earlier ps)
  by true f later = ap (λ b. here || b) later
  by false f later = later ∙ none here refl f

-- a line is among the lines of its key
pub said_among : (key_lines : List KeyLine) (i : ℕ) (s : KeyLine) (p : Option plain.Period) → i < length key_lines → s ≡ get_or key_lines i s → affects_period true s.period p ≡ true → list_any (λ l. affects_period true l p) (periods_with (Some s.key) (lines_of key_lines)) ≡ true
said_among [] i s p h at e = absurd (omega arith)
said_among (r ∷ key_lines) zero s p h at e = grind (arith, cell_self s.key)
said_among (r ∷ key_lines) (suc i) s p h at e = grind (arith, said_among key_lines i s p (omega arith))

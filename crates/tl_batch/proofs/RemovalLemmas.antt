-- Lines that remove rows of a table with valid time: what they affect, by the periods of the current rows of their keys.
use Rattle.std.proofs.lemmas.List.{take_more, map-append}
use Rattle.std.proofs.Common.{◌≡◌, ℕ, ℤ, zero, suc, ◌+◌, ◌<◌, ◌≤◌, Bool, true, false, ◌&&◌, ◌||◌, not, cond, List, [], ◌∷◌, ◌++◌, length, map, take, get_or, slice_get, Option, Some, None, option_map, subst, refl, sym, ap, ◌∙◌, arith}
use Rattle.std.specs.List.{list_any}
use Rattle.std.proofs.lemmas.List.Folds.{list_any-append}
use Rattle.tl_types.specs.declared.cells.Cell.{Cell}
use Rattle.tl_types.specs.declared.batches.BatchFault.TheVariants as fault
use Rattle.tl_types.specs.Plain as plain
use Rattle.tl_types.specs.History.{is_open, same_cell, is_within}
use Rattle.tl_types.specs.Resolving.{BatchLine, same_key}
use Rattle.tl_types.specs.declared.batches.KeyLine.{KeyLine}
use Rattle.tl_batch.specs.Lines.{line_of, lines_of}
use Rattle.tl_batch.specs.Pieces.{affected_ids, affects_period, cuts, is_affected, periods_with}
use Rattle.tl_batch.specs.Covers.{Full, HoldLines, cover_at, is_covered, is_said}
use Rattle.tl_batch.specs.Faults.{HoldRows, affected_periods, fault_of, is_at, is_row_affected, met_periods, period_of, open_periods}
use Rattle.tl_batch.proofs.HoldLemmas.{full_both}
use Rattle.tl_batch.proofs.LineFaultLemmas.{periods-same}
use Rattle.tl_batch.proofs.KeyIndexLemmas.{cell_self, cell_sym}
use Rattle.tl_batch.proofs.SwapLemmas.{affects_rest}
use Rattle.tl_batch.proofs.MetLemmas.{met_rest, said_among}

-- a line affects a row where it affects what earlier lines left of the periods of the rows of its key
pub open_row_affected : (schema : plain.Schema) (earlier : List BatchLine) (s : KeyLine) (rows : List plain.Row) → schema.valid ≡ true → affects_rest s.period (periods_with (Some s.key) earlier) (open_periods schema.key s.key rows) ≡ list_any (is_row_affected schema earlier (line_of s)) rows
open_row_affected schema earlier s [] valid = refl
open_row_affected schema earlier s (r ∷ rows) valid = by_key (is_open r) (same_key key (Some s.key)) refl (open_row_affected schema earlier s rows valid) where
  key : Option Cell
  key = slice_get r.cells schema.key

  own : List (Option plain.Period)
  own = periods_with (Some s.key) earlier

  rest : List (Option plain.Period)
  rest = open_periods schema.key s.key rows

  by_key : (o k : Bool) → same_key key (Some s.key) ≡ k → affects_rest s.period own rest ≡ list_any (is_row_affected schema earlier (line_of s)) rows
      → affects_rest s.period own (cond (o && k) (r.period ∷ rest) rest) ≡ ((o && (k && list_any (λ p. affects_period schema.valid s.period p) (cuts schema.valid (periods_with key earlier) r.period))) || list_any (is_row_affected schema earlier (line_of s)) rows)
  by_key true true g later =
      ap (λ b. b || affects_rest s.period own rest) (ap (λ v. list_any (λ q. affects_period v s.period q) (cuts v own r.period)) (sym valid) ∙ ap (λ ps. list_any (λ q. affects_period schema.valid s.period q) (cuts schema.valid ps r.period)) (sym (periods-same key s.key earlier g)))
      ∙ ap (λ b. list_any (λ p. affects_period schema.valid s.period p) (cuts schema.valid (periods_with key earlier) r.period) || b) later
  by_key true false g later = later
  by_key false k g later = later

one_more : (rows : List plain.Row) (ids : List ℕ) (i id : ℕ) (whole : Option plain.Period) → i < length ids → id ≡ get_or ids i 0 → Some whole ≡ option_map (λ (r : plain.Row). r.period) (slice_get rows id)
    → map (λ row. period_of (slice_get rows row)) (take (i + 1) ids) ≡ map (λ row. period_of (slice_get rows row)) (take i ids) ++ whole ∷ []
one_more rows ids i id whole h at period =
    ap (map (λ row. period_of (slice_get rows row))) (take_more ids i 0 h ∙ ap (λ m. take i ids ++ m ∷ []) (sym at)) ∙ (map-append (λ row. period_of (slice_get rows row)) (take i ids) (id ∷ []) ∙ ap (λ p. map (λ row. period_of (slice_get rows row)) (take i ids) ++ p ∷ []) (is (slice_get rows id) period)) where
      is : (o : Option plain.Row) → Some whole ≡ option_map (λ (r : plain.Row). r.period) o → period_of o ≡ whole
      is None e = absurd (cc)
      is (Some r) e = let f : r.period ≡ whole = cc in f

-- THE PERIODS OF THE ROWS THAT LINES AFFECT

-- a row more
pub at_more : (place : ℕ) (rows : List plain.Row) (ids : List ℕ) (i id : ℕ) (key : Cell) (whole : Option plain.Period) (before after : List (Cell × List (ℤ × ℤ))) → i < length ids → id ≡ get_or ids i 0 → ((r : plain.Row) → slice_get rows id ≡ Some r → slice_get r.cells place ≡ Some key) → Some whole ≡ option_map (λ (r : plain.Row). r.period) (slice_get rows id)
    → ((x : Cell) (t : ℤ) → is_covered t (cover_at x before) ≡ list_any (λ row. is_at place x t (slice_get rows row)) (take i ids))
    → ((x : Cell) (t : ℤ) → is_covered t (cover_at x after) ≡ ((same_cell x key && is_within t whole) || is_covered t (cover_at x before)))
    → (x : Cell) (t : ℤ) → is_covered t (cover_at x after) ≡ list_any (λ row. is_at place x t (slice_get rows row)) (take (i + 1) ids)
at_more place rows ids i id key whole before after h at keyed timed e f x t =
    let all : list_any told (take (i + 1) ids) ≡ (list_any told (take i ids) || (told id || false)) = ap (list_any told) (take_more ids i 0 h ∙ ap (λ m. take i ids ++ m ∷ []) (sym at)) ∙ list_any-append told (take i ids) (id ∷ []) in
    let one : told id ≡ (same_cell x key && is_within t whole) = is (slice_get rows id) keyed timed in
    by_parts (same_cell x key && is_within t whole) (list_any told (take i ids)) (told id) (list_any told (take (i + 1) ids)) (is_covered t (cover_at x before)) (is_covered t (cover_at x after)) all one (e x t) (f x t) where
      told : ℕ → Bool
      told row = is_at place x t (slice_get rows row)

      by_parts : (k a b c m n : Bool) → c ≡ (a || (b || false)) → b ≡ k → m ≡ a → n ≡ (k || m) → n ≡ c
      by_parts k a b c m n p q r s = grind arith

      is : (o : Option plain.Row) → ((r : plain.Row) → o ≡ Some r → slice_get r.cells place ≡ Some key) → Some whole ≡ option_map (λ (r : plain.Row). r.period) o → is_at place x t o ≡ (same_cell x key && is_within t whole)
      is None k p = absurd (cc)
      is (Some r) k p =
          let span : r.period ≡ whole = cc in
          ap (λ c. same_key c (Some x) && is_within t r.period) (k r refl) ∙ (ap (λ b. b && is_within t r.period) (cell_sym key x) ∙ ap (λ w. same_cell x key && is_within t w) span)

-- all rows
pub at_all : (place : ℕ) (rows : List plain.Row) (ids : List ℕ) (i : ℕ) (covers : List (Cell × List (ℤ × ℤ))) → length ids ≤ i → ((x : Cell) (t : ℤ) → is_covered t (cover_at x covers) ≡ list_any (λ row. is_at place x t (slice_get rows row)) (take i ids))
    → (x : Cell) (t : ℤ) → is_covered t (cover_at x covers) ≡ list_any (λ row. is_at place x t (slice_get rows row)) ids
at_all place rows ids i covers h e x t = e x t ∙ ap (list_any (λ row. is_at place x t (slice_get rows row))) (whole ids i h) where
  whole : (xs : List ℕ) (i : ℕ) → length xs ≤ i → take i xs ≡ xs
  whole [] zero h = refl
  whole [] (suc i) h = refl
  whole (y ∷ ys) zero h = absurd (omega arith)
  whole (y ∷ ys) (suc i) h = ap (λ zs. y ∷ zs) (whole ys i (omega arith))

-- and its period has a moment
pub full_more : (rows : List plain.Row) (ids : List ℕ) (i id : ℕ) (whole : Option plain.Period) → i < length ids → id ≡ get_or ids i 0 → Some whole ≡ option_map (λ (r : plain.Row). r.period) (slice_get rows id)
    → Full (map (λ row. period_of (slice_get rows row)) (take i ids)) → Full (whole ∷ []) → Full (map (λ row. period_of (slice_get rows row)) (take (i + 1) ids))
full_more rows ids i id whole h at period full one = subst Full (sym (one_more rows ids i id whole h at period)) (full_both (map (λ row. period_of (slice_get rows row)) (take i ids)) (whole ∷ []) full one)

-- the rows that lines affect, and their periods, among which are those of the rows of each key
module _ (schema : plain.Schema) (lines : List BatchLine) (x : Cell) (all : List plain.Row) (valid : schema.valid ≡ true) where
  abbrev own : List (Option plain.Period)
  own = periods_with (Some x) lines

  affected_own : (r : plain.Row) → same_key (slice_get r.cells schema.key) (Some x) ≡ true → list_any (λ line. affects_period true line r.period) own ≡ is_affected schema lines r
  affected_own r g = ap (λ v. list_any (λ line. affects_period v line r.period) own) (sym valid) ∙ ap (list_any (λ line. affects_period schema.valid line r.period)) (sym (periods-same (slice_get r.cells schema.key) x lines g))

  met_at : (t : ℤ) (n : ℕ) (rows : List plain.Row) → ((i : ℕ) → slice_get all (n + i) ≡ slice_get rows i) → list_any (λ id. is_at schema.key x t (slice_get all id)) (affected_ids schema lines n rows) ≡ list_any (is_within t) (met_periods schema.key lines x rows)
  met_at t n [] stands = refl
  met_at t n (r ∷ rows) stands = by (is_open r) (is_affected schema lines r) (same_key (slice_get r.cells schema.key) (Some x)) refl refl refl (met_at t (n + 1) rows (λ i. let e : n + 1 + i ≡ n + suc i = omega arith in ap (slice_get all) e ∙ stands (suc i))) where
    first : slice_get all n ≡ Some r
    first = let e : n ≡ n + 0 = omega arith in ap (slice_get all) e ∙ stands 0

    here : is_at schema.key x t (slice_get all n) ≡ (same_key (slice_get r.cells schema.key) (Some x) && is_within t r.period)
    here = ap (is_at schema.key x t) first

    rest : List ℕ
    rest = affected_ids schema lines (n + 1) rows

    met : List (Option plain.Period)
    met = open_periods schema.key x rows

    by : (o a k : Bool) → is_open r ≡ o → is_affected schema lines r ≡ a → same_key (slice_get r.cells schema.key) (Some x) ≡ k → list_any (λ id. is_at schema.key x t (slice_get all id)) rest ≡ list_any (is_within t) (affected_periods own met)
        → list_any (λ id. is_at schema.key x t (slice_get all id)) (cond (o && a) (n ∷ rest) rest) ≡ list_any (is_within t) (affected_periods own (cond (o && k) (r.period ∷ met) met))
    by false a k e f g later = later
    by true true true e f g later = rw (here, g, affected_own r g ∙ f) (ap (λ b. is_within t r.period || b) later)
    by true true false e f g later = rw (here, g) later
    by true false true e f g later = rw (affected_own r g ∙ f) later
    by true false false e f g later = later

  met_full : (n : ℕ) (rows : List plain.Row) → ((i : ℕ) → slice_get all (n + i) ≡ slice_get rows i) → Full (map (λ id. period_of (slice_get all id)) (affected_ids schema lines n rows)) → Full (met_periods schema.key lines x rows)
  met_full n [] stands full = tt
  met_full n (r ∷ rows) stands full = by (is_open r) (is_affected schema lines r) (same_key (slice_get r.cells schema.key) (Some x)) refl refl refl full (met_full (n + 1) rows (λ i. let e : n + 1 + i ≡ n + suc i = omega arith in ap (slice_get all) e ∙ stands (suc i))) where
    first : period_of (slice_get all n) ≡ r.period
    first = let e : n ≡ n + 0 = omega arith in ap period_of (ap (slice_get all) e ∙ stands 0)

    rest : List ℕ
    rest = affected_ids schema lines (n + 1) rows

    met : List (Option plain.Period)
    met = open_periods schema.key x rows

    behind : (p : Option plain.Period) (ps : List (Option plain.Period)) → Full (p ∷ ps) → Full (p ∷ []) × Full ps
    behind None ps h = (tt, h)
    behind (Some p) ps h = ((h.0, tt), h.1)

    by : (o a k : Bool) → is_open r ≡ o → is_affected schema lines r ≡ a → same_key (slice_get r.cells schema.key) (Some x) ≡ k → Full (map (λ id. period_of (slice_get all id)) (cond (o && a) (n ∷ rest) rest)) → (Full (map (λ id. period_of (slice_get all id)) rest) → Full (affected_periods own met))
        → Full (affected_periods own (cond (o && k) (r.period ∷ met) met))
    by false a k e f g h later = later h
    by true true true e f g h later =
        let both = behind (period_of (slice_get all n)) (map (λ id. period_of (slice_get all id)) rest) h in
        rw (affected_own r g ∙ f) (full_both (r.period ∷ []) (affected_periods own met) (subst (λ p. Full (p ∷ [])) first both.0) (later both.1))
    by true true false e f g h later = later (behind (period_of (slice_get all n)) (map (λ id. period_of (slice_get all id)) rest) h).1
    by true false true e f g h later = rw (affected_own r g ∙ f) (later h)
    by true false false e f g h later = later h

-- a key that no line has
not_said : (x : Cell) (lines : List BatchLine) → is_said (Some x) lines ≡ false → periods_with (Some x) lines ≡ []
not_said x [] e = refl
not_said x (l ∷ lines) e = grind (arith, not_said x lines)

none_met : (ps : List (Option plain.Period)) → affected_periods [] ps ≡ []
none_met [] = refl
none_met (p ∷ ps) = none_met ps

-- the periods of the rows that lines affect are, key by key, those of the rows that they meet
pub rows_held : (schema : plain.Schema) (lines : List BatchLine) (rows : List plain.Row) (ids : List ℕ) (covers : List (Cell × List (ℤ × ℤ))) → schema.valid ≡ true → ids ≡ affected_ids schema lines 0 rows
    → ((x : Cell) (t : ℤ) → is_covered t (cover_at x covers) ≡ list_any (λ row. is_at schema.key x t (slice_get rows row)) ids) → Full (map (λ row. period_of (slice_get rows row)) ids) → HoldRows schema.key covers lines lines rows
rows_held schema lines rows ids covers valid is held full = record {
  full = λ x e. met_full schema lines x rows valid 0 rows stands (subst (λ ns. Full (map (λ row. period_of (slice_get rows row)) ns)) is full);
  same = λ x t. held x t ∙ (ap (list_any (λ row. is_at schema.key x t (slice_get rows row))) is ∙ (met_at schema lines x rows valid t 0 rows stands ∙ by x t (is_said (Some x) lines) refl));
} where
  stands : (i : ℕ) → slice_get rows (0 + i) ≡ slice_get rows i
  stands i = ap (slice_get rows) (let e : 0 + i ≡ i = omega arith in e)

  by : (x : Cell) (t : ℤ) (b : Bool) → is_said (Some x) lines ≡ b → list_any (is_within t) (met_periods schema.key lines x rows) ≡ (is_said (Some x) lines && list_any (is_within t) (met_periods schema.key lines x rows))
  by x t true e = rw e refl
  by x t false e = rw e (ap (λ ps. list_any (is_within t) (affected_periods ps (open_periods schema.key x rows))) (not_said x lines e) ∙ ap (list_any (is_within t)) (none_met (open_periods schema.key x rows)))

-- ONE LINE MORE

said_at : (key_lines : List KeyLine) (i : ℕ) (s : KeyLine) → i < length key_lines → s ≡ get_or key_lines i s → is_said (Some s.key) (lines_of key_lines) ≡ true
said_at [] i s h at = absurd (omega arith)
said_at (r ∷ key_lines) zero s h at = grind (arith, cell_self s.key)
said_at (r ∷ key_lines) (suc i) s h at = grind (arith, said_at key_lines i s (omega arith))

-- what the step says of a line
abbrev pub Tells : Bool → KeyLine → List (Cell × List (ℤ × ℤ)) → List (Cell × List (ℤ × ℤ)) → Type 0
Tells affected s earlier covers = (lines : List BatchLine) (wholes : List (Option plain.Period)) → HoldLines earlier lines → Full wholes → ((t : ℤ) → is_covered t (cover_at s.key covers) ≡ list_any (is_within t) wholes) → affected ≡ affects_rest s.period (periods_with (Some s.key) lines) wholes

pub row_affected_fault : (schema : plain.Schema) (rows : List plain.Row) (key_lines : List KeyLine) (i rec : ℕ) (s : KeyLine) (affected : Bool) (earlier covers : List (Cell × List (ℤ × ℤ))) → schema.valid ≡ true → i < length key_lines → s ≡ get_or key_lines i s → HoldRows schema.key covers (lines_of key_lines) (lines_of key_lines) rows → HoldLines earlier (lines_of (take i key_lines))
    → Tells affected s earlier covers → cond affected None (Some (fault.NoRow rec)) ≡ fault_of schema true rows (lines_of (take i key_lines)) (line_of s) rec
row_affected_fault schema rows key_lines i rec s affected earlier covers valid h at held lines tells =
    ap (λ b. cond b None (Some (fault.NoRow rec))) is ∙ (turned (list_any (is_row_affected schema (lines_of (take i key_lines)) (line_of s)) rows)
    ∙ ap (λ v. cond (not v && list_any (λ (e : BatchLine). same_key e.key (Some s.key)) (lines_of (take i key_lines))) (Some (fault.KeyTwice rec)) (cond (true && not (list_any (is_row_affected schema (lines_of (take i key_lines)) (line_of s)) rows)) (Some (fault.NoRow rec)) None)) (sym valid)) where
      has : is_said (Some s.key) (lines_of key_lines) ≡ true
      has = said_at key_lines i s h at

      is : affected ≡ list_any (is_row_affected schema (lines_of (take i key_lines)) (line_of s)) rows
      is = tells (lines_of (take i key_lines)) (met_periods schema.key (lines_of key_lines) s.key rows) lines (held.full s.key has) (λ t. held.same s.key t ∙ ap (λ b. b && list_any (is_within t) (met_periods schema.key (lines_of key_lines) s.key rows)) has)
          ∙ (met_rest s.period (periods_with (Some s.key) (lines_of (take i key_lines))) (periods_with (Some s.key) (lines_of key_lines)) (open_periods schema.key s.key rows) (λ p e. said_among key_lines i s p h at e) ∙ open_row_affected schema (lines_of (take i key_lines)) s rows valid)

      turned : (b : Bool) → cond b None (Some (fault.NoRow rec)) ≡ cond (true && not b) (Some (fault.NoRow rec)) None
      turned true = refl
      turned false = refl

pub told : {X : Type 0} (b c : Bool) (x y o : X) → cond b x y ≡ o → b ≡ c → cond c x y ≡ o
told b c x y o e f = ap (λ d. cond d x y) (sym f) ∙ e

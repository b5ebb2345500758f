-- What covers of keys hold, as one line more is covered.
use Rattle.std.proofs.Common.{arith, ◌≡◌, ℕ, suc, ◌+◌, ◌<◌, ℤ, Bool, true, false, ◌&&◌, ◌||◌, cond, List, [], ◌∷◌, ◌++◌, append-nil, length, take, get_or, Option, Some, None, subst, refl, sym, ap, ◌∙◌}
use Rattle.std.specs.List.{list_any, All}
use Rattle.std.specs.Map.{lookup}
use Rattle.std.proofs.Math.Bool.{or_comm}
use Rattle.std.proofs.lemmas.List.{take_more, map-append}
use Rattle.std.proofs.lemmas.List.Folds.{list_any-append}
use Rattle.tl_types.specs.declared.cells.Cell.{Cell}
use Rattle.tl_types.specs.contracts.cells.CellPartialEq.TheImpl as equal
use Rattle.tl_types.specs.Plain as plain
use Rattle.tl_types.specs.History.{same_cell, is_within}
use Rattle.tl_types.specs.Resolving.{BatchLine, same_key}
use Rattle.tl_types.specs.declared.batches.KeyLine.{KeyLine}
use Rattle.tl_batch.specs.Pieces.{cuts, periods_with}
use Rattle.tl_batch.specs.Covers.{Full, HoldLines, StandIn, cover_at, is_between, is_covered, stretches_or}
use Rattle.tl_batch.specs.Lines.{line_of, lines_of}
use Rattle.tl_batch.proofs.KeyIndexLemmas.{cell_sym, copied, found_at, finds_same}

-- LOOKING UP A KEY

-- the cover that is found at a key
pub found_is : (x : Cell) (entries all : List (Cell × List (ℤ × ℤ))) (o : Option (List (ℤ × ℤ))) → o ≡ lookup (equal.eq-value.it x) entries → entries ≡ all → stretches_or o ≡ cover_at x all
found_is x entries all o e view = ap stretches_or (found_at x o entries all e view)

-- the covers after a change at one key
pub changed_at : (key copy : Cell) (w : Option (List (ℤ × ℤ))) (entries new all : List (Cell × List (ℤ × ℤ))) → copy ≡ key
    → ((q : Cell) → lookup (equal.eq-value.it q) new ≡ cond (equal.eq-value.it copy q) w (lookup (equal.eq-value.it q) entries)) → entries ≡ all
    → (x : Cell) → cover_at x new ≡ cond (same_cell x key) (stretches_or w) (cover_at x all)
changed_at key copy w entries new all same update view x = grind (arith, cell_sym key x, copied key copy w entries all new same view update x)

-- what is found at the key of each entry
pub stands : (all entries : List (Cell × List (ℤ × ℤ))) → All (λ e. lookup (equal.eq-value.it e.0) all ≡ Some e.1) entries → StandIn all entries
stands all [] each = tt
stands all (e ∷ entries) each = (sym (found_is e.0 all all (Some e.1) (sym (each 0 e (omega arith))) refl), stands all entries (λ k d h. each (suc k) d (omega arith)))

-- a period more at one key
pub period_added : (key : Cell) (from to : ℤ) (cover more : List (ℤ × ℤ)) (before after : List (Cell × List (ℤ × ℤ))) → cover ≡ cover_at key before → ((t : ℤ) → is_covered t more ≡ (is_between t from to || is_covered t cover))
    → ((x : Cell) → cover_at x after ≡ cond (same_cell x key) more (cover_at x before)) → (x : Cell) (t : ℤ) → is_covered t (cover_at x after) ≡ ((same_cell x key && is_between t from to) || is_covered t (cover_at x before))
period_added key from to cover more before after there added put x t = ap (is_covered t) (put x) ∙ by_test (same_cell x key) refl where
  by_test : (b : Bool) → same_cell x key ≡ b → is_covered t (cond b more (cover_at x before)) ≡ ((b && is_between t from to) || is_covered t (cover_at x before))
  by_test true e = grind (arith, finds_same x key before e, added t)
  by_test false e = refl

-- no line leaves anything of no period
pub none_left : (lines : List (Option plain.Period)) → cuts true lines None ≡ None ∷ []
none_left [] = refl
none_left (line ∷ lines) = append-nil (cuts true lines None) ∙ none_left lines

-- ONE LINE MORE

full_first : (p : Option plain.Period) (ps : List (Option plain.Period)) → Full (p ∷ []) → Full ps → Full (p ∷ ps)
full_first None ps h all = all
full_first (Some p) ps h all = (h.0, all)

pub full_both : (ps qs : List (Option plain.Period)) → Full ps → Full qs → Full (ps ++ qs)
full_both [] qs h k = k
full_both (None ∷ ps) qs h k = full_both ps qs h k
full_both (Some p ∷ ps) qs h k = (h.0, full_both ps qs h.1 k)

-- the key has the moments of a period too
abbrev pub Adds : Cell → Option plain.Period → List (Cell × List (ℤ × ℤ)) → List (Cell × List (ℤ × ℤ)) → Type 0
Adds key period before after = (x : Cell) (t : ℤ) → is_covered t (cover_at x after) ≡ ((same_cell x key && is_within t period) || is_covered t (cover_at x before))

pub hold_front : (before after : List (Cell × List (ℤ × ℤ))) (lines : List BatchLine) (key : Cell) (period : Option plain.Period) (puts : Option plain.Opened) → HoldLines before lines → Adds key period before after → Full (period ∷ [])
    → HoldLines after (record { key = Some key; period = period; puts = puts } ∷ lines)
hold_front before after lines key period puts h adds full = record {
  full = λ x. all_full x (same_cell x key);
  same = λ x t. adds x t ∙ (ap (λ b. (same_cell x key && is_within t period) || b) (h.same x t) ∙ split x t (same_cell x key));
} where
  all_full : (x : Cell) (b : Bool) → Full (cond b (period ∷ periods_with (Some x) lines) (periods_with (Some x) lines))
  all_full x true = full_first period (periods_with (Some x) lines) full (h.full x)
  all_full x false = h.full x

  split : (x : Cell) (t : ℤ) (b : Bool) → ((b && is_within t period) || list_any (is_within t) (periods_with (Some x) lines)) ≡ list_any (is_within t) (cond b (period ∷ periods_with (Some x) lines) (periods_with (Some x) lines))
  split x t true = refl
  split x t false = refl

periods_more : (k : Option Cell) (lines : List BatchLine) (said : BatchLine) → periods_with k (lines ++ said ∷ []) ≡ periods_with k lines ++ cond (same_key k said.key) (said.period ∷ []) []
periods_more k [] said = refl
periods_more k (line ∷ lines) said = grind (arith, periods_more k lines said)

pub hold_behind : (before after : List (Cell × List (ℤ × ℤ))) (lines : List BatchLine) (key : Cell) (period : Option plain.Period) (puts : Option plain.Opened) → HoldLines before lines → Adds key period before after → Full (period ∷ [])
    → HoldLines after (lines ++ record { key = Some key; period = period; puts = puts } ∷ [])
hold_behind before after lines key period puts h adds full = record {
  full = λ x. subst Full (sym (periods_more (Some x) lines said)) (full_both (periods_with (Some x) lines) (cond (same_cell x key) (period ∷ []) []) (h.full x) (one_full (same_cell x key)));
  same = λ x t. adds x t ∙ (ap (λ b. (same_cell x key && is_within t period) || b) (h.same x t) ∙ (or_comm (same_cell x key && is_within t period) (list_any (is_within t) (periods_with (Some x) lines)) ∙ (ap (λ b. list_any (is_within t) (periods_with (Some x) lines) || b) (one_any t (same_cell x key))
      ∙ (sym (list_any-append (is_within t) (periods_with (Some x) lines) (cond (same_cell x key) (period ∷ []) [])) ∙ ap (list_any (is_within t)) (sym (periods_more (Some x) lines said))))));
} where
  said : BatchLine
  said = record { key = Some key; period = period; puts = puts }

  one_full : (b : Bool) → Full (cond b (period ∷ []) [])
  one_full true = full
  one_full false = tt

  one_any : (t : ℤ) (b : Bool) → (b && is_within t period) ≡ list_any (is_within t) (cond b (period ∷ []) [])
  one_any t b = grind arith

-- a line of a loop over lines
pub line_held : (before after : List (Cell × List (ℤ × ℤ))) (key_lines : List KeyLine) (i : ℕ) (s : KeyLine) → i < length key_lines → s ≡ get_or key_lines i s → HoldLines before (lines_of (take i key_lines)) → Adds s.key s.period before after → Full (s.period ∷ [])
    → HoldLines after (lines_of (take (i + 1) key_lines))
line_held before after key_lines i s h at held adds full = grind (arith, take_more key_lines i s h, map-append line_of (take i key_lines) (s ∷ []), hold_behind before after (lines_of (take i key_lines)) s.key s.period None held adds full)

-- PERIODS THAT MAY BE NONE

pub left_whole : (lines left : List (Option plain.Period)) (period : plain.Period) (whole : Option plain.Period) → whole ≡ Some period → left ≡ cuts true lines (Some period) → left ≡ cuts true lines whole
left_whole lines left period whole is e = e ∙ ap (cuts true lines) (sym is)

pub left_none : (lines new left : List (Option plain.Period)) (whole : Option plain.Period) → whole ≡ None → new ≡ [] → left ≡ new ++ None ∷ [] → left ≡ cuts true lines whole
left_none lines new left whole is empty made = grind (arith, none_left lines)

-- The first fault of lines that say all of a table.
use Rattle.std.proofs.Common.{◌≡◌, ℕ, zero, suc, ◌+◌, ◌<◌, ◌≤◌, ℤ, ◌<ℤ◌, int_lt, Bool, true, false, ◌&&◌, ◌||◌, not, cond, List, [], ◌∷◌, ◌++◌, length, map, take, drop, get_or, slice_get, Option, Some, None, subst, refl, sym, ap, ◌∙◌, arith}
use Rattle.std.specs.List.{list_any}
use Rattle.std.specs.Ordering.{int_eq}
use Rattle.std.proofs.Math.Bool.{and_comm}
use Rattle.std.proofs.lemmas.Bool.{and_parts}
use Rattle.std.proofs.lemmas.Int.{ints}
use Rattle.std.proofs.lemmas.List.{take_more, map-append}
use Rattle.tl_types.specs.declared.cells.Cell.{Cell}
use Rattle.tl_types.specs.declared.batches.BatchFault.{BatchFault}
use Rattle.tl_types.specs.declared.batches.BatchFault.TheVariants as fault
use Rattle.tl_types.specs.Plain as plain
use Rattle.tl_types.specs.History.{same_cell, is_within}
use Rattle.tl_types.specs.Resolving.{BatchLine, overlap, same_key, conflict, conflict_fault}
use Rattle.tl_batch.specs.Covers.{Full, HoldLines, cover_at, is_covered}
use Rattle.tl_batch.specs.Lines.{line_of_row}
use Rattle.tl_batch.specs.Pieces.{affects_period, periods_with}
use Rattle.tl_batch.proofs.HoldLemmas.{Adds, full_both, hold_front}
use Rattle.tl_batch.proofs.KeyIndexLemmas.{cell_sym}

-- A LINE MORE

pub drop_at : {X : Type 0} (xs : List X) (i : ℕ) (x : X) → i < length xs → x ≡ get_or xs i x → drop i xs ≡ x ∷ drop (i + 1) xs
drop_at [] i x h e = absurd (omega arith)
drop_at (y ∷ xs) zero x h e = ap (λ z. z ∷ xs) (sym e)
drop_at (y ∷ xs) (suc i) x h e = let s : suc i + 1 ≡ suc (i + 1) = omega arith in drop_at xs i x (omega arith) e ∙ ap (λ k. x ∷ drop k (y ∷ xs)) (sym s)

-- the covers hold some earlier lines, behind which the fault of the others is that of all
pub record HoldEarlier (place : ℕ) (covers : List (Cell × List (ℤ × ℤ))) (lines : List plain.Opened) (i : ℕ) : Type 0 where
  pub earlier : List plain.Opened
  pub held : HoldLines covers (map (line_of_row place) earlier)
  pub fault : (schema : plain.Schema) → schema.key ≡ place → schema.valid ≡ true → conflict_fault schema (i + 2) earlier (drop i lines) ≡ conflict_fault schema 2 [] lines

-- a line overlaps an earlier one of its key
overlap_sym : (p q : Option plain.Period) → overlap p q ≡ overlap q p
overlap_sym None None = refl
overlap_sym None (Some q) = refl
overlap_sym (Some p) None = refl
overlap_sym (Some p) (Some q) = and_comm (int_lt p.from q.to) (int_lt q.from p.to)

conflicts : (schema : plain.Schema) (place : ℕ) (earlier : List plain.Opened) (line : plain.Opened) (key : Cell) → schema.key ≡ place → schema.valid ≡ true → slice_get line.cells place ≡ Some key
    → list_any (λ p. affects_period true p line.period) (periods_with (Some key) (map (line_of_row place) earlier)) ≡ list_any (λ e. conflict schema e line) earlier
conflicts schema place [] line key same valid at = refl
conflicts schema place (e ∷ earlier) line key same valid at = by_key (slice_get e.cells place) refl (conflicts schema place earlier line key same valid at) where
  rest : Bool
  rest = list_any (λ e. conflict schema e line) earlier

  read : (k : Option Cell) → slice_get e.cells place ≡ k → conflict schema e line ≡ (same_key k (Some key) && overlap e.period line.period)
  read k f =
      ap (λ n. same_key (slice_get e.cells n) (slice_get line.cells n) && (not schema.valid || overlap e.period line.period)) same
      ∙ (ap (λ b. same_key (slice_get e.cells place) (slice_get line.cells place) && (not b || overlap e.period line.period)) valid
      ∙ (ap (λ o. same_key o (slice_get line.cells place) && overlap e.period line.period) f ∙ ap (λ o. same_key k o && overlap e.period line.period) at))

  split : (x : Cell) (b : Bool) → same_cell key x ≡ b → conflict schema e line ≡ (same_cell x key && overlap e.period line.period) → list_any (λ p. affects_period true p line.period) (periods_with (Some key) (map (line_of_row place) earlier)) ≡ rest
      → list_any (λ p. affects_period true p line.period) (cond b (e.period ∷ periods_with (Some key) (map (line_of_row place) earlier)) (periods_with (Some key) (map (line_of_row place) earlier))) ≡ (conflict schema e line || rest)
  split x true f c later =
      ap (λ b. b || list_any (λ p. affects_period true p line.period) (periods_with (Some key) (map (line_of_row place) earlier))) (overlap_sym line.period e.period ∙ sym (c ∙ ap (λ b. b && overlap e.period line.period) (cell_sym x key ∙ f))) ∙ ap (λ b. conflict schema e line || b) later
  split x false f c later = later ∙ sym (ap (λ b. b || rest) (c ∙ ap (λ b. b && overlap e.period line.period) (cell_sym x key ∙ f)))

  -- the periods of the key, where the first line has this key
  met : Option Cell → Bool
  met k = list_any (λ p. affects_period true p line.period) (cond (same_key (Some key) k) (e.period ∷ periods_with (Some key) (map (line_of_row place) earlier)) (periods_with (Some key) (map (line_of_row place) earlier)))

  by_key : (k : Option Cell) → slice_get e.cells place ≡ k → list_any (λ p. affects_period true p line.period) (periods_with (Some key) (map (line_of_row place) earlier)) ≡ rest
      → list_any (λ p. affects_period true p line.period) (periods_with (Some key) (map (line_of_row place) (e ∷ earlier))) ≡ (conflict schema e line || rest)
  by_key None f later = ap met f ∙ (later ∙ sym (ap (λ b. b || rest) (read None f)))
  by_key (Some x) f later = ap met f ∙ split x (same_cell key x) refl (read (Some x) f) later

-- what the covers say of the line at a place
pub overlaps_are : (schema : plain.Schema) (place : ℕ) (covers : List (Cell × List (ℤ × ℤ))) (lines : List plain.Opened) (i : ℕ) (line : plain.Opened) (key : Cell) (period : Option plain.Period) (cover : List (ℤ × ℤ)) (overlaps : Bool) → (h : HoldEarlier place covers lines i) → schema.key ≡ place → schema.valid ≡ true
    → slice_get line.cells place ≡ Some key → period ≡ line.period → cover ≡ cover_at key covers
    → ((ps : List (Option plain.Period)) → Full ps → ((t : ℤ) → is_covered t cover ≡ list_any (is_within t) ps) → overlaps ≡ list_any (λ p. affects_period true p period) ps)
    → overlaps ≡ list_any (λ e. conflict schema e line) h.earlier
overlaps_are schema place covers lines i line key period cover overlaps h same valid at is covered affects =
    affects (periods_with (Some key) (map (line_of_row place) h.earlier)) (h.held.full key) (λ t. ap (is_covered t) covered ∙ h.held.same key t)
    ∙ (ap (λ q. list_any (λ p. affects_period true p q) (periods_with (Some key) (map (line_of_row place) h.earlier))) is ∙ conflicts schema place h.earlier line key same valid at)

-- the line at a place is the first one with a fault
pub fault_found : (schema : plain.Schema) (place : ℕ) (covers : List (Cell × List (ℤ × ℤ))) (lines : List plain.Opened) (i : ℕ) (line : plain.Opened) (h : HoldEarlier place covers lines i) → schema.key ≡ place → schema.valid ≡ true → i < length lines → line ≡ get_or lines i line
    → list_any (λ e. conflict schema e line) h.earlier ≡ true → Some (fault.KeyTwice (i + 2)) ≡ conflict_fault schema 2 [] lines
fault_found schema place covers lines i line h same valid within there twice =
    sym (ap (λ b. cond b (Some (fault.KeyTwice (i + 2))) (conflict_fault schema (i + 2 + 1) (line ∷ h.earlier) (drop (i + 1) lines))) twice) ∙ (sym (ap (conflict_fault schema (i + 2) h.earlier) (drop_at lines i line within there)) ∙ h.fault schema same valid)

-- a line more that has no fault
pub earlier_more : (place : ℕ) (before after : List (Cell × List (ℤ × ℤ))) (lines : List plain.Opened) (i : ℕ) (line : plain.Opened) (key : Cell) (period : Option plain.Period) → (h : HoldEarlier place before lines i) → i < length lines → line ≡ get_or lines i line → slice_get line.cells place ≡ Some key → period ≡ line.period
    → Adds key period before after → Full (period ∷ []) → ((schema : plain.Schema) → schema.key ≡ place → schema.valid ≡ true → list_any (λ e. conflict schema e line) h.earlier ≡ false) → HoldEarlier place after lines (i + 1)
earlier_more place before after lines i line key period h within there at is adds full fresh = record {
  earlier = line ∷ h.earlier;
  held = subst (λ (s : BatchLine). HoldLines after (s ∷ map (line_of_row place) h.earlier)) said (hold_front before after (map (line_of_row place) h.earlier) key period None h.held adds full);
  fault = λ schema same valid.
      (let s : i + 1 + 2 ≡ i + 2 + 1 = omega arith in ap (λ rec. conflict_fault schema rec (line ∷ h.earlier) (drop (i + 1) lines)) s)
      ∙ (sym (ap (λ b. cond b (Some (fault.KeyTwice (i + 2))) (conflict_fault schema (i + 2 + 1) (line ∷ h.earlier) (drop (i + 1) lines))) (fresh schema same valid)) ∙ (sym (ap (conflict_fault schema (i + 2) h.earlier) (drop_at lines i line within there)) ∙ h.fault schema same valid));
} where
  said : record { key = Some key; period = period; puts = None } ≡ line_of_row place line
  said = ap (λ k. record { key = k; period = period; puts = None }) (sym at) ∙ ap (λ p. record { key = slice_get line.cells place; period = p; puts = None }) is

-- no line has a fault
pub fault_none : (place : ℕ) (covers : List (Cell × List (ℤ × ℤ))) (lines : List plain.Opened) (i : ℕ) (schema : plain.Schema) → length lines ≤ i → HoldEarlier place covers lines i → schema.key ≡ place → schema.valid ≡ true → None ≡ conflict_fault schema 2 [] lines
fault_none place covers lines i schema end h same valid = sym (ap (conflict_fault schema (i + 2) h.earlier) (past lines i end)) ∙ h.fault schema same valid where
  past : (xs : List plain.Opened) (n : ℕ) → length xs ≤ n → drop n xs ≡ []
  past [] zero k = refl
  past [] (suc n) k = refl
  past (x ∷ xs) zero k = absurd (omega arith)
  past (x ∷ xs) (suc n) k = past xs n (omega arith)

-- a period more
pub full_more : (lines : List plain.Opened) (i : ℕ) (line : plain.Opened) (period : Option plain.Period) → i < length lines → line ≡ get_or lines i line → period ≡ line.period → Full (period ∷ []) → Full (map (λ o. o.period) (take i lines)) → Full (map (λ o. o.period) (take (i + 1) lines))
full_more lines i line period within there is one all =
    subst Full (sym (ap (map (λ (o : plain.Opened). o.period)) (take_more lines i line within ∙ ap (λ q. take i lines ++ q ∷ []) (sym there)) ∙ map-append (λ (o : plain.Opened). o.period) (take i lines) (line ∷ []))) (full_both (map (λ (o : plain.Opened). o.period) (take i lines)) (line.period ∷ []) all (subst (λ p. Full (p ∷ [])) is one))

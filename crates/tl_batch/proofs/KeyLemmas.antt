-- The rows that lines affect, key by key.
use Rattle.std.proofs.Common.{◌≡◌, ℤ, ℕ, Bool, true, false, ◌&&◌, ◌||◌, List, [], ◌∷◌, slice_get, Option, Some, None, refl, sym, ap, ◌∙◌, arith}
use Rattle.std.specs.List.{list_any}
use Rattle.std.proofs.lemmas.Int.{ints}
use Rattle.tl_types.specs.declared.cells.Cell.{Cell}
use Rattle.tl_types.specs.Plain as plain
use Rattle.tl_types.specs.History.{is_open, has_id}
use Rattle.tl_types.specs.Resolving.{BatchLine, same_key}
use Rattle.tl_types.specs.History.{is_within}
use Rattle.tl_batch.specs.Covers.{Full, HoldLines, affected_among, cover_at, is_covered, is_keyed}
use Rattle.tl_batch.specs.Pieces.{affects_period, periods_with, is_affected, affected_by, is_open_affected}
use Rattle.tl_batch.specs.Standing.{is_open_with}
use Rattle.tl_batch.proofs.GapLemmas.{within_true}
use Rattle.tl_batch.proofs.LineFaultLemmas.{periods-same}

-- THE ROWS OF EACH KEY OF COVERS

-- the rows of one key more
pub key_affected : (schema : plain.Schema) (rows : List plain.Row) (lines : List BatchLine) (e : Cell × List (ℤ × ℤ)) (covers entries rest : List (Cell × List (ℤ × ℤ))) (before after : List ℕ) → schema.valid ≡ true → entries ≡ e ∷ rest
    → ((n : ℕ) → (affected_among schema lines entries (slice_get rows n) || has_id before n) ≡ affected_among schema lines covers (slice_get rows n))
    → ((n : ℕ) → has_id after n ≡ ((is_open_with schema.key e.0 (slice_get rows n) && affected_by true (periods_with (Some e.0) lines) (slice_get rows n)) || has_id before n))
    → (n : ℕ) → (affected_among schema lines rest (slice_get rows n) || has_id after n) ≡ affected_among schema lines covers (slice_get rows n)
key_affected schema rows lines e covers entries rest before after valid is h f n =
    ap (λ b. affected_among schema lines rest (slice_get rows n) || b) (f n) ∙ (row (slice_get rows n) (has_id before n) ∙ (ap (λ es. affected_among schema lines es (slice_get rows n) || has_id before n) (sym is) ∙ h n)) where
      own : List (Option plain.Period)
      own = periods_with (Some e.0) lines

      row : (o : Option plain.Row) (b : Bool) → (affected_among schema lines rest o || ((is_open_with schema.key e.0 o && affected_by true own o) || b)) ≡ (affected_among schema lines (e ∷ rest) o || b)
      row None b = refl
      row (Some r) b = by_key (same_key key (Some e.0)) refl where
        key : Option Cell
        key = slice_get r.cells schema.key

        by_key : (k : Bool) → same_key key (Some e.0) ≡ k
            → ((is_open r && (is_keyed key rest && is_affected schema lines r)) || (((is_open r && same_key key (Some e.0)) && list_any (λ line. affects_period true line r.period) own) || b)) ≡ ((is_open r && ((same_key key (Some e.0) || is_keyed key rest) && is_affected schema lines r)) || b)
        by_key true g =
            let same : list_any (λ line. affects_period true line r.period) own ≡ is_affected schema lines r = ap (λ v. list_any (λ line. affects_period v line r.period) own) (sym valid) ∙ ap (list_any (λ line. affects_period schema.valid line r.period)) (sym (periods-same key e.0 lines g)) in
            grind arith
        by_key false g = grind arith

-- lines without a moment affect nothing
no_moment : (ps : List (Option plain.Period)) (w : Option plain.Period) → Full ps → ((t : ℤ) → list_any (is_within t) ps ≡ false) → list_any (λ line. affects_period true line w) ps ≡ false
no_moment [] w full none = refl
no_moment (None ∷ ps) None full none = no_moment ps None full none
no_moment (None ∷ ps) (Some p) full none = no_moment ps (Some p) full none
no_moment (Some q ∷ ps) w full none = absurd (let e : true ≡ false = sym (ap (λ b. b || list_any (is_within q.from) ps) (within_true q.from q (let h = full.0 in omega (arith, ints)) full.0)) ∙ none q.from in cc)

-- a key that covers lack has no moments
not_keyed : (x : Cell) (covers : List (Cell × List (ℤ × ℤ))) → is_keyed (Some x) covers ≡ false → cover_at x covers ≡ []
not_keyed x [] e = refl
not_keyed x (c ∷ covers) e = grind (arith, not_keyed x covers)

-- a line that affects a row has its key among the covers
keyed : (key : Option Cell) (covers : List (Cell × List (ℤ × ℤ))) (lines : List BatchLine) (w : Option plain.Period) → HoldLines covers lines → list_any (λ line. affects_period true line w) (periods_with key lines) ≡ true → is_keyed key covers ≡ true
keyed None covers lines w held e = absurd (let f : list_any (λ line. affects_period true line w) (periods_with None lines) ≡ false = nothing lines in cc) where
  nothing : (ls : List BatchLine) → list_any (λ line. affects_period true line w) (periods_with None ls) ≡ false
  nothing [] = refl
  nothing (l ∷ ls) = nothing ls
keyed (Some x) covers lines w held e = by (is_keyed (Some x) covers) refl where
  by : (b : Bool) → is_keyed (Some x) covers ≡ b → b ≡ true
  by true f = refl
  by false f = absurd (let g : list_any (λ line. affects_period true line w) (periods_with (Some x) lines) ≡ false = no_moment (periods_with (Some x) lines) w (held.full x) (λ t. sym (held.same x t) ∙ ap (is_covered t) (not_keyed x covers f)) in cc)

-- all keys
pub keys_affected : (schema : plain.Schema) (rows : List plain.Row) (lines : List BatchLine) (covers entries : List (Cell × List (ℤ × ℤ))) (affected : List ℕ) → schema.valid ≡ true → HoldLines covers lines → entries ≡ []
    → ((n : ℕ) → (affected_among schema lines entries (slice_get rows n) || has_id affected n) ≡ affected_among schema lines covers (slice_get rows n)) → (n : ℕ) → has_id affected n ≡ is_open_affected schema lines (slice_get rows n)
keys_affected schema rows lines covers entries affected valid held none h n = sym (ap (λ es. affected_among schema lines es (slice_get rows n) || has_id affected n) none ∙ nothing (slice_get rows n) (has_id affected n)) ∙ (h n ∙ all (slice_get rows n)) where
  nothing : (o : Option plain.Row) (b : Bool) → (affected_among schema lines [] o || b) ≡ b
  nothing None b = refl
  nothing (Some r) b = grind arith

  all : (o : Option plain.Row) → affected_among schema lines covers o ≡ is_open_affected schema lines o
  all None = refl
  all (Some r) = by (is_affected schema lines r) refl where
    by : (a : Bool) → is_affected schema lines r ≡ a → (is_open r && (is_keyed (slice_get r.cells schema.key) covers && is_affected schema lines r)) ≡ (is_open r && is_affected schema lines r)
    by true e =
        let k = keyed (slice_get r.cells schema.key) covers lines r.period held (ap (λ v. list_any (λ line. affects_period v line r.period) (periods_with (slice_get r.cells schema.key) lines)) (sym valid) ∙ e) in
        grind arith
    by false e = grind arith

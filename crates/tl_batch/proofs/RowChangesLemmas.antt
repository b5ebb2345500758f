-- What lines take from the current rows, and what they put.
use Rattle.std.proofs.Common.{◌≡◌, ℕ, zero, suc, ◌+◌, ◌<◌, ◌≤◌, Bool, true, false, ◌&&◌, cond, List, [], ◌∷◌, ◌++◌, length, get_or, slice_get, Option, Some, None, subst, refl, sym, ap, ◌∙◌, arith}
use Rattle.std.specs.List.{flat_map, All}
use Rattle.tl_types.specs.Plain as plain
use Rattle.tl_types.specs.Facts.{AscendFrom}
use Rattle.tl_types.specs.History.{is_open, has_id}
use Rattle.tl_types.specs.Resolving.{BatchLine}
use Rattle.tl_batch.specs.Pieces.{cuts, is_affected, affected_ids, row_pieces, old_pieces, is_open_affected, pieces_at}
use Rattle.tl_batch.proofs.ChangeLemmas.{affected_ids-at, affected_ids-ascend, ascend_same}
use Rattle.tl_batch.proofs.RowIds.{ids_at, ids_at-has}
use Rattle.tl_batch.proofs.AffectLemmas.{holds_at}

-- lines leave nothing of a row that has no period
pub nothing_left : (lines : List (Option plain.Period)) → 1 ≤ length lines → cuts false lines None ≡ []
nothing_left [] h = absurd (omega arith)
nothing_left (None ∷ lines) h = refl
nothing_left (Some l ∷ lines) h = refl

-- the ids that are affected, by rows
pub affected_has : (schema : plain.Schema) (lines : List BatchLine) (rows : List plain.Row) (n : ℕ) → has_id (affected_ids schema lines 0 rows) n ≡ is_open_affected schema lines (slice_get rows n)
affected_has schema lines rows n = grind (arith, affected_ids-at schema lines 0 rows, ids_at (is_open_affected schema lines) 0 rows, ids_at-has (is_open_affected schema lines) refl 0 rows n)

-- an ascending list of the rows that lines affect is that of the ids that are affected
pub closes_are : (schema : plain.Schema) (lines : List BatchLine) (rows : List plain.Row) (ids : List ℕ) → AscendFrom 0 ids → ((n : ℕ) → has_id ids n ≡ is_open_affected schema lines (slice_get rows n)) → ids ≡ affected_ids schema lines 0 rows
closes_are schema lines rows ids ascend members = ascend_same 0 ids (affected_ids schema lines 0 rows) ascend (affected_ids-ascend schema lines 0 rows) (λ n. members n ∙ sym (affected_has schema lines rows n))

affected_within : (schema : plain.Schema) (lines : List BatchLine) (rows : List plain.Row) (n : ℕ) → is_open_affected schema lines (slice_get rows n) ≡ true → n < length rows
affected_within schema lines [] n e = absurd (cc)
affected_within schema lines (r ∷ rows) zero e = omega arith
affected_within schema lines (r ∷ rows) (suc n) e = let h = affected_within schema lines rows n e in omega arith

pub closes_within : (schema : plain.Schema) (lines : List BatchLine) (rows : List plain.Row) (ids given : List ℕ) → given ≡ ids → ((n : ℕ) → has_id ids n ≡ is_open_affected schema lines (slice_get rows n)) → All (λ id. id < length rows) given
closes_within schema lines rows ids given same members = subst (All (λ id. id < length rows)) (sym same) (λ k d l. affected_within schema lines rows (get_or ids k d) (sym (members (get_or ids k d)) ∙ holds_at ids k d l))

-- what is left of them
left_of : (schema : plain.Schema) (lines : List BatchLine) (f : ℕ → List plain.Opened) (n : ℕ) (rows : List plain.Row) → ((i : ℕ) → f (n + i) ≡ pieces_at schema lines (slice_get rows i)) → flat_map f (affected_ids schema lines n rows) ≡ old_pieces schema lines rows
left_of schema lines f n [] e = refl
left_of schema lines f n (r ∷ rows) e = split (is_open r && is_affected schema lines r) (left_of schema lines f (n + 1) rows (λ i. (let s : n + 1 + i ≡ n + suc i = omega arith in ap f s) ∙ e (suc i))) where
  here : f n ≡ row_pieces schema lines r.cells r.period
  here = (let s : n ≡ n + 0 = omega arith in ap f s) ∙ e 0

  split : (b : Bool) → flat_map f (affected_ids schema lines (n + 1) rows) ≡ old_pieces schema lines rows
      → flat_map f (cond b (n ∷ affected_ids schema lines (n + 1) rows) (affected_ids schema lines (n + 1) rows)) ≡ cond b (row_pieces schema lines r.cells r.period ++ old_pieces schema lines rows) (old_pieces schema lines rows)
  split true later = ap (λ os. os ++ flat_map f (affected_ids schema lines (n + 1) rows)) here ∙ ap (λ os. row_pieces schema lines r.cells r.period ++ os) later
  split false later = later

pub opens_are : (schema : plain.Schema) (lines : List BatchLine) (rows : List plain.Row) (ids given : List ℕ) (opens : List plain.Opened) → given ≡ ids → ids ≡ affected_ids schema lines 0 rows → opens ≡ flat_map (λ id. pieces_at schema lines (slice_get rows id)) given → opens ≡ old_pieces schema lines rows
opens_are schema lines rows ids given opens same affected made =
    made ∙ (ap (flat_map (λ id. pieces_at schema lines (slice_get rows id))) (same ∙ affected) ∙ left_of schema lines (λ id. pieces_at schema lines (slice_get rows id)) 0 rows (λ i. ap (λ k. pieces_at schema lines (slice_get rows k)) (let e : 0 + i ≡ i = omega arith in e)))

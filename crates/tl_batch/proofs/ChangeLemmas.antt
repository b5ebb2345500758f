-- The change that lines make, row by row.
use Rattle.std.proofs.Common.{◌≡◌, ℕ, ◌+◌, ◌<◌, ◌≤◌, Bool, true, false, ◌&&◌, ◌||◌, not, cond, nat_eq, List, [], ◌∷◌, ◌++◌, map, Option, Some, None, is_some, refl, sym, ap, ◌∙◌, subst, arith, slice_get, append-nil, ◌⊎◌, inl, inr}
use Rattle.std.specs.List.{filter, flat_map, enumerate_from}
use Rattle.std.proofs.lemmas.Bool.{cases_lt}
use Rattle.std.proofs.lemmas.List.Elements.{filter_map-append}
use Rattle.tl_types.specs.Plain as plain
use Rattle.tl_types.specs.Facts.{AscendFrom}
use Rattle.tl_types.specs.History.{is_open, has_id}
use Rattle.tl_types.specs.Resolving.{WorkingRow, BatchLine, open_rows, working_list, ids_of, new_rows, change_of}
use Rattle.tl_batch.specs.Pieces.{cuts, periods_with, is_affected, affected_ids, over, row_pieces, old_pieces, put_pieces, is_open_affected}
use Rattle.tl_batch.proofs.RowIds.{ids_at, ids_at-ascend}
use Rattle.tl_batch.proofs.Rows.{filter_map-flat_map, rows_left, puts_left, worked_by_rows, fresh, rows_left-old, fresh-ids, fresh-rows, puts_left-ids, puts_left-rows}

-- the open rows, from an id on
abbrev pub open_from : ℕ → List plain.Row → List WorkingRow
open_from n rows = map (λ r. record { id = Some r.0; row = record { cells = r.1.cells; period = r.1.period } }) (filter (λ r. is_open r.1) (enumerate_from n rows))

abbrev old : ℕ → plain.Row → WorkingRow
old n r = record { id = Some n; row = record { cells = r.cells; period = r.period } }

-- their ids
abbrev pub open_ids : ℕ → List plain.Row → List ℕ
open_ids n [] = []
open_ids n (r ∷ rows) = cond (is_open r) (n ∷ open_ids (n + 1) rows) (open_ids (n + 1) rows)

-- the ids of those that no line affects
abbrev pub kept_ids : plain.Schema → List BatchLine → ℕ → List plain.Row → List ℕ
kept_ids schema lines n [] = []
kept_ids schema lines n (r ∷ rows) = cond (is_open r) (cond (is_affected schema lines r) (kept_ids schema lines (n + 1) rows) (n ∷ kept_ids schema lines (n + 1) rows)) (kept_ids schema lines (n + 1) rows)

abbrev listed : ℕ → List plain.Row → List (ℕ × plain.Row)
listed n rows = filter (λ s. is_open s.1) (enumerate_from n rows)

open_from-ids : (n : ℕ) (rows : List plain.Row) → ids_of (open_from n rows) ≡ open_ids n rows
open_from-ids n [] = refl
open_from-ids n (r ∷ rows) = grind (arith, open_from-ids (n + 1) rows)

old-ids : (schema : plain.Schema) (lines : List BatchLine) (n : ℕ) (r : plain.Row) → ids_of (rows_left schema lines (old n r)) ≡ cond (is_affected schema lines r) [] (n ∷ [])
old-ids schema lines n r = ap ids_of (rows_left-old schema lines n r.cells r.period) ∙ split (is_affected schema lines r) where
  pieces : List (Option plain.Period)
  pieces = cuts schema.valid (periods_with (slice_get r.cells schema.key) lines) r.period

  split : (b : Bool) → ids_of (cond b (map (fresh r.cells) pieces) (old n r ∷ [])) ≡ cond b [] (n ∷ [])
  split true = fresh-ids r.cells pieces
  split false = refl

old-rows : (schema : plain.Schema) (lines : List BatchLine) (n : ℕ) (r : plain.Row) → new_rows (rows_left schema lines (old n r)) ≡ cond (is_affected schema lines r) (row_pieces schema lines r.cells r.period) []
old-rows schema lines n r = ap new_rows (rows_left-old schema lines n r.cells r.period) ∙ split (is_affected schema lines r) where
  pieces : List (Option plain.Period)
  pieces = cuts schema.valid (periods_with (slice_get r.cells schema.key) lines) r.period

  split : (b : Bool) → new_rows (cond b (map (fresh r.cells) pieces) (old n r ∷ [])) ≡ cond b (over r.cells pieces) []
  split true = fresh-rows r.cells pieces
  split false = refl

left-ids : (schema : plain.Schema) (lines : List BatchLine) (n : ℕ) (rows : List plain.Row) → flat_map (λ h. ids_of (rows_left schema lines h)) (open_from n rows) ≡ kept_ids schema lines n rows
left-ids schema lines n [] = refl
left-ids schema lines n (r ∷ rows) = split (is_open r) (left-ids schema lines (n + 1) rows) where
  rest : List ℕ
  rest = kept_ids schema lines (n + 1) rows

  both : (b : Bool) → (cond b [] (n ∷ []) ++ rest) ≡ cond b rest (n ∷ rest)
  both true = refl
  both false = refl

  split : (b : Bool) → flat_map (λ h. ids_of (rows_left schema lines h)) (open_from (n + 1) rows) ≡ rest
      → flat_map (λ h. ids_of (rows_left schema lines h)) (map (λ s. old s.0 s.1) (cond b ((n, r) ∷ listed (n + 1) rows) (listed (n + 1) rows))) ≡ cond b (cond (is_affected schema lines r) rest (n ∷ rest)) rest
  split true later = grind (arith, old-ids schema lines n r, both (is_affected schema lines r))
  split false later = later

left-rows : (schema : plain.Schema) (lines : List BatchLine) (n : ℕ) (rows : List plain.Row) → flat_map (λ h. new_rows (rows_left schema lines h)) (open_from n rows) ≡ old_pieces schema lines rows
left-rows schema lines n [] = refl
left-rows schema lines n (r ∷ rows) = split (is_open r) (left-rows schema lines (n + 1) rows) where
  rest : List plain.Opened
  rest = old_pieces schema lines rows

  pieces : List plain.Opened
  pieces = row_pieces schema lines r.cells r.period

  both : (b : Bool) → (cond b pieces [] ++ rest) ≡ cond b (pieces ++ rest) rest
  both true = refl
  both false = refl

  split : (b : Bool) → flat_map (λ h. new_rows (rows_left schema lines h)) (open_from (n + 1) rows) ≡ rest
      → flat_map (λ h. new_rows (rows_left schema lines h)) (map (λ s. old s.0 s.1) (cond b ((n, r) ∷ listed (n + 1) rows) (listed (n + 1) rows))) ≡ cond (b && is_affected schema lines r) (pieces ++ rest) rest
  split true later = grind (arith, old-rows schema lines n r, both (is_affected schema lines r))
  split false later = later

kept_before : (schema : plain.Schema) (lines : List BatchLine) (n : ℕ) (rows : List plain.Row) (m : ℕ) → m < n → has_id (kept_ids schema lines n rows) m ≡ false
kept_before schema lines n [] m h = refl
kept_before schema lines n (r ∷ rows) m h = grind (arith, kept_before schema lines (n + 1) rows m (omega arith))

filter_past : (k : ℕ) (kept : List ℕ) (n : ℕ) (rows : List plain.Row) → k < n → filter (λ id. not (has_id (k ∷ kept) id)) (open_ids n rows) ≡ filter (λ id. not (has_id kept id)) (open_ids n rows)
filter_past k kept n [] h = refl
filter_past k kept n (r ∷ rows) h = grind (arith, filter_past k kept (n + 1) rows (omega arith))

closed_here : (a b : Bool) (n : ℕ) (kept rest closed : List ℕ) → has_id kept n ≡ false → filter (λ id. not (has_id (n ∷ kept) id)) rest ≡ filter (λ id. not (has_id kept id)) rest → filter (λ id. not (has_id kept id)) rest ≡ closed
    → filter (λ id. not (has_id (cond a (cond b kept (n ∷ kept)) kept) id)) (cond a (n ∷ rest) rest) ≡ cond (a && b) (n ∷ closed) closed
closed_here true true n kept rest closed gone past e = grind arith
closed_here true false n kept rest closed gone past e = grind arith
closed_here false b n kept rest closed gone past e = e

closed_ids : (schema : plain.Schema) (lines : List BatchLine) (n : ℕ) (rows : List plain.Row) → filter (λ id. not (has_id (kept_ids schema lines n rows) id)) (open_ids n rows) ≡ affected_ids schema lines n rows
closed_ids schema lines n [] = refl
closed_ids schema lines n (r ∷ rows) =
    let kept : List ℕ = kept_ids schema lines (n + 1) rows in
    closed_here (is_open r) (is_affected schema lines r) n kept (open_ids (n + 1) rows) (affected_ids schema lines (n + 1) rows) (kept_before schema lines (n + 1) rows n (omega arith)) (filter_past n kept (n + 1) rows (omega arith)) (closed_ids schema lines (n + 1) rows)

-- the change that the lines make: it closes the current rows that a line affects, and opens what is left of them and
-- then what is left of the rows put
pub change_by_rows : (number : ℕ) (t : plain.Table) (lines : List BatchLine) → change_of number t lines ≡ record { table = number; closes = affected_ids t.schema lines 0 t.rows; opens = old_pieces t.schema lines t.rows ++ put_pieces t.schema lines }
change_by_rows number t lines = ap (λ cs. made cs (new_rows (working_list t lines))) closes ∙ ap (made (affected_ids t.schema lines 0 t.rows)) opens where
  made : List ℕ → List plain.Opened → plain.Change
  made cs os = record { table = number; closes = cs; opens = os }

  by_rows : working_list t lines ≡ flat_map (rows_left t.schema lines) (open_from 0 t.rows) ++ puts_left t.schema lines
  by_rows = worked_by_rows t.schema lines (open_rows t)

  opens : new_rows (working_list t lines) ≡ old_pieces t.schema lines t.rows ++ put_pieces t.schema lines
  opens = ap new_rows by_rows
      ∙ (filter_map-append (λ h. cond (is_some h.id) None (Some h.row)) (flat_map (rows_left t.schema lines) (open_from 0 t.rows)) (puts_left t.schema lines)
      ∙ (ap (λ os. os ++ new_rows (puts_left t.schema lines)) (filter_map-flat_map (λ h. cond (is_some h.id) None (Some h.row)) (rows_left t.schema lines) (open_from 0 t.rows) ∙ left-rows t.schema lines 0 t.rows)
      ∙ ap (λ os. old_pieces t.schema lines t.rows ++ os) (puts_left-rows t.schema lines)))

  kept : ids_of (working_list t lines) ≡ kept_ids t.schema lines 0 t.rows
  kept = ap ids_of by_rows
      ∙ (filter_map-append (λ h. h.id) (flat_map (rows_left t.schema lines) (open_from 0 t.rows)) (puts_left t.schema lines)
      ∙ (ap (λ ids. ids_of (flat_map (rows_left t.schema lines) (open_from 0 t.rows)) ++ ids) (puts_left-ids t.schema lines)
      ∙ (append-nil (ids_of (flat_map (rows_left t.schema lines) (open_from 0 t.rows)))
      ∙ (filter_map-flat_map (λ h. h.id) (rows_left t.schema lines) (open_from 0 t.rows) ∙ left-ids t.schema lines 0 t.rows))))

  closes : filter (λ id. not (has_id (ids_of (working_list t lines)) id)) (ids_of (open_rows t)) ≡ affected_ids t.schema lines 0 t.rows
  closes = ap (λ ids. filter (λ id. not (has_id ids id)) (ids_of (open_rows t))) kept ∙ (ap (λ ids. filter (λ id. not (has_id (kept_ids t.schema lines 0 t.rows) id)) ids) (open_from-ids 0 t.rows) ∙ closed_ids t.schema lines 0 t.rows)

-- ASCENDING LISTS

-- the ids that are closed are those of the current rows that a line affects
pub affected_ids-at : (schema : plain.Schema) (lines : List BatchLine) (n : ℕ) (rows : List plain.Row) → affected_ids schema lines n rows ≡ ids_at (is_open_affected schema lines) n rows
affected_ids-at schema lines n [] = refl
affected_ids-at schema lines n (r ∷ rows) = grind (arith, affected_ids-at schema lines (n + 1) rows)

-- they ascend
pub affected_ids-ascend : (schema : plain.Schema) (lines : List BatchLine) (n : ℕ) (rows : List plain.Row) → AscendFrom n (affected_ids schema lines n rows)
affected_ids-ascend schema lines n rows = subst (AscendFrom n) (sym (affected_ids-at schema lines n rows)) (ids_at-ascend (is_open_affected schema lines) n rows)

ascend_past : (low : ℕ) (ids : List ℕ) (n : ℕ) → AscendFrom low ids → n < low → has_id ids n ≡ false
ascend_past low [] n all h = refl
ascend_past low (id ∷ ids) n all h = grind (arith, ascend_past (id + 1) ids n all.1 (omega arith))

holds_first : (id : ℕ) (ids : List ℕ) → has_id (id ∷ ids) id ≡ true
holds_first id ids = let same : nat_eq id id ≡ true = grind arith in ap (λ v. v || has_id ids id) same

-- ascending lists with the same members are the same
pub ascend_same : (low : ℕ) (xs ys : List ℕ) → AscendFrom low xs → AscendFrom low ys → ((n : ℕ) → has_id xs n ≡ has_id ys n) → xs ≡ ys
ascend_same low [] [] a b same = refl
ascend_same low [] (y ∷ ys) a b same = absurd (let e : false ≡ true = same y ∙ holds_first y ys in cc)
ascend_same low (x ∷ xs) [] a b same = absurd (let e : true ≡ false = sym (holds_first x xs) ∙ same x in cc)
ascend_same low (x ∷ xs) (y ∷ ys) a b same = ap (λ z. z ∷ xs) first ∙ ap (λ zs. y ∷ zs) (ascend_same (x + 1) xs ys a.1 (subst (λ z. AscendFrom (z + 1) ys) (sym first) b.1) rest) where
  before : (z w : ℕ) (ws : List ℕ) → AscendFrom (w + 1) ws → has_id (w ∷ ws) z ≡ true → w ≤ z
  before z w ws all e = by_test (nat_eq w z) refl e where
    by_test : (t : Bool) → nat_eq w z ≡ t → (t || has_id ws z) ≡ true → w ≤ z
    by_test true f g = let h : w ≡ z = grind arith in omega arith
    by_test false f g = by_order (cases_lt z (w + 1)) where
      by_order : (z < w + 1) ⊎ (w + 1 ≤ z) → w ≤ z
      by_order (inl h) = absurd (let e : true ≡ false = sym g ∙ ascend_past (w + 1) ws z all h in cc)
      by_order (inr h) = omega arith

  first : x ≡ y
  first = grind (arith, before x y ys b.1 (sym (same x) ∙ holds_first x xs), holds_first x xs, before y x xs a.1 (same y ∙ holds_first y ys), holds_first y ys)

  rest : (n : ℕ) → has_id xs n ≡ has_id ys n
  rest n = by_order (cases_lt n (x + 1)) where
    by_order : (n < x + 1) ⊎ (x + 1 ≤ n) → has_id xs n ≡ has_id ys n
    by_order (inl h) = ascend_past (x + 1) xs n a.1 h ∙ sym (ascend_past (y + 1) ys n b.1 (let e = first in omega arith))
    by_order (inr h) =
        let apart : nat_eq x n ≡ false = grind arith in
        let e = first in
        let also : nat_eq y n ≡ false = grind arith in
        sym (ap (λ v. v || has_id xs n) apart) ∙ (same n ∙ ap (λ v. v || has_id ys n) also)

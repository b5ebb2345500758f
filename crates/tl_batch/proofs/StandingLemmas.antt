-- The open rows of a table, by the ids that ascend, and what matching leaves of them.
use Rattle.std.proofs.Common.{◌≡◌, ℕ, zero, suc, ◌+◌, ◌<◌, ◌≤◌, Bool, true, false, ◌&&◌, ◌||◌, cond, nat_eq, List, [], ◌∷◌, ◌++◌, length, map, get_or, slice_get, Option, Some, None, subst, refl, sym, ap, ◌∙◌, arith}
use Rattle.std.specs.List.{All, list_any, list_all, filter, flat_map, enumerate_from}
use Rattle.std.proofs.lemmas.Bool.{and_parts, and_from}
use Rattle.tl_types.specs.Plain as plain
use Rattle.tl_types.specs.Facts.{AscendFrom}
use Rattle.tl_types.specs.History.{is_open, is_open_at, has_id, with_ids}
use Rattle.tl_types.specs.Resolving.{WorkingRow, open_rows, ids_of, same_row, without_row, unmatched_rows, unmatched_lines}
use Rattle.tl_batch.specs.Syncing.{as_opened, working_row, working_rows}
use Rattle.tl_types.specs.declared.cells.Cell.{Cell}
use Rattle.tl_batch.specs.KeyIndex.{IdsByKey, any_row, has_row}
use Rattle.tl_batch.specs.OpenTables.{IsIndexOf}
use Rattle.tl_batch.specs.Standing.{rows_match}
use Rattle.tl_batch.proofs.AffectLemmas.{holds_at}
use Rattle.tl_batch.proofs.AllIdsLemmas.{any_stands, stands}
use Rattle.tl_batch.proofs.ChangeLemmas.{ascend_same}
use Rattle.tl_batch.proofs.RowIds.{ids_at, ids_at-ascend, ids_at-has}
use Rattle.tl_batch.proofs.SyncLemmas.{no_rows, no_rows_match}

abbrev as_working : (ℕ × plain.Row) → WorkingRow
as_working r = record { id = Some r.0; row = record { cells = r.1.cells; period = r.1.period } }

-- the rows with the ids of the current rows, where the first row has a number
rows_from : (f : ℕ → List WorkingRow) (n : ℕ) (rows : List plain.Row) → ((i : ℕ) → f (n + i) ≡ working_row (n + i) (slice_get rows i)) → flat_map f (ids_at stands n rows) ≡ map as_working (filter (λ r. is_open r.1) (enumerate_from n rows))
rows_from f n [] each = refl
rows_from f n (r ∷ rows) each = by_test (is_open r) (rows_from f (n + 1) rows (λ i. (let s : n + 1 + i ≡ n + suc i = omega arith in subst (λ k. f k ≡ working_row k (slice_get rows i)) (sym s) (each (suc i))))) where
  here : f n ≡ as_working (n, r) ∷ []
  here = let s : n + 0 ≡ n = omega arith in subst (λ k. f k ≡ working_row k (Some r)) s (each 0)

  by_test : (b : Bool) → flat_map f (ids_at stands (n + 1) rows) ≡ map as_working (filter (λ r. is_open r.1) (enumerate_from (n + 1) rows))
      → flat_map f (cond b (n ∷ ids_at stands (n + 1) rows) (ids_at stands (n + 1) rows)) ≡ map as_working (cond b ((n, r) ∷ filter (λ r. is_open r.1) (enumerate_from (n + 1) rows)) (filter (λ r. is_open r.1) (enumerate_from (n + 1) rows)))
  by_test true later = ap (λ ws. ws ++ flat_map f (ids_at stands (n + 1) rows)) here ∙ ap (λ ws. as_working (n, r) ∷ ws) later
  by_test false later = later

-- ids that ascend, of all rows that stand
pub rows_standing : (t : plain.Table) (ids : List ℕ) → AscendFrom 0 ids → ((n : ℕ) → has_id ids n ≡ stands (slice_get t.rows n)) → working_rows t.rows ids ≡ open_rows t
rows_standing t ids ascend members =
    let same : ids ≡ ids_at stands 0 t.rows = ascend_same 0 ids (ids_at stands 0 t.rows) ascend (ids_at-ascend stands 0 t.rows) (λ n. members n ∙ sym (has n)) in
    ap (working_rows t.rows) same ∙ rows_from (λ id. working_row id (slice_get t.rows id)) 0 t.rows (λ i. let s : 0 + i ≡ i = omega arith in ap (λ k. working_row (0 + i) (slice_get t.rows k)) s) where
      has : (n : ℕ) → has_id (ids_at stands 0 t.rows) n ≡ stands (slice_get t.rows n)
      has n = (let s : n ≡ 0 + n = omega arith in ap (has_id (ids_at stands 0 t.rows)) s) ∙ ids_at-has stands refl 0 t.rows n

stands_within : (rows : List plain.Row) (n : ℕ) → stands (slice_get rows n) ≡ true → n < length rows
stands_within [] n e = absurd (cc)
stands_within (r ∷ rows) zero e = omega arith
stands_within (r ∷ rows) (suc n) e = let h = stands_within rows n e in omega arith

-- the ids of all keys, listed
pub record AreStanding (t : plain.Table) (ids : List ℕ) : Type 0 where
  pub rows : working_rows t.rows ids ≡ open_rows t
  pub within : All (λ row. row < length t.rows) ids

pub listed_standing : (u t : plain.Table) (schema : plain.Schema) (index : IdsByKey) (new added listed : List ℕ) → rows_match (Some u) ≡ true → u ≡ t → schema ≡ u.schema → IsIndexOf index schema.key u.rows → schema.key < length schema.columns → new ≡ []
    → ((n : ℕ) → has_id added n ≡ (any_row index n || has_id new n)) → ((n : ℕ) → any_row index n ≡ true → (x : Cell) × (has_row index x n ≡ true)) → AscendFrom 0 listed → ((n : ℕ) → has_id listed n ≡ has_id added n) → AreStanding t listed
listed_standing u t schema index new added listed matching view same ids among empty added_are keys ascend listed_are = subst (λ v. AreStanding v listed) view (record {
  rows = rows_standing u listed ascend members;
  within = λ k d l. stands_within u.rows (get_or listed k d) (sym (members (get_or listed k d)) ∙ holds_at listed k d l);
}) where
  or_none : (b : Bool) → (b || false) ≡ b
  or_none true = refl
  or_none false = refl

  ids_here : IsIndexOf index u.schema.key u.rows
  ids_here = subst (λ (s : plain.Schema). IsIndexOf index s.key u.rows) same ids

  among_here : u.schema.key < length u.schema.columns
  among_here = subst (λ (s : plain.Schema). s.key < length s.columns) same among

  members : (n : ℕ) → has_id listed n ≡ stands (slice_get u.rows n)
  members n = listed_are n ∙ (added_are n ∙ (ap (λ ns. any_row index n || has_id ns n) empty ∙ (or_none (any_row index n) ∙ any_stands index u n ids_here matching among_here (keys n))))

-- WHAT IS LEFT

-- a test that the ids of all rows pass
all_without : (test : ℕ → Bool) (line : plain.Opened) (list : List WorkingRow) → list_all test (ids_of list) ≡ true → list_all test (ids_of (without_row line list)) ≡ true
all_without test line [] all = refl
all_without test line (w ∷ list) all = by_test (same_row w.row line) w.id all (all_without test line list) where
  by_test : (b : Bool) (o : Option ℕ) → list_all test (ids_of (record { id = o; row = w.row } ∷ list)) ≡ true → (list_all test (ids_of list) ≡ true → list_all test (ids_of (without_row line list)) ≡ true)
      → list_all test (ids_of (cond b list (record { id = o; row = w.row } ∷ without_row line list))) ≡ true
  by_test true None e later = e
  by_test true (Some n) e later = (and_parts (test n) (list_all test (ids_of list)) e).1
  by_test false None e later = later e
  by_test false (Some n) e later = let parts = and_parts (test n) (list_all test (ids_of list)) e in and_from (test n) (list_all test (ids_of (without_row line list))) parts.0 (later parts.1)

pub all_unmatched : (test : ℕ → Bool) (list : List WorkingRow) (lines : List plain.Opened) → list_all test (ids_of list) ≡ true → list_all test (ids_of (unmatched_rows list lines)) ≡ true
all_unmatched test list [] all = all
all_unmatched test list (line ∷ lines) all = all_unmatched test (without_row line list) lines (all_without test line list all)

-- ids that ascend
lower : (low high : ℕ) (ids : List ℕ) → low ≤ high → AscendFrom high ids → AscendFrom low ids
lower low high [] h all = tt
lower low high (id ∷ ids) h all = (let l = all.0 in omega arith, all.1)

ascend_without : (line : plain.Opened) (low : ℕ) (list : List WorkingRow) → AscendFrom low (ids_of list) → AscendFrom low (ids_of (without_row line list))
ascend_without line low [] up = tt
ascend_without line low (w ∷ list) up = by_test (same_row w.row line) w.id up (λ from. ascend_without line from list) where
  by_test : (b : Bool) (o : Option ℕ) → AscendFrom low (ids_of (record { id = o; row = w.row } ∷ list)) → ((from : ℕ) → AscendFrom from (ids_of list) → AscendFrom from (ids_of (without_row line list)))
      → AscendFrom low (ids_of (cond b list (record { id = o; row = w.row } ∷ without_row line list)))
  by_test true None e later = e
  by_test true (Some n) e later = let h = e.0 in lower low (n + 1) (ids_of list) (omega arith) e.1
  by_test false None e later = later low e
  by_test false (Some n) e later = (e.0, later (n + 1) e.1)

pub ascend_unmatched : (list : List WorkingRow) (lines : List plain.Opened) → AscendFrom 0 (ids_of list) → AscendFrom 0 (ids_of (unmatched_rows list lines))
ascend_unmatched list [] up = up
ascend_unmatched list (line ∷ lines) up = ascend_unmatched (without_row line list) lines (ascend_without line 0 list up)

-- a list has no more ids than before
fewer_without : (line : plain.Opened) (list : List WorkingRow) → length (ids_of (without_row line list)) ≤ length (ids_of list)
fewer_without line [] = omega arith
fewer_without line (w ∷ list) = by_test (same_row w.row line) w.id (fewer_without line list) where
  by_test : (b : Bool) (o : Option ℕ) → length (ids_of (without_row line list)) ≤ length (ids_of list) → length (ids_of (cond b list (record { id = o; row = w.row } ∷ without_row line list))) ≤ length (ids_of (record { id = o; row = w.row } ∷ list))
  by_test true None h = omega arith
  by_test true (Some n) h = omega arith
  by_test false None h = h
  by_test false (Some n) h = omega arith

pub fewer_unmatched : (list : List WorkingRow) (lines : List plain.Opened) → length (ids_of (unmatched_rows list lines)) ≤ length (ids_of list)
fewer_unmatched list [] = omega arith
fewer_unmatched list (line ∷ lines) = let h = fewer_unmatched (without_row line list) lines in let k = fewer_without line list in omega arith

-- lines that match a schema
pub unmatched_match : (test : plain.Opened → Bool) (list : List WorkingRow) (lines : List plain.Opened) → list_all test lines ≡ true → list_all test (unmatched_lines list lines) ≡ true
unmatched_match test list [] all = refl
unmatched_match test list (line ∷ lines) all =
    let parts = and_parts (test line) (list_all test lines) all in
    by_test (list_any (λ w. same_row w.row line) list) parts.0 (unmatched_match test (without_row line list) lines parts.1) (unmatched_match test list lines parts.1) where
      by_test : (b : Bool) → test line ≡ true → list_all test (unmatched_lines (without_row line list) lines) ≡ true → list_all test (unmatched_lines list lines) ≡ true
          → list_all test (cond b (unmatched_lines (without_row line list) lines) (line ∷ unmatched_lines list lines)) ≡ true
      by_test true here matched others = matched
      by_test false here matched others = and_from (test line) (list_all test (unmatched_lines list lines)) here others

-- THE IDS OF THE ROWS THAT STAND

-- the ids of open rows, where the first row has a number
ids_from : (n : ℕ) (rows : List plain.Row) → ids_of (map as_working (filter (λ r. is_open r.1) (enumerate_from n rows))) ≡ ids_at stands n rows
ids_from n [] = refl
ids_from n (r ∷ rows) = by_test (is_open r) (ids_from (n + 1) rows) where
  by_test : (b : Bool) → ids_of (map as_working (filter (λ r. is_open r.1) (enumerate_from (n + 1) rows))) ≡ ids_at stands (n + 1) rows
      → ids_of (map as_working (cond b ((n, r) ∷ filter (λ r. is_open r.1) (enumerate_from (n + 1) rows)) (filter (λ r. is_open r.1) (enumerate_from (n + 1) rows)))) ≡ cond b (n ∷ ids_at stands (n + 1) rows) (ids_at stands (n + 1) rows)
  by_test true later = ap (λ ids. n ∷ ids) later
  by_test false later = later

pub open_ids : (t : plain.Table) → ids_of (open_rows t) ≡ ids_at stands 0 t.rows
open_ids t = ids_from 0 t.rows

pub open_ascend : (t : plain.Table) → AscendFrom 0 (ids_of (open_rows t))
open_ascend t = subst (AscendFrom 0) (sym (open_ids t)) (ids_at-ascend stands 0 t.rows)

few_at : (n : ℕ) (rows : List plain.Row) → length (ids_at stands n rows) ≤ length rows
few_at n [] = omega arith
few_at n (r ∷ rows) = by_test (is_open r) (few_at (n + 1) rows) where
  by_test : (b : Bool) → length (ids_at stands (n + 1) rows) ≤ length rows → length (cond b (n ∷ ids_at stands (n + 1) rows) (ids_at stands (n + 1) rows)) ≤ suc (length rows)
  by_test true h = omega arith
  by_test false h = omega arith

pub open_few : (t : plain.Table) → length (ids_of (open_rows t)) ≤ length t.rows
open_few t = let h = few_at 0 t.rows in let e = ap length (open_ids t) in omega arith

open_from : (test : ℕ → Bool) (n : ℕ) (rows : List plain.Row) → ((i : ℕ) → test (n + i) ≡ is_open_at rows i) → list_all test (ids_at stands n rows) ≡ true
open_from test n [] e = refl
open_from test n (r ∷ rows) e = by_test (is_open r) refl (open_from test (n + 1) rows (λ i. (let s : n + 1 + i ≡ n + suc i = omega arith in ap test s) ∙ e (suc i))) where
  here : test n ≡ is_open r
  here = (let s : n ≡ n + 0 = omega arith in ap test s) ∙ e 0

  by_test : (b : Bool) → is_open r ≡ b → list_all test (ids_at stands (n + 1) rows) ≡ true → list_all test (cond b (n ∷ ids_at stands (n + 1) rows) (ids_at stands (n + 1) rows)) ≡ true
  by_test true f later = and_from (test n) (list_all test (ids_at stands (n + 1) rows)) (here ∙ f) later
  by_test false f later = later

pub open_at : (t : plain.Table) → list_all (is_open_at t.rows) (ids_of (open_rows t)) ≡ true
open_at t = ap (list_all (is_open_at t.rows)) (open_ids t) ∙ open_from (is_open_at t.rows) 0 t.rows (λ i. let s : 0 + i ≡ i = omega arith in ap (is_open_at t.rows) s)

-- NO ROW STANDS

-- the lines that say all of a table where no row stands
pub nothing_stands : (t : plain.Table) (ids : List ℕ) (lines opens : List plain.Opened) (closes : List ℕ) (empty : Bool) → working_rows t.rows ids ≡ open_rows t → empty ≡ nat_eq (length ids) 0 → empty ≡ true → closes ≡ [] → opens ≡ lines
    → (closes ≡ ids_of (unmatched_rows (open_rows t) lines)) × (opens ≡ unmatched_lines (open_rows t) lines)
nothing_stands t [] lines opens closes empty rows is on none all =
    (none ∙ sym (ap (λ ws. ids_of (unmatched_rows ws lines)) (sym rows) ∙ ap ids_of (no_rows lines)), all ∙ sym (ap (λ ws. unmatched_lines ws lines) (sym rows) ∙ no_rows_match lines))
nothing_stands t (id ∷ ids) lines opens closes true rows is on none all = let some : nat_eq (suc (length ids)) 0 ≡ false = grind arith in let e : true ≡ false = is ∙ some in absurd (cc)
nothing_stands t (id ∷ ids) lines opens closes false rows is on none all = absurd (cc)

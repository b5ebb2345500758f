-- The matching of lines with rows, by rows one after the other.
use Rattle.std.proofs.Common.{◌≡◌, ℕ, zero, suc, ◌+◌, ◌<◌, ◌≤◌, Bool, true, false, ◌&&◌, ◌||◌, cond, List, [], ◌∷◌, ◌++◌, length, set, replicate, slice_get, Option, Some, None, refl, sym, ap, ◌∙◌, arith}
use Rattle.std.specs.List.{list_any, filter_map}
use Rattle.tl_types.specs.Plain as plain
use Rattle.tl_types.specs.Resolving.{WorkingRow, same_row, without_row, unmatched_rows, unmatched_lines}
use Rattle.tl_batch.specs.Syncing.{without_line, unmarked_lines}

-- A ROW MORE

pub row_unmatched : (w : WorkingRow) (list : List WorkingRow) (lines : List plain.Opened) → unmatched_rows (w ∷ list) lines ≡ cond (list_any (same_row w.row) lines) (unmatched_rows list (without_line w.row lines)) (w ∷ unmatched_rows list lines)
row_unmatched w list [] = refl
row_unmatched w list (l ∷ lines) = by_test (same_row w.row l) (row_unmatched w (without_row l list) lines) where
  by_test : (b : Bool) → unmatched_rows (w ∷ without_row l list) lines ≡ cond (list_any (same_row w.row) lines) (unmatched_rows (without_row l list) (without_line w.row lines)) (w ∷ unmatched_rows (without_row l list) lines)
      → unmatched_rows (cond b list (w ∷ without_row l list)) lines ≡ cond (b || list_any (same_row w.row) lines) (unmatched_rows list (cond b lines (l ∷ without_line w.row lines))) (w ∷ unmatched_rows (without_row l list) lines)
  by_test true later = refl
  by_test false later = later

pub lines_unmatched : (w : WorkingRow) (list : List WorkingRow) (lines : List plain.Opened) → unmatched_lines (w ∷ list) lines ≡ unmatched_lines list (without_line w.row lines)
lines_unmatched w list [] = refl
lines_unmatched w list (l ∷ lines) = by_test (same_row w.row l) (list_any (λ v. same_row v.row l) list) refl (lines_unmatched w (without_row l list) lines) (lines_unmatched w list lines) where
  by_test : (b a : Bool) → list_any (λ v. same_row v.row l) list ≡ a
      → unmatched_lines (w ∷ without_row l list) lines ≡ unmatched_lines (without_row l list) (without_line w.row lines) → unmatched_lines (w ∷ list) lines ≡ unmatched_lines list (without_line w.row lines)
      → cond (b || a) (unmatched_lines (cond b list (w ∷ without_row l list)) lines) (l ∷ unmatched_lines (w ∷ list) lines) ≡ unmatched_lines list (cond b lines (l ∷ without_line w.row lines))
  by_test true a f matched others = refl
  by_test false true f matched others = matched ∙ sym (ap (λ c. cond c (unmatched_lines (without_row l list) (without_line w.row lines)) (l ∷ unmatched_lines list (without_line w.row lines))) f)
  by_test false false f matched others = ap (λ ls. l ∷ ls) others ∙ sym (ap (λ c. cond c (unmatched_lines (without_row l list) (without_line w.row lines)) (l ∷ unmatched_lines list (without_line w.row lines))) f)

-- no rows
pub no_rows : (lines : List plain.Opened) → unmatched_rows [] lines ≡ []
no_rows [] = refl
no_rows (l ∷ lines) = no_rows lines

pub no_rows_match : (lines : List plain.Opened) → unmatched_lines [] lines ≡ lines
no_rows_match [] = refl
no_rows_match (l ∷ lines) = ap (λ ls. l ∷ ls) (no_rows_match lines)

-- a row that no line is the same as
pub nothing_without : (row : plain.Opened) (lines : List plain.Opened) → list_any (same_row row) lines ≡ false → without_line row lines ≡ lines
nothing_without row [] e = refl
nothing_without row (l ∷ lines) e = by_test (same_row row l) e (nothing_without row lines) where
  by_test : (b : Bool) → (b || list_any (same_row row) lines) ≡ false → (list_any (same_row row) lines ≡ false → without_line row lines ≡ lines) → cond b lines (l ∷ without_line row lines) ≡ l ∷ lines
  by_test true f later = absurd (cc)
  by_test false f later = ap (λ ls. l ∷ ls) (later f)

-- MARKS

pub no_marks : (lines : List plain.Opened) (n : ℕ) → unmarked_lines lines (replicate n false) ≡ lines
no_marks [] n = refl
no_marks (l ∷ lines) zero = refl
no_marks (l ∷ lines) (suc n) = ap (λ ls. l ∷ ls) (no_marks lines n)

-- the row is the same as no line but the one at a place
abbrev pub IsAlone : plain.Opened → List plain.Opened → ℕ → Type 0
IsAlone row lines at = (i : ℕ) (l : plain.Opened) → slice_get lines i ≡ Some l → same_row row l ≡ true → i ≡ at

alone_behind : (row l : plain.Opened) (lines : List plain.Opened) (at : ℕ) → IsAlone row (l ∷ lines) (suc at) → IsAlone row lines at
alone_behind row l lines at alone i o e s = let n = alone (suc i) o e s in omega arith

-- no line is the same
pub none_same : (row : plain.Opened) (lines : List plain.Opened) (marks : List Bool) → ((i : ℕ) (l : plain.Opened) → slice_get lines i ≡ Some l → same_row row l ≡ false) → list_any (same_row row) (unmarked_lines lines marks) ≡ false
none_same row [] marks none = refl
none_same row (l ∷ lines) [] none = all (l ∷ lines) none where
  all : (ls : List plain.Opened) → ((i : ℕ) (o : plain.Opened) → slice_get ls i ≡ Some o → same_row row o ≡ false) → list_any (same_row row) ls ≡ false
  all [] n = refl
  all (o ∷ ls) n = let here = n 0 o refl in rw here (all ls (λ i p e. n (suc i) p e))
none_same row (l ∷ lines) (true ∷ marks) none = none_same row lines marks (λ i o e. none (suc i) o e)
none_same row (l ∷ lines) (false ∷ marks) none = let here = none 0 l refl in rw here (none_same row lines marks (λ i o e. none (suc i) o e))

-- the only line that is the same has a mark
pub marked_same : (row : plain.Opened) (lines : List plain.Opened) (marks : List Bool) (at : ℕ) → IsAlone row lines at → slice_get marks at ≡ Some true → list_any (same_row row) (unmarked_lines lines marks) ≡ false
marked_same row [] marks at alone e = refl
marked_same row (l ∷ lines) [] at alone e = absurd (cc)
marked_same row (l ∷ lines) (mark ∷ marks) zero alone e = let m : mark ≡ true = cc in rw m (none_same row lines marks (λ i o f. by_test i o f (same_row row o) refl)) where
  by_test : (i : ℕ) (o : plain.Opened) → slice_get lines i ≡ Some o → (b : Bool) → same_row row o ≡ b → same_row row o ≡ false
  by_test i o f true s = absurd (let n = alone (suc i) o f s in omega arith)
  by_test i o f false s = s
marked_same row (l ∷ lines) (true ∷ marks) (suc at) alone e = marked_same row lines marks at (alone_behind row l lines at alone) e
marked_same row (l ∷ lines) (false ∷ marks) (suc at) alone e = by_test (same_row row l) refl (marked_same row lines marks at (alone_behind row l lines at alone) e) where
  by_test : (b : Bool) → same_row row l ≡ b → list_any (same_row row) (unmarked_lines lines marks) ≡ false → (b || list_any (same_row row) (unmarked_lines lines marks)) ≡ false
  by_test true s later = absurd (let n = alone 0 l refl s in omega arith)
  by_test false s later = later

-- the only line that is the same has no mark, and gets one
pub marked_now : (row : plain.Opened) (lines : List plain.Opened) (marks : List Bool) (at : ℕ) (line : plain.Opened) → IsAlone row lines at → slice_get lines at ≡ Some line → same_row row line ≡ true → slice_get marks at ≡ Some false
    → (list_any (same_row row) (unmarked_lines lines marks) ≡ true) × (unmarked_lines lines (set marks at true) ≡ without_line row (unmarked_lines lines marks))
marked_now row [] marks at line alone there s e = absurd (cc)
marked_now row (l ∷ lines) [] at line alone there s e = absurd (cc)
marked_now row (l ∷ lines) (mark ∷ marks) zero line alone there s e =
    let m : mark ≡ false = cc in
    let same : same_row row l ≡ true = let q : l ≡ line = cc in ap (same_row row) q ∙ s in
    rw m (rw same (refl, refl))
marked_now row (l ∷ lines) (true ∷ marks) (suc at) line alone there s e = marked_now row lines marks at line (alone_behind row l lines at alone) there s e
marked_now row (l ∷ lines) (false ∷ marks) (suc at) line alone there s e = by_test (same_row row l) refl (marked_now row lines marks at line (alone_behind row l lines at alone) there s e) where
  by_test : (b : Bool) → same_row row l ≡ b → (list_any (same_row row) (unmarked_lines lines marks) ≡ true) × (unmarked_lines lines (set marks at true) ≡ without_line row (unmarked_lines lines marks)) → ((b || list_any (same_row row) (unmarked_lines lines marks)) ≡ true) × (l ∷ unmarked_lines lines (set marks at true) ≡ cond b (unmarked_lines lines marks) (l ∷ without_line row (unmarked_lines lines marks)))
  by_test true f later = absurd (let n = alone 0 l refl f in omega arith)
  by_test false f later = (later.0, ap (λ ls. l ∷ ls) later.1)

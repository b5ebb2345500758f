-- The ids by key as rows are added to them or taken away.
use Rattle.std.proofs.Common.{◌≡◌, ℕ, zero, suc, ◌+◌, ◌<◌, ◌≤◌, Bool, true, false, ◌&&◌, ◌||◌, not, nat_eq, List, [], ◌∷◌, ◌++◌, length, take, get_or, slice_get, Some, refl, sym, ap, ◌∙◌, arith}
use Rattle.std.proofs.lemmas.List.{take_more}
use Rattle.std.proofs.lemmas.List.Folds.{list_any-append}
use Rattle.std.proofs.lemmas.Option.{slice_get_read}
use Rattle.tl_types.specs.declared.cells.Cell.{Cell}
use Rattle.tl_types.specs.History.{same_cell}
use Rattle.tl_types.specs.Plain as plain
use Rattle.tl_types.specs.Resolving.{same_key}
use Rattle.tl_batch.specs.declared.following.KeyedRow.{KeyedRow}
use Rattle.tl_batch.specs.ClosedRows.{has_keyed}
use Rattle.tl_batch.specs.KeyIndex.{IdsByKey, has_row}
use Rattle.tl_batch.specs.Standing.{opens_with}
use Rattle.tl_batch.proofs.KeyIndexLemmas.{cell_sym}

and_false : (b : Bool) → (b && false) ≡ false
and_false true = refl
and_false false = refl

gone_more : (k a s : Bool) → (not a && (not k && s)) ≡ (not (k || (a || false)) && s)
gone_more true true s = refl
gone_more true false s = refl
gone_more false true s = refl
gone_more false false s = refl

-- a removal more
pub keyed_gone : (gone : List KeyedRow) (i : ℕ) (s : KeyedRow) (before start after : IdsByKey) (x : Cell) (n : ℕ) → i < length gone → s ≡ get_or gone i s
    → has_row before x n ≡ (not (has_keyed (take i gone) x n) && has_row start x n) → has_row after x n ≡ (not (same_cell x s.key && nat_eq n s.id) && has_row before x n)
    → has_row after x n ≡ (not (has_keyed (take (i + 1) gone) x n) && has_row start x n)
keyed_gone gone i s before start after x n h at e f =
    let front : take (i + 1) gone ≡ take i gone ++ s ∷ [] = take_more gone i s h ∙ ap (λ q. take i gone ++ q ∷ []) (sym at) in
    let has : has_keyed (take (i + 1) gone) x n ≡ (has_keyed (take i gone) x n || ((same_cell x s.key && nat_eq n s.id) || false)) = ap (λ ss. has_keyed ss x n) front ∙ list_any-append (λ q. same_cell x q.key && nat_eq n q.id) (take i gone) (s ∷ []) in
    f
    ∙ (ap (λ v. not (same_cell x s.key && nat_eq n s.id) && v) e
    ∙ (gone_more (has_keyed (take i gone) x n) (same_cell x s.key && nat_eq n s.id) (has_row start x n) ∙ ap (λ v. not v && has_row start x n) (sym has)))

-- ROWS

-- a row more
pub opens_more : (place first : ℕ) (rows : List plain.Opened) (i : ℕ) (o : plain.Opened) (x : Cell) (n : ℕ) → i < length rows → o ≡ get_or rows i o
    → opens_with place first (take (i + 1) rows) x n ≡ ((same_key (slice_get o.cells place) (Some x) && nat_eq n (first + i)) || opens_with place first (take i rows) x n)
opens_more place first [] i o x n h at = absurd (omega arith)
opens_more place first (r ∷ rows) zero o x n h at = grind arith
opens_more place first (r ∷ rows) (suc i) o x n h at =
    let next : suc i + 1 ≡ suc (i + 1) = omega arith in
    let number : first + 1 + i ≡ first + suc i = omega arith in
    let later = opens_more place (first + 1) rows i o x n (omega arith) at in
    let here : Bool = same_key (slice_get r.cells place) (Some x) && nat_eq n first in
    ap (λ m. opens_with place first (take m (r ∷ rows)) x n) next
    ∙ (ap (λ v. here || v) (later ∙ ap (λ m. (same_key (slice_get o.cells place) (Some x) && nat_eq n m) || opens_with place (first + 1) (take i rows) x n) number)
    ∙ swap here (same_key (slice_get o.cells place) (Some x) && nat_eq n (first + suc i)) (opens_with place (first + 1) (take i rows) x n)) where
      swap : (a b c : Bool) → (a || (b || c)) ≡ (b || (a || c))
      swap true true c = refl
      swap true false c = refl
      swap false true c = refl
      swap false false c = refl

-- no row before the first
pub opens_from : (place first : ℕ) (rows : List plain.Opened) (x : Cell) (n : ℕ) → n < first → opens_with place first rows x n ≡ false
opens_from place first [] x n h = refl
opens_from place first (o ∷ rows) x n h = grind (arith, and_false (same_key (slice_get o.cells place) (Some x)), opens_from place (first + 1) rows x n (omega arith))

-- one more row is added
where_row_added : (place first : ℕ) (rows : List plain.Opened) (i id : ℕ) (o : plain.Opened) (key copy : Cell) (before start after : Cell → ℕ → Bool) → i < length rows → o ≡ get_or rows i o → place < length o.cells → key ≡ get_or o.cells place key → copy ≡ key → id ≡ first + i
    → ((x : Cell) (n : ℕ) → before x n ≡ (opens_with place first (take i rows) x n || start x n))
    → ((x : Cell) (n : ℕ) → after x n ≡ ((same_cell x copy && nat_eq n id) || before x n))
    → (x : Cell) (n : ℕ) → after x n ≡ (opens_with place first (take (i + 1) rows) x n || start x n)
where_row_added place first rows i id o key copy before start after h at there is same number e f x n = grind (arith, slice_get_read o.cells (length o.cells) place key refl there is, cell_sym x key, opens_more place first rows i o x n h)

pub row_added : (place first : ℕ) (rows : List plain.Opened) (i id : ℕ) (o : plain.Opened) (key copy : Cell) (before start after : IdsByKey) → i < length rows → o ≡ get_or rows i o → place < length o.cells → key ≡ get_or o.cells place key → copy ≡ key → id ≡ first + i
    → ((x : Cell) (n : ℕ) → has_row before x n ≡ (opens_with place first (take i rows) x n || has_row start x n))
    → ((x : Cell) (n : ℕ) → has_row after x n ≡ ((same_cell x copy && nat_eq n id) || has_row before x n))
    → (x : Cell) (n : ℕ) → has_row after x n ≡ (opens_with place first (take (i + 1) rows) x n || has_row start x n)
row_added place first rows i id o key copy before start after h at there is same number e f x n = where_row_added place first rows i id o key copy (has_row before) (has_row start) (has_row after) h at there is same number e f x n

-- a row less
where_row_taken : (place first : ℕ) (rows : List plain.Opened) (i id : ℕ) (o : plain.Opened) (key : Cell) (before start after : Cell → ℕ → Bool) → i < length rows → o ≡ get_or rows i o → place < length o.cells → key ≡ get_or o.cells place key → id ≡ first + i
    → ((x : Cell) (n : ℕ) → before x n ≡ (not (opens_with place first (take i rows) x n) && start x n))
    → ((x : Cell) (n : ℕ) → after x n ≡ (not (same_cell x key && nat_eq n id) && before x n))
    → (x : Cell) (n : ℕ) → after x n ≡ (not (opens_with place first (take (i + 1) rows) x n) && start x n)
where_row_taken place first rows i id o key before start after h at there is number e f x n = grind (arith, slice_get_read o.cells (length o.cells) place key refl there is, cell_sym x key, opens_more place first rows i o x n h)

pub row_taken : (place first : ℕ) (rows : List plain.Opened) (i id : ℕ) (o : plain.Opened) (key : Cell) (before start after : IdsByKey) → i < length rows → o ≡ get_or rows i o → place < length o.cells → key ≡ get_or o.cells place key → id ≡ first + i
    → ((x : Cell) (n : ℕ) → has_row before x n ≡ (not (opens_with place first (take i rows) x n) && has_row start x n))
    → ((x : Cell) (n : ℕ) → has_row after x n ≡ (not (same_cell x key && nat_eq n id) && has_row before x n))
    → (x : Cell) (n : ℕ) → has_row after x n ≡ (not (opens_with place first (take (i + 1) rows) x n) && has_row start x n)
row_taken place first rows i id o key before start after h at there is number e f x n = where_row_taken place first rows i id o key (has_row before) (has_row start) (has_row after) h at there is number e f x n

-- the first rows are rows
opens_front : (place first i : ℕ) (rows : List plain.Opened) (x : Cell) (n : ℕ) → opens_with place first (take i rows) x n ≡ true → opens_with place first rows x n ≡ true
opens_front place first zero rows x n e = absurd (cc)
opens_front place first (suc i) [] x n e = absurd (cc)
opens_front place first (suc i) (o ∷ rows) x n e = grind (arith, opens_front place (first + 1) i rows x n)

-- what is there while rows are added is theirs or was there, and what was there still is
pub most_so_far : (place first i : ℕ) (rows : List plain.Opened) (start now : IdsByKey) (x : Cell) (n : ℕ) → has_row now x n ≡ (opens_with place first (take i rows) x n || has_row start x n)
    → has_row now x n ≡ true → (opens_with place first rows x n || has_row start x n) ≡ true
most_so_far place first i rows start now x n e h = grind (arith, opens_front place first i rows x n)

where_least_so_far : (place first i : ℕ) (rows : List plain.Opened) (start now : Cell → ℕ → Bool) (x : Cell) (n : ℕ) → now x n ≡ (opens_with place first (take i rows) x n || start x n)
    → start x n ≡ true → now x n ≡ true
where_least_so_far place first i rows start now x n e h = grind arith

pub least_so_far : (place first i : ℕ) (rows : List plain.Opened) (start now : IdsByKey) (x : Cell) (n : ℕ) → has_row now x n ≡ (opens_with place first (take i rows) x n || has_row start x n)
    → has_row start x n ≡ true → has_row now x n ≡ true
least_so_far place first i rows start now x n e h = where_least_so_far place first i rows (has_row start) (has_row now) x n e h

-- rows that were added in part and are taken away again
where_rows_undone : (place first : ℕ) (rows : List plain.Opened) (old mid new : Cell → ℕ → Bool) → ((x : Cell) (n : ℕ) → first ≤ n → old x n ≡ false)
    → ((x : Cell) (n : ℕ) → mid x n ≡ true → (opens_with place first rows x n || old x n) ≡ true) → ((x : Cell) (n : ℕ) → old x n ≡ true → mid x n ≡ true)
    → ((x : Cell) (n : ℕ) → new x n ≡ (not (opens_with place first rows x n) && mid x n)) → (x : Cell) (n : ℕ) → new x n ≡ old x n
where_rows_undone place first rows old mid new below most least undone x n = grind (arith, undone x n, most x n, least x n, below x n, opens_from place first rows x n)

pub rows_undone : (place first : ℕ) (rows : List plain.Opened) (old mid new : IdsByKey) → ((x : Cell) (n : ℕ) → first ≤ n → has_row old x n ≡ false)
    → ((x : Cell) (n : ℕ) → has_row mid x n ≡ true → (opens_with place first rows x n || has_row old x n) ≡ true) → ((x : Cell) (n : ℕ) → has_row old x n ≡ true → has_row mid x n ≡ true)
    → ((x : Cell) (n : ℕ) → has_row new x n ≡ (not (opens_with place first rows x n) && has_row mid x n)) → (x : Cell) (n : ℕ) → has_row new x n ≡ has_row old x n
rows_undone place first rows old mid new below most least undone x n = where_rows_undone place first rows (has_row old) (has_row mid) (has_row new) below most least undone x n

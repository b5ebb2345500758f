-- The line that may be the same as a row, and what becomes of the lines that no row is matched with.
use Rattle.std.proofs.Common.{◌≡◌, ℕ, zero, suc, ◌+◌, ◌<◌, ◌≤◌, ℤ, Bool, true, false, ◌&&◌, cond, List, [], ◌∷◌, ◌++◌, append-nil, append_assoc, drop, length, set, get_or, slice_get, Option, Some, None, subst, refl, sym, ap, ◌∙◌, arith}
use Rattle.std.specs.List.{list_any}
use Rattle.std.specs.Map.{lookup}
use Rattle.std.specs.Ordering.{int_eq}
use Rattle.std.specs.Cmp.{int_eq_equiv}
use Rattle.std.specs.Cmp.Lexicographic.{pointwise}
use Rattle.std.proofs.lemmas.Bool.{and_parts, and_from}
use Rattle.std.proofs.lemmas.Option.{slice_get_read}
use Rattle.tl_types.specs.declared.cells.Cell.{Cell}
use Rattle.tl_types.specs.Plain as plain
use Rattle.tl_types.specs.History.{same_cell}
use Rattle.tl_types.specs.Resolving.{WorkingRow, ids_of, same_period, same_row, unmatched_lines, unmatched_rows}
use Rattle.tl_batch.specs.declared.line_places.LineStart.{LineStart}
use Rattle.tl_batch.specs.Syncing.{ArePlaced, UnmatchedLines, place_at, as_opened, start_of, unmarked_lines, without_line, working_row, working_rows}
use Rattle.tl_batch.proofs.KeyIndexLemmas.{cell_sym, same_as}
use Rattle.tl_batch.proofs.OverlapFaults.{drop_at}
use Rattle.tl_batch.proofs.SyncLemmas.{lines_unmatched, marked_now, marked_same, no_rows, no_rows_match, none_same, nothing_without, row_unmatched}

-- THE PLACE OF A LINE THAT IS THE SAME

-- cells that are the same at each place are so at one
same_at : (xs ys : List Cell) (place : ℕ) (x : Cell) → pointwise same_cell xs ys ≡ true → slice_get xs place ≡ Some x → (y : Cell) × (slice_get ys place ≡ Some y) × (same_cell x y ≡ true)
same_at [] ys place x e at = absurd (cc)
same_at (z ∷ xs) [] place x e at = absurd (cc)
same_at (z ∷ xs) (y ∷ ys) zero x e at = let same : z ≡ x = cc in (y, refl, ap (λ w. same_cell w y) (sym same) ∙ (and_parts (same_cell z y) (pointwise same_cell xs ys) e).0)
same_at (z ∷ xs) (y ∷ ys) (suc place) x e at = same_at xs ys place x (and_parts (same_cell z y) (pointwise same_cell xs ys) e).1 at

-- periods that are the same begin at one moment
same_starts : (p q : Option plain.Period) → same_period p q ≡ true → int_eq (start_of p) (start_of q) ≡ true
same_starts None None e = int_eq_equiv.refl (start_of None)
same_starts None (Some q) e = absurd (cc)
same_starts (Some p) None e = absurd (cc)
same_starts (Some p) (Some q) e = (and_parts (int_eq p.from q.from) (int_eq p.to q.to) e).0

-- keys and starts that are the same have one place
place_same : (x y : Cell) (t u : ℤ) (places : List (LineStart × ℕ)) → same_cell x y ≡ true → int_eq t u ≡ true → place_at x t places ≡ place_at y u places
place_same x y t u [] e f = refl
place_same x y t u (s ∷ places) e f =
    let test : (same_cell x s.0.key && int_eq t s.0.from) ≡ (same_cell y s.0.key && int_eq u s.0.from) = ap (λ b. b && int_eq t s.0.from) (same_as x y s.0.key e) ∙ ap (λ b. same_cell y s.0.key && b) (int_eq_equiv.congr t u s.0.from f) in
    ap (λ b. cond b (Some s.1) (place_at x t places)) test ∙ ap (λ o. cond (same_cell y s.0.key && int_eq u s.0.from) (Some s.1) o) (place_same x y t u places e f)

-- a line that is the same as the row stands at the place that is found
abbrev pub IsOnly : plain.Row → List plain.Opened → Option ℕ → Type 0
IsOnly r lines found = (i : ℕ) (l : plain.Opened) → slice_get lines i ≡ Some l → same_row (as_opened r) l ≡ true → found ≡ Some i

pub only_there : (place at : ℕ) (lines : List plain.Opened) (places : List (LineStart × ℕ)) (r : plain.Row) (key : Cell) (from : ℤ) (found : Option ℕ) → ArePlaced place lines places → place ≡ at → slice_get r.cells at ≡ Some key → from ≡ start_of r.period → found ≡ place_at key from places
    → IsOnly r lines found
only_there place at lines places r key from found placed here keyed start is i l e f =
    let parts = and_parts (pointwise same_cell r.cells l.cells) (same_period r.period l.period) f in
    let cell = same_at r.cells l.cells place key parts.0 (ap (slice_get r.cells) here ∙ keyed) in
    is ∙ (ap (λ t. place_at key t places) start ∙ (place_same key cell.0 (start_of r.period) (start_of l.period) places cell.2 (same_starts r.period l.period parts.1) ∙ placed i l cell.0 e cell.1))

drop_past : (ids : List ℕ) (i : ℕ) → length ids ≤ i → drop i ids ≡ []
drop_past [] zero h = refl
drop_past [] (suc i) h = refl
drop_past (id ∷ ids) zero h = absurd (omega arith)
drop_past (id ∷ ids) (suc i) h = drop_past ids i (omega arith)

-- NO LINE IS MATCHED

some_is : (i j : ℕ) → Some i ≡ Some j → i ≡ j
some_is i j e = cc

not_same : (r : plain.Row) (l : plain.Opened) → (same_row (as_opened r) l ≡ true → ⊥) → same_row (as_opened r) l ≡ false
not_same r l apart = by_test (same_row (as_opened r) l) refl where
  by_test : (b : Bool) → same_row (as_opened r) l ≡ b → same_row (as_opened r) l ≡ false
  by_test true e = absurd (apart e)
  by_test false e = e

-- no place is found
pub none_placed : (r : plain.Row) (lines : List plain.Opened) (marks : List Bool) (found : Option ℕ) → IsOnly r lines found → found ≡ None → list_any (same_row (as_opened r)) (unmarked_lines lines marks) ≡ false
none_placed r lines marks found only none = none_same (as_opened r) lines marks (λ i l e. not_same r l (λ f. (let a : None ≡ Some i = sym none ∙ only i l e f in absurd (cc))))

within : (lines : List plain.Opened) (i : ℕ) (l : plain.Opened) → slice_get lines i ≡ Some l → i < length lines
within [] i l e = absurd (cc)
within (m ∷ lines) zero l e = omega arith
within (m ∷ lines) (suc i) l e = let h = within lines i l e in omega arith

-- no line has the place
pub none_within : (r : plain.Row) (lines : List plain.Opened) (marks : List Bool) (found : Option ℕ) (at : ℕ) → IsOnly r lines found → found ≡ Some at → length lines ≤ at → list_any (same_row (as_opened r)) (unmarked_lines lines marks) ≡ false
none_within r lines marks found at only is past = none_same (as_opened r) lines marks (λ i l e. not_same r l (λ f. (let a : at ≡ i = some_is at i (sym is ∙ only i l e f) in let h = within lines i l e in absurd (omega arith))))

-- the line that has the place has a mark
pub none_free : (r : plain.Row) (lines : List plain.Opened) (marks : List Bool) (found : Option ℕ) (at : ℕ) → IsOnly r lines found → found ≡ Some at → at < length marks → true ≡ get_or marks at true → list_any (same_row (as_opened r)) (unmarked_lines lines marks) ≡ false
none_free r lines marks found at only is h mark = marked_same (as_opened r) lines marks at (λ i l e f. sym (some_is at i (sym is ∙ only i l e f))) (slice_get_read marks (length marks) at true refl h mark)

-- the line that has the place is another one
pub none_other : (r : plain.Row) (lines : List plain.Opened) (marks : List Bool) (found : Option ℕ) (at : ℕ) (line : plain.Opened) → IsOnly r lines found → found ≡ Some at → at < length lines → line ≡ get_or lines at line → same_row (as_opened r) line ≡ false
    → list_any (same_row (as_opened r)) (unmarked_lines lines marks) ≡ false
none_other r lines marks found at line only is h there other = none_same (as_opened r) lines marks (λ i l e. not_same r l (λ f.
    (let a : at ≡ i = some_is at i (sym is ∙ only i l e f) in
    let b : Some line ≡ Some l = sym (slice_get_read lines (length lines) at line refl h there) ∙ (ap (slice_get lines) a ∙ e) in
    let d : line ≡ l = cc in
    let g : false ≡ true = sym other ∙ (ap (same_row (as_opened r)) d ∙ f) in
    absurd (cc))))

-- WHAT IS LEFT OF THE LINES

-- what comes of a row: whether a line was matched, and the lines that are left
pub record IsMatched (r : plain.Row) (before after : UnmatchedLines) (matched : Bool) : Type 0 where
  pub matched_is : matched ≡ list_any (same_row (as_opened r)) before.lines
  pub left : after ≡ record { key = before.key; lines = without_line (as_opened r) before.lines }

pub row_alone : (r : plain.Row) (view self : UnmatchedLines) → view ≡ self → list_any (same_row (as_opened r)) view.lines ≡ false → IsMatched r self self false
row_alone r view self is none = subst (λ v. IsMatched r v v false) is (record { matched_is = sym none; left = ap (λ ls. record { key = view.key; lines = ls }) (sym (nothing_without (as_opened r) view.lines none)) })

pub row_matched : (r : plain.Row) (place : ℕ) (lines : List plain.Opened) (marks : List Bool) (found : Option ℕ) (at : ℕ) (line : plain.Opened) (self : UnmatchedLines) → record { key = place; lines = unmarked_lines lines marks } ≡ self → IsOnly r lines found → found ≡ Some at → at < length lines → line ≡ get_or lines at line
    → same_row (as_opened r) line ≡ true → at < length marks → false ≡ get_or marks at false → IsMatched r self (record { key = place; lines = unmarked_lines lines (set marks at true) }) true
row_matched r place lines marks found at line self view only is h there same k mark =
    let now = marked_now (as_opened r) lines marks at line (λ i l e f. sym (some_is at i (sym is ∙ only i l e f))) (slice_get_read lines (length lines) at line refl h there) same (slice_get_read marks (length marks) at false refl k mark) in
    subst (λ v. IsMatched r v (record { key = place; lines = unmarked_lines lines (set marks at true) }) true) view (record { matched_is = sym now.0; left = ap (λ ls. record { key = place; lines = ls }) now.1 })

-- ROWS ONE AFTER THE OTHER

pub row_there : (rows : List plain.Row) (n : ℕ) → n < length rows → (r : plain.Row) × (slice_get rows n ≡ Some r)
row_there [] n h = absurd (omega arith)
row_there (r ∷ rows) zero h = (r, refl)
row_there (r ∷ rows) (suc n) h = row_there rows n (omega arith)

same_there : (ids : List ℕ) (i d e : ℕ) → i < length ids → get_or ids i d ≡ get_or ids i e
same_there [] i d e h = absurd (omega arith)
same_there (id ∷ ids) zero d e h = refl
same_there (id ∷ ids) (suc i) d e h = same_there ids i d e (omega arith)

-- the first of the rows to come
pub next_row : (rows : List plain.Row) (ids : List ℕ) (i id : ℕ) (r : plain.Row) → i < length ids → id ≡ get_or ids i 0 → slice_get rows id ≡ Some r → working_rows rows (drop i ids) ≡ record { id = Some id; row = as_opened r } ∷ working_rows rows (drop (i + 1) ids)
next_row rows ids i id r h at there = ap (working_rows rows) (drop_at ids i id h (at ∙ same_there ids i 0 id h)) ∙ ap (λ o. working_row id o ++ working_rows rows (drop (i + 1) ids)) there

-- a row more is matched, or closed
pub row_step : (id : ℕ) (r : plain.Row) (list : List WorkingRow) (before after : UnmatchedLines) (old new total : List ℕ) (matched : Bool) → matched ≡ list_any (same_row (as_opened r)) before.lines → after ≡ record { key = before.key; lines = without_line (as_opened r) before.lines } → new ≡ old ++ cond matched [] (id ∷ [])
    → old ++ ids_of (unmatched_rows (record { id = Some id; row = as_opened r } ∷ list) before.lines) ≡ total → new ++ ids_of (unmatched_rows list after.lines) ≡ total
row_step id r list before after old new total true is left made e =
    ap (λ ns. ns ++ ids_of (unmatched_rows list after.lines)) (made ∙ append-nil old)
    ∙ (ap (λ (v : UnmatchedLines). old ++ ids_of (unmatched_rows list v.lines)) left ∙ (sym (ap (λ ws. old ++ ids_of ws) (row_unmatched w list before.lines ∙ ap (λ b. cond b (unmatched_rows list (without_line (as_opened r) before.lines)) (w ∷ unmatched_rows list before.lines)) (sym is))) ∙ e)) where
      w : WorkingRow
      w = record { id = Some id; row = as_opened r }
row_step id r list before after old new total false is left made e =
    ap (λ ns. ns ++ ids_of (unmatched_rows list after.lines)) made
    ∙ (ap (λ (v : UnmatchedLines). (old ++ id ∷ []) ++ ids_of (unmatched_rows list v.lines)) left ∙ (ap (λ ls. (old ++ id ∷ []) ++ ids_of (unmatched_rows list ls)) (nothing_without (as_opened r) before.lines (sym is))
    ∙ (append_assoc old (id ∷ []) (ids_of (unmatched_rows list before.lines)) ∙ (sym (ap (λ ws. old ++ ids_of ws) (row_unmatched w list before.lines ∙ ap (λ b. cond b (unmatched_rows list (without_line (as_opened r) before.lines)) (w ∷ unmatched_rows list before.lines)) (sym is))) ∙ e)))) where
      w : WorkingRow
      w = record { id = Some id; row = as_opened r }

pub lines_step : (id : ℕ) (r : plain.Row) (list : List WorkingRow) (before after : UnmatchedLines) (total : List plain.Opened) → after ≡ record { key = before.key; lines = without_line (as_opened r) before.lines } → unmatched_lines (record { id = Some id; row = as_opened r } ∷ list) before.lines ≡ total
    → unmatched_lines list after.lines ≡ total
lines_step id r list before after total left e = ap (λ (v : UnmatchedLines). unmatched_lines list v.lines) left ∙ (sym (lines_unmatched (record { id = Some id; row = as_opened r }) list before.lines) ∙ e)

-- no row more
pub rows_end : (rows : List plain.Row) (ids : List ℕ) (i : ℕ) (lines : List plain.Opened) (closes total : List ℕ) → length ids ≤ i → closes ++ ids_of (unmatched_rows (working_rows rows (drop i ids)) lines) ≡ total → closes ≡ total
rows_end rows ids i lines closes total end e = sym (append-nil closes) ∙ (sym (ap (λ ws. closes ++ ids_of ws) (ap (λ ns. unmatched_rows (working_rows rows ns) lines) (drop_past ids i end) ∙ no_rows lines)) ∙ e)

pub lines_end : (rows : List plain.Row) (ids : List ℕ) (i : ℕ) (lines total : List plain.Opened) → length ids ≤ i → unmatched_lines (working_rows rows (drop i ids)) lines ≡ total → lines ≡ total
lines_end rows ids i lines total end e = sym (no_rows_match lines) ∙ (sym (ap (λ ns. unmatched_lines (working_rows rows ns) lines) (drop_past ids i end)) ∙ e)

-- After a SYNC the open rows of its table are the lines of its block, each as often.
use Rattle.std.proofs.Common.{◌≡◌, ℕ, ◌+◌, ◌<◌, ◌≤◌, Bool, true, false, ◌||◌, cond, ◌==◌, List, [], ◌∷◌, ◌++◌, length, map, Option, Some, None, refl, sym, ap, ◌∙◌, arith}
use Rattle.std.specs.List.{enumerate_from, filter, list_any}
use Rattle.std.specs.Cmp.Lexicographic.{pointwise}
use Rattle.std.specs.Ordering.{int_eq}
use Rattle.std.proofs.lemmas.Bool.Decides.{Decides-int_eq, nat_tests}
use Rattle.tl_types.specs.declared.cells.Cell.{Cell}
use Rattle.tl_types.specs.History.{has_id, is_open, new_row, open_end, row_after, same_cell, table_after}
use Rattle.tl_types.specs.Plain as plain
use Rattle.tl_types.specs.Resolving.{WorkingRow, ids_of, open_rows, same_period, same_row, sync_change, unmatched_lines, unmatched_rows, without_row}
use Rattle.tl_types.proofs.Lists.{and_left, and_right}
use Rattle.tl_query.proofs.CellOrder.{cell_equal}
use Rattle.tl_batch.specs.Syncing.{without_line}
use Rattle.tl_batch.proofs.SyncLemmas.{no_rows, row_unmatched}
use Rattle.tl_jobs.specs.Synced.{how_often, how_often_said, AreOpenRows}

-- ROWS THAT ARE THE SAME

cells_equal : (xs ys : List Cell) → pointwise same_cell xs ys ≡ true → xs ≡ ys
cells_equal [] [] h = refl
cells_equal [] (y ∷ ys) h = absurd (cc)
cells_equal (x ∷ xs) [] h = absurd (cc)
cells_equal (x ∷ xs) (y ∷ ys) h =
    ap (λ c. c ∷ xs) (cell_equal x y (and_left (same_cell x y) (pointwise same_cell xs ys) h))
    ∙ ap (λ l. y ∷ l) (cells_equal xs ys (and_right (same_cell x y) (pointwise same_cell xs ys) h))

period_equal : (p q : Option plain.Period) → same_period p q ≡ true → p ≡ q
period_equal None None h = refl
period_equal None (Some q) h = absurd (cc)
period_equal (Some p) None h = absurd (cc)
period_equal (Some p) (Some q) h =
    ap (λ n. Some (record { from = n; to = p.to })) ((Decides-int_eq p.from q.from).0 (and_left (int_eq p.from q.from) (int_eq p.to q.to) h))
    ∙ ap (λ n. Some (record { from = q.from; to = n })) ((Decides-int_eq p.to q.to).0 (and_right (int_eq p.from q.from) (int_eq p.to q.to) h))

row_equal : (o p : plain.Opened) → same_row o p ≡ true → o ≡ p
row_equal o p h =
    ap (λ cs. record { cells = cs; period = o.period }) (cells_equal o.cells p.cells (and_left (pointwise same_cell o.cells p.cells) (same_period o.period p.period) h))
    ∙ ap (λ q. record { cells = p.cells; period = q }) (period_equal o.period p.period (and_right (pointwise same_cell o.cells p.cells) (same_period o.period p.period) h))

-- HOW OFTEN

-- one or none
abbrev bit : Bool → ℕ
bit true = 1
bit false = 0

often_more : (o : plain.Opened) (w : WorkingRow) (list : List WorkingRow) → how_often o (w ∷ list) ≡ bit (same_row w.row o) + how_often o list
often_more o w list = by_test (same_row w.row o) where
  by_test : (b : Bool) → length (cond b (w ∷ filter (λ v. same_row v.row o) list) (filter (λ v. same_row v.row o) list)) ≡ bit b + how_often o list
  by_test true = omega arith
  by_test false = omega arith

said_more : (o line : plain.Opened) (lines : List plain.Opened) → how_often_said o (line ∷ lines) ≡ bit (same_row line o) + how_often_said o lines
said_more o line lines = by_test (same_row line o) where
  by_test : (b : Bool) → length (cond b (line ∷ filter (λ l. same_row l o) lines) (filter (λ l. same_row l o) lines)) ≡ bit b + how_often_said o lines
  by_test true = omega arith
  by_test false = omega arith

-- THE LINES THAT ARE MATCHED

-- a row that a line is matched with is one of its kind less
one_less : (o line : plain.Opened) (list : List WorkingRow) → list_any (λ w. same_row w.row line) list ≡ true → how_often o list ≡ bit (same_row line o) + how_often o (without_row line list)
one_less o line [] h = absurd (cc)
one_less o line (w ∷ list) h = by_test (one_less o line list) (same_row w.row line) refl h where
  by_test : (list_any (λ v. same_row v.row line) list ≡ true → how_often o list ≡ bit (same_row line o) + how_often o (without_row line list)) → (b : Bool) → same_row w.row line ≡ b → (b || list_any (λ v. same_row v.row line) list) ≡ true → how_often o (w ∷ list) ≡ bit (same_row line o) + how_often o (cond b list (w ∷ without_row line list))
  by_test more true e f = often_more o w list ∙ ap (λ r. bit (same_row r o) + how_often o list) (row_equal w.row line e)
  by_test more false e f =
      let later = more f in
      let now = often_more o w list in
      let then_ = often_more o w (without_row line list) in
      omega (arith, later, now, then_)

-- a line that is matched with none leaves them
none_less : (line : plain.Opened) (list : List WorkingRow) → list_any (λ w. same_row w.row line) list ≡ false → without_row line list ≡ list
none_less line [] h = refl
none_less line (w ∷ list) h = by_test (none_less line list) (same_row w.row line) h where
  by_test : (list_any (λ v. same_row v.row line) list ≡ false → without_row line list ≡ list) → (b : Bool) → (b || list_any (λ v. same_row v.row line) list) ≡ false → cond b list (w ∷ without_row line list) ≡ w ∷ list
  by_test more true f = absurd (cc)
  by_test more false f = ap (λ l. w ∷ l) (more f)

-- rows and unmatched lines are as often as lines and unmatched rows
balanced : (o : plain.Opened) (list : List WorkingRow) (lines : List plain.Opened) → how_often o list + how_often_said o (unmatched_lines list lines) ≡ how_often o (unmatched_rows list lines) + how_often_said o lines
balanced o list [] = refl
balanced o list (line ∷ lines) = by_test (λ l. balanced o l lines) (list_any (λ w. same_row w.row line) list) refl where
  by_test : ((l : List WorkingRow) → how_often o l + how_often_said o (unmatched_lines l lines) ≡ how_often o (unmatched_rows l lines) + how_often_said o lines) → (b : Bool) → list_any (λ w. same_row w.row line) list ≡ b
      → how_often o list + how_often_said o (cond b (unmatched_lines (without_row line list) lines) (line ∷ unmatched_lines list lines)) ≡ how_often o (unmatched_rows (without_row line list) lines) + how_often_said o (line ∷ lines)
  by_test rest true e =
      let less = one_less o line list e in
      let later = rest (without_row line list) in
      let more = said_more o line lines in
      omega (arith, less, later, more)
  by_test rest false e =
      let later = rest list in
      let here = said_more o line (unmatched_lines list lines) in
      let more = said_more o line lines in
      let same = ap (λ l. how_often o (unmatched_rows l lines)) (none_less line list e) in
      omega (arith, later, here, more, same)

-- THE ROWS THAT STAY

-- rows of a table, the first of which has this id, as the working list has those that are open
abbrev working : ℕ × plain.Row → WorkingRow
working r = record { id = Some r.0; row = record { cells = r.1.cells; period = r.1.period } }

abbrev open_from : ℕ → List plain.Row → List WorkingRow
open_from n rows = map working (filter (λ r. is_open r.1) (enumerate_from n rows))

-- a row more
open_more : (n : ℕ) (r : plain.Row) (rows : List plain.Row) (b : Bool) → is_open r ≡ b → open_from n (r ∷ rows) ≡ cond b (working (n, r) ∷ open_from (n + 1) rows) (open_from (n + 1) rows)
open_more n r rows true e = rw e refl
open_more n r rows false e = rw e refl

-- how often a row is there does not hang on ids
any_ids : (o : plain.Opened) (n m : ℕ) (rows : List plain.Row) → how_often o (open_from n rows) ≡ how_often o (open_from m rows)
any_ids o n m [] = refl
any_ids o n m (r ∷ rows) = by_test (any_ids o (n + 1) (m + 1) rows) (is_open r) refl where
  by_test : how_often o (open_from (n + 1) rows) ≡ how_often o (open_from (m + 1) rows) → (b : Bool) → is_open r ≡ b → how_often o (open_from n (r ∷ rows)) ≡ how_often o (open_from m (r ∷ rows))
  by_test later true e =
      let one = ap (how_often o) (open_more n r rows true e) ∙ often_more o (working (n, r)) (open_from (n + 1) rows) in
      let two = ap (how_often o) (open_more m r rows true e) ∙ often_more o (working (m, r)) (open_from (m + 1) rows) in
      one ∙ (ap (λ k. bit (same_row (working (n, r)).row o) + k) later ∙ sym two)
  by_test later false e = ap (how_often o) (open_more n r rows false e) ∙ (later ∙ sym (ap (how_often o) (open_more m r rows false e)))

-- the rows behind others
open_append : (o : plain.Opened) (n : ℕ) (xs ys : List plain.Row) → how_often o (open_from n (xs ++ ys)) ≡ how_often o (open_from n xs) + how_often o (open_from 0 ys)
open_append o n [] ys = any_ids o n 0 ys ∙ omega arith
open_append o n (r ∷ xs) ys = by_test (open_append o (n + 1) xs ys) (is_open r) refl where
  by_test : how_often o (open_from (n + 1) (xs ++ ys)) ≡ how_often o (open_from (n + 1) xs) + how_often o (open_from 0 ys) → (b : Bool) → is_open r ≡ b → how_often o (open_from n (r ∷ (xs ++ ys))) ≡ how_often o (open_from n (r ∷ xs)) + how_often o (open_from 0 ys)
  by_test later true e =
      let one = ap (how_often o) (open_more n r (xs ++ ys) true e) ∙ often_more o (working (n, r)) (open_from (n + 1) (xs ++ ys)) in
      let two = ap (how_often o) (open_more n r xs true e) ∙ often_more o (working (n, r)) (open_from (n + 1) xs) in
      omega (arith, one, two, later)
  by_test later false e =
      let one = ap (how_often o) (open_more n r (xs ++ ys) false e) in
      let two = ap (how_often o) (open_more n r xs false e) in
      omega (arith, one, two, later)

-- new rows are open, and are their lines
open_new : (o : plain.Opened) (v n : ℕ) (opens : List plain.Opened) → how_often o (open_from n (map (new_row v) opens)) ≡ how_often_said o opens
open_new o v n [] = refl
open_new o v n (p ∷ opens) =
    let one = often_more o (working (n, new_row v p)) (open_from (n + 1) (map (new_row v) opens)) in
    let two = said_more o p opens in
    let later = open_new o v (n + 1) opens in
    omega (arith, one, two, later)

-- no unmatched row has an id before the first
none_before : (i n : ℕ) (rows : List plain.Row) (lines : List plain.Opened) → i < n → has_id (ids_of (unmatched_rows (open_from n rows) lines)) i ≡ false
none_before i n [] lines lt = ap (λ l. has_id (ids_of l) i) (no_rows lines)
none_before i n (r ∷ rows) lines lt = by_test (λ ls. none_before i (n + 1) rows ls (omega (arith, lt))) (is_open r) refl where
  Later : Type 0
  Later = (ls : List plain.Opened) → has_id (ids_of (unmatched_rows (open_from (n + 1) rows) ls)) i ≡ false

  other : (n == i) ≡ false
  other = grind (arith, nat_tests)

  by_match : Later → (b : Bool) → has_id (ids_of (cond b (unmatched_rows (open_from (n + 1) rows) (without_line (working (n, r)).row lines)) (working (n, r) ∷ unmatched_rows (open_from (n + 1) rows) lines))) i ≡ false
  by_match rest true = rest (without_line (working (n, r)).row lines)
  by_match rest false = rw other (rest lines)

  by_test : Later → (b : Bool) → is_open r ≡ b → has_id (ids_of (unmatched_rows (open_from n (r ∷ rows)) lines)) i ≡ false
  by_test rest true e =
      ap (λ l. has_id (ids_of (unmatched_rows l lines)) i) (open_more n r rows true e)
      ∙ (ap (λ l. has_id (ids_of l) i) (row_unmatched (working (n, r)) (open_from (n + 1) rows) lines)
      ∙ by_match rest (list_any (same_row (working (n, r)).row) lines))
  by_test rest false e =
      ap (λ l. has_id (ids_of (unmatched_rows l lines)) i) (open_more n r rows false e) ∙ rest lines

-- the ids that are closed are those of the unmatched rows, from this one on
abbrev ClosesJust : ℕ → List ℕ → List WorkingRow → Type 0
ClosesJust n closes list = (i : ℕ) → n ≤ i → has_id closes i ≡ has_id (ids_of list) i

-- the rows behind one that is not closed, or is not open
abbrev after_rows : ℕ → List ℕ → ℕ → List plain.Row → List plain.Row
after_rows v closes n rows = map (row_after v closes) (enumerate_from n rows)

ended : (v : ℕ) (r : plain.Row) → v < open_end → is_open (record r { to = v }) ≡ false
ended v r lt = less v open_end lt where
  less : (a b : ℕ) → a < b → (a == b) ≡ false
  less a b lt = grind (arith, nat_tests)

-- rows that are not closed and unmatched rows are all open rows
kept : (o : plain.Opened) (v : ℕ) (closes : List ℕ) (n : ℕ) (rows : List plain.Row) (lines : List plain.Opened) → v < open_end → ClosesJust n closes (unmatched_rows (open_from n rows) lines)
    → how_often o (open_from n (after_rows v closes n rows)) + how_often o (unmatched_rows (open_from n rows) lines) ≡ how_often o (open_from n rows)
kept o v closes n [] lines lt just = let none = ap (how_often o) (no_rows lines) in omega (arith, none)
kept o v closes n (r ∷ rows) lines lt just = by_test (λ ls. kept o v closes (n + 1) rows ls lt) (is_open r) refl where
  Later : Type 0
  Later = (ls : List plain.Opened) → ClosesJust (n + 1) closes (unmatched_rows (open_from (n + 1) rows) ls)
      → how_often o (open_from (n + 1) (after_rows v closes (n + 1) rows)) + how_often o (unmatched_rows (open_from (n + 1) rows) ls) ≡ how_often o (open_from (n + 1) rows)

  w : WorkingRow
  w = working (n, r)

  later_ids : (list other : List WorkingRow) → ((i : ℕ) → n < i → has_id (ids_of list) i ≡ has_id (ids_of other) i) → ClosesJust n closes list → ClosesJust (n + 1) closes other
  later_ids list other same h = λ i le. h i (omega (arith, le)) ∙ same i (omega (arith, le))

  -- the row was not open, so it is not after the change
  closed : (b : Bool) → is_open r ≡ false → is_open (cond b (record r { to = v }) r) ≡ false
  closed true e = ended v r lt
  closed false e = e

  by_match : Later → (b : Bool) → is_open r ≡ true → list_any (same_row w.row) lines ≡ b → ClosesJust n closes (cond b (unmatched_rows (open_from (n + 1) rows) (without_line w.row lines)) (w ∷ unmatched_rows (open_from (n + 1) rows) lines))
      → how_often o (open_from n (row_after v closes (n, r) ∷ after_rows v closes (n + 1) rows)) + how_often o (cond b (unmatched_rows (open_from (n + 1) rows) (without_line w.row lines)) (w ∷ unmatched_rows (open_from (n + 1) rows) lines)) ≡ how_often o (w ∷ open_from (n + 1) rows)
  by_match rest true e m h =
      let list = unmatched_rows (open_from (n + 1) rows) (without_line w.row lines) in
      let stays : has_id closes n ≡ false = h n (omega arith) ∙ none_before n (n + 1) rows (without_line w.row lines) (omega arith) in
      let row : row_after v closes (n, r) ≡ r = rw stays refl in
      let now = ap (λ x. how_often o (open_from n (x ∷ after_rows v closes (n + 1) rows))) row ∙ (ap (how_often o) (open_more n r (after_rows v closes (n + 1) rows) true e) ∙ often_more o w (open_from (n + 1) (after_rows v closes (n + 1) rows))) in
      let was = often_more o w (open_from (n + 1) rows) in
      let later = rest (without_line w.row lines) (later_ids list list (λ i l. refl) h) in
      omega (arith, now, was, later)
  by_match rest false e m h =
      let list = unmatched_rows (open_from (n + 1) rows) lines in
      let goes : has_id closes n ≡ true = h n (omega arith) ∙ itself n (ids_of list) in
      let row : row_after v closes (n, r) ≡ record r { to = v } = rw goes refl in
      let now = ap (λ x. how_often o (open_from n (x ∷ after_rows v closes (n + 1) rows))) row ∙ ap (how_often o) (open_more n (record r { to = v }) (after_rows v closes (n + 1) rows) false (ended v r lt)) in
      let was = often_more o w (open_from (n + 1) rows) in
      let less = often_more o w list in
      let later = rest lines (later_ids (w ∷ list) list (λ i l. past n i (ids_of list) l) h) in
      omega (arith, now, was, less, later) where
        itself : (k : ℕ) (ids : List ℕ) → has_id (k ∷ ids) k ≡ true
        itself k ids = let s : (k == k) ≡ true = grind (arith, nat_tests) in rw s refl

        past : (k i : ℕ) (ids : List ℕ) → k < i → has_id (k ∷ ids) i ≡ has_id ids i
        past k i ids l = let s : (k == i) ≡ false = grind (arith, nat_tests) in rw s refl

  by_test : Later → (b : Bool) → is_open r ≡ b → how_often o (open_from n (after_rows v closes n (r ∷ rows))) + how_often o (unmatched_rows (open_from n (r ∷ rows)) lines) ≡ how_often o (open_from n (r ∷ rows))
  by_test rest true e =
      let list : open_from n (r ∷ rows) ≡ w ∷ open_from (n + 1) rows = open_more n r rows true e in
      let split : unmatched_rows (open_from n (r ∷ rows)) lines ≡ cond (list_any (same_row w.row) lines) (unmatched_rows (open_from (n + 1) rows) (without_line w.row lines)) (w ∷ unmatched_rows (open_from (n + 1) rows) lines) =
      ap (λ l. unmatched_rows l lines) list ∙ row_unmatched w (open_from (n + 1) rows) lines in
      ap (λ u. how_often o (open_from n (after_rows v closes n (r ∷ rows))) + how_often o u) split
      ∙ (by_match rest (list_any (same_row w.row) lines) e refl (λ i le. just i le ∙ ap (λ u. has_id (ids_of u) i) split)
      ∙ sym (ap (how_often o) list))
  by_test rest false e =
      let list : open_from n (r ∷ rows) ≡ open_from (n + 1) rows = open_more n r rows false e in
      let unmatched = ap (λ l. unmatched_rows l lines) list in
      let now = open_more n (row_after v closes (n, r)) (after_rows v closes (n + 1) rows) false (closed (has_id closes n) e) in
      let later = rest lines (λ i le. just i (omega (arith, le)) ∙ ap (λ u. has_id (ids_of u) i) unmatched) in
      ap (λ l. how_often o l + how_often o (unmatched_rows (open_from n (r ∷ rows)) lines)) now
      ∙ (ap (λ u. how_often o (open_from (n + 1) (after_rows v closes (n + 1) rows)) + how_often o u) unmatched
      ∙ (later ∙ sym (ap (how_often o) list)))

-- THE TABLE AFTER IT

pub synced_rows : (version number : ℕ) (table : plain.Table) (lines : List plain.Opened) → version < open_end → AreOpenRows (table_after version (sync_change number table lines) table) lines
synced_rows version number table lines lt o =
    let list = open_rows table in
    let closes = ids_of (unmatched_rows list lines) in
    let both = open_append o 0 (after_rows version closes 0 table.rows) (map (new_row version) (unmatched_lines list lines)) in
    let stay = kept o version closes 0 table.rows lines lt (λ i le. refl) in
    let new = open_new o version 0 (unmatched_lines list lines) in
    let all = balanced o list lines in
    omega (arith, both, stay, new, all)

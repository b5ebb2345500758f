-- The rows that a change closes, where the keys are numbers of a column.
use Rattle.std.proofs.Common.{◌≡◌, ℕ, zero, suc, ℤ, pos, ◌+◌, ◌<◌, Bool, true, false, ◌&&◌, ◌||◌, not, nat_eq, map, List, [], ◌∷◌, ◌++◌, length, take, get_or, slice_get, slice_index_or, Some, refl, sym, ap, ◌∙◌, subst, arith}
use Rattle.std.specs.Cmp.{nat_eq_equiv}
use Rattle.std.specs.List.{All}
use Rattle.std.proofs.lemmas.List.{take_more}
use Rattle.std.proofs.lemmas.List.Folds.{list_any-append}
use Rattle.std.proofs.lemmas.Option.{slice_get-get_or}
use Rattle.tl_types.specs.declared.cells.Cell.{Cell}
use Rattle.tl_types.specs.declared.cells.Cell.TheVariants as cell
use Rattle.tl_types.specs.Plain as plain
use Rattle.tl_types.specs.History.{cell_at, has_id, same_cell}
use Rattle.tl_types.specs.Resolving.{same_key}
use Rattle.tl_store.specs.Reading.{column_cells, some_int}
use Rattle.tl_batch.specs.ClosedRows.{closes_number, is_number}
use Rattle.tl_batch.specs.Standing.{has_key}
use Rattle.tl_batch.proofs.KeyIndexLemmas.{cell_sym}

-- the numbers of a column of keys are the keys
pub keys_are : (place : ℕ) (numbers : List ℤ) (rows : List plain.Row) → map some_int numbers ≡ column_cells rows place → (x : Cell) (n : ℕ) → is_number (slice_get numbers n) x ≡ has_key place x (slice_get rows n)
keys_are place [] [] e x n = refl
keys_are place [] (r ∷ rows) e x n = absurd (cc)
keys_are place (i ∷ numbers) [] e x n = absurd (cc)
keys_are place (i ∷ numbers) (r ∷ rows) e x zero = let here : some_int i ≡ cell_at r.cells place = cc in ap (λ o. same_key o (Some x)) here
keys_are place (i ∷ numbers) (r ∷ rows) e x (suc n) = let later : map some_int numbers ≡ column_cells rows place = cc in keys_are place numbers rows later x n

pub keys_closed : (place : ℕ) (closes : List ℕ) (numbers : List ℤ) (rows : List plain.Row) → map some_int numbers ≡ column_cells rows place
    → (x : Cell) (n : ℕ) → closes_number closes numbers x n ≡ (has_id closes n && has_key place x (slice_get rows n))
keys_closed place closes numbers rows e x n = ap (λ b. has_id closes n && b) (keys_are place numbers rows e x n)

pub as_many : (place : ℕ) (numbers : List ℤ) (rows : List plain.Row) → map some_int numbers ≡ column_cells rows place → length numbers ≡ length rows
as_many place [] [] e = refl
as_many place [] (r ∷ rows) e = absurd (cc)
as_many place (i ∷ numbers) [] e = absurd (cc)
as_many place (i ∷ numbers) (r ∷ rows) e = let later : map some_int numbers ≡ column_cells rows place = cc in ap suc (as_many place numbers rows later)

pub keys_known : (place : ℕ) (closes : List ℕ) (numbers : List ℤ) (rows : List plain.Row) → map some_int numbers ≡ column_cells rows place → All (λ id. id < length rows) closes → All (λ id. id < length numbers) closes
keys_known place closes numbers rows e all = subst (λ m. All (λ id. id < m) closes) (sym (as_many place numbers rows e)) all

ids_more : (closes : List ℕ) (i id n : ℕ) → i < length closes → id ≡ get_or closes i 0 → has_id (take (i + 1) closes) n ≡ (has_id (take i closes) n || (nat_eq id n || false))
ids_more closes i id n h at =
    let front : take (i + 1) closes ≡ take i closes ++ id ∷ [] = take_more closes i 0 h ∙ ap (λ m. take i closes ++ m ∷ []) (sym at) in
    ap (λ is. has_id is n) front ∙ list_any-append (λ m. nat_eq m n) (take i closes) (id ∷ [])

-- a closed row more
pub number_gone : (closes : List ℕ) (i id : ℕ) (numbers : List ℤ) (key : ℤ) (before start after : Cell → ℕ → Bool) → i < length closes → id ≡ get_or closes i 0 → id < length numbers → key ≡ slice_index_or numbers id (pos 0)
    → ((x : Cell) (n : ℕ) → before x n ≡ (not (closes_number (take i closes) numbers x n) && start x n))
    → ((x : Cell) (n : ℕ) → after x n ≡ (not (same_cell x (cell.Int key) && nat_eq n id) && before x n))
    → (x : Cell) (n : ℕ) → after x n ≡ (not (closes_number (take (i + 1) closes) numbers x n) && start x n)
number_gone closes i id numbers key before start after h at within is e f x n = by_test (nat_eq id n) refl where
  there : slice_get numbers id ≡ Some key
  there = slice_get-get_or numbers id (pos 0) within ∙ ap (λ k. Some k) (sym is)

  by_test : (b : Bool) → nat_eq id n ≡ b → after x n ≡ (not (closes_number (take (i + 1) closes) numbers x n) && start x n)
  by_test true g =
      let same : id ≡ n = grind arith in
      let key_is : is_number (slice_get numbers n) x ≡ same_cell x (cell.Int key) = subst (λ m. is_number (slice_get numbers m) x ≡ same_cell x (cell.Int key)) same (ap (λ o. is_number o x) there ∙ cell_sym (cell.Int key) x) in
      gone (same_cell x (cell.Int key)) (has_id (take i closes) n) (start x n) (before x n) (after x n) (has_id (take (i + 1) closes) n) (is_number (slice_get numbers n) x) (nat_eq n id) (nat_eq_equiv.symm n id ∙ g) key_is (ids_more closes i id n h at ∙ ap (λ v. has_id (take i closes) n || (v || false)) g) (e x n) (f x n) where
        gone : (k a s b r m v t : Bool) → t ≡ true → v ≡ k → m ≡ (a || (true || false)) → b ≡ (not (a && v) && s) → r ≡ (not (k && t) && b) → r ≡ (not (m && v) && s)
        gone k a s b r m v t e1 e2 e3 e4 e5 = grind arith
  by_test false g =
      kept (same_cell x (cell.Int key)) (has_id (take i closes) n) (start x n) (before x n) (after x n) (has_id (take (i + 1) closes) n) (is_number (slice_get numbers n) x) (nat_eq n id) (nat_eq_equiv.symm n id ∙ g) (ids_more closes i id n h at ∙ ap (λ v. has_id (take i closes) n || (v || false)) g) (e x n) (f x n) where
        kept : (k a s b r m v t : Bool) → t ≡ false → m ≡ (a || (false || false)) → b ≡ (not (a && v) && s) → r ≡ (not (k && t) && b) → r ≡ (not (m && v) && s)
        kept k a s b r m v t e1 e3 e4 e5 = grind arith

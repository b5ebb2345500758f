-- The keys and ids of the rows that a change closes.
use Rattle.std.proofs.Common.{◌≡◌, ℕ, ◌+◌, ◌<◌, Bool, true, false, ◌&&◌, ◌||◌, nat_eq, List, [], ◌∷◌, ◌++◌, length, take, get_or, slice_get, Option, Some, None, refl, sym, ap, ◌∙◌, arith}
use Rattle.std.proofs.lemmas.List.{take_more}
use Rattle.std.proofs.lemmas.List.Folds.{list_any-append}
use Rattle.tl_types.specs.declared.cells.Cell.{Cell}
use Rattle.tl_types.specs.Plain as plain
use Rattle.tl_types.specs.History.{has_id, same_cell}
use Rattle.tl_types.specs.Resolving.{same_key}
use Rattle.tl_store.specs.Reading.{cell_of_row}
use Rattle.std.specs.Cmp.{nat_eq_equiv}
use Rattle.tl_batch.specs.declared.following.KeyedRow.{KeyedRow}
use Rattle.tl_batch.specs.ClosedRows.{has_keyed}
use Rattle.tl_batch.specs.Standing.{has_key}
use Rattle.tl_batch.proofs.KeyIndexLemmas.{cell_sym}

-- the cell that was read is the row's key
pub key_of_row : (place : ℕ) (row : Option plain.Row) (key x : Cell) → Some key ≡ cell_of_row place row → has_key place x row ≡ same_cell key x
key_of_row place None key x e = absurd (cc)
key_of_row place (Some r) key x e = ap (λ c. same_key c (Some x)) (sym e)

-- a closed row more
pub closing_more : (place i id : ℕ) (closes : List ℕ) (rows : List plain.Row) (key : Cell) (before after : List KeyedRow) → i < length closes → id ≡ get_or closes i 0 → Some key ≡ cell_of_row place (slice_get rows id)
    → after ≡ before ++ record { key = key; id = id } ∷ []
    → ((x : Cell) (n : ℕ) → has_keyed before x n ≡ (has_id (take i closes) n && has_key place x (slice_get rows n)))
    → (x : Cell) (n : ℕ) → has_keyed after x n ≡ (has_id (take (i + 1) closes) n && has_key place x (slice_get rows n))
closing_more place i id closes rows key before after h at cell made e x n =
    let both : has_keyed after x n ≡ (has_keyed before x n || ((same_cell x key && nat_eq n id) || false)) = ap (λ ss. has_keyed ss x n) made ∙ list_any-append (λ (s : KeyedRow). same_cell x s.key && nat_eq n s.id) before (record { key = key; id = id } ∷ []) in
    let front : take (i + 1) closes ≡ take i closes ++ id ∷ [] = take_more closes i 0 h ∙ ap (λ m. take i closes ++ m ∷ []) (sym at) in
    let ids : has_id (take (i + 1) closes) n ≡ (has_id (take i closes) n || (nat_eq id n || false)) = ap (λ is. has_id is n) front ∙ list_any-append (λ m. nat_eq m n) (take i closes) (id ∷ []) in
    both ∙ (ap (λ v. v || ((same_cell x key && nat_eq n id) || false)) (e x n)
    ∙ (ap (λ v. (has_id (take i closes) n && has_key place x (slice_get rows n)) || ((same_cell x key && v) || false)) (nat_eq_equiv.symm n id)
    ∙ (here (nat_eq id n) refl ∙ ap (λ v. v && has_key place x (slice_get rows n)) (sym ids)))) where
      table : (a k : Bool) → ((a && k) || ((k && true) || false)) ≡ ((a || (true || false)) && k)
      table true true = refl
      table true false = refl
      table false true = refl
      table false false = refl

      apart : (a k s : Bool) → ((a && k) || ((s && false) || false)) ≡ ((a || (false || false)) && k)
      apart true true true = refl
      apart true true false = refl
      apart true false true = refl
      apart true false false = refl
      apart false true true = refl
      apart false true false = refl
      apart false false true = refl
      apart false false false = refl

      here : (b : Bool) → nat_eq id n ≡ b → ((has_id (take i closes) n && has_key place x (slice_get rows n)) || ((same_cell x key && b) || false)) ≡ ((has_id (take i closes) n || (b || false)) && has_key place x (slice_get rows n))
      here false f = apart (has_id (take i closes) n) (has_key place x (slice_get rows n)) (same_cell x key)
      here true f = grind (arith, key_of_row place (slice_get rows id) key x cell, cell_sym key x, table (has_id (take i closes) n) (has_key place x (slice_get rows n)))

-- Lists that a loop reads item by item.
use Rattle.std.proofs.Common.{◌≡◌, ℕ, zero, suc, ◌+◌, ◌-◌, ◌<◌, ◌≤◌, ℤ, pos, ◌+ℤ◌, ◌≤ℤ◌, ◌<ℤ◌, List, [], ◌∷◌, ◌++◌, length, refl, sym, ap, ◌∙◌, subst, arith, Result, Ok, Err, append_assoc}
use Rattle.std.proofs.lemmas.List.{append-nil}
use Rattle.std.proofs.lemmas.Int.{ints}
use Rattle.tl_types.specs.declared.cells.Cell.{Cell}
use Rattle.tl_types.specs.declared.schemas.Column.{Column}
use Rattle.tl_record.specs.declared.faults.Fault.{Fault}
use Rattle.tl_record.specs.declared.faults.ReadError.{ReadError}
use Rattle.tl_record.specs.declared.faults.ReadError.TheVariants as errors
use Rattle.tl_record.specs.Reading.{Reader, Fails, in_turn, after, onward, mapped, cons, several, prepended, between, ascending, max_4, column_at, columns_at, byte_between, cell_at, cells_at, row_of, row_of_cells, row_at, period_at}
use Rattle.tl_record.proofs.Parts.{okay, same_value}

regroup : {A : Type 0} (front : List A) (x : A) (read : Result (List A × List ℕ) Fault)
    → prepended front (mapped cons (after x read)) ≡ prepended (front ++ x ∷ []) read
regroup {A = A} front x (Ok r) =
    ap (λ (xs : List A). okay (xs, r.1)) (sym (append_assoc front (x ∷ []) r.0))
regroup front x (Err f) = refl

-- one item more
pub one_more : {A : Type 0} (front : List A) (item : Reader A) (next : A → Reader (List A))
    (bytes rest : List ℕ) (x : A) → item bytes ≡ Ok (x, rest)
    → prepended front (mapped cons (in_turn item next bytes)) ≡ prepended (front ++ x ∷ []) (next x rest)
one_more front item next bytes rest x e =
    ap (λ r. prepended front (mapped cons (onward next r))) e ∙ regroup front x (next x rest)

-- an item that is not read
pub no_more : {A : Type 0} (e : ReadError) (front : List A) (item : Reader A)
    (next : A → Reader (List A)) (bytes : List ℕ) → Fails e (item bytes)
    → Fails e (prepended front (mapped cons (in_turn item next bytes)))
no_more errors.Memory front item next bytes h = tt
no_more (errors.Fault f) front item next bytes h =
    ap (λ r. prepended front (mapped cons (onward next r))) h

pub several_goes_on : {A : Type 0} (front : List A) (item : Reader A) (count i : ℕ)
    (bytes rest : List ℕ) (x : A) (total : Result (List A × List ℕ) Fault) → i < count
    → item bytes ≡ Ok (x, rest) → prepended front (several item (count - i) bytes) ≡ total
    → prepended (front ++ x ∷ []) (several item (count - (i + 1)) rest) ≡ total
unfolding several
several_goes_on front item count i bytes rest x total lt e so_far =
    let k : count - i ≡ suc (count - (i + 1)) = omega (arith, lt) in
    sym (one_more front item (λ y. several item (count - (i + 1))) bytes rest x e)
    ∙ (ap (λ n. prepended front (several item n bytes)) (sym k) ∙ so_far)

pub several_stops : {A : Type 0} (e : ReadError) (front : List A) (item : Reader A) (count i : ℕ)
    (bytes : List ℕ) (total : Result (List A × List ℕ) Fault) → i < count → Fails e (item bytes)
    → prepended front (several item (count - i) bytes) ≡ total → Fails e total
unfolding several
several_stops e front item count i bytes total lt h so_far =
    let k : count - i ≡ suc (count - (i + 1)) = omega (arith, lt) in
    subst (Fails e) (ap (λ n. prepended front (several item n bytes)) (sym k) ∙ so_far)
    (no_more e front item (λ y. several item (count - (i + 1))) bytes h)

pub several_ends : {A : Type 0} (front : List A) (item : Reader A) (count i : ℕ) (bytes : List ℕ)
    (total : Result (List A × List ℕ) Fault) → count ≤ i
    → prepended front (several item (count - i) bytes) ≡ total → total ≡ Ok (front, bytes)
unfolding several
several_ends {A = A} front item count i bytes total le so_far =
    let k : count - i ≡ 0 = omega (arith, le) in
    sym so_far ∙ (ap (λ n. prepended front (several item n bytes)) k
    ∙ ap (λ (xs : List A). okay (xs, bytes)) (append-nil front))

-- an item that was put behind those before it
pub pushed_goes_on : {A : Type 0} (front now : List A) (item : Reader A) (count i : ℕ)
    (bytes rest : List ℕ) (total : Result (List A × List ℕ) Fault) → i < count
    → mapped (λ x. front ++ x ∷ []) (item bytes) ≡ Ok (now, rest)
    → prepended front (several item (count - i) bytes) ≡ total
    → prepended now (several item (count - (i + 1)) rest) ≡ total
pushed_goes_on {A = A} front now item count i bytes rest total lt e so_far = by_item (item bytes) refl e where
  by_item : (r : Result (A × List ℕ) Fault) → item bytes ≡ r
      → mapped (λ x. front ++ x ∷ []) r ≡ Ok (now, rest)
      → prepended now (several item (count - (i + 1)) rest) ≡ total
  by_item (Err f) is g = absurd (cc)
  by_item (Ok q) is g =
      subst (λ (z : List A × List ℕ). prepended z.0 (several item (count - (i + 1)) z.1) ≡ total)
      (same_value {X = List A × List ℕ} (front ++ q.0 ∷ [], q.1) (now, rest) g)
      (several_goes_on front item count i bytes q.1 q.0 total lt is so_far)

abbrev fault_or : {X : Type 0} → Fault → Result X Fault → Fault
fault_or d (Ok x) = d
fault_or d (Err f) = f

fails_before : {A B : Type 0} (e : ReadError) (f : A → B) (r : Result (A × List ℕ) Fault)
    → Fails e (mapped f r) → Fails e r
fails_before errors.Memory f r h = tt
fails_before (errors.Fault x) f (Ok q) h = absurd (cc)
fails_before (errors.Fault x) f (Err y) h = ap (λ z. Err z) (ap (fault_or x) h)

pub pushed_stops : {A : Type 0} (e : ReadError) (front : List A) (item : Reader A) (count i : ℕ)
    (bytes : List ℕ) (total : Result (List A × List ℕ) Fault) → i < count
    → Fails e (mapped (λ x. front ++ x ∷ []) (item bytes))
    → prepended front (several item (count - i) bytes) ≡ total → Fails e total
pushed_stops e front item count i bytes total lt h so_far =
    several_stops e front item count i bytes total lt
    (fails_before e (λ x. front ++ x ∷ []) (item bytes) h) so_far

-- as many items are read as are said
pub so_many : {A : Type 0} (item : Reader A) (n : ℕ) (bytes rest : List ℕ) (xs : List A)
    → several item n bytes ≡ Ok (xs, rest) → length xs ≡ n
unfolding several
so_many {A = A} item zero bytes rest xs e =
    ap (λ z. length z.0) (sym (same_value {X = List A × List ℕ} ([], bytes) (xs, rest) e))
so_many {A = A} item (suc n) bytes rest xs e = by_item (so_many item n) (item bytes) e where
  by_rest : ((b r : List ℕ) (ys : List A) → several item n b ≡ Ok (ys, r) → length ys ≡ n) → (x : A)
      → (b : List ℕ) (r : Result (List A × List ℕ) Fault) → several item n b ≡ r
      → mapped cons (after x r) ≡ Ok (xs, rest) → length xs ≡ suc n
  by_rest ih x b (Err f) is g = absurd (cc)
  by_rest ih x b (Ok q) is g =
      let p = same_value {X = List A × List ℕ} (x ∷ q.0, q.1) (xs, rest) g in
      ap (λ z. length z.0) (sym p) ∙ ap suc (ih b q.1 q.0 is)

  by_item : ((b r : List ℕ) (ys : List A) → several item n b ≡ Ok (ys, r) → length ys ≡ n)
      → (r : Result (A × List ℕ) Fault) → mapped cons (onward (λ x. several item n) r) ≡ Ok (xs, rest)
      → length xs ≡ suc n
  by_item ih (Err f) g = absurd (cc)
  by_item ih (Ok q) g = by_rest ih q.0 q.1 (several item n q.1) refl g

-- the end of a period that is read behind its start
pub ends_behind : (from to : ℤ) → (from +ℤ pos 1) ≤ℤ to → from <ℤ to
ends_behind from to h = omega (arith, ints, h)

-- the ids behind a first one
pub ids_go_on : (front : List ℕ) (n low : ℕ) (bytes rest : List ℕ) (id : ℕ)
    (total : Result (List ℕ × List ℕ) Fault) → 0 < n → between 4 low (max_4 - (n - 1)) bytes ≡ Ok (id, rest)
    → prepended front (ascending n low bytes) ≡ total
    → prepended (front ++ id ∷ []) (ascending (n - 1) (id + 1) rest) ≡ total
unfolding ascending
ids_go_on front zero low bytes rest id total h e so_far = absurd (omega (arith, h))
ids_go_on front (suc n) low bytes rest id total h e so_far =
    let k : suc n - 1 ≡ n = omega arith in
    let e' : between 4 low (max_4 - n) bytes ≡ Ok (id, rest) =
    subst (λ m. between 4 low (max_4 - m) bytes ≡ Ok (id, rest)) k e in
    subst (λ m. prepended (front ++ id ∷ []) (ascending m (id + 1) rest) ≡ total) (sym k)
    (sym (one_more front (between 4 low (max_4 - n)) (λ i. ascending n (i + 1)) bytes rest id e') ∙ so_far)

pub ids_stop : (e : ReadError) (front : List ℕ) (n low : ℕ) (bytes : List ℕ)
    (total : Result (List ℕ × List ℕ) Fault) → 0 < n → Fails e (between 4 low (max_4 - (n - 1)) bytes)
    → prepended front (ascending n low bytes) ≡ total → Fails e total
unfolding ascending
ids_stop e front zero low bytes total h f so_far = absurd (omega (arith, h))
ids_stop e front (suc n) low bytes total h f so_far =
    let k : suc n - 1 ≡ n = omega arith in
    let f' : Fails e (between 4 low (max_4 - n) bytes) =
    subst (λ m. Fails e (between 4 low (max_4 - m) bytes)) k f in
    subst (Fails e) so_far
    (no_more e front (between 4 low (max_4 - n)) (λ i. ascending n (i + 1)) bytes f')

pub ids_end : (front : List ℕ) (n low : ℕ) (bytes : List ℕ) (total : Result (List ℕ × List ℕ) Fault)
    → n ≤ 0 → prepended front (ascending n low bytes) ≡ total → total ≡ Ok (front, bytes)
unfolding ascending
ids_end front zero low bytes total h so_far =
    sym so_far ∙ ap (λ (xs : List ℕ). okay (xs, bytes)) (append-nil front)
ids_end front (suc n) low bytes total h so_far = absurd (omega (arith, h))

-- the columns behind a first one
pub columns_go_on : (front seen : List Column) (count i : ℕ) (bytes rest : List ℕ) (x : Column)
    (total : Result (List Column × List ℕ) Fault) → i < count → seen ≡ front
    → column_at seen bytes ≡ Ok (x, rest)
    → prepended front (columns_at front (count - i) bytes) ≡ total
    → prepended (front ++ x ∷ []) (columns_at (front ++ x ∷ []) (count - (i + 1)) rest) ≡ total
unfolding columns_at
columns_go_on front seen count i bytes rest x total lt same e' so_far =
    let k : count - i ≡ suc (count - (i + 1)) = omega (arith, lt) in
    let e : column_at front bytes ≡ Ok (x, rest) =
    subst (λ cs. column_at cs bytes ≡ Ok (x, rest)) same e' in
    sym (one_more front (column_at front) (λ y. columns_at (front ++ y ∷ []) (count - (i + 1))) bytes rest x e)
    ∙ (ap (λ n. prepended front (columns_at front n bytes)) (sym k) ∙ so_far)

pub columns_stop : (e : ReadError) (front seen : List Column) (count i : ℕ) (bytes : List ℕ)
    (total : Result (List Column × List ℕ) Fault) → i < count → seen ≡ front
    → Fails e (column_at seen bytes)
    → prepended front (columns_at front (count - i) bytes) ≡ total → Fails e total
unfolding columns_at
columns_stop e front seen count i bytes total lt same h' so_far =
    let k : count - i ≡ suc (count - (i + 1)) = omega (arith, lt) in
    let h : Fails e (column_at front bytes) = subst (λ cs. Fails e (column_at cs bytes)) same h' in
    subst (Fails e) (ap (λ n. prepended front (columns_at front n bytes)) (sym k) ∙ so_far)
    (no_more e front (column_at front) (λ y. columns_at (front ++ y ∷ []) (count - (i + 1))) bytes h)

pub columns_end : (front : List Column) (count i : ℕ) (bytes : List ℕ)
    (total : Result (List Column × List ℕ) Fault) → count ≤ i
    → prepended front (columns_at front (count - i) bytes) ≡ total → total ≡ Ok (front, bytes)
unfolding columns_at
columns_end front count i bytes total le so_far =
    let k : count - i ≡ 0 = omega (arith, le) in
    sym so_far ∙ (ap (λ n. prepended front (columns_at front n bytes)) k
    ∙ ap (λ (xs : List Column). okay (xs, bytes)) (append-nil front))

pub unstarted : {A : Type 0} (read : Result (List A × List ℕ) Fault) → prepended [] read ≡ read
unstarted (Ok r) = refl
unstarted (Err f) = refl

-- a row behind the number of its cells
pub row_behind : (bytes rest : List ℕ) (n : ℕ) → byte_between 1 16 bytes ≡ Ok (n, rest)
    → row_at bytes ≡ row_of_cells n rest
unfolding row_at cells_at row_of_cells
row_behind bytes rest n e =
    ap (λ r. mapped row_of (onward (λ (cells : List Cell). period_at) (mapped (λ p. p.1) (onward (several cell_at) r)))) e
    ∙ regrouped (several cell_at n rest) where
      regrouped : (r : Result (List Cell × List ℕ) Fault)
          → mapped row_of (onward (λ (cells : List Cell). period_at) (mapped (λ p. p.1) (after n r)))
          ≡ mapped row_of (onward (λ (cells : List Cell). period_at) r)
      regrouped (Ok q) = refl
      regrouped (Err f) = refl

pub no_row : (e : ReadError) (bytes : List ℕ) → Fails e (byte_between 1 16 bytes) → Fails e (row_at bytes)
unfolding row_at cells_at
no_row errors.Memory bytes h = tt
no_row (errors.Fault f) bytes h =
    ap (λ r. mapped row_of (onward (λ (cells : List Cell). period_at) (mapped (λ p. p.1) (onward (several cell_at) r)))) h

-- Lines for a table without valid time.
use Rattle.std.proofs.Common.{◌≡◌, ℕ, zero, suc, ◌+◌, ◌<◌, ◌≤◌, Bool, true, false, ◌&&◌, ◌||◌, not, cond, List, [], ◌∷◌, length, map, drop, get_or, slice_get, Option, Some, None, is_some, IfSome, IfNone, refl, sym, ap, ◌∙◌, arith}
use Rattle.std.specs.Borrow.{Bor}
use Rattle.std.proofs.lemmas.List.{at_drop_more, drop_all}
use Rattle.tl_types.specs.declared.cells.Cell.{Cell}
use Rattle.tl_types.specs.declared.batches.BatchFault.{BatchFault}
use Rattle.tl_types.specs.declared.batches.BatchFault.TheVariants as fault
use Rattle.tl_types.specs.Plain as plain
use Rattle.tl_types.specs.History.{same_cell}
use Rattle.tl_batch.specs.KeyIndex.{IdsByKey, has_row}
use Rattle.tl_batch.specs.OpenTables.{IsIndexOf}
use Rattle.tl_batch.specs.Standing.{is_open_with}
use Rattle.tl_batch.specs.Untimed.{has_cell, has_open, fault_of_key, key_fault}

-- OPEN ROWS OF A KEY

open_there : (place : ℕ) (x : Cell) (rows : List plain.Row) (n : ℕ) → is_open_with place x (slice_get rows n) ≡ true → has_open place x rows ≡ true
open_there place x [] n e = absurd (cc)
open_there place x (r ∷ rows) zero e = ap (λ b. b || has_open place x rows) e
open_there place x (r ∷ rows) (suc n) e = grind (arith, open_there place x rows n e)

open_nowhere : (place : ℕ) (x : Cell) (rows : List plain.Row) → ((n : ℕ) → is_open_with place x (slice_get rows n) ≡ false) → has_open place x rows ≡ false
open_nowhere place x [] none = refl
open_nowhere place x (r ∷ rows) none = ap (λ b. b || has_open place x rows) (none 0) ∙ open_nowhere place x rows (λ n. none (suc n))

pub found_open : (index : IdsByKey) (place : ℕ) (x : Cell) (rows : List plain.Row) (r : Option ℕ) → IsIndexOf index place rows → IfSome r (λ id. has_row index x id ≡ true) → IfNone r ((n : ℕ) → has_row index x n ≡ false) → is_some r ≡ has_open place x rows
found_open index place x rows None stand some none = sym (open_nowhere place x rows (λ n. sym (stand x n) ∙ none n))
found_open index place x rows (Some id) stand some none = sym (open_there place x rows id (sym (stand x id) ∙ some))

-- THE FIRST FAULT

-- the earlier keys matter only as a set
faults_same : (removes : Bool) (place : ℕ) (rows : List plain.Row) (rec : ℕ) (one other : List Cell) (keys : List Cell) → ((x : Cell) → has_cell one x ≡ has_cell other x) → key_fault removes place rows rec one keys ≡ key_fault removes place rows rec other keys
faults_same removes place rows rec one other [] same = refl
faults_same removes place rows rec one other (k ∷ keys) same =
    ap (λ b. cond b (Some (fault.KeyTwice rec)) (cond (removes && not (has_open place k rows)) (Some (fault.NoRow rec)) (key_fault removes place rows (rec + 1) (k ∷ one) keys))) (same k)
    ∙ ap (λ f. cond (has_cell other k) (Some (fault.KeyTwice rec)) (cond (removes && not (has_open place k rows)) (Some (fault.NoRow rec)) f)) (faults_same removes place rows (rec + 1) (k ∷ one) (k ∷ other) keys (λ x. ap (λ b. same_cell x k || b) (same x)))

at_key : (removes twice has : Bool) (rec : ℕ) (rest : Option BatchFault) (fresh : Bool) (o : Option BatchFault) → fresh ≡ not twice → o ≡ fault_of_key removes fresh has rec
    → cond twice (Some (fault.KeyTwice rec)) (cond (removes && not has) (Some (fault.NoRow rec)) rest) ≡ cond (is_some o) o rest
at_key removes true has rec rest fresh o e f = sym (ap (λ q. cond (is_some q) q rest) (f ∙ ap (λ b. fault_of_key removes b has rec) e))
at_key removes false has rec rest fresh o e f = grind arith

pub fault_here : (removes : Bool) (place : ℕ) (rows : List plain.Row) (rec : ℕ) (earlier : List Cell) (k : Cell) (keys : List Cell) (fresh : Bool) (o all : Option BatchFault) → fresh ≡ not (has_cell earlier k) → o ≡ fault_of_key removes fresh (has_open place k rows) rec
    → is_some o ≡ true → key_fault removes place rows rec earlier (k ∷ keys) ≡ all → o ≡ all
fault_here removes place rows rec earlier k keys fresh o all e f some start = grind (arith, at_key removes (has_cell earlier k) (has_open place k rows) rec (key_fault removes place rows (rec + 1) (k ∷ earlier) keys) fresh o e f)

pub fault_later : (removes : Bool) (place : ℕ) (rows : List plain.Row) (rec : ℕ) (earlier more : List Cell) (k : Cell) (keys : List Cell) (fresh : Bool) (o all : Option BatchFault) → fresh ≡ not (has_cell earlier k) → o ≡ fault_of_key removes fresh (has_open place k rows) rec
    → is_some o ≡ false → ((x : Cell) → has_cell more x ≡ (same_cell x k || has_cell earlier x)) → key_fault removes place rows rec earlier (k ∷ keys) ≡ all → key_fault removes place rows (rec + 1) more keys ≡ all
fault_later removes place rows rec earlier more k keys fresh o all e f none added start = grind (arith, faults_same removes place rows (rec + 1) more (k ∷ earlier) keys added, at_key removes (has_cell earlier k) (has_open place k rows) rec (key_fault removes place rows (rec + 1) (k ∷ earlier) keys) fresh o e f)

pub dropped : (keys : List (Bor Cell)) (i : ℕ) (k : Bor Cell) → i < length keys → k ≡ get_or keys i k → map (λ q. q.now) (drop i keys) ≡ k.now ∷ map (λ q. q.now) (drop (i + 1) keys)
dropped keys i k h at = at_drop_more (map (λ (q : Bor Cell). q.now)) keys i k h ∙ ap (λ (r : Bor Cell). r.now ∷ map (λ (t : Bor Cell). t.now) (drop (i + 1) keys)) (sym at)

pub this_key : (removes : Bool) (place : ℕ) (rows : List plain.Row) (keys : List (Bor Cell)) (i : ℕ) (k : Bor Cell) (earlier : List Cell) (fresh : Bool) (o all : Option BatchFault) → i < length keys → k ≡ get_or keys i k → fresh ≡ not (has_cell earlier k.now)
    → o ≡ fault_of_key removes fresh (has_open place k.now rows) (i + 2) → is_some o ≡ true → key_fault removes place rows (i + 2) earlier (map (λ q. q.now) (drop i keys)) ≡ all → o ≡ all
this_key removes place rows keys i k earlier fresh o all h at e f some start = grind (arith, dropped keys i k h)

pub more_keys : (removes : Bool) (place : ℕ) (rows : List plain.Row) (keys : List (Bor Cell)) (i : ℕ) (k : Bor Cell) (earlier more : List Cell) (fresh : Bool) (o all : Option BatchFault) → i < length keys → k ≡ get_or keys i k → fresh ≡ not (has_cell earlier k.now)
    → o ≡ fault_of_key removes fresh (has_open place k.now rows) (i + 2) → is_some o ≡ false → ((x : Cell) → has_cell more x ≡ (same_cell x k.now || has_cell earlier x)) → key_fault removes place rows (i + 2) earlier (map (λ q. q.now) (drop i keys)) ≡ all
    → key_fault removes place rows (i + 1 + 2) more (map (λ q. q.now) (drop (i + 1) keys)) ≡ all
more_keys removes place rows keys i k earlier more fresh o all h at e f none added start =
    ap (λ m. key_fault removes place rows m more (map (λ q. q.now) (drop (i + 1) keys))) (let n : i + 1 + 2 ≡ i + 2 + 1 = omega arith in n)
    ∙ fault_later removes place rows (i + 2) earlier more k.now (map (λ q. q.now) (drop (i + 1) keys)) fresh o all e f none added (ap (key_fault removes place rows (i + 2) earlier) (sym (dropped keys i k h at)) ∙ start)

-- IDS OF KEYS

-- no line is left
pub no_fault : (removes : Bool) (place : ℕ) (rows : List plain.Row) (rec : ℕ) (earlier : List Cell) (keys : List (Bor Cell)) (i : ℕ) (all : Option BatchFault) → length keys ≤ i
    → key_fault removes place rows rec earlier (map (λ k. k.now) (drop i keys)) ≡ all → None ≡ all
no_fault removes place rows rec earlier keys i all h e = sym (ap (λ ks. key_fault removes place rows rec earlier (map (λ (k : Bor Cell). k.now) ks)) (drop_all i keys h)) ∙ e

-- What a batch of rows or keys resolves to, by the rows of its table.
use Rattle.std.proofs.Common.{◌≡◌, ℕ, suc, ◌+◌, ◌<◌, ◌≤◌, Bool, true, false, ◌&&◌, cond, nat_le, nat_lt, List, [], ◌∷◌, ◌++◌, length, slice_get, Option, Some, None, is_some, Result, Ok, Err, refl, sym, ap, ◌∙◌, arith}
use Rattle.std.specs.List.{list_all, flat_map}
use Rattle.std.specs.Bool.{beq}
use Rattle.std.proofs.lemmas.Bool.{cond-true, cond-false, le-leb, lt-leb, lt-ltb, le-ltb, and_parts, and_from}
use Rattle.tl_types.specs.declared.cells.Cell.{Cell}
use Rattle.tl_types.specs.declared.commits.Commit.{Commit}
use Rattle.tl_types.specs.declared.commits.Body.TheVariants as body
use Rattle.tl_types.specs.declared.batches.BatchFault.{BatchFault}
use Rattle.tl_types.specs.declared.batches.BatchFault.TheVariants as fault
use Rattle.tl_types.specs.declared.batches.KeyLine.{KeyLine}
use Rattle.tl_types.specs.declared.limits.Limits.{Limits}
use Rattle.tl_types.specs.Plain as plain
use Rattle.tl_types.specs.Resolving.{BatchLine, open_rows, line_fault, put_lines, removal_lines, resolved_change}
use Rattle.tl_types.specs.History.{is_open, is_open_at, matches, match_columns, fits_table, fits}
use Rattle.tl_batch.specs.Pieces.{cut, cuts, periods_with, is_affected, affected_ids, over, row_pieces, old_pieces, put_pieces}
use Rattle.tl_batch.proofs.FollowLemmas.{all_joined}
use Rattle.tl_batch.specs.Faults.{fault_from}
use Rattle.tl_batch.proofs.ChangeLemmas.{change_by_rows}
use Rattle.tl_batch.proofs.FaultLemmas.{fault_of_keys, fault_of_rows}

-- the change of lines in a table, by its rows
abbrev pub row_change : ℕ → plain.Table → List BatchLine → plain.Change
row_change number t lines = record { table = number; closes = affected_ids t.schema lines 0 t.rows; opens = old_pieces t.schema lines t.rows ++ put_pieces t.schema lines }

-- a line has a fault
pub change-fault : (limits : Limits) (db : plain.Database) (author number : ℕ) (t : plain.Table) (lines : plain.Schema → List BatchLine) (f : BatchFault) → db.version < limits.versions
    → line_fault t.schema 2 [] (open_rows t) (lines t.schema) ≡ Some f → resolved_change limits db author (Some (number, t)) lines ≡ Err f
change-fault limits db author number t lines f next e = cond-false _ _ _ (lt-leb _ _ next) ∙ rw e refl

-- there would be too many rows
pub change-full : (limits : Limits) (db : plain.Database) (author number : ℕ) (t : plain.Table) (lines : plain.Schema → List BatchLine) → db.version < limits.versions
    → line_fault t.schema 2 [] (open_rows t) (lines t.schema) ≡ None → limits.rows < length t.rows + length (row_change number t (lines t.schema)).opens → resolved_change limits db author (Some (number, t)) lines ≡ Err fault.RowsFull
change-full limits db author number t lines next e many =
    let made : plain.Change → Result Commit BatchFault = λ ch. cond (nat_lt limits.rows (length t.rows + length ch.opens)) (Err fault.RowsFull) (Ok (record { author = author; body = body.Change ch })) in
    cond-false _ _ _ (lt-leb _ _ next) ∙ rw e (ap made (change_by_rows number t (lines t.schema)) ∙ cond-true _ _ _ (lt-ltb _ _ many))

-- the commit
pub change-made : (limits : Limits) (db : plain.Database) (author number : ℕ) (t : plain.Table) (lines : plain.Schema → List BatchLine) → db.version < limits.versions
    → line_fault t.schema 2 [] (open_rows t) (lines t.schema) ≡ None → length t.rows + length (row_change number t (lines t.schema)).opens ≤ limits.rows
    → resolved_change limits db author (Some (number, t)) lines ≡ Ok (record { author = author; body = body.Change (row_change number t (lines t.schema)) })
change-made limits db author number t lines next e few =
    let made : plain.Change → Result Commit BatchFault = λ ch. cond (nat_lt limits.rows (length t.rows + length ch.opens)) (Err fault.RowsFull) (Ok (record { author = author; body = body.Change ch })) in
    cond-false _ _ _ (lt-leb _ _ next) ∙ rw e (ap made (change_by_rows number t (lines t.schema)) ∙ cond-false _ _ _ (le-ltb _ _ few))

-- the first fault of a whole batch of rows, and of keys
pub rows-fault : (t : plain.Table) (lines : List plain.Opened) → line_fault t.schema 2 [] (open_rows t) (put_lines t.schema lines) ≡ fault_from t.schema false t.rows 2 [] (put_lines t.schema lines)
rows-fault t lines = fault_of_rows t 2 [] [] (open_rows t) lines (λ k. refl)

pub keys-fault : (t : plain.Table) (lines : List KeyLine) → line_fault t.schema 2 [] (open_rows t) (removal_lines lines) ≡ fault_from t.schema true t.rows 2 [] (removal_lines lines)
keys-fault t lines = fault_of_keys t 2 [] [] lines (λ k. refl)

-- THE COMMIT FITS

all_flat : {A B : Type 0} (test : B → Bool) (f : A → List B) (xs : List A) (passes : A → Bool) → ((x : A) → passes x ≡ true → list_all test (f x) ≡ true) → list_all passes xs ≡ true → list_all test (flat_map f xs) ≡ true
all_flat test f [] passes each all = refl
all_flat test f (x ∷ xs) passes each all = let parts = and_parts (passes x) (list_all passes xs) all in all_joined test (f x) (flat_map f xs) (each x parts.0) (all_flat test f xs passes each parts.1)

-- a piece has a period where the whole has one
abbrev alike : Option plain.Period → Option plain.Period → Bool
alike whole p = beq (is_some whole) (is_some p)

beq-self : (b : Bool) → (beq b b && true) ≡ true
beq-self true = refl
beq-self false = refl

beq-is : (a b : Bool) → beq a b ≡ true → a ≡ b
beq-is true true e = refl
beq-is true false e = absurd (cc)
beq-is false true e = absurd (cc)
beq-is false false e = refl

cut-alike : (valid : Bool) (line whole : Option plain.Period) → list_all (alike whole) (cut valid line whole) ≡ true
cut-alike valid line whole = grind arith

all_same : (whole p : Option plain.Period) (ps : List (Option plain.Period)) → is_some whole ≡ is_some p → list_all (alike p) ps ≡ true → list_all (alike whole) ps ≡ true
all_same whole p ps e all = ap (λ b. list_all (λ (q : Option plain.Period). beq b (is_some q)) ps) e ∙ all

pub cuts-alike : (valid : Bool) (lines : List (Option plain.Period)) (whole : Option plain.Period) → list_all (alike whole) (cuts valid lines whole) ≡ true
cuts-alike valid [] whole = beq-self (is_some whole)
cuts-alike valid (line ∷ lines) whole = all_flat (alike whole) (cuts valid lines) (cut valid line whole) (alike whole) (λ p same. all_same whole p (cuts valid lines p) (beq-is (is_some whole) (is_some p) same) (cuts-alike valid lines p)) (cut-alike valid line whole)

-- pieces of a row that matches match
over-match : (schema : plain.Schema) (cells : List Cell) (whole : Option plain.Period) (ps : List (Option plain.Period)) → matches schema (record { cells = cells; period = whole }) ≡ true → list_all (alike whole) ps ≡ true → list_all (matches schema) (over cells ps) ≡ true
over-match schema cells whole [] m all = refl
over-match schema cells whole (p ∷ ps) m all =
    let parts = and_parts (alike whole p) (list_all (alike whole) ps) all in
    let same = beq-is (is_some whole) (is_some p) parts.0 in
    and_from _ _ (ap (λ b. match_columns schema.columns cells && beq schema.valid b) (sym same) ∙ m) (over-match schema cells whole ps m parts.1)

pub pieces-match : (schema : plain.Schema) (lines : List BatchLine) (cells : List Cell) (whole : Option plain.Period) → matches schema (record { cells = cells; period = whole }) ≡ true → list_all (matches schema) (row_pieces schema lines cells whole) ≡ true
pieces-match schema lines cells whole m = over-match schema cells whole (cuts schema.valid (periods_with (slice_get cells schema.key) lines) whole) m (cuts-alike schema.valid (periods_with (slice_get cells schema.key) lines) whole)

old-match : (schema : plain.Schema) (lines : List BatchLine) (rows : List plain.Row) → list_all (λ r. matches schema (record { cells = r.cells; period = r.period })) rows ≡ true → list_all (matches schema) (old_pieces schema lines rows) ≡ true
old-match schema lines [] all = refl
old-match schema lines (r ∷ rows) all = split (is_open r && is_affected schema lines r) (old-match schema lines rows parts.1) where
  parts : (matches schema (record { cells = r.cells; period = r.period }) ≡ true) × (list_all (λ s. matches schema (record { cells = s.cells; period = s.period })) rows ≡ true)
  parts = grind arith

  split : (b : Bool) → list_all (matches schema) (old_pieces schema lines rows) ≡ true → list_all (matches schema) (cond b (row_pieces schema lines r.cells r.period ++ old_pieces schema lines rows) (old_pieces schema lines rows)) ≡ true
  split true later = all_joined (matches schema) (row_pieces schema lines r.cells r.period) (old_pieces schema lines rows) (pieces-match schema lines r.cells r.period parts.0) later
  split false later = later

pub put-match : (schema : plain.Schema) (lines : List plain.Opened) → list_all (matches schema) lines ≡ true → list_all (matches schema) (put_pieces schema (put_lines schema lines)) ≡ true
put-match schema [] all = refl
put-match schema (o ∷ lines) all =
    let parts = and_parts (matches schema o) (list_all (matches schema) lines) all in
    all_joined (matches schema) (row_pieces schema (put_lines schema lines) o.cells o.period) (put_pieces schema (put_lines schema lines)) (pieces-match schema (put_lines schema lines) o.cells o.period parts.0) (put-match schema lines parts.1)

pub keys-match : (schema : plain.Schema) (lines : List KeyLine) → list_all (matches schema) (put_pieces schema (removal_lines lines)) ≡ true
keys-match schema [] = refl
keys-match schema (k ∷ lines) = keys-match schema lines

closes-open : (test : ℕ → Bool) (schema : plain.Schema) (lines : List BatchLine) (n : ℕ) (rows : List plain.Row) → ((i : ℕ) → test (n + i) ≡ is_open_at rows i) → list_all test (affected_ids schema lines n rows) ≡ true
closes-open test schema lines n [] e = refl
closes-open test schema lines n (r ∷ rows) e = split (is_open r) (is_affected schema lines r) refl (closes-open test schema lines (n + 1) rows (λ i. (let q : n + 1 + i ≡ n + suc i = omega arith in ap test q) ∙ e (suc i))) where
  here : test n ≡ is_open r
  here = (let q : n ≡ n + 0 = omega arith in ap test q) ∙ e 0

  split : (a b : Bool) → is_open r ≡ a → list_all test (affected_ids schema lines (n + 1) rows) ≡ true → list_all test (cond (a && b) (n ∷ affected_ids schema lines (n + 1) rows) (affected_ids schema lines (n + 1) rows)) ≡ true
  split true true f later = and_from _ _ (here ∙ f) later
  split true false f later = later
  split false b f later = later

-- the commit of the change fits
pub change-fits : (limits : Limits) (db : plain.Database) (author number : ℕ) (t : plain.Table) (lines : List BatchLine) → slice_get db.tables number ≡ Some t → db.version < limits.versions → list_all (λ r. matches t.schema (record { cells = r.cells; period = r.period })) t.rows ≡ true
    → list_all (matches t.schema) (put_pieces t.schema lines) ≡ true → length t.rows + length (row_change number t lines).opens ≤ limits.rows → fits limits db (record { author = author; body = body.Change (row_change number t lines) }) ≡ true
change-fits limits db author number t lines at next rows puts few =
    let closes : list_all (is_open_at t.rows) (affected_ids t.schema lines 0 t.rows) ≡ true = closes-open (is_open_at t.rows) t.schema lines 0 t.rows (λ k. ap (is_open_at t.rows) (let e : 0 + k ≡ k = omega arith in e)) in
    let opens : list_all (matches t.schema) (row_change number t lines).opens ≡ true = all_joined (matches t.schema) (old_pieces t.schema lines t.rows) (put_pieces t.schema lines) (old-match t.schema lines t.rows rows) puts in
    let inside : fits_table limits (row_change number t lines) (Some t) ≡ true = and_from (list_all (is_open_at t.rows) (row_change number t lines).closes && list_all (matches t.schema) (row_change number t lines).opens) (nat_le (length t.rows + length (row_change number t lines).opens) limits.rows) (and_from (list_all (is_open_at t.rows) (row_change number t lines).closes) (list_all (matches t.schema) (row_change number t lines).opens) closes opens) (le-leb _ _ few) in
    and_from (nat_lt db.version limits.versions) (fits_table limits (row_change number t lines) (slice_get db.tables number)) (lt-ltb _ _ next) (ap (fits_table limits (row_change number t lines)) at ∙ inside)

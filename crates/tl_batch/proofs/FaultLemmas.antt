-- The first fault of the lines of a batch.
use Rattle.std.proofs.Common.{arith, ◌≡◌, ℕ, ◌+◌, Bool, true, false, ◌&&◌, ◌||◌, not, cond, List, [], ◌∷◌, ◌++◌, append-nil, map, Option, Some, None, refl, sym, ap, ◌∙◌, slice_get}
use Rattle.std.specs.List.{list_any, flat_map, filter, fold, enumerate_from}
use Rattle.std.proofs.Math.Bool.{or_comm}
use Rattle.std.proofs.lemmas.List.Folds.{list_any-append}
use Rattle.tl_types.specs.declared.cells.Cell.{Cell}
use Rattle.tl_types.specs.declared.batches.BatchFault.TheVariants as fault
use Rattle.tl_types.specs.declared.batches.KeyLine.{KeyLine}
use Rattle.tl_types.specs.Plain as plain
use Rattle.tl_types.specs.History.{is_open}
use Rattle.tl_types.specs.Resolving.{WorkingRow, BatchLine, same_key, affects, after_line, open_rows, line_fault, put_lines, removal_lines}
use Rattle.tl_batch.specs.Pieces.{affects_period, cuts, periods_with}
use Rattle.tl_batch.specs.Faults.{is_row_affected, fault_from}
use Rattle.tl_batch.proofs.Rows.{rows_left, puts_left, worked_by_rows, fresh, rows_left-old}
use Rattle.tl_batch.proofs.ChangeLemmas.{open_from}

and_false : (b : Bool) → (b && false) ≡ false
and_false true = refl
and_false false = refl

any_flat : {A B : Type 0} (test : B → Bool) (f : A → List B) (xs : List A) → list_any test (flat_map f xs) ≡ list_any (λ x. list_any test (f x)) xs
any_flat test f [] = refl
any_flat test f (x ∷ xs) = list_any-append test (f x) (flat_map f xs) ∙ ap (λ b. list_any test (f x) || b) (any_flat test f xs)

-- what no line affects is left whole
pub whole_left : (valid : Bool) (lines : List (Option plain.Period)) (p : Option plain.Period) → list_any (λ line. affects_period valid line p) lines ≡ false → cuts valid lines p ≡ p ∷ []
whole_left valid [] p e = refl
whole_left valid (line ∷ lines) p e = grind (arith, whole_left valid lines p)

fresh_row_affected : (schema : plain.Schema) (said : BatchLine) (cells : List Cell) (ps : List (Option plain.Period)) → list_any (affects schema said) (map (fresh cells) ps) ≡ (same_key (slice_get cells schema.key) said.key && list_any (λ p. affects_period schema.valid said.period p) ps)
fresh_row_affected schema said cells [] = sym (and_false (same_key (slice_get cells schema.key) said.key))
fresh_row_affected schema said cells (p ∷ ps) = ap (λ b. affects schema said (fresh cells p) || b) (fresh_row_affected schema said cells ps) ∙ table (same_key (slice_get cells schema.key) said.key) (affects_period schema.valid said.period p) (list_any (λ q. affects_period schema.valid said.period q) ps) where
  table : (a b c : Bool) → ((a && b) || (a && c)) ≡ (a && (b || c))
  table true b c = refl
  table false b c = refl

old_row_affected : (schema : plain.Schema) (earlier : List BatchLine) (said : BatchLine) (n : ℕ) (r : plain.Row)
    → list_any (affects schema said) (rows_left schema earlier (record { id = Some n; row = record { cells = r.cells; period = r.period } }))
    ≡ (same_key (slice_get r.cells schema.key) said.key && list_any (λ p. affects_period schema.valid said.period p) (cuts schema.valid (periods_with (slice_get r.cells schema.key) earlier) r.period))
old_row_affected schema earlier said n r = ap (list_any (affects schema said)) (rows_left-old schema earlier n r.cells r.period) ∙ by_test (list_any (λ line. affects_period schema.valid line r.period) lines) refl where
  lines : List (Option plain.Period)
  lines = periods_with (slice_get r.cells schema.key) earlier

  same : Bool
  same = same_key (slice_get r.cells schema.key) said.key

  none : (a b : Bool) → ((a && b) || false) ≡ (a && (b || false))
  none true b = refl
  none false b = refl

  by_test : (b : Bool) → list_any (λ line. affects_period schema.valid line r.period) lines ≡ b
      → list_any (affects schema said) (cond b (map (fresh r.cells) (cuts schema.valid lines r.period)) (record { id = Some n; row = record { cells = r.cells; period = r.period } } ∷ [])) ≡ (same && list_any (λ p. affects_period schema.valid said.period p) (cuts schema.valid lines r.period))
  by_test true e = fresh_row_affected schema said r.cells (cuts schema.valid lines r.period)
  by_test false e = none same (affects_period schema.valid said.period r.period) ∙ ap (λ ps. same && list_any (λ p. affects_period schema.valid said.period p) ps) (sym (whole_left schema.valid lines r.period e))

rows_row_affected : (schema : plain.Schema) (earlier : List BatchLine) (said : BatchLine) (n : ℕ) (rows : List plain.Row) → list_any (λ h. list_any (affects schema said) (rows_left schema earlier h)) (open_from n rows) ≡ list_any (is_row_affected schema earlier said) rows
rows_row_affected schema earlier said n [] = refl
rows_row_affected schema earlier said n (r ∷ rows) = split (is_open r) (rows_row_affected schema earlier said (n + 1) rows) where
  rest : List (ℕ × plain.Row)
  rest = filter (λ s. is_open s.1) (enumerate_from (n + 1) rows)

  old : ℕ × plain.Row → WorkingRow
  old s = record { id = Some s.0; row = record { cells = s.1.cells; period = s.1.period } }

  any : WorkingRow → Bool
  any h = list_any (affects schema said) (rows_left schema earlier h)

  split : (b : Bool) → list_any any (map old rest) ≡ list_any (is_row_affected schema earlier said) rows
      → list_any any (map old (cond b ((n, r) ∷ rest) rest)) ≡ ((b && (same_key (slice_get r.cells schema.key) said.key && list_any (λ p. affects_period schema.valid said.period p) (cuts schema.valid (periods_with (slice_get r.cells schema.key) earlier) r.period))) || list_any (is_row_affected schema earlier said) rows)
  split true later = ap (λ b. b || list_any any (map old rest)) (old_row_affected schema earlier said n r) ∙ ap (λ b. (same_key (slice_get r.cells schema.key) said.key && list_any (λ p. affects_period schema.valid said.period p) (cuts schema.valid (periods_with (slice_get r.cells schema.key) earlier) r.period)) || b) later
  split false later = later

-- a line that removes affects what the definition says
pub working_row_affected : (t : plain.Table) (earlier : List BatchLine) (said : BatchLine) → puts_left t.schema earlier ≡ [] → list_any (affects t.schema said) (fold (after_line t.schema) (open_rows t) earlier) ≡ list_any (is_row_affected t.schema earlier said) t.rows
working_row_affected t earlier said none =
    ap (list_any (affects t.schema said)) (worked_by_rows t.schema earlier (open_rows t) ∙ (ap (λ ps. flat_map (rows_left t.schema earlier) (open_rows t) ++ ps) none ∙ append-nil (flat_map (rows_left t.schema earlier) (open_rows t))))
    ∙ (any_flat (affects t.schema said) (rows_left t.schema earlier) (open_rows t) ∙ rows_row_affected t.schema earlier said 0 t.rows)

puts_none : (schema : plain.Schema) (lines : List KeyLine) → puts_left schema (removal_lines lines) ≡ []
puts_none schema [] = refl
puts_none schema (k ∷ lines) = puts_none schema lines

fold_more : (schema : plain.Schema) (held : List WorkingRow) (lines : List BatchLine) (said : BatchLine) → fold (after_line schema) held (lines ++ said ∷ []) ≡ after_line schema (fold (after_line schema) held lines) said
fold_more schema held [] said = refl
fold_more schema held (line ∷ lines) said = fold_more schema (after_line schema held line) lines said

keys_more : (lines : List KeyLine) (k : KeyLine) → removal_lines (lines ++ k ∷ []) ≡ removal_lines lines ++ removal_lines (k ∷ [])
keys_more [] k = refl
keys_more (l ∷ lines) k = ap (λ ls. record { key = Some l.key; period = l.period; puts = None } ∷ ls) (keys_more lines k)

seen_more : (e : BatchLine) (seen earlier : List BatchLine) → ((k : Option Cell) → list_any (λ s. same_key s.key k) seen ≡ list_any (λ s. same_key s.key k) earlier) → (k : Option Cell) → list_any (λ s. same_key s.key k) (e ∷ seen) ≡ list_any (λ s. same_key s.key k) (earlier ++ e ∷ [])
seen_more e seen earlier same k =
    ap (λ b. same_key e.key k || b) (same k) ∙ (or_comm (same_key e.key k) (list_any (λ s. same_key s.key k) earlier) ∙ (ap (λ b. list_any (λ s. same_key s.key k) earlier || b) (none (same_key e.key k)) ∙ sym (list_any-append (λ s. same_key s.key k) earlier (e ∷ [])))) where
      none : (b : Bool) → b ≡ (b || false)
      none true = refl
      none false = refl

-- the first fault of lines that remove
pub fault_of_keys : (t : plain.Table) (rec : ℕ) (seen : List BatchLine) (before : List KeyLine) (lines : List KeyLine) → ((k : Option Cell) → list_any (λ s. same_key s.key k) seen ≡ list_any (λ s. same_key s.key k) (removal_lines before))
    → line_fault t.schema rec seen (fold (after_line t.schema) (open_rows t) (removal_lines before)) (removal_lines lines) ≡ fault_from t.schema true t.rows rec (removal_lines before) (removal_lines lines)
fault_of_keys t rec seen before [] same = refl
fault_of_keys t rec seen before (k ∷ lines) same =
    let said : BatchLine = record { key = Some k.key; period = k.period; puts = None } in
    let earlier : List BatchLine = removal_lines before in
    let later = fault_of_keys t (rec + 1) (said ∷ seen) (before ++ k ∷ []) lines (λ q. seen_more said seen earlier same q ∙ ap (list_any (λ s. same_key s.key q)) (sym (keys_more before k))) in
    let next : line_fault t.schema (rec + 1) (said ∷ seen) (after_line t.schema (fold (after_line t.schema) (open_rows t) earlier) said) (removal_lines lines) ≡ fault_from t.schema true t.rows (rec + 1) (earlier ++ said ∷ []) (removal_lines lines) =
    ap (λ hs. line_fault t.schema (rec + 1) (said ∷ seen) hs (removal_lines lines)) (sym (ap (fold (after_line t.schema) (open_rows t)) (keys_more before k) ∙ fold_more t.schema (open_rows t) earlier said)) ∙ (later ∙ ap (λ ls. fault_from t.schema true t.rows (rec + 1) ls (removal_lines lines)) (keys_more before k)) in
    ap (λ b. cond (not t.schema.valid && b) (Some (fault.KeyTwice rec)) (cond (not (list_any (affects t.schema said) (fold (after_line t.schema) (open_rows t) earlier))) (Some (fault.NoRow rec)) (line_fault t.schema (rec + 1) (said ∷ seen) (after_line t.schema (fold (after_line t.schema) (open_rows t) earlier) said) (removal_lines lines)))) (same (Some k.key))
    ∙ (ap (λ b. cond (not t.schema.valid && list_any (λ e. same_key e.key (Some k.key)) earlier) (Some (fault.KeyTwice rec)) (cond (not b) (Some (fault.NoRow rec)) (line_fault t.schema (rec + 1) (said ∷ seen) (after_line t.schema (fold (after_line t.schema) (open_rows t) earlier) said) (removal_lines lines)))) (working_row_affected t earlier said (puts_none t.schema before))
    ∙ ap (λ f. cond (not t.schema.valid && list_any (λ e. same_key e.key (Some k.key)) earlier) (Some (fault.KeyTwice rec)) (cond (not (list_any (is_row_affected t.schema earlier said) t.rows)) (Some (fault.NoRow rec)) f)) next)

-- the first fault of lines that put rows
pub fault_of_rows : (t : plain.Table) (rec : ℕ) (seen earlier : List BatchLine) (held : List WorkingRow) (lines : List plain.Opened) → ((k : Option Cell) → list_any (λ s. same_key s.key k) seen ≡ list_any (λ s. same_key s.key k) earlier)
    → line_fault t.schema rec seen held (put_lines t.schema lines) ≡ fault_from t.schema false t.rows rec earlier (put_lines t.schema lines)
fault_of_rows t rec seen earlier held [] same = refl
fault_of_rows t rec seen earlier held (o ∷ lines) same =
    let said : BatchLine = record { key = slice_get o.cells t.schema.key; period = o.period; puts = Some o } in
    ap (λ b. cond (not t.schema.valid && b) (Some (fault.KeyTwice rec)) (line_fault t.schema (rec + 1) (said ∷ seen) (after_line t.schema held said) (put_lines t.schema lines))) (same (slice_get o.cells t.schema.key))
    ∙ ap (λ f. cond (not t.schema.valid && list_any (λ e. same_key e.key (slice_get o.cells t.schema.key)) earlier) (Some (fault.KeyTwice rec)) f) (fault_of_rows t (rec + 1) (said ∷ seen) (earlier ++ said ∷ []) (after_line t.schema held said) lines (seen_more said seen earlier same))

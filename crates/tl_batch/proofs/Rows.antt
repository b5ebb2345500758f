-- A working list decomposes by row: each row leaves what the later lines of its key leave of it.
use Rattle.std.proofs.Common.{◌≡◌, ℕ, zero, suc, ◌≤◌, Bool, true, false, ◌&&◌, ◌||◌, cond, List, [], ◌∷◌, ◌++◌, length, map, drop, Option, Some, None, is_some, refl, sym, ap, ◌∙◌, arith, slice_get, append_assoc, append-nil}
use Rattle.std.specs.List.{list_any, flat_map, fold, filter_map}
use Rattle.std.proofs.lemmas.List.Elements.{filter_map-append}
use Rattle.std.proofs.lemmas.List.Folds.{flat_map-map}
use Rattle.std.proofs.lemmas.Grind.{flat_map-append}
use Rattle.tl_types.specs.declared.cells.Cell.{Cell}
use Rattle.tl_types.specs.Plain as plain
use Rattle.tl_types.specs.Resolving.{WorkingRow, BatchLine, same_key, affects, remainders, put_row, after_line, ids_of, new_rows}
use Rattle.tl_batch.specs.Pieces.{affects_period, rest_of, cut, cuts, periods_with, over, put_pieces}

-- LISTS

pub flat_map-flat_map : {A B C : Type 0} (g : B → List C) (f : A → List B) (xs : List A) → flat_map g (flat_map f xs) ≡ flat_map (λ x. flat_map g (f x)) xs
flat_map-flat_map g f [] = refl
flat_map-flat_map g f (x ∷ xs) = flat_map-append g (f x) (flat_map f xs) ∙ ap (λ ys. flat_map g (f x) ++ ys) (flat_map-flat_map g f xs)

pub flat_map-one : {A : Type 0} (xs : List A) → flat_map (λ x. x ∷ []) xs ≡ xs
flat_map-one [] = refl
flat_map-one (x ∷ xs) = ap (λ ys. x ∷ ys) (flat_map-one xs)

pub flat_map-same : {A B : Type 0} (f g : A → List B) → ((x : A) → f x ≡ g x) → (xs : List A) → flat_map f xs ≡ flat_map g xs
flat_map-same f g same [] = refl
flat_map-same f g same (x ∷ xs) = ap (λ ys. ys ++ flat_map f xs) (same x) ∙ ap (λ ys. g x ++ ys) (flat_map-same f g same xs)

pub map-flat_map : {A B C : Type 0} (g : B → C) (f : A → List B) (xs : List A) → flat_map (λ x. map g (f x)) xs ≡ map g (flat_map f xs)
map-flat_map g f [] = refl
map-flat_map g f (x ∷ xs) = ap (λ ys. map g (f x) ++ ys) (map-flat_map g f xs) ∙ sym (map_append g (f x) (flat_map f xs)) where
  map_append : {B C : Type 0} (g : B → C) (ys zs : List B) → map g (ys ++ zs) ≡ map g ys ++ map g zs
  map_append g [] zs = refl
  map_append g (y ∷ ys) zs = ap (λ rest. g y ∷ rest) (map_append g ys zs)

pub filter_map-flat_map : {A B C : Type 0} (h : B → Option C) (f : A → List B) (xs : List A) → filter_map h (flat_map f xs) ≡ flat_map (λ x. filter_map h (f x)) xs
filter_map-flat_map h f [] = refl
filter_map-flat_map h f (x ∷ xs) = cc (filter_map-append h (f x) (flat_map f xs), filter_map-flat_map h f xs)

-- PIECES

drop_past : {A : Type 0} (xs : List A) (i : ℕ) → length xs ≤ i → drop i xs ≡ []
drop_past [] zero h = refl
drop_past [] (suc i) h = refl
drop_past (x ∷ xs) zero h = absurd (omega arith)
drop_past (x ∷ xs) (suc i) h = drop_past xs i (omega arith)

-- THE WORKING LIST BY ROWS

-- what a line leaves of a row
abbrev pub line_leaves : plain.Schema → BatchLine → WorkingRow → List WorkingRow
line_leaves schema said h = cond (affects schema said h) (remainders said h) (h ∷ [])

-- what lines leave of a row
abbrev pub rows_left : plain.Schema → List BatchLine → WorkingRow → List WorkingRow
rows_left schema [] h = h ∷ []
rows_left schema (said ∷ lines) h = flat_map (rows_left schema lines) (line_leaves schema said h)

-- what is left of the rows that the lines put, each after the lines behind its own
abbrev pub puts_left : plain.Schema → List BatchLine → List WorkingRow
puts_left schema [] = []
puts_left schema (said ∷ lines) = flat_map (rows_left schema lines) (put_row said) ++ puts_left schema lines

-- the working list at the end: what is left of the rows of the start, then what is left of the rows put
pub worked_by_rows : (schema : plain.Schema) (lines : List BatchLine) (held : List WorkingRow) → fold (after_line schema) held lines ≡ flat_map (rows_left schema lines) held ++ puts_left schema lines
worked_by_rows schema [] held = sym (append-nil (flat_map (λ h. h ∷ []) held) ∙ flat_map-one held)
worked_by_rows schema (said ∷ lines) held =
    worked_by_rows schema lines (after_line schema held said)
    ∙ (ap (λ hs. hs ++ puts_left schema lines) (flat_map-append (rows_left schema lines) (flat_map (line_leaves schema said) held) (put_row said) ∙ ap (λ hs. hs ++ flat_map (rows_left schema lines) (put_row said)) (flat_map-flat_map (rows_left schema lines) (line_leaves schema said) held))
    ∙ append_assoc (flat_map (rows_left schema (said ∷ lines)) held) (flat_map (rows_left schema lines) (put_row said)) (puts_left schema lines))

-- PIECES OF ROWS

-- a row without id
abbrev pub fresh : List Cell → Option plain.Period → WorkingRow
fresh cells p = record { id = None; row = record { cells = cells; period = p } }

remainders-rest : (key : Option Cell) (puts : Option plain.Opened) (line : Option plain.Period) (id : Option ℕ) (cells : List Cell) (p : Option plain.Period)
    → remainders (record { key = key; period = line; puts = puts }) (record { id = id; row = record { cells = cells; period = p } }) ≡ map (fresh cells) (rest_of line p)
remainders-rest key puts None id cells p = refl
remainders-rest key puts (Some q) id cells None = refl
remainders-rest key puts (Some q) id cells (Some p) = grind arith

-- what lines leave of pieces of one row
rows_left-each : (schema : plain.Schema) (lines : List BatchLine) (cells : List Cell) (parts : List (Option plain.Period)) → ((p : Option plain.Period) → rows_left schema lines (fresh cells p) ≡ map (fresh cells) (cuts schema.valid (periods_with (slice_get cells schema.key) lines) p))
    → flat_map (rows_left schema lines) (map (fresh cells) parts) ≡ map (fresh cells) (flat_map (cuts schema.valid (periods_with (slice_get cells schema.key) lines)) parts)
rows_left-each schema lines cells parts each = grind (arith, flat_map-map (rows_left schema lines) (fresh cells) parts, map-flat_map (fresh cells) (cuts schema.valid (periods_with (slice_get cells schema.key) lines)) parts)

-- a row without id leaves the pieces of its period
pub rows_left-fresh : (schema : plain.Schema) (lines : List BatchLine) (cells : List Cell) (p : Option plain.Period) → rows_left schema lines (fresh cells p) ≡ map (fresh cells) (cuts schema.valid (periods_with (slice_get cells schema.key) lines) p)
rows_left-fresh schema [] cells p = refl
rows_left-fresh schema (said ∷ lines) cells p = by_key (same_key (slice_get cells schema.key) said.key) (rows_left-fresh schema lines cells) where
  key : Option Cell
  key = slice_get cells schema.key

  later : List (Option plain.Period)
  later = periods_with key lines

  affected : Bool
  affected = affects_period schema.valid said.period p

  chosen : (m : Bool) → cond m (remainders said (fresh cells p)) (fresh cells p ∷ []) ≡ map (fresh cells) (cond m (rest_of said.period p) (p ∷ []))
  chosen true = remainders-rest said.key said.puts said.period None cells p
  chosen false = refl

  by_key : (b : Bool) → ((q : Option plain.Period) → rows_left schema lines (fresh cells q) ≡ map (fresh cells) (cuts schema.valid later q))
      → flat_map (rows_left schema lines) (cond (b && affected) (remainders said (fresh cells p)) (fresh cells p ∷ [])) ≡ map (fresh cells) (cuts schema.valid (cond b (said.period ∷ later) later) p)
  by_key true each = cc (chosen affected, rows_left-each schema lines cells (cut schema.valid said.period p) each)
  by_key false each = append-nil (rows_left schema lines (fresh cells p)) ∙ each p

-- a row with an id stays where no line affects it, and else leaves the pieces of its period
pub rows_left-old : (schema : plain.Schema) (lines : List BatchLine) (n : ℕ) (cells : List Cell) (p : Option plain.Period)
    → rows_left schema lines (record { id = Some n; row = record { cells = cells; period = p } })
    ≡ cond (list_any (λ line. affects_period schema.valid line p) (periods_with (slice_get cells schema.key) lines)) (map (fresh cells) (cuts schema.valid (periods_with (slice_get cells schema.key) lines) p)) (record { id = Some n; row = record { cells = cells; period = p } } ∷ [])
rows_left-old schema [] n cells p = refl
rows_left-old schema (said ∷ lines) n cells p = by_key (same_key (slice_get cells schema.key) said.key) (rows_left-old schema lines n cells p) where
  key : Option Cell
  key = slice_get cells schema.key

  later : List (Option plain.Period)
  later = periods_with key lines

  old : WorkingRow
  old = record { id = Some n; row = record { cells = cells; period = p } }

  any : List (Option plain.Period) → Bool
  any qs = list_any (λ line. affects_period schema.valid line p) qs

  by_affect : (m : Bool) → rows_left schema lines old ≡ cond (any later) (map (fresh cells) (cuts schema.valid later p)) (old ∷ [])
      → flat_map (rows_left schema lines) (cond m (remainders said old) (old ∷ [])) ≡ cond (m || any later) (map (fresh cells) (flat_map (cuts schema.valid later) (cond m (rest_of said.period p) (p ∷ [])))) (old ∷ [])
  by_affect true same = ap (flat_map (rows_left schema lines)) (remainders-rest said.key said.puts said.period (Some n) cells p) ∙ rows_left-each schema lines cells (rest_of said.period p) (rows_left-fresh schema lines cells)
  by_affect false same = append-nil (rows_left schema lines old) ∙ (same ∙ ap (λ ps. cond (any later) (map (fresh cells) ps) (old ∷ [])) (sym (append-nil (cuts schema.valid later p))))

  by_key : (b : Bool) → rows_left schema lines old ≡ cond (any later) (map (fresh cells) (cuts schema.valid later p)) (old ∷ [])
      → flat_map (rows_left schema lines) (cond (b && affects_period schema.valid said.period p) (remainders said old) (old ∷ [])) ≡ cond (any (cond b (said.period ∷ later) later)) (map (fresh cells) (cuts schema.valid (cond b (said.period ∷ later) later) p)) (old ∷ [])
  by_key true same = by_affect (affects_period schema.valid said.period p) same
  by_key false same = append-nil (rows_left schema lines old) ∙ same

pub fresh-ids : (cells : List Cell) (ps : List (Option plain.Period)) → ids_of (map (fresh cells) ps) ≡ []
fresh-ids cells [] = refl
fresh-ids cells (p ∷ ps) = fresh-ids cells ps

pub fresh-rows : (cells : List Cell) (ps : List (Option plain.Period)) → new_rows (map (fresh cells) ps) ≡ over cells ps
fresh-rows cells [] = refl
fresh-rows cells (p ∷ ps) = ap (λ rows. record { cells = cells; period = p } ∷ rows) (fresh-rows cells ps)

pub puts_left-ids : (schema : plain.Schema) (lines : List BatchLine) → ids_of (puts_left schema lines) ≡ []
puts_left-ids schema [] = refl
puts_left-ids schema (said ∷ lines) =
    filter_map-append (λ h. h.id) (flat_map (rows_left schema lines) (put_row said)) (puts_left schema lines)
    ∙ (ap (λ ids. ids_of (flat_map (rows_left schema lines) (put_row said)) ++ ids) (puts_left-ids schema lines) ∙ (append-nil (ids_of (flat_map (rows_left schema lines) (put_row said))) ∙ of_row said.puts)) where
      of_row : (o : Option plain.Opened) → ids_of (flat_map (rows_left schema lines) (put_row (record { key = said.key; period = said.period; puts = o }))) ≡ []
      of_row None = refl
      of_row (Some row) = ap ids_of (append-nil (rows_left schema lines (fresh row.cells row.period)) ∙ rows_left-fresh schema lines row.cells row.period) ∙ fresh-ids row.cells (cuts schema.valid (periods_with (slice_get row.cells schema.key) lines) row.period)

pub puts_left-rows : (schema : plain.Schema) (lines : List BatchLine) → new_rows (puts_left schema lines) ≡ put_pieces schema lines
puts_left-rows schema [] = refl
puts_left-rows schema (said ∷ lines) =
    filter_map-append (λ h. cond (is_some h.id) None (Some h.row)) (flat_map (rows_left schema lines) (put_row said)) (puts_left schema lines)
    ∙ (ap (λ rows. new_rows (flat_map (rows_left schema lines) (put_row said)) ++ rows) (puts_left-rows schema lines) ∙ of_row said.puts) where
      of_row : (o : Option plain.Opened) → (new_rows (flat_map (rows_left schema lines) (put_row (record { key = said.key; period = said.period; puts = o }))) ++ put_pieces schema lines) ≡ put_pieces schema (record { key = said.key; period = said.period; puts = o } ∷ lines)
      of_row None = refl
      of_row (Some row) = ap (λ rows. rows ++ put_pieces schema lines) (ap new_rows (append-nil (rows_left schema lines (fresh row.cells row.period)) ∙ rows_left-fresh schema lines row.cells row.period) ∙ fresh-rows row.cells (cuts schema.valid (periods_with (slice_get row.cells schema.key) lines) row.period))

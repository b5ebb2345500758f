-- Lines for a table without valid time: the first fault, the rows that they close and the rows that they open.
use Rattle.std.proofs.Common.{◌≡◌, ℕ, suc, ◌+◌, ◌<◌, ◌≤◌, Bool, true, false, ◌&&◌, ◌||◌, not, cond, List, [], ◌∷◌, ◌++◌, length, map, take, get_or, slice_get, Option, Some, None, Result, Ok, Err, subst, refl, sym, ap, ◌∙◌, arith}
use Rattle.std.specs.Borrow.{Bor}
use Rattle.std.specs.List.{list_any, list_all}
use Rattle.std.proofs.lemmas.Bool.{and_parts}
use Rattle.std.proofs.lemmas.List.{take_more, map-append}
use Rattle.std.proofs.lemmas.List.Folds.{list_any-append}
use Rattle.std.proofs.lemmas.Option.{slice_get_read}
use Rattle.tl_types.specs.declared.cells.Cell.{Cell}
use Rattle.tl_types.specs.declared.batches.BatchFault.{BatchFault}
use Rattle.tl_types.specs.declared.batches.KeyLine.{KeyLine}
use Rattle.tl_types.specs.declared.batches.BatchFault.TheVariants as fault
use Rattle.tl_types.specs.Facts.{AscendFrom}
use Rattle.tl_types.specs.Plain as plain
use Rattle.tl_types.specs.History.{is_open, has_id, matches}
use Rattle.tl_types.specs.Resolving.{BatchLine, same_key, put_lines, removal_lines}
use Rattle.tl_batch.specs.Faults.{fault_from, is_row_affected}
use Rattle.tl_batch.specs.KeyIndex.{IdsByKey, has_row}
use Rattle.tl_batch.specs.OpenTables.{IsIndexOf}
use Rattle.tl_batch.specs.Pieces.{affects_period, cuts, periods_with, is_affected, affected_ids, over, row_pieces, old_pieces, put_pieces, is_open_affected}
use Rattle.tl_batch.specs.Standing.{is_open_with, rows_match}
use Rattle.tl_batch.specs.declared.changing.RowChanges.{RowChanges}
use Rattle.tl_batch.specs.Made.{IsMade, IsClosed}
use Rattle.tl_batch.specs.Untimed.{has_cell, key_fault}
use Rattle.tl_batch.proofs.KeyIndexLemmas.{cell_sym, cell_self, same_as}
use Rattle.tl_batch.proofs.RowChangesLemmas.{closes_are, nothing_left}
use Rattle.tl_batch.proofs.LineFaultLemmas.{row_affected_keyed, never_fault}

-- THE FIRST FAULT

first_key : (l : BatchLine) (lines : List BatchLine) (k : Bor Cell) (keys : List (Bor Cell)) → map (λ m. m.key) (l ∷ lines) ≡ map (λ q. Some q.now) (k ∷ keys) → l.key ≡ Some k.now
first_key l lines k keys same = cc

other_keys : (l : BatchLine) (lines : List BatchLine) (k : Bor Cell) (keys : List (Bor Cell)) → map (λ m. m.key) (l ∷ lines) ≡ map (λ q. Some q.now) (k ∷ keys) → map (λ m. m.key) lines ≡ map (λ q. Some q.now) keys
other_keys l lines k keys same = cc

known_more : (earlier : List BatchLine) (seen : List Cell) (l : BatchLine) (k : Cell) → l.key ≡ Some k → ((x : Cell) → list_any (λ e. same_key e.key (Some x)) earlier ≡ has_cell seen x) → (x : Cell) → list_any (λ e. same_key e.key (Some x)) (earlier ++ l ∷ []) ≡ has_cell (k ∷ seen) x
known_more earlier seen l k key known x = grind (arith, list_any-append (λ (e : BatchLine). same_key e.key (Some x)) earlier (l ∷ []), cell_sym k x, known x)

at_line : (schema : plain.Schema) (removes : Bool) (rows : List plain.Row) (rec : ℕ) (earlier : List BatchLine) (seen : List Cell) (l : BatchLine) (lines : List BatchLine) (k : Cell) (keys : List Cell) → schema.valid ≡ false → l.key ≡ Some k
    → ((x : Cell) → list_any (λ e. same_key e.key (Some x)) earlier ≡ has_cell seen x) → key_fault removes schema.key rows (rec + 1) (k ∷ seen) keys ≡ fault_from schema removes rows (rec + 1) (earlier ++ l ∷ []) lines
    → key_fault removes schema.key rows rec seen (k ∷ keys) ≡ fault_from schema removes rows rec earlier (l ∷ lines)
at_line schema removes rows rec earlier seen l lines k keys untimed key known later =
    let twice : list_any (λ e. same_key e.key l.key) earlier ≡ has_cell seen k = ap (λ q. list_any (λ (e : BatchLine). same_key e.key q) earlier) key ∙ known k in
    grind (arith, later, row_affected_keyed schema rows earlier l k untimed key)

faults_by_keys : (schema : plain.Schema) (removes : Bool) (rows : List plain.Row) (rec : ℕ) (earlier : List BatchLine) (seen : List Cell) (lines : List BatchLine) (keys : List (Bor Cell)) → schema.valid ≡ false → map (λ l. l.key) lines ≡ map (λ k. Some k.now) keys
    → ((x : Cell) → list_any (λ e. same_key e.key (Some x)) earlier ≡ has_cell seen x) → key_fault removes schema.key rows rec seen (map (λ k. k.now) keys) ≡ fault_from schema removes rows rec earlier lines
faults_by_keys schema removes rows rec earlier seen [] [] untimed same known = refl
faults_by_keys schema removes rows rec earlier seen [] (k ∷ keys) untimed same known = absurd (cc)
faults_by_keys schema removes rows rec earlier seen (l ∷ lines) [] untimed same known = absurd (cc)
faults_by_keys schema removes rows rec earlier seen (l ∷ lines) (k ∷ keys) untimed same known =
    at_line schema removes rows rec earlier seen l lines k.now (map (λ q. q.now) keys) untimed (first_key l lines k keys same) known
    (faults_by_keys schema removes rows (rec + 1) (earlier ++ l ∷ []) (k.now ∷ seen) lines keys untimed (other_keys l lines k keys same) (known_more earlier seen l k.now (first_key l lines k keys same) known))

pub fault_by_keys : (schema : plain.Schema) (removes : Bool) (rows : List plain.Row) (lines : List BatchLine) (keys : List (Bor Cell)) (found : Option BatchFault) → schema.valid ≡ false → map (λ l. l.key) lines ≡ map (λ k. Some k.now) keys
    → found ≡ key_fault removes schema.key rows 2 [] (map (λ k. k.now) keys) → found ≡ fault_from schema removes rows 2 [] lines
fault_by_keys schema removes rows lines keys found untimed same e = grind (arith, faults_by_keys schema removes rows 2)

-- THE ROWS THAT ARE CLOSED

row_affected : (schema : plain.Schema) (key : Option Cell) (whole : Option plain.Period) (lines : List BatchLine) (keys : List (Bor Cell)) → schema.valid ≡ false → map (λ l. l.key) lines ≡ map (λ k. Some k.now) keys
    → list_any (λ k. same_key key (Some k.now)) keys ≡ list_any (λ p. affects_period schema.valid p whole) (periods_with key lines)
row_affected schema key whole [] [] untimed same = refl
row_affected schema key whole [] (k ∷ keys) untimed same = absurd (cc)
row_affected schema key whole (l ∷ lines) [] untimed same = absurd (cc)
row_affected schema key whole (l ∷ lines) (k ∷ keys) untimed same = grind (arith, first_key l lines k keys same, row_affected schema key whole lines keys untimed (other_keys l lines k keys same), other_keys l lines k keys same)

keys_open : (schema : plain.Schema) (o : Option plain.Row) (lines : List BatchLine) (keys : List (Bor Cell)) → schema.valid ≡ false → map (λ l. l.key) lines ≡ map (λ k. Some k.now) keys → list_any (λ k. is_open_with schema.key k.now o) keys ≡ is_open_affected schema lines o
keys_open schema None lines keys untimed same = none keys where
  none : (qs : List (Bor Cell)) → list_any (λ (k : Bor Cell). false) qs ≡ false
  none [] = refl
  none (q ∷ qs) = none qs
keys_open schema (Some r) lines keys untimed same = each (is_open r) keys ∙ ap (λ b. is_open r && b) (row_affected schema (slice_get r.cells schema.key) r.period lines keys untimed same) where
  each : (b : Bool) (qs : List (Bor Cell)) → list_any (λ k. b && same_key (slice_get r.cells schema.key) (Some k.now)) qs ≡ (b && list_any (λ k. same_key (slice_get r.cells schema.key) (Some k.now)) qs)
  each true qs = refl
  each false [] = refl
  each false (q ∷ qs) = each false qs

any_same : {X : Type 0} (f g : X → Bool) (xs : List X) → ((x : X) → f x ≡ g x) → list_any f xs ≡ list_any g xs
any_same f g [] e = refl
any_same f g (x ∷ xs) e = ap (λ b. b || list_any f xs) (e x) ∙ ap (λ b. g x || b) (any_same f g xs e)

pub closes_by_keys : (schema : plain.Schema) (rows : List plain.Row) (lines : List BatchLine) (keys : List (Bor Cell)) (index : IdsByKey) (ids : List ℕ) → schema.valid ≡ false → map (λ l. l.key) lines ≡ map (λ k. Some k.now) keys → IsIndexOf index schema.key rows
    → AscendFrom 0 ids → ((n : ℕ) → has_id ids n ≡ list_any (λ k. has_row index k.now n) keys) → ids ≡ affected_ids schema lines 0 rows
closes_by_keys schema rows lines keys index ids untimed same stand ascend members =
    closes_are schema lines rows ids ascend (λ n. members n ∙ (any_same (λ (k : Bor Cell). has_row index k.now n) (λ k. is_open_with schema.key k.now (slice_get rows n)) keys (λ k. stand k.now n) ∙ keys_open schema (slice_get rows n) lines keys untimed same))

-- THE ROWS THAT ARE OPENED

no_period : (schema : plain.Schema) (o : plain.Opened) → schema.valid ≡ false → matches schema o ≡ true → o.period ≡ None
no_period schema o untimed m = grind arith

some_line : (ps : List (Option plain.Period)) (whole : Option plain.Period) (valid : Bool) → list_any (λ p. affects_period valid p whole) ps ≡ true → 1 ≤ length ps
some_line [] whole valid e = absurd (cc)
some_line (p ∷ ps) whole valid e = omega arith

-- nothing is left of a row
pub old_none : (schema : plain.Schema) (lines : List BatchLine) (rows : List plain.Row) → schema.valid ≡ false → list_all (λ r. matches schema (record { cells = r.cells; period = r.period })) rows ≡ true → old_pieces schema lines rows ≡ []
old_none schema lines [] untimed all = refl
old_none schema lines (r ∷ rows) untimed all = split (is_open r) (is_affected schema lines r) refl (old_none schema lines rows untimed (and_parts (matches schema (record { cells = r.cells; period = r.period })) (list_all (λ s. matches schema (record { cells = s.cells; period = s.period })) rows) all).1) where
  parts : (matches schema (record { cells = r.cells; period = r.period }) ≡ true) × (list_all (λ s. matches schema (record { cells = s.cells; period = s.period })) rows ≡ true)
  parts = and_parts (matches schema (record { cells = r.cells; period = r.period })) (list_all (λ s. matches schema (record { cells = s.cells; period = s.period })) rows) all

  own : List (Option plain.Period)
  own = periods_with (slice_get r.cells schema.key) lines

  span : r.period ≡ None
  span = no_period schema (record { cells = r.cells; period = r.period }) untimed parts.0

  gone : is_affected schema lines r ≡ true → row_pieces schema lines r.cells r.period ≡ []
  gone e = ap (λ ps. over r.cells ps) (ap (λ v. cuts v own r.period) untimed ∙ (ap (cuts false own) span ∙ nothing_left own (some_line own r.period schema.valid e)))

  split : (a b : Bool) → is_affected schema lines r ≡ b → old_pieces schema lines rows ≡ [] → cond (a && b) (row_pieces schema lines r.cells r.period ++ old_pieces schema lines rows) (old_pieces schema lines rows) ≡ []
  split true true e later = ap (λ os. os ++ old_pieces schema lines rows) (gone e) ∙ later
  split true false e later = later
  split false b e later = later

parts_none : (a b : Bool) (x y : BatchFault) (rest : Option BatchFault) → cond a (Some x) (cond b (Some y) rest) ≡ None → (a ≡ false) × (rest ≡ None)
parts_none true b x y rest e = absurd (cc)
parts_none false true x y rest e = absurd (cc)
parts_none false false x y rest e = (refl, e)

key_same : (k one other : Option Cell) → same_key one other ≡ true → same_key k one ≡ same_key k other
key_same k None other e = absurd (cc)
key_same k (Some x) None e = absurd (cc)
key_same None (Some x) (Some y) e = refl
key_same (Some z) (Some x) (Some y) e = cell_sym z x ∙ (same_as x y z e ∙ cell_sym y z)

key_self : (x : Cell) → same_key (Some x) (Some x) ≡ true
key_self x = cell_self x

-- where no key stands twice, no later line has a key of an earlier one
no_later : (schema : plain.Schema) (removes : Bool) (rows : List plain.Row) (rec : ℕ) (earlier lines : List BatchLine) (key : Option Cell) → schema.valid ≡ false → fault_from schema removes rows rec earlier lines ≡ None → list_any (λ e. same_key e.key key) earlier ≡ true
    → periods_with key lines ≡ []
no_later schema removes rows rec earlier [] key untimed none has = refl
no_later schema removes rows rec earlier (l ∷ lines) key untimed none has = by_key (same_key key l.key) refl (no_later schema removes rows (rec + 1) (earlier ++ l ∷ []) lines key untimed parts.1 (list_any-append (λ (q : BatchLine). same_key q.key key) earlier (l ∷ []) ∙ ap (λ b. b || list_any (λ (q : BatchLine). same_key q.key key) (l ∷ [])) has)) where
  parts : ((not schema.valid && list_any (λ e. same_key e.key l.key) earlier) ≡ false) × (fault_from schema removes rows (rec + 1) (earlier ++ l ∷ []) lines ≡ None)
  parts = parts_none (not schema.valid && list_any (λ e. same_key e.key l.key) earlier) (removes && not (list_any (is_row_affected schema earlier l) rows)) (fault.KeyTwice rec) (fault.NoRow rec) (fault_from schema removes rows (rec + 1) (earlier ++ l ∷ []) lines) none

  first : list_any (λ e. same_key e.key l.key) earlier ≡ false
  first = sym (ap (λ v. not v && list_any (λ (e : BatchLine). same_key e.key l.key) earlier) untimed) ∙ parts.0

  by_key : (b : Bool) → same_key key l.key ≡ b → periods_with key lines ≡ [] → cond b (l.period ∷ periods_with key lines) (periods_with key lines) ≡ []
  by_key true e later = absurd (let f : true ≡ false = sym has ∙ (any_same (λ (q : BatchLine). same_key q.key key) (λ q. same_key q.key l.key) earlier (λ q. key_same q.key key l.key e) ∙ first) in cc)
  by_key false e later = later

no_key : (lines : List BatchLine) → periods_with None lines ≡ []
no_key [] = refl
no_key (l ∷ lines) = no_key lines

-- the rows that are put are opened as they are
pub puts_whole : (schema : plain.Schema) (removes : Bool) (rows : List plain.Row) (rec : ℕ) (earlier : List BatchLine) (lines : List plain.Opened) → schema.valid ≡ false → fault_from schema removes rows rec earlier (put_lines schema lines) ≡ None → put_pieces schema (put_lines schema lines) ≡ lines
puts_whole schema removes rows rec earlier [] untimed none = refl
puts_whole schema removes rows rec earlier (o ∷ lines) untimed none =
    ap (λ ps. over o.cells (cuts schema.valid ps o.period) ++ put_pieces schema (put_lines schema lines)) (behind (slice_get o.cells schema.key) refl)
    ∙ ap (λ os. o ∷ os) (puts_whole schema removes rows (rec + 1) (earlier ++ said ∷ []) lines untimed parts.1) where
      said : BatchLine
      said = record { key = slice_get o.cells schema.key; period = o.period; puts = Some o }

      parts : ((not schema.valid && list_any (λ e. same_key e.key said.key) earlier) ≡ false) × (fault_from schema removes rows (rec + 1) (earlier ++ said ∷ []) (put_lines schema lines) ≡ None)
      parts = parts_none (not schema.valid && list_any (λ e. same_key e.key said.key) earlier) (removes && not (list_any (is_row_affected schema earlier said) rows)) (fault.KeyTwice rec) (fault.NoRow rec) (fault_from schema removes rows (rec + 1) (earlier ++ said ∷ []) (put_lines schema lines)) none

      or_true : (b : Bool) → (b || (true || false)) ≡ true
      or_true true = refl
      or_true false = refl

      behind : (key : Option Cell) → slice_get o.cells schema.key ≡ key → periods_with (slice_get o.cells schema.key) (put_lines schema lines) ≡ []
      behind None e = ap (λ k. periods_with k (put_lines schema lines)) e ∙ no_key (put_lines schema lines)
      behind (Some x) e = ap (λ k. periods_with k (put_lines schema lines)) e ∙ no_later schema removes rows (rec + 1) (earlier ++ said ∷ []) (put_lines schema lines) (Some x) untimed parts.1
          (list_any-append (λ (q : BatchLine). same_key q.key (Some x)) earlier (said ∷ []) ∙ (ap (λ b. list_any (λ (q : BatchLine). same_key q.key (Some x)) earlier || (b || false)) (ap (λ k. same_key k (Some x)) e ∙ key_self x) ∙ or_true (list_any (λ q. same_key q.key (Some x)) earlier)))

-- the rows that lines with valid rows open
pub untimed_opens : (schema : plain.Schema) (rows : List plain.Row) (lines : List plain.Opened) → schema.valid ≡ false → list_all (λ r. matches schema (record { cells = r.cells; period = r.period })) rows ≡ true → fault_from schema false rows 2 [] (put_lines schema lines) ≡ None
    → lines ≡ old_pieces schema (put_lines schema lines) rows ++ put_pieces schema (put_lines schema lines)
untimed_opens schema rows lines untimed all none = grind (arith, old_none schema (put_lines schema lines) rows untimed all, puts_whole schema false rows 2)

puts_nothing : (schema : plain.Schema) (lines : List KeyLine) → put_pieces schema (removal_lines lines) ≡ []
puts_nothing schema [] = refl
puts_nothing schema (k ∷ lines) = puts_nothing schema lines

pub untimed_none : (schema : plain.Schema) (rows : List plain.Row) (lines : List KeyLine) → schema.valid ≡ false → list_all (λ r. matches schema (record { cells = r.cells; period = r.period })) rows ≡ true
    → [] ≡ old_pieces schema (removal_lines lines) rows ++ put_pieces schema (removal_lines lines)
untimed_none schema rows lines untimed all = grind (arith, old_none schema (removal_lines lines) rows untimed all, puts_nothing schema lines)

-- KEYS OF LINES

pub rows_keys : (schema : plain.Schema) (lines : List plain.Opened) → map (λ l. l.key) (put_lines schema lines) ≡ map (λ o. slice_get o.cells schema.key) lines
rows_keys schema [] = refl
rows_keys schema (o ∷ lines) = ap (λ ks. slice_get o.cells schema.key ∷ ks) (rows_keys schema lines)

pub lines_keys : (lines : List KeyLine) → map (λ l. l.key) (removal_lines lines) ≡ map (λ k. Some k.key) lines
lines_keys [] = refl
lines_keys (k ∷ lines) = ap (λ ks. Some k.key ∷ ks) (lines_keys lines)

map_length : {A B : Type 0} (f : A → B) (xs : List A) → length (map f xs) ≡ length xs
map_length f [] = refl
map_length f (x ∷ xs) = ap suc (map_length f xs)

pub put_keys : (schema given : plain.Schema) (place : ℕ) (rows : List plain.Opened) (keys lent : List (Bor Cell)) → place ≡ given.key → given ≡ schema → lent ≡ keys → map (λ k. Some k.now) keys ≡ map (λ o. slice_get o.cells place) rows
    → map (λ l. l.key) (put_lines schema rows) ≡ map (λ k. Some k.now) lent
put_keys schema given place rows keys lent at is same e = grind (arith, rows_keys schema rows)

pub removal_keys : (lines : List KeyLine) (keys lent : List (Bor Cell)) → lent ≡ keys → map (λ k. Some k.now) keys ≡ map (λ l. Some l.key) lines → map (λ l. l.key) (removal_lines lines) ≡ map (λ k. Some k.now) lent
removal_keys lines keys lent same e = lines_keys lines ∙ (sym e ∙ ap (map (λ (k : Bor Cell). Some k.now)) (sym same))

-- WHAT IS MADE

pub put_done : (table : plain.Table) (lines given : List plain.Opened) (closes : List ℕ) (made : RowChanges) (outcome : Result (List ℕ) BatchFault) → table.schema.valid ≡ false → rows_match (Some table) ≡ true → given ≡ lines
    → IsClosed false table.schema table.rows (put_lines table.schema given) outcome → outcome ≡ Ok closes → made.closes ≡ closes → made.opens.items ≡ lines → IsMade false table.schema table.rows (put_lines table.schema lines) (Ok made)
put_done table lines given closes made outcome untimed all same is at c o =
    let closed : IsClosed false table.schema table.rows (put_lines table.schema lines) (Ok closes) = subst (IsClosed false table.schema table.rows (put_lines table.schema lines)) at (subst (λ ls. IsClosed false table.schema table.rows (put_lines table.schema ls) outcome) same is) in
    (closed.0, c ∙ closed.1, o ∙ untimed_opens table.schema table.rows lines untimed all closed.0)

pub put_failed : (table : plain.Table) (lines given : List plain.Opened) (f : BatchFault) (outcome : Result (List ℕ) BatchFault) → given ≡ lines → IsClosed false table.schema table.rows (put_lines table.schema given) outcome → outcome ≡ Err f
    → fault_from table.schema false table.rows 2 [] (put_lines table.schema lines) ≡ Some f
put_failed table lines given f outcome same is at = grind arith

pub remove_done : (table : plain.Table) (lines : List KeyLine) (closes : List ℕ) (made : RowChanges) (outcome : Result (List ℕ) BatchFault) → table.schema.valid ≡ false → rows_match (Some table) ≡ true
    → IsClosed true table.schema table.rows (removal_lines lines) outcome → outcome ≡ Ok closes → made.closes ≡ closes → made.opens.items ≡ [] → IsMade true table.schema table.rows (removal_lines lines) (Ok made)
remove_done table lines closes made outcome untimed all is at c o = grind (arith, untimed_none table.schema table.rows lines untimed all)

pub remove_failed : (table : plain.Table) (lines : List KeyLine) (f : BatchFault) (outcome : Result (List ℕ) BatchFault) → IsClosed true table.schema table.rows (removal_lines lines) outcome → outcome ≡ Err f
    → fault_from table.schema true table.rows 2 [] (removal_lines lines) ≡ Some f
remove_failed table lines f outcome is at = subst (IsClosed true table.schema table.rows (removal_lines lines)) at is

pub row_key_more : (place i : ℕ) (rows : List plain.Opened) (row : plain.Opened) (given : List Cell) (k : Bor Cell) (before after : List (Bor Cell)) → i < length rows → row ≡ get_or rows i row → place < length row.cells → given ≡ row.cells → k.now ≡ get_or given place k.now
    → after ≡ before ++ k ∷ [] → map (λ q. Some q.now) before ≡ map (λ o. slice_get o.cells place) (take i rows) → map (λ q. Some q.now) after ≡ map (λ o. slice_get o.cells place) (take (i + 1) rows)
row_key_more place i rows row given k before after h at there same is made e =
    let cell : slice_get row.cells place ≡ Some k.now = slice_get_read row.cells (length row.cells) place k.now refl there (is ∙ ap (λ cs. get_or cs place k.now) same) in
    ap (map (λ (q : Bor Cell). Some q.now)) made ∙ (map-append (λ (q : Bor Cell). Some q.now) before (k ∷ []) ∙ (ap (λ ks. ks ++ Some k.now ∷ []) e ∙ (ap (λ c. map (λ (o : plain.Opened). slice_get o.cells place) (take i rows) ++ c ∷ []) (sym cell)
    ∙ (sym (map-append (λ (o : plain.Opened). slice_get o.cells place) (take i rows) (row ∷ [])) ∙ ap (map (λ (o : plain.Opened). slice_get o.cells place)) (sym (take_more rows i row h ∙ ap (λ q. take i rows ++ q ∷ []) (sym at)))))))

-- rows put into a table with valid time
pub timed_done : (table : plain.Table) (lines given : List plain.Opened) (made : RowChanges) → table.schema.valid ≡ true → given ≡ lines → made.closes ≡ affected_ids table.schema (put_lines table.schema given) 0 table.rows
    → made.opens.items ≡ old_pieces table.schema (put_lines table.schema given) table.rows ++ put_pieces table.schema (put_lines table.schema given) → IsMade false table.schema table.rows (put_lines table.schema lines) (Ok made)
timed_done table lines given made valid same c o = grind (arith, never_fault table.schema false table.rows 2)

-- The commit that a batch resolves to.
use Rattle.std.proofs.Common.{◌≡◌, ℕ, ℤ, pos, negsuc, nat_abs, int_lt, suc, ◌+◌, ◌<◌, ◌≤◌, Bool, true, false, ◌&&◌, ◌||◌, not, cond, nat_le, nat_lt, List, [], ◌∷◌, ◌++◌, append-nil, length, map, get_or, slice_get, Option, Some, None, is_some, Result, Ok, Err, ◌⊎◌, inr, refl, sym, ap, ◌∙◌, subst, arith}
use Rattle.std.specs.Option.{option_map, IfSome}
use Rattle.std.specs.Result.{IfOk, IfErr}
use Rattle.std.specs.List.{list_any, list_all, All}
use Rattle.std.specs.Bool.{beq, OnTrue}
use Rattle.std.proofs.lemmas.Bool.{and_parts, and_from, cond-false, lt-leb, lt-ltb}
use Rattle.std.proofs.lemmas.Bool.Decides.{nat_tests}
use Rattle.std.proofs.lemmas.Int.{ints}
use Rattle.std.proofs.lemmas.List.Folds.{list_any-append}
use Rattle.std.proofs.lemmas.List.Sums.{AllPass-from_list_all}
use Rattle.tl_types.specs.declared.cells.Cell.{Cell}
use Rattle.tl_types.specs.declared.commits.Commit.{Commit}
use Rattle.tl_types.specs.declared.commits.Body.TheVariants as body
use Rattle.tl_types.specs.declared.batches.Batch.TheVariants as batch
use Rattle.tl_types.specs.declared.batches.BatchFault.{BatchFault}
use Rattle.tl_types.specs.declared.batches.BatchFault.TheVariants as fault
use Rattle.tl_types.specs.declared.limits.Limits.{Limits}
use Rattle.tl_types.specs.Plain as plain
use Rattle.tl_types.specs.Facts.{AscendFrom}
use Rattle.tl_types.specs.History.{database_of, has_name, matches, match_columns, fits, fits_floor, floor_of}
use Rattle.tl_types.specs.Resolving.{BatchLine, same_key, open_rows, line_fault, put_lines, removal_lines, find_from, find_table, resolved, resolved_change, resolved_floor}
use Rattle.tl_types.specs.declared.batches.KeyLine.{KeyLine}
use Rattle.tl_types.proofs.FoundTables.{IsFound, table_found}
use Rattle.tl_batch.specs.Faults.{fault_from}
use Rattle.tl_batch.specs.Made.{change_by, unless_fault, made_by, change_made, committed, floor_set, rows_fit_found, AreWithin, IsMade}
use Rattle.tl_batch.specs.Pieces.{affected_ids, old_pieces, put_pieces}
use Rattle.tl_batch.specs.declared.changing.RowChanges.{RowChanges}
use Rattle.tl_batch.specs.KeyIndex.{IdsByKey}
use Rattle.tl_batch.specs.Standing.{StandFor, IsIndexIfMade, IsIndexOfTable, index_at, rows_match}
use Rattle.tl_batch.specs.Lines.{lines_of, line_of_row}
use Rattle.tl_batch.proofs.ChangeLemmas.{affected_ids-ascend}
use Rattle.tl_batch.proofs.FollowLemmas.{cells_number}
use Rattle.tl_batch.proofs.ResolvedLemmas.{change-fault, change-full, change-made, change-fits}

-- A NEW TABLE

pub found_is : (n : ℕ) (name : List ℕ) (tables : List plain.Table) → is_some (option_map (λ found. found.0) (find_from n name tables)) ≡ list_any (has_name name) tables
found_is n name [] = refl
found_is n name (t ∷ tables) = grind (arith, found_is (n + 1) name tables)

abbrev pub created : ℕ → plain.Schema → Commit
created author schema = record { author = author; body = body.Create schema }

-- A TABLE FOUND BY NAME

named-shape : (db : plain.Database) (name : List ℕ) (number : ℕ) (lines : List plain.Opened) → IsFound db name number → IfSome (slice_get db.tables number) (λ t. list_all (matches t.schema) lines ≡ true) → rows_fit_found lines (find_table name db.tables) ≡ true
named-shape db name number lines n m = grind arith

pub named-may : (db : plain.Database) (name : List ℕ) (number : ℕ) (lines : List plain.Opened) (may : Bool) → IsFound db name number → OnTrue may (IfSome (slice_get db.tables number) (λ t. list_all (matches t.schema) lines ≡ true)) → OnTrue may (rows_fit_found lines (find_table name db.tables) ≡ true)
named-may db name number lines true n m = named-shape db name number lines n m
named-may db name number lines false n m = tt

-- the table that was looked for by a name, in a store that was lent
pub found_now : (commits lent : List Commit) (given name : List ℕ) (number : ℕ) → lent ≡ commits → given ≡ name → Some number ≡ option_map (λ found. found.0) (find_table given (database_of lent).tables) → IsFound (database_of commits) name number
found_now commits lent given name number store same e =
    table_found (database_of commits) name number
    (sym (e ∙ (ap (λ n. option_map (λ (found : ℕ × plain.Table). found.0) (find_table n (database_of lent).tables)) same
    ∙ ap (λ cs. option_map (λ (found : ℕ × plain.Table). found.0) (find_table name (database_of cs).tables)) store)))

-- the table that was found
pub found_there : (commits : List Commit) (found : Option ℕ) (name : List ℕ) (number : ℕ) → found ≡ option_map (λ f. f.0) (find_table name (database_of commits).tables) → Some number ≡ found → IsFound (database_of commits) name number
found_there commits found name number is e = table_found (database_of commits) name number (sym (e ∙ is))

-- a store that was lent has room for a commit
pub room_now : (commits lent : List Commit) (versions : ℕ) (full : Bool) → lent ≡ commits → full ≡ nat_le versions (database_of lent).version → full ≡ false → (database_of commits).version < versions
room_now commits lent versions full store e none = grind arith

pub found-match : (db : plain.Database) (name : List ℕ) (number : ℕ) (lines : List plain.Opened) → (n : IsFound db name number) → rows_fit_found lines (find_table name db.tables) ≡ true → list_all (matches n.table.schema) lines ≡ true
found-match db name number lines n m = sym (ap (rows_fit_found lines) n.named) ∙ m

-- rows match the table that was found
pub named-match : (db : plain.Database) (name : List ℕ) (number : ℕ) (lines : List plain.Opened) → IsFound db name number → rows_fit_found lines (find_table name db.tables) ≡ true → IfSome (slice_get db.tables number) (λ t. list_all (matches t.schema) lines ≡ true)
named-match db name number lines n m = grind (arith, found-match db name number lines n m)

-- THE TABLE THAT KEYS STAND FOR

pub ids_there : (keys : List (Option IdsByKey)) (db : plain.Database) (number : ℕ) (index : IdsByKey) → StandFor keys db → Some index ≡ index_at keys number → IsIndexOfTable index (slice_get db.tables number)
ids_there keys db number index s is = subst (λ (o : Option IdsByKey). IsIndexIfMade o (slice_get db.tables number)) (sym is) (s.ids number)

-- what is made at the table that was found
pub made_at : (tables : List plain.Table) (number limit : ℕ) (removes : Bool) (t : plain.Table) (lines : plain.Schema → List BatchLine) (made : Result plain.Change BatchFault) → Some t ≡ slice_get tables number → made ≡ made_by limit number removes t.schema t.rows (lines t.schema)
    → Some made ≡ option_map (λ u. made_by limit number removes u.schema u.rows (lines u.schema)) (slice_get tables number)
made_at tables number limit removes t lines made at e = grind arith

pub some_match : (tables : List plain.Table) (number : ℕ) (t : plain.Table) (lines : List plain.Opened) → Some t ≡ slice_get tables number → IfSome (slice_get tables number) (λ u. list_all (matches u.schema) lines ≡ true) → list_all (matches t.schema) lines ≡ true
some_match tables number t lines at all = grind arith

-- CHANGES

pub rows-keyed : (schema : plain.Schema) (place : ℕ) (lines : List plain.Opened) → place ≡ schema.key → schema.key < length schema.columns → list_all (matches schema) lines ≡ true → All (λ o. place < length o.cells) lines
rows-keyed schema place lines e among m = λ k d l.
    let row : plain.Opened = get_or lines k d in
    let this : matches schema row ≡ true = AllPass-from_list_all (matches schema) lines m k d l in
    let cells = cells_number schema.columns row.cells (and_parts (match_columns schema.columns row.cells) (beq schema.valid (is_some row.period)) this).0 in
    omega arith

map_number : {A B : Type 0} (f : A → B) (xs : List A) → length (map f xs) ≡ length xs
map_number f [] = refl
map_number f (x ∷ xs) = ap suc (map_number f xs)

pub rows-few : (rows : List plain.Row) (n : ℕ) → n ≡ length rows → n ≤ 16777216 → length rows ≤ 16777216
rows-few rows n e h = omega arith

-- a list has no more ids that are affected than rows
pub affected-few : (schema : plain.Schema) (lines : List BatchLine) (n : ℕ) (rows : List plain.Row) → length (affected_ids schema lines n rows) ≤ length rows
affected-few schema lines n [] = omega arith
affected-few schema lines n (r ∷ rows) = grind (arith, affected-few schema lines (n + 1) rows)

pub closes-ascend : (schema : plain.Schema) (lines : List BatchLine) (rows : List plain.Row) (closes : List ℕ) → closes ≡ affected_ids schema lines 0 rows → AscendFrom 0 closes
closes-ascend schema lines rows closes e = subst (AscendFrom 0) (sym e) (affected_ids-ascend schema lines 0 rows)

pub closes-few : (schema : plain.Schema) (lines : List BatchLine) (rows : List plain.Row) (closes : List ℕ) → closes ≡ affected_ids schema lines 0 rows → length closes ≤ length rows
closes-few schema lines rows closes e = let h = affected-few schema lines 0 rows in let f = ap length e in omega arith

-- the first fault of rows that are put reads the keys of the lines alone
fault-rows : (schema : plain.Schema) (rows : List plain.Row) (rec : ℕ) (some more : List BatchLine) (lines : List plain.Opened) → ((k : Option Cell) → list_any (λ e. same_key e.key k) some ≡ list_any (λ e. same_key e.key k) more)
    → fault_from schema false rows rec some (map (line_of_row schema.key) lines) ≡ fault_from schema false rows rec more (put_lines schema lines)
fault-rows schema rows rec some more [] same = refl
fault-rows schema rows rec some more (o ∷ lines) same =
    let key : Option Cell = slice_get o.cells schema.key in
    let one : BatchLine = line_of_row schema.key o in
    let other : BatchLine = record { key = key; period = o.period; puts = Some o } in
    let any : Option Cell → BatchLine → Bool = λ k e. same_key e.key k in
    let later = fault-rows schema rows (rec + 1) (some ++ one ∷ []) (more ++ other ∷ []) lines
    (λ k. list_any-append (any k) some (one ∷ []) ∙ (ap (λ b. b || (same_key key k || false)) (same k) ∙ sym (list_any-append (any k) more (other ∷ [])))) in
    ap (λ b. cond (not schema.valid && b) (Some (fault.KeyTwice rec)) (fault_from schema false rows (rec + 1) (some ++ one ∷ []) (map (line_of_row schema.key) lines))) (same key)
    ∙ ap (λ f. cond (not schema.valid && list_any (any key) more) (Some (fault.KeyTwice rec)) f) later

pub rows-first : (schema : plain.Schema) (rows : List plain.Row) (key_lines given : List KeyLine) (lines : List plain.Opened) (place : ℕ) (found : Option BatchFault) → place ≡ schema.key → given ≡ key_lines → lines_of key_lines ≡ map (line_of_row place) lines
    → found ≡ fault_from schema false rows 2 [] (lines_of given) → found ≡ fault_from schema false rows 2 [] (put_lines schema lines)
rows-first schema rows key_lines given lines place found at same e f = grind (arith, fault-rows schema rows 2)

-- what was made of lines, and the change of it
pub made-change : (limit number : ℕ) (removes : Bool) (schema : plain.Schema) (rows : List plain.Row) (lines : List BatchLine) (made : Result RowChanges BatchFault) (change : Result plain.Change BatchFault) → IsMade removes schema rows lines made
    → change ≡ change_made limit number (length rows) made → change ≡ made_by limit number removes schema rows lines
made-change limit number removes schema rows lines (Err f) change is e = grind arith
made-change limit number removes schema rows lines (Ok c) change is e = grind arith

pub made-ascend : (removes : Bool) (schema : plain.Schema) (rows : List plain.Row) (lines : List BatchLine) (made : Result RowChanges BatchFault) → IsMade removes schema rows lines made → IfOk made (λ c. AscendFrom 0 c.closes)
made-ascend removes schema rows lines (Err f) is = tt
made-ascend removes schema rows lines (Ok c) is = closes-ascend schema lines rows c.closes is.1

pub made-few : (removes : Bool) (schema : plain.Schema) (rows : List plain.Row) (lines : List BatchLine) (made : Result RowChanges BatchFault) → IsMade removes schema rows lines made → length rows ≤ 16777216 → IfOk made (λ c. length c.closes < 4294967296)
made-few removes schema rows lines (Err f) is few = tt
made-few removes schema rows lines (Ok c) is few = let h = closes-few schema lines rows c.closes is.1 in omega arith

puts-nothing : (schema : plain.Schema) (lines : List KeyLine) → put_pieces schema (removal_lines lines) ≡ []
puts-nothing schema [] = refl
puts-nothing schema (k ∷ lines) = puts-nothing schema lines

pub keys-open : (schema : plain.Schema) (rows : List plain.Row) (lines : List KeyLine) (opens : List plain.Opened) → opens ≡ old_pieces schema (removal_lines lines) rows → opens ≡ old_pieces schema (removal_lines lines) rows ++ put_pieces schema (removal_lines lines)
keys-open schema rows lines opens e = e ∙ (sym (append-nil (old_pieces schema (removal_lines lines) rows)) ∙ ap (λ ps. old_pieces schema (removal_lines lines) rows ++ ps) (sym (puts-nothing schema lines)))

-- THE COMMIT

-- by the first fault, and else by the number of rows
committed-is : (limits : Limits) (db : plain.Database) (author number : ℕ) (t : plain.Table) (lines : plain.Schema → List BatchLine) → db.version < limits.versions → (f : Option BatchFault) → line_fault t.schema 2 [] (open_rows t) (lines t.schema) ≡ f
    → resolved_change limits db author (Some (number, t)) lines ≡ committed author (unless_fault limits.rows (length t.rows) (change_by number t.schema t.rows (lines t.schema)) f)
committed-is limits db author number t lines next (Some f) e = change-fault limits db author number t lines f next e
committed-is limits db author number t lines next None e = by_room (nat_lt limits.rows all) refl where
  all : ℕ
  all = length t.rows + length (change_by number t.schema t.rows (lines t.schema)).opens

  by_room : (b : Bool) → nat_lt limits.rows all ≡ b → resolved_change limits db author (Some (number, t)) lines ≡ committed author (cond b (Err fault.RowsFull) (Ok (change_by number t.schema t.rows (lines t.schema))))
  by_room true h = let many : limits.rows < all = grind arith in change-full limits db author number t lines next e many
  by_room false h = let few : all ≤ limits.rows = grind arith in change-made limits db author number t lines next e few

-- the lines' first fault is what the rows of their keys say
abbrev pub ReadsRows : Bool → (plain.Schema → List BatchLine) → Type 0
ReadsRows removes lines = (t : plain.Table) → line_fault t.schema 2 [] (open_rows t) (lines t.schema) ≡ fault_from t.schema removes t.rows 2 [] (lines t.schema)

some_at : (limit number : ℕ) (removes : Bool) (lines : plain.Schema → List BatchLine) (made : Result plain.Change BatchFault) (o : Option plain.Table) (t : plain.Table) → o ≡ Some t → Some made ≡ option_map (λ u. made_by limit number removes u.schema u.rows (lines u.schema)) o
    → made ≡ made_by limit number removes t.schema t.rows (lines t.schema)
some_at limit number removes lines made None t at e = absurd (cc)
some_at limit number removes lines made (Some u) t at e = grind arith

pub named-made : (limits : Limits) (db : plain.Database) (author number : ℕ) (name : List ℕ) (removes : Bool) (lines : plain.Schema → List BatchLine) (made : Result plain.Change BatchFault) → ReadsRows removes lines → IsFound db name number → db.version < limits.versions
    → Some made ≡ option_map (λ t. made_by limits.rows number removes t.schema t.rows (lines t.schema)) (slice_get db.tables number)
    → resolved_change limits db author (find_table name db.tables) lines ≡ committed author made
named-made limits db author number name removes lines made reads n next e = grind (arith, committed-is limits db author number n.table lines next (fault_from n.table.schema removes n.table.rows 2 [] (lines n.table.schema)) (reads n.table), some_at limits.rows number removes lines made (slice_get db.tables number) n.table n.at e)

made-fits : (limits : Limits) (db : plain.Database) (author number : ℕ) (t : plain.Table) (lines : List BatchLine) → slice_get db.tables number ≡ Some t → db.version < limits.versions → rows_match (Some t) ≡ true → list_all (matches t.schema) (put_pieces t.schema lines) ≡ true
    → (f : Option BatchFault) (c : Commit) → Ok c ≡ committed author (unless_fault limits.rows (length t.rows) (change_by number t.schema t.rows lines) f) → fits limits db c ≡ true
made-fits limits db author number t lines at next rows puts (Some f) c e = absurd (cc)
made-fits limits db author number t lines at next rows puts None c e = by_room (nat_lt limits.rows all) refl e where
  all : ℕ
  all = length t.rows + length (change_by number t.schema t.rows lines).opens

  by_room : (b : Bool) → nat_lt limits.rows all ≡ b → Ok c ≡ committed author (cond b (Err fault.RowsFull) (Ok (change_by number t.schema t.rows lines))) → fits limits db c ≡ true
  by_room true h q = absurd (cc)
  by_room false h q = grind (arith, change-fits limits db author number t lines)

pub named-fits : (limits : Limits) (db : plain.Database) (author number : ℕ) (name : List ℕ) (removes : Bool) (lines : plain.Schema → List BatchLine) (made : Result plain.Change BatchFault) → ((table : ℕ) → rows_match (slice_get db.tables table) ≡ true) → (n : IsFound db name number) → db.version < limits.versions
    → list_all (matches n.table.schema) (put_pieces n.table.schema (lines n.table.schema)) ≡ true
    → Some made ≡ option_map (λ t. made_by limits.rows number removes t.schema t.rows (lines t.schema)) (slice_get db.tables number)
    → (r : Result Commit BatchFault) → r ≡ committed author made → IfOk r (λ c. fits limits db c ≡ true)
named-fits limits db author number name removes lines made matching n next puts e (Err f) is = tt
named-fits limits db author number name removes lines made matching n next puts e (Ok c) is = grind (arith, made-fits limits db author number n.table (lines n.table.schema) n.at next (sym (ap rows_match n.at) ∙ matching number) puts (fault_from n.table.schema removes n.table.rows 2 [] (lines n.table.schema)) c (is ∙ ap (committed author) (some_at limits.rows number removes lines made (slice_get db.tables number) n.table n.at e)), some_at limits.rows number removes lines made (slice_get db.tables number) n.table n.at e)

-- a result that is what the definition says
pub ok_is : (r m s : Result Commit BatchFault) → r ≡ s → m ≡ s → IfOk r (λ c. m ≡ Ok c)
ok_is (Ok c) m s e f = f ∙ sym e
ok_is (Err x) m s e f = tt

pub err_is : (r m s : Result Commit BatchFault) → r ≡ s → m ≡ s → IfErr r (λ x. (x ≡ fault.NoMemory) ⊎ (m ≡ Err x))
err_is (Ok c) m s e f = tt
err_is (Err x) m s e f = inr (f ∙ sym e)

-- A FLOOR

-- what is made of the table that was found
pub floor_value : (limits : Limits) (db : plain.Database) (author number now least : ℕ) (name : List ℕ) (floor : ℤ) (r : Result Commit BatchFault) → IsFound db name number → db.version < limits.versions → now ≡ db.version → least ≡ floor_of (slice_get db.tables number) → r ≡ floor_set author number now least floor
    → r ≡ resolved limits db author (batch.Forget name floor)
floor_value limits db author number now least name floor r n next same stands is =
    is
    ∙ (ap (λ v. floor_set author number v least floor) same
    ∙ (ap (λ l. floor_set author number db.version l floor) (stands ∙ ap floor_of n.at)
    ∙ sym (ap (resolved_floor limits db author floor) n.named ∙ cond-false _ _ _ (lt-leb _ _ next))))

floor_passes : (least now : ℕ) (floor : ℤ) → int_lt (pos now) floor ≡ false → int_lt (pos least) floor ≡ true → (nat_lt least (nat_abs floor) && nat_le (nat_abs floor) now) ≡ true
floor_passes least now (pos f) h k = grind (arith, ints, nat_tests)
floor_passes least now (negsuc f) h k = absurd (cc)

set_fits : (limits : Limits) (db : plain.Database) (author number : ℕ) (t : plain.Table) (floor : ℤ) → slice_get db.tables number ≡ Some t → db.version < limits.versions → IfOk (floor_set author number db.version t.floor floor) (λ c. fits limits db c ≡ true)
set_fits limits db author number t floor at next = by_tests (int_lt (pos db.version) floor) refl (int_lt (pos t.floor) floor) refl where
  by_tests : (a : Bool) → int_lt (pos db.version) floor ≡ a → (b : Bool) → int_lt (pos t.floor) floor ≡ b → IfOk (cond a (Err (fault.FloorAhead db.version)) (cond b (Ok (record { author = author; body = body.Forget number (nat_abs floor) })) (Err (fault.FloorFalls t.floor)))) (λ c. fits limits db c ≡ true)
  by_tests true h b k = tt
  by_tests false h true k = and_from (nat_lt db.version limits.versions) (fits_floor db.version (nat_abs floor) (slice_get db.tables number)) (lt-ltb _ _ next) (ap (fits_floor db.version (nat_abs floor)) at ∙ floor_passes t.floor db.version floor h k)
  by_tests false h false k = tt

-- the commit fits
pub floor_fits : (limits : Limits) (db : plain.Database) (author number now least : ℕ) (name : List ℕ) (floor : ℤ) (r : Result Commit BatchFault) → IsFound db name number → db.version < limits.versions → now ≡ db.version → least ≡ floor_of (slice_get db.tables number) → r ≡ floor_set author number now least floor
    → IfOk r (λ c. fits limits db c ≡ true)
floor_fits limits db author number now least name floor r n next same stands is =
    subst (λ (q : Result Commit BatchFault). IfOk q (λ c. fits limits db c ≡ true))
    (sym (is ∙ (ap (λ v. floor_set author number v least floor) same ∙ ap (λ l. floor_set author number db.version l floor) (stands ∙ ap floor_of n.at))))
    (set_fits limits db author number n.table floor n.at next)

-- MORE ROOM

fits_within : (limits others : Limits) (db : plain.Database) (c : Commit) → AreWithin limits others → fits limits db c ≡ true → fits others db c ≡ true
fits_within limits others db c w f = grind arith

pub ok_within : (limits others : Limits) (db : plain.Database) (r : Result Commit BatchFault) → IfOk r (λ c. fits limits db c ≡ true) → AreWithin limits others → IfOk r (λ c. fits others db c ≡ true)
ok_within limits others db (Ok c) f w = fits_within limits others db c w f
ok_within limits others db (Err x) f w = tt

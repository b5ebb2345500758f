-- Rows by columns: where a row stands, and what a change makes of them.
use Rattle.std.proofs.Common.{◌≡◌, ℕ, zero, suc, ◌+◌, ◌<◌, ◌≤◌, pos, Bool, true, false, nat_eq, List, [], ◌∷◌, ◌++◌, length, map, get_or, drop, take, All, Some, None, refl, sym, ap, ◌∙◌, arith, slice_get, if◌then◌else◌, length-append}
use Rattle.std.proofs.lemmas.List.{length-map, get_or-map, get_or_append_left, get_or-append-add, length-drop, get_or-drop, take_more, map_push}
use Rattle.std.specs.Option.{option_map}
use Rattle.std.proofs.lemmas.List.Elements.{All-cons}
use Rattle.std.proofs.lemmas.Option.{slice_get-get_or}
use Rattle.tl_types.specs.declared.cells.Cell.{Cell}
use Rattle.tl_types.specs.declared.cells.Cell.TheVariants as cell
use Rattle.tl_types.specs.declared.cells.ColumnKind.{ColumnKind}
use Rattle.tl_types.specs.declared.cells.ColumnKind.TheVariants.{IntKind, TextKind}
use Rattle.tl_types.specs.declared.schemas.Column.{Column}
use Rattle.tl_types.specs.History.{open_end, is_open_at, is_of_kind, match_columns}
use Rattle.tl_types.specs.Plain as plain
use Rattle.tl_types.proofs.Lists.{and_left, and_right}
use Rattle.tl_store.specs.declared.columns.ColumnData.{ColumnData}
use Rattle.tl_store.specs.declared.columns.ColumnData.TheVariants as held
use Rattle.tl_store.specs.Log.{part, opened_of}
use Rattle.tl_store.specs.Columns.{empty_column, column_length, cell_in, number_in, text_in, number_at, text_at, longer, longer_from, HoldsKind, AreColumns, row_in, rows_in, IsTable}

-- WHERE A ROW STANDS

pub length-rows_in : (cs : List ColumnData) (ps : List plain.Period) (id : ℕ) (fs ts : List ℕ) → length ts ≡ length fs → length (rows_in cs ps id fs ts) ≡ length fs
length-rows_in cs ps id [] [] h = refl
length-rows_in cs ps id [] (t ∷ ts) h = absurd (omega arith)
length-rows_in cs ps id (f ∷ fs) [] h = absurd (omega arith)
length-rows_in cs ps id (f ∷ fs) (t ∷ ts) h = ap suc (length-rows_in cs ps (id + 1) fs ts (omega arith))

pub rows_in_at : (cs : List ColumnData) (ps : List plain.Period) (id : ℕ) (fs ts : List ℕ) (k j : ℕ) (d : plain.Row) (e g : ℕ) → length ts ≡ length fs → k < length fs → id + k ≡ j → get_or (rows_in cs ps id fs ts) k d ≡ row_in cs ps j (get_or fs k e) (get_or ts k g)
rows_in_at cs ps id [] ts k j d e g h l s = absurd (omega arith)
rows_in_at cs ps id (f ∷ fs) [] k j d e g h l s = absurd (omega arith)
rows_in_at cs ps id (f ∷ fs) (t ∷ ts) zero j d e g h l s = ap (λ n. row_in cs ps n f t) (omega arith)
rows_in_at cs ps id (f ∷ fs) (t ∷ ts) (suc k) j d e g h l s = rows_in_at cs ps (id + 1) fs ts k j d e g (omega arith) (omega arith) (omega arith)

pub open_in : (cs : List ColumnData) (ps : List plain.Period) (id : ℕ) (fs ts : List ℕ) (k : ℕ) (t : ℕ) → length ts ≡ length fs → k < length ts → t ≡ get_or ts k t → is_open_at (rows_in cs ps id fs ts) k ≡ nat_eq t open_end
open_in cs ps id fs [] k t h l s = absurd (omega arith)
open_in cs ps id [] (u ∷ ts) k t h l s = absurd (omega arith)
open_in cs ps id (f ∷ fs) (u ∷ ts) zero t h l s = ap (λ n. nat_eq n open_end) (sym s)
open_in cs ps id (f ∷ fs) (u ∷ ts) (suc k) t h l s = open_in cs ps (id + 1) fs ts k t (omega arith) (omega arith) s

pub open_past : (cs : List ColumnData) (ps : List plain.Period) (id : ℕ) (fs ts : List ℕ) (k : ℕ) → length ts ≡ length fs → length ts ≤ k → is_open_at (rows_in cs ps id fs ts) k ≡ false
open_past cs ps id [] [] k h l = refl
open_past cs ps id [] (u ∷ ts) k h l = absurd (omega arith)
open_past cs ps id (f ∷ fs) [] k h l = absurd (omega arith)
open_past cs ps id (f ∷ fs) (u ∷ ts) zero h l = absurd (omega arith)
open_past cs ps id (f ∷ fs) (u ∷ ts) (suc k) h l = open_past cs ps (id + 1) fs ts k (omega arith) (omega arith)

-- THE CELLS OF A LONGER TABLE

pub get_left : {X : Type 0} (xs ys : List X) (k : ℕ) (d : X) → k < length xs → get_or (xs ++ ys) k d ≡ get_or xs k d
get_left xs ys k d h = get_or_append_left xs ys d k h

pub get_right : {X : Type 0} (xs ys : List X) (n k j : ℕ) (d : X) → length xs ≡ n → n + j ≡ k → get_or (xs ++ ys) k d ≡ get_or ys j d
get_right xs ys n k j d h e = let s : k ≡ length xs + j = omega arith in rw s (get_or-append-add xs ys j d)

pub longer_kept : (opens : List plain.Opened) (place : ℕ) (column : ColumnData) (k : ℕ) → k < column_length column → cell_in k (longer opens place column) ≡ cell_in k column
longer_kept opens place (held.Ints xs) k h = ap cell.Int (get_left xs (map (number_at place) opens) k (pos 0) h)
longer_kept opens place (held.Texts xs) k h = ap cell.Text (get_left xs (map (text_at place) opens) k [] h)

pub longer_length : (opens : List plain.Opened) (place : ℕ) (column : ColumnData) → column_length (longer opens place column) ≡ column_length column + length opens
longer_length opens place (held.Ints xs) = length-append xs (map (number_at place) opens) ∙ ap (λ n. length xs + n) (length-map opens (number_at place))
longer_length opens place (held.Texts xs) = length-append xs (map (text_at place) opens) ∙ ap (λ n. length xs + n) (length-map opens (text_at place))

pub longer_kind : (opens : List plain.Opened) (place : ℕ) (kind : ColumnKind) (column : ColumnData) → HoldsKind kind column → HoldsKind kind (longer opens place column)
longer_kind opens place IntKind (held.Ints xs) h = tt
longer_kind opens place IntKind (held.Texts xs) h = absurd h
longer_kind opens place TextKind (held.Ints xs) h = absurd h
longer_kind opens place TextKind (held.Texts xs) h = tt

pub longer_new : (opens : List plain.Opened) (place : ℕ) (kind : ColumnKind) (column : ColumnData) (n k j : ℕ) (d : plain.Opened) (x : Cell) → HoldsKind kind column → column_length column ≡ n → n + j ≡ k → j < length opens → slice_get (get_or opens j d).cells place ≡ Some x → is_of_kind kind x ≡ true → cell_in k (longer opens place column) ≡ x
longer_new opens place IntKind (held.Ints xs) n k j d (cell.Int i) h len e l is kind =
    ap cell.Int (get_right xs (map (number_at place) opens) n k j (pos 0) len e ∙ get_or-map (number_at place) opens j d (pos 0) l ∙ ap number_in is)
longer_new opens place IntKind (held.Ints xs) n k j d (cell.Text t) h len e l is kind = absurd (cc)
longer_new opens place IntKind (held.Texts xs) n k j d x h len e l is kind = absurd h
longer_new opens place TextKind (held.Ints xs) n k j d x h len e l is kind = absurd h
longer_new opens place TextKind (held.Texts xs) n k j d (cell.Int i) h len e l is kind = absurd (cc)
longer_new opens place TextKind (held.Texts xs) n k j d (cell.Text t) h len e l is kind =
    ap cell.Text (get_right xs (map (text_at place) opens) n k j [] len e ∙ get_or-map (text_at place) opens j d [] l ∙ ap text_in is)

pub are_columns_longer : (rows n : ℕ) (names : List Column) (cs : List ColumnData) (opens : List plain.Opened) (place : ℕ) → rows + length opens ≡ n → AreColumns rows names cs → AreColumns n names (longer_from opens place cs)
are_columns_longer rows n [] [] opens place e h = tt
are_columns_longer rows n [] (c ∷ cs) opens place e h = absurd h
are_columns_longer rows n (name ∷ names) [] opens place e h = absurd h
are_columns_longer rows n (name ∷ names) (c ∷ cs) opens place e h =
    (longer_kind opens place name.kind c h.0, omega (arith, longer_length opens place c, h.1), are_columns_longer rows n names cs opens (place + 1) e h.2)

pub length-longer_from : (opens : List plain.Opened) (place : ℕ) (cs : List ColumnData) → length (longer_from opens place cs) ≡ length cs
length-longer_from opens place [] = refl
length-longer_from opens place (c ∷ cs) = ap suc (length-longer_from opens (place + 1) cs)

pub cells_kept : (rows : ℕ) (names : List Column) (cs : List ColumnData) (opens : List plain.Opened) (place k : ℕ) → AreColumns rows names cs → k < rows → map (cell_in k) (longer_from opens place cs) ≡ map (cell_in k) cs
cells_kept rows [] [] opens place k h l = refl
cells_kept rows [] (c ∷ cs) opens place k h l = absurd h
cells_kept rows (name ∷ names) [] opens place k h l = absurd h
cells_kept rows (name ∷ names) (c ∷ cs) opens place k h l =
    let head = longer_kept opens place c k (omega (arith, h.1)) in
    let tail = cells_kept rows names cs opens (place + 1) k h.2 l in
    cc

drop_head : {X : Type 0} (xs : List X) (place : ℕ) (x : X) (rest : List X) → x ∷ rest ≡ drop place xs → (slice_get xs place ≡ Some x) × (rest ≡ drop (place + 1) xs)
drop_head [] zero x rest e = absurd cc
drop_head [] (suc place) x rest e = absurd cc
drop_head (y ∷ xs) zero x rest e = (cc, cc)
drop_head (y ∷ xs) (suc place) x rest e = let later = drop_head xs place x rest e in let s : suc place + 1 ≡ suc (place + 1) = omega arith in (later.0, rw s later.1)

pub cells_new : (rows : ℕ) (names : List Column) (cs : List ColumnData) (opens : List plain.Opened) (place k j : ℕ) (d : plain.Opened) (rest : List Cell) → AreColumns rows names cs → rows + j ≡ k → j < length opens → rest ≡ drop place (get_or opens j d).cells → match_columns names rest ≡ true → map (cell_in k) (longer_from opens place cs) ≡ rest
cells_new rows [] [] opens place k j d [] h e l is m = refl
cells_new rows [] [] opens place k j d (x ∷ rest) h e l is m = absurd cc
cells_new rows [] (c ∷ cs) opens place k j d rest h e l is m = absurd h
cells_new rows (name ∷ names) [] opens place k j d rest h e l is m = absurd h
cells_new rows (name ∷ names) (c ∷ cs) opens place k j d [] h e l is m = absurd cc
cells_new rows (name ∷ names) (c ∷ cs) opens place k j d (x ∷ rest) h e l is m =
    let parts = drop_head (get_or opens j d).cells place x rest is in
    let head = longer_new opens place name.kind c rows k j d x h.0 h.1 e l parts.0 (and_left (is_of_kind name.kind x) (match_columns names rest) m) in
    let tail = cells_new rows names cs opens (place + 1) k j d rest h.2 e l parts.1 (and_right (is_of_kind name.kind x) (match_columns names rest) m) in
    cc

-- READING A ROW

pub row_at : (cs : List ColumnData) (ps : List plain.Period) (fs ts : List ℕ) (rows : List plain.Row) (k e g : ℕ) → rows_in cs ps 0 fs ts ≡ rows → length ts ≡ length fs → k < length fs → slice_get rows k ≡ Some (row_in cs ps k (get_or fs k e) (get_or ts k g))
row_at cs ps fs ts rows k e g is even h =
    let d = row_in cs ps k (get_or fs k e) (get_or ts k g) in
    let there : k < length rows = omega (arith, ap length is, length-rows_in cs ps 0 fs ts even) in
    slice_get-get_or rows k d there ∙ ap Some (ap (λ t. get_or t k d) (sym is) ∙ rows_in_at cs ps 0 fs ts k k d e g even h (omega arith))

pub rows_number : (cs : List ColumnData) (ps : List plain.Period) (fs ts : List ℕ) (rows : List plain.Row) → rows_in cs ps 0 fs ts ≡ rows → length ts ≡ length fs → length fs ≡ length rows
rows_number cs ps fs ts rows is even = omega (arith, ap length is, length-rows_in cs ps 0 fs ts even)

pub as_many_columns : (n : ℕ) (names : List Column) (cs : List ColumnData) → AreColumns n names cs → length cs ≡ length names
as_many_columns n [] [] h = refl
as_many_columns n [] (c ∷ cs) h = absurd h
as_many_columns n (name ∷ names) [] h = absurd h
as_many_columns n (name ∷ names) (c ∷ cs) h = ap suc (as_many_columns n names cs h.2)

pub column_lengths : (n : ℕ) (names : List Column) (cs : List ColumnData) → AreColumns n names cs → All (λ c. column_length c ≡ n) cs
column_lengths n names [] h = λ k d l. absurd (omega arith)
column_lengths n [] (c ∷ cs) h = absurd h
column_lengths n (name ∷ names) (c ∷ cs) h = All-cons (λ x. column_length x ≡ n) c cs h.1 (column_lengths n names cs h.2)

pub cell_in_row : (cs : List ColumnData) (row place : ℕ) (column : ColumnData) → place < length cs → column ≡ get_or cs place column → slice_get (map (cell_in row) cs) place ≡ Some (cell_in row column)
cell_in_row [] row place column h is = absurd (omega arith)
cell_in_row (c ∷ cs) row zero column h is = ap (λ t. Some (cell_in row t)) (sym is)
cell_in_row (c ∷ cs) row (suc place) column h is = cell_in_row cs row place column (omega arith) is

-- A TABLE WITHOUT ROWS

pub empty_are_columns : (names : List Column) → AreColumns 0 names (map (λ column. empty_column column.kind) names)
empty_are_columns [] = tt
empty_are_columns (name ∷ names) = (kind name.kind, none name.kind, empty_are_columns names) where
  kind : (k : ColumnKind) → HoldsKind k (empty_column k)
  kind IntKind = tt
  kind TextKind = tt

  none : (k : ColumnKind) → column_length (empty_column k) ≡ 0
  none IntKind = refl
  none TextKind = refl

pub new_is_table : (schema schema2 : plain.Schema) (names : List Column) (cs : List ColumnData) (ps : List plain.Period) (fs ts : List ℕ) → schema2 ≡ schema → names ≡ schema.columns → cs ≡ map (λ column. empty_column column.kind) names → ps ≡ [] → fs ≡ [] → ts ≡ [] → 1 ≤ length schema.columns → length schema.columns ≤ 16 → IsTable schema2 cs ps fs ts
new_is_table schema schema2 names cs ps fs ts same names_are cs_are no_ps no_fs no_ts some few =
    let none_valid : (b : Bool) → length ps ≡ (if b then length fs else 0) = λ b. elim b as (λ c. length ps ≡ (if c then length fs else 0)) [ true ↦ rw (no_ps, no_fs) refl | false ↦ rw no_ps refl ] in
    let many : length cs ≡ length schema.columns = ap length (cs_are ∙ ap (map (λ column. empty_column column.kind)) names_are) ∙ length-map schema.columns (λ column. empty_column column.kind) in
    record {
      even = rw (no_fs, no_ts) refl;
      few = rw no_fs (omega arith);
      cells = rw (same, no_fs, cs_are, names_are) (empty_are_columns schema.columns);
      valid = none_valid schema2.valid;
      some = omega arith;
      narrow = omega arith;
    }

-- THE PARTS OF A COMMIT

pub part_more : (rows : List plain.Row) (first place at : ℕ) (opened : plain.Opened) → first + place ≡ at → at < length rows → Some opened ≡ option_map opened_of (slice_get rows at) → map opened_of (part first (place + 1) rows) ≡ map opened_of (part first place rows) ++ opened ∷ []
part_more rows first place at opened sum there is =
    let d : plain.Row = record { cells = []; period = None; from = 0; to = 0 } in
    let long : place < length (drop first rows) = omega (arith, length-drop first rows) in
    let row : get_or (drop first rows) place d ≡ get_or rows at d = get_or-drop first rows place d ∙ ap (λ n. get_or rows n d) sum in
    let same : Some opened ≡ Some (opened_of (get_or rows at d)) = is ∙ ap (option_map opened_of) (slice_get-get_or rows at d there) in
    let one : opened ≡ opened_of (get_or rows at d) = cc in
    ap (map opened_of) (take_more (drop first rows) place d long)
    ∙ map_push opened_of (take place (drop first rows)) (get_or (drop first rows) place d)
    ∙ ap (λ r. map opened_of (part first place rows) ++ opened_of r ∷ []) row
    ∙ ap (λ o. map opened_of (part first place rows) ++ o ∷ []) (sym one)

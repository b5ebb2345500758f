-- Each row of a history has in each column a cell of the column's kind, so a plan for a table suits its rows.
use Rattle.std.proofs.Common.{◌≡◌, ℕ, zero, suc, ◌+◌, Bool, true, false, ◌&&◌, cond, nat_le, List, [], ◌∷◌, ◌++◌, length, map, Option, Some, None, refl, sym, subst, slice_get}
use Rattle.std.specs.Bool.{beq}
use Rattle.std.specs.Prelude.{is_some, IsTrue}
use Rattle.std.specs.List.{enumerate_from, list_all, AllByRecursion}
use Rattle.tl_types.proofs.BodyLemmas.{IsKept, commits_kept}
use Rattle.tl_types.proofs.Lists.{and_left, and_right}
use Rattle.tl_types.proofs.EntryLemmas.{fit_behind}
use Rattle.tl_types.specs.Plain as plain
use Rattle.tl_types.specs.declared.cells.Cell.{Cell}
use Rattle.tl_types.specs.declared.cells.Cell.TheVariants as cell
use Rattle.tl_types.specs.declared.cells.ColumnKind.{ColumnKind}
use Rattle.tl_types.specs.declared.cells.ColumnKind.TheVariants.{IntKind, TextKind}
use Rattle.tl_types.specs.declared.schemas.Column.{Column}
use Rattle.tl_types.specs.declared.commits.Entry.{Entry}
use Rattle.tl_types.specs.Entries.{commits_of}
use Rattle.tl_types.specs.History.{has_id, row_after, new_row, table_after, nothing, database_of, fits_table, is_of_kind, is_open_at, match_columns, matches, rows_of, cell_at}
use Rattle.tl_types.specs.Legality.{are_legal}
use Rattle.tl_types.specs.Limits.{standard_limits}
use Rattle.tl_query.specs.declared.ast.AggKind.{AggKind}
use Rattle.tl_query.specs.declared.ast.AggKind.TheVariants as kind
use Rattle.tl_query.specs.declared.typed_queries.AggPlan.{AggPlan}
use Rattle.tl_query.specs.Aggregates.{number_of}
use Rattle.tl_store.specs.Reading.{columns_of, IsIntColumn}
use Rattle.tl_running.specs.Standing.{HaveNumbers, Suits}
use Rattle.tl_agg.specs.Scans.{IsSystemTimePlanFor}

-- THE ROWS OF A HISTORY

-- each of the rows has a cell of its kind in each column
abbrev AreTyped : List Column → List plain.Row → Type 0
AreTyped columns [] = Unit {0}
AreTyped columns (row ∷ rows) = (match_columns columns row.cells ≡ true) × AreTyped columns rows

-- so has each row of the table
abbrev HasTypedRows : plain.Table → Type 0
HasTypedRows table = AreTyped table.schema.columns table.rows

-- and of each table
abbrev HaveTypedRows : List plain.Table → Type 0
HaveTypedRows tables = AllByRecursion HasTypedRows tables

opened_typed : (w : ℕ) (schema : plain.Schema) (opens : List plain.Opened) → list_all (matches schema) opens ≡ true → AreTyped schema.columns (map (new_row w) opens)
opened_typed w schema [] h = tt
opened_typed w schema (o ∷ opens) h =
    let one = and_left (matches schema o) (list_all (matches schema) opens) h in
    (and_left (match_columns schema.columns o.cells) (beq schema.valid (is_some o.period)) one, opened_typed w schema opens (and_right (matches schema o) (list_all (matches schema) opens) h))

changed_typed : (w n : ℕ) (schema : plain.Schema) (closes : List ℕ) (opens : List plain.Opened) (rows : List plain.Row) → list_all (matches schema) opens ≡ true → AreTyped schema.columns rows
    → AreTyped schema.columns (map (row_after w closes) (enumerate_from n rows) ++ map (new_row w) opens)
changed_typed w n schema closes opens [] m h = opened_typed w schema opens m
changed_typed w n schema closes opens (r ∷ rows) m h = (closed (has_id closes n), changed_typed w (n + 1) schema closes opens rows m h.1) where
  closed : (b : Bool) → match_columns schema.columns (cond b (record r { to = w }) r).cells ≡ true
  closed true = h.0
  closed false = h.0

table_typed : (w : ℕ) (change : plain.Change) (t : plain.Table) → fits_table standard_limits change (Some t) ≡ true → HasTypedRows t → HasTypedRows (table_after w change t)
table_typed w change t f h =
    let both = and_left (list_all (is_open_at t.rows) change.closes && list_all (matches t.schema) change.opens) (nat_le (length t.rows + length change.opens) standard_limits.rows) f in
    changed_typed w 0 t.schema change.closes change.opens t.rows (and_right (list_all (is_open_at t.rows) change.closes) (list_all (matches t.schema) change.opens) both) h

-- it stays so, whatever a commit does
typed_kept : (v : ℕ) → IsKept v HasTypedRows HasTypedRows
typed_kept v = record { made = λ schema. tt; changed = table_typed (v + 1); floored = λ floor t f h. h; left = λ t h. h }

typed_at : (tables : List plain.Table) (i : ℕ) (t : plain.Table) → HaveTypedRows tables → slice_get tables i ≡ Some t → AreTyped t.schema.columns t.rows
typed_at [] i t h e = absurd (cc)
typed_at (x ∷ tables) zero t h e = let s : x ≡ t = cc in rw (← s) h.0
typed_at (x ∷ tables) (suc i) t h e = typed_at tables i t h.1 e

-- NUMBERS

-- a row has a number in a column of numbers
pub has_number : (columns : List Column) (cells : List Cell) (c : ℕ) → match_columns columns cells ≡ true → IsIntColumn columns c → is_some (number_of (cell_at cells c)) ≡ true
has_number [] cells c m is = absurd (cc)
has_number (k ∷ columns) [] c m is = absurd (cc)
has_number (k ∷ columns) (x ∷ cells) zero m is = of_kind k.kind x (and_left (is_of_kind k.kind x) (match_columns columns cells) m) is where
  of_kind : (t : ColumnKind) (x : Cell) → is_of_kind t x ≡ true → Some t ≡ Some IntKind → is_some (number_of (Some x)) ≡ true
  of_kind IntKind (cell.Int i) h e = refl
  of_kind IntKind (cell.Text s) h e = absurd (cc)
  of_kind TextKind x h e = absurd (cc)
has_number (k ∷ columns) (x ∷ cells) (suc c) m is = has_number columns cells c (and_right (is_of_kind k.kind x) (match_columns columns cells) m) is

have_numbers : (columns : List Column) (rows : List plain.Row) (c : ℕ) → AreTyped columns rows → IsIntColumn columns c → HaveNumbers (Some c) rows
have_numbers columns [] c typed is = tt
have_numbers columns (r ∷ rows) c typed is = (has_number columns r.cells c typed.0 is, have_numbers columns rows c typed.1 is)

pub some_suit : (k : AggKind) (c : ℕ) (rows : List plain.Row) → HaveNumbers (Some c) rows → Suits k (Some c) rows
some_suit kind.Count c rows have = tt
some_suit kind.Sum c rows have = have
some_suit kind.Avg c rows have = have
some_suit kind.Min c rows have = have
some_suit kind.Max c rows have = have

rows_have : (db : plain.Database) (table c : ℕ) → HaveTypedRows db.tables → IsIntColumn (columns_of db table) c → HaveNumbers (Some c) (rows_of db table)
rows_have db table c typed is = by_table (slice_get db.tables table) refl is where
  by_table : (o : Option plain.Table) → slice_get db.tables table ≡ o → IsIntColumn (columns_of db table) c → HaveNumbers (Some c) (rows_of db table)
  by_table None e h = rw e tt
  by_table (Some t) e h = let f : IsIntColumn t.schema.columns c = rw e at h in rw e (have_numbers t.schema.columns t.rows c (typed_at db.tables table t typed e) f)

column_suits : (db : plain.Database) (k : AggKind) (column : Option ℕ) (table : ℕ) → HaveTypedRows db.tables → ((c : ℕ) → column ≡ Some c → IsIntColumn (columns_of db table) c) → (column ≡ None → k ≡ kind.Count) → Suits k column (rows_of db table)
column_suits db k None table typed is count = subst (λ j. Suits j None (rows_of db table)) (sym (count refl)) tt
column_suits db k (Some c) table typed is count = some_suit k c (rows_of db table) (rows_have db table c typed (is c refl))

pub plans_suit : (entries : List Entry) (plan : AggPlan) → IsTrue (are_legal entries) → IsSystemTimePlanFor (record { db = database_of (commits_of entries); number = plan.table }) plan → Suits plan.kind plan.column (rows_of (database_of (commits_of entries)) plan.table)
plans_suit entries plan legal is =
    column_suits (database_of (commits_of entries)) plan.kind plan.column plan.table (commits_kept (λ v. HasTypedRows) (λ v l. typed_kept v) nothing (commits_of entries) tt (fit_behind [] entries legal)) is.column is.kind

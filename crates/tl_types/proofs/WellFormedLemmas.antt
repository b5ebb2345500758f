-- The rows of every table of a history are well formed, and begin in order of their ids.
use Rattle.std.proofs.Common.{◌≡◌, ℕ, zero, suc, ◌+◌, ◌<◌, ◌≤◌, Bool, true, false, cond, List, [], ◌∷◌, ◌++◌, map, Option, Some, None, inl, inr, refl, arith, slice_get}
use Rattle.std.specs.List.{enumerate_from, AllByRecursion}
use Rattle.tl_types.proofs.BodyLemmas.{IsKept, commits_kept}
use Rattle.tl_types.specs.Plain as plain
use Rattle.tl_types.specs.declared.commits.Commit.{Commit}
use Rattle.tl_types.specs.History.{open_end, has_id, row_after, new_row, nothing, database_of, rows_of}
use Rattle.tl_types.specs.Limits.{standard_limits}
use Rattle.tl_types.specs.Legality.{FitInTurn}
use Rattle.tl_types.specs.WellFormed.{IsWellFormed, AreWellFormed, HaveWellFormedRows, BeginInOrder, HaveRowsInOrder}

-- LATER VERSIONS

later : (v w : ℕ) (row : plain.Row) → v ≤ w → IsWellFormed v row → IsWellFormed w row
later v w row l h = record { begins = h.begins; begun = omega (arith, l, h.begun); lasts = h.lasts; ended = elim h.ended [ inl e ↦ inl (omega (arith, e, l)) | inr o ↦ inr o ] }

pub all_later : (v w : ℕ) (rows : List plain.Row) → v ≤ w → AreWellFormed v rows → AreWellFormed w rows
all_later v w [] l h = tt
all_later v w (r ∷ rows) l h = (later v w r l h.0, all_later v w rows l h.1)

-- ONE COMMIT MORE

closed : (v : ℕ) (row : plain.Row) (b : Bool) → IsWellFormed v row → IsWellFormed (v + 1) (cond b (record row { to = v + 1 }) row)
closed v row true h = record { begins = h.begins; begun = omega (arith, h.begun); lasts = omega (arith, h.begun); ended = inl (omega arith) }
closed v row false h = later v (v + 1) row (omega arith) h

opened : (w : ℕ) (opens : List plain.Opened) → 0 < w → w < open_end → AreWellFormed w (map (new_row w) opens)
opened w [] s l = tt
opened w (p ∷ opens) s l = (record { begins = s; begun = omega arith; lasts = l; ended = inr refl }, opened w opens s l)

changed : (v n : ℕ) (closes : List ℕ) (opens : List plain.Opened) (rows : List plain.Row) → v + 1 < open_end → AreWellFormed v rows → AreWellFormed (v + 1) (map (row_after (v + 1) closes) (enumerate_from n rows) ++ map (new_row (v + 1)) opens)
changed v n closes opens [] l h = opened (v + 1) opens (omega arith) l
changed v n closes opens (r ∷ rows) l h = (closed v r (has_id closes n) h.0, changed v (n + 1) closes opens rows l h.1)

-- rows that begin in order, each not after a version, and then those that begin at a later one
order_opened : (low w : ℕ) (opens : List plain.Opened) → low ≤ w → BeginInOrder low (map (new_row w) opens)
order_opened low w [] l = tt
order_opened low w (p ∷ opens) l = (l, order_opened w w opens (omega arith))

order_changed : (low v w n : ℕ) (closes : List ℕ) (opens : List plain.Opened) (rows : List plain.Row) → low ≤ w → v ≤ w → AreWellFormed v rows → BeginInOrder low rows → BeginInOrder low (map (row_after w closes) (enumerate_from n rows) ++ map (new_row w) opens)
order_changed low v w n closes opens [] l m h o = order_opened low w opens l
order_changed low v w n closes opens (r ∷ rows) l m h o =
    by_test (has_id closes n) (order_changed r.from v w (n + 1) closes opens rows (omega (arith, h.0.begun, m)) m h.1 o.1) where
      by_test : (b : Bool) → BeginInOrder r.from (map (row_after w closes) (enumerate_from (n + 1) rows) ++ map (new_row w) opens) → BeginInOrder low (cond b (record r { to = w }) r ∷ map (row_after w closes) (enumerate_from (n + 1) rows) ++ map (new_row w) opens)
      by_test true later = (o.0, later)
      by_test false later = (o.0, later)

-- COMMITS THAT FIT

-- the rows of a table are well formed, and begin in order
abbrev HasRowsAt : ℕ → plain.Table → Type 0
HasRowsAt v table = AreWellFormed v table.rows × BeginInOrder 0 table.rows

rows_kept : (v : ℕ) → v < 16777215 → IsKept v (HasRowsAt v) (HasRowsAt (v + 1))
rows_kept v l = record {
  made = λ schema. (tt, tt);
  changed = λ change t f h. (changed v 0 change.closes change.opens t.rows (omega (arith, l)) h.0, order_changed 0 v (v + 1) 0 change.closes change.opens t.rows (omega arith) (omega arith) h.0 h.1);
  floored = λ floor t f h. (all_later v (v + 1) t.rows (omega arith) h.0, h.1);
  left = λ t h. (all_later v (v + 1) t.rows (omega arith) h.0, h.1);
}

-- what is so of the rows of a database
pub record HasRows (db : plain.Database) : Type 0 where
  pub formed : HaveWellFormedRows db.version db.tables
  pub order : HaveRowsInOrder db.tables

parted : (v : ℕ) (tables : List plain.Table) → AllByRecursion (HasRowsAt v) tables → HaveWellFormedRows v tables × HaveRowsInOrder tables
parted v [] h = (tt, tt)
parted v (t ∷ tables) h = let more = parted v tables h.1 in ((h.0.0, more.0), (h.0.1, more.1))

-- the rows of every table of a history
pub history_rows : (cs : List Commit) → FitInTurn standard_limits cs → HasRows (database_of cs)
history_rows cs f =
    let both = parted (database_of cs).version (database_of cs).tables (commits_kept HasRowsAt rows_kept nothing cs tt f) in
    record { formed = both.0; order = both.1 }

-- and those of one table
pub table_formed : (v : ℕ) (tables : List plain.Table) (i : ℕ) (t : plain.Table) → HaveWellFormedRows v tables → slice_get tables i ≡ Some t → AreWellFormed v t.rows
table_formed v [] i t h e = absurd (cc)
table_formed v (x ∷ tables) zero t h e = let s : x ≡ t = cc in rw (← s) h.0
table_formed v (x ∷ tables) (suc i) t h e = table_formed v tables i t h.1 e

pub table_in_order : (tables : List plain.Table) (i : ℕ) (t : plain.Table) → HaveRowsInOrder tables → slice_get tables i ≡ Some t → BeginInOrder 0 t.rows
table_in_order [] i t h e = absurd (cc)
table_in_order (x ∷ tables) zero t h e = let s : x ≡ t = cc in rw (← s) h.0
table_in_order (x ∷ tables) (suc i) t h e = table_in_order tables i t h.1 e

-- the rows of a database's table, by its number
pub rows_formed : (db : plain.Database) (table : ℕ) → HasRows db → AreWellFormed db.version (rows_of db table)
rows_formed db table h = by_table (slice_get db.tables table) refl where
  by_table : (o : Option plain.Table) → slice_get db.tables table ≡ o → AreWellFormed db.version (rows_of db table)
  by_table None e = rw e tt
  by_table (Some t) e = rw e (table_formed db.version db.tables table t h.formed e)

pub rows_in_order : (db : plain.Database) (table : ℕ) → HasRows db → BeginInOrder 0 (rows_of db table)
rows_in_order db table h = by_table (slice_get db.tables table) refl where
  by_table : (o : Option plain.Table) → slice_get db.tables table ≡ o → BeginInOrder 0 (rows_of db table)
  by_table None e = rw e tt
  by_table (Some t) e = rw e (table_in_order db.tables table t h.order e)

pub history_formed : (cs : List Commit) (table : ℕ) → FitInTurn standard_limits cs → AreWellFormed (database_of cs).version (rows_of (database_of cs) table)
history_formed cs table f = rows_formed (database_of cs) table (history_rows cs f)

pub history_in_order : (cs : List Commit) (table : ℕ) → FitInTurn standard_limits cs → BeginInOrder 0 (rows_of (database_of cs) table)
history_in_order cs table f = rows_in_order (database_of cs) table (history_rows cs f)

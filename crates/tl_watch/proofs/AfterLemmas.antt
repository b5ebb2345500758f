-- The rows that stand and pass before a commit and after it.
use Rattle.std.proofs.Common.{◌≡◌, ℕ, ℤ, zero, suc, ◌+◌, ◌<◌, List, [], ◌∷◌, ◌++◌, length, map, Some, refl, sym, ap, ◌∙◌, arith, subst, slice_get}
use Rattle.std.specs.Prelude.{IsTrue, ◌≢◌}
use Rattle.std.specs.List.{filter, enumerate_from}
use Rattle.std.proofs.lemmas.List.Sums.{fold-append}
use Rattle.tl_types.specs.Plain as plain
use Rattle.tl_types.specs.declared.commits.Commit.{Commit}
use Rattle.tl_types.specs.declared.commits.Body.TheVariants as body
use Rattle.tl_types.specs.History.{open_end, row_after, new_row, new_table, table_after, at_place, after_commit, with_floor, nothing, database_of, fits, rows_of}
use Rattle.tl_types.specs.Legality.{FitInTurn}
use Rattle.tl_types.specs.Limits.{standard_limits}
use Rattle.tl_types.proofs.EntryLemmas.{fit_is_few, fit_more}
use Rattle.tl_types.proofs.WellFormedLemmas.{history_formed}
use Rattle.tl_query.specs.declared.typed_queries.TypedPred.{TypedPred}
use Rattle.tl_query.specs.Passing.{passes}
use Rattle.tl_watch.specs.Standings.{standing_rows, left_rows}
use Rattle.tl_watch.proofs.LeftLemmas.{left_open, left_after}

-- ONE COMMIT MORE

pub one_more : (cs : List Commit) (c : Commit) → database_of (cs ++ c ∷ []) ≡ after_commit (database_of cs) c
one_more cs c = fold-append after_commit nothing cs (c ∷ [])

pub fit_one_more : (cs : List Commit) (c : Commit) → FitInTurn standard_limits cs → IsTrue (fits standard_limits (database_of cs) c) → FitInTurn standard_limits (cs ++ c ∷ [])
fit_one_more cs c fit one = fit_more standard_limits nothing cs c fit one

few_versions : (cs : List Commit) → FitInTurn standard_limits cs → (database_of cs).version < open_end
few_versions cs fit = let l = fit_is_few nothing cs (omega arith) fit in omega arith

-- WHAT STANDS IS WHAT IS OPEN

pub standing_is : (cs : List Commit) (table : ℕ) (pred : TypedPred) → FitInTurn standard_limits cs → standing_rows (database_of cs) table pred ≡ left_rows pred [] (rows_of (database_of cs) table)
standing_is cs table pred fit = left_open pred (database_of cs).version 0 (rows_of (database_of cs) table) (history_formed cs table fit) (few_versions cs fit)

-- THE TABLE OF A CHANGE

at_there : {X : Type 0} (i : ℕ) (f : X → X) (xs : List X) (x : X) → slice_get xs i ≡ Some x → slice_get (at_place i f xs) i ≡ Some (f x)
at_there i f [] x e = absurd (cc)
at_there zero f (y ∷ xs) x e = let s : y ≡ x = cc in ap (λ z. Some (f z)) s
at_there (suc i) f (y ∷ xs) x e = at_there i f xs x e

at_other : {X : Type 0} (i j : ℕ) (f : X → X) (xs : List X) → i ≢ j → slice_get (at_place i f xs) j ≡ slice_get xs j
at_other i j f [] n = refl
at_other zero zero f (y ∷ xs) n = absurd (n refl)
at_other zero (suc j) f (y ∷ xs) n = refl
at_other (suc i) zero f (y ∷ xs) n = refl
at_other (suc i) (suc j) f (y ∷ xs) n = at_other i j f xs (λ e. n (ap suc e))

made_other : (xs : List plain.Table) (x : plain.Table) (j : ℕ) → j < length xs → slice_get (xs ++ x ∷ []) j ≡ slice_get xs j
made_other [] x j l = absurd (omega arith)
made_other (y ∷ xs) x zero l = refl
made_other (y ∷ xs) x (suc j) l = made_other xs x j (omega arith)

pub table_there : (tables : List plain.Table) (i : ℕ) → i < length tables → (t : plain.Table) × (slice_get tables i ≡ Some t)
table_there [] i l = absurd (omega arith)
table_there (t ∷ tables) zero l = (t, refl)
table_there (t ∷ tables) (suc i) l = table_there tables i (omega arith)

rows_same : (db other : plain.Database) (table : ℕ) → slice_get db.tables table ≡ slice_get other.tables table → rows_of db table ≡ rows_of other table
rows_same db other table e = rw e refl

pub changed_rows : (db : plain.Database) (change : plain.Change) (author table : ℕ) → change.table ≡ table → table < length db.tables
    → rows_of (after_commit db (record { author = author; body = body.Change change })) table ≡ map (row_after (db.version + 1) change.closes) (enumerate_from 0 (rows_of db table)) ++ map (new_row (db.version + 1)) change.opens
changed_rows db change author table is l =
    let found = table_there db.tables table l in
    let after : slice_get (at_place change.table (table_after (db.version + 1) change) db.tables) table ≡ Some (table_after (db.version + 1) change found.0) = rw is (at_there table (table_after (db.version + 1) change) db.tables found.0 found.1) in
    rw (after, found.1) refl

pub other_rows : (db : plain.Database) (change : plain.Change) (author table : ℕ) → change.table ≢ table → rows_of (after_commit db (record { author = author; body = body.Change change })) table ≡ rows_of db table
other_rows db change author table other = rows_same (after_commit db (record { author = author; body = body.Change change })) db table (at_other change.table table (table_after (db.version + 1) change) db.tables other)

forgot_there : (i j floor : ℕ) (tables : List plain.Table) (t : plain.Table) → slice_get tables j ≡ Some t → (u : plain.Table) × (slice_get (at_place i (with_floor floor) tables) j ≡ Some u) × (u.rows ≡ t.rows)
forgot_there i j floor [] t e = absurd (cc)
forgot_there zero zero floor (x ∷ tables) t e = let s : x ≡ t = cc in (with_floor floor x, refl, ap (λ (y : plain.Table). y.rows) s)
forgot_there zero (suc j) floor (x ∷ tables) t e = (t, e, refl)
forgot_there (suc i) zero floor (x ∷ tables) t e = (t, e, refl)
forgot_there (suc i) (suc j) floor (x ∷ tables) t e = forgot_there i j floor tables t e

pub forgot_rows : (db : plain.Database) (number floor author table : ℕ) → table < length db.tables → rows_of (after_commit db (record { author = author; body = body.Forget number floor })) table ≡ rows_of db table
forgot_rows db number floor author table l =
    let found = table_there db.tables table l in
    let after = forgot_there number table floor db.tables found.0 found.1 in
    rw (after.1, found.1) after.2

pub stated_rows : (db : plain.Database) (moment : ℤ) (author table : ℕ) → rows_of (after_commit db (record { author = author; body = body.Moment moment })) table ≡ rows_of db table
stated_rows db moment author table = rows_same (after_commit db (record { author = author; body = body.Moment moment })) db table refl

pub made_rows : (db : plain.Database) (schema : plain.Schema) (author table : ℕ) → table < length db.tables → rows_of (after_commit db (record { author = author; body = body.Create schema })) table ≡ rows_of db table
made_rows db schema author table l = rows_same (after_commit db (record { author = author; body = body.Create schema })) db table (made_other db.tables (new_table schema) table l)

-- WHAT STANDS AFTER

pub standing_changed : (cs : List Commit) (change : plain.Change) (author table : ℕ) (pred : TypedPred) → FitInTurn standard_limits cs → IsTrue (fits standard_limits (database_of cs) (record { author = author; body = body.Change change })) → change.table ≡ table → table < length (database_of cs).tables
    → standing_rows (database_of (cs ++ record { author = author; body = body.Change change } ∷ [])) table pred ≡ left_rows pred change.closes (rows_of (database_of cs) table) ++ filter (passes pred) (map (new_row ((database_of cs).version + 1)) change.opens)
standing_changed cs change author table pred fit one is l =
    let c : Commit = record { author = author; body = body.Change change } in
    let all = fit_one_more cs c fit one in
    let few = few_versions (cs ++ c ∷ []) all in
    let version : (database_of (cs ++ c ∷ [])).version ≡ (database_of cs).version + 1 = ap (λ d. d.version) (one_more cs c) in
    standing_is (cs ++ c ∷ []) table pred all
    ∙ ap (λ d. left_rows pred [] (rows_of d table)) (one_more cs c)
    ∙ ap (left_rows pred []) (changed_rows (database_of cs) change author table is l)
    ∙ left_after pred ((database_of cs).version + 1) 0 change.closes change.opens (rows_of (database_of cs) table) (subst (λ n. n < open_end) version few)

pub standing_same : (cs : List Commit) (c : Commit) (table : ℕ) (pred : TypedPred) → FitInTurn standard_limits cs → IsTrue (fits standard_limits (database_of cs) c) → rows_of (after_commit (database_of cs) c) table ≡ rows_of (database_of cs) table
    → standing_rows (database_of (cs ++ c ∷ [])) table pred ≡ standing_rows (database_of cs) table pred
standing_same cs c table pred fit one same =
    standing_is (cs ++ c ∷ []) table pred (fit_one_more cs c fit one)
    ∙ ap (λ d. left_rows pred [] (rows_of d table)) (one_more cs c)
    ∙ ap (left_rows pred []) same
    ∙ sym (standing_is cs table pred fit)

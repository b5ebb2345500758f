-- What each kind of commit leaves of the tables, in one place: what is so of every table, and what is found by
-- name.
use Rattle.std.proofs.Common.{◌≡◌, ℕ, zero, suc, ◌+◌, ◌<◌, Bool, true, false, nat_lt, List, [], ◌∷◌, ◌++◌, fold, Option, Some, None, refl, ◌∙◌, slice_get}
use Rattle.std.specs.List.{AllByRecursion}
use Rattle.std.proofs.lemmas.Bool.{ltb-true}
use Rattle.tl_types.proofs.Lists.{and_left, and_right}
use Rattle.tl_types.specs.Plain as plain
use Rattle.tl_types.specs.declared.commits.Body.{Body}
use Rattle.tl_types.specs.declared.commits.Body.TheVariants as body
use Rattle.tl_types.specs.declared.commits.Commit.{Commit}
use Rattle.tl_types.specs.History.{new_table, table_after, with_floor, at_place, after_body, after_commit, has_name, fits_table, fits_floor, fits_body}
use Rattle.tl_types.specs.Legality.{FitFrom}
use Rattle.tl_types.specs.Limits.{standard_limits}
use Rattle.tl_types.specs.Resolving.{find_from, find_table}

-- EACH TABLE

-- what is so of a new table at the version behind this one, and becomes so of a table at that version by what
-- a body that fits does to it, or does to another table
pub record IsKept (v : ℕ) (P Q : plain.Table → Type 0) : Type 0 where
  pub made : (schema : plain.Schema) → Q (new_table schema)
  pub changed : (change : plain.Change) (table : plain.Table) → fits_table standard_limits change (Some table) ≡ true → P table → Q (table_after (v + 1) change table)
  pub floored : (floor : ℕ) (table : plain.Table) → fits_floor v floor (Some table) ≡ true → P table → Q (with_floor floor table)
  pub left : (table : plain.Table) → P table → Q table

module _ (v : ℕ) (P Q : plain.Table → Type 0) (kept : IsKept v P Q) where
  all_left : (tables : List plain.Table) → AllByRecursion P tables → AllByRecursion Q tables
  all_left [] h = tt
  all_left (t ∷ tables) h = (kept.left t h.0, all_left tables h.1)

  all_made : (schema : plain.Schema) (tables : List plain.Table) → AllByRecursion P tables → AllByRecursion Q (tables ++ new_table schema ∷ [])
  all_made schema [] h = (kept.made schema, tt)
  all_made schema (t ∷ tables) h = (kept.left t h.0, all_made schema tables h.1)

  all_changed : (change : plain.Change) (i : ℕ) (tables : List plain.Table) → fits_table standard_limits change (slice_get tables i) ≡ true → AllByRecursion P tables → AllByRecursion Q (at_place i (table_after (v + 1) change) tables)
  all_changed change i [] f h = tt
  all_changed change zero (t ∷ tables) f h = (kept.changed change t f h.0, all_left tables h.1)
  all_changed change (suc i) (t ∷ tables) f h = (kept.left t h.0, all_changed change i tables f h.1)

  all_floored : (floor i : ℕ) (tables : List plain.Table) → fits_floor v floor (slice_get tables i) ≡ true → AllByRecursion P tables → AllByRecursion Q (at_place i (with_floor floor) tables)
  all_floored floor i [] f h = tt
  all_floored floor zero (t ∷ tables) f h = (kept.floored floor t f h.0, all_left tables h.1)
  all_floored floor (suc i) (t ∷ tables) f h = (kept.left t h.0, all_floored floor i tables f h.1)

-- it is so of each table after a body that fits
pub all_after : (P Q : plain.Table → Type 0) (db : plain.Database) (b : Body) → IsKept db.version P Q → fits_body standard_limits db b ≡ true → AllByRecursion P db.tables → AllByRecursion Q (after_body (db.version + 1) b db.tables)
all_after P Q db (body.Create schema) kept f h = all_made db.version P Q kept schema db.tables h
all_after P Q db (body.Change change) kept f h = all_changed db.version P Q kept change change.table db.tables f h
all_after P Q db (body.Moment moment) kept f h = all_left db.version P Q kept db.tables h
all_after P Q db (body.Forget number floor) kept f h = all_floored db.version P Q kept floor number db.tables f h

-- what is so of every table at each version is so after commits that fit
pub commits_kept : (P : ℕ → plain.Table → Type 0) → ((v : ℕ) → v < 16777215 → IsKept v (P v) (P (v + 1))) → (db : plain.Database) (cs : List Commit) → AllByRecursion (P db.version) db.tables → FitFrom standard_limits db cs → AllByRecursion (P (fold after_commit db cs).version) (fold after_commit db cs).tables
commits_kept P kept db [] h f = h
commits_kept P kept db (c ∷ cs) h f =
    let room = ltb-true db.version 16777215 (and_left (nat_lt db.version 16777215) (fits_body standard_limits db c.body) f.0) in
    commits_kept P kept (after_commit db c) cs (all_after (P db.version) (P (db.version + 1)) db c.body (kept db.version room) (and_right (nat_lt db.version 16777215) (fits_body standard_limits db c.body) f.0) h) f.1

-- FOUND BY NAME

-- a table that was found still is, with its number and its schema
abbrev pub StaysKnown : Option (ℕ × plain.Table) → Option (ℕ × plain.Table) → Type 0
StaysKnown None now = Unit {0}
StaysKnown (Some old) None = ⊥
StaysKnown (Some old) (Some now) = (now.0 ≡ old.0) × (now.1.schema ≡ old.1.schema)

known_same : (o : Option (ℕ × plain.Table)) → StaysKnown o o
known_same None = tt
known_same (Some f) = (refl, refl)

known_on : (a b c : Option (ℕ × plain.Table)) → StaysKnown a b → StaysKnown b c → StaysKnown a c
known_on None b c first second = tt
known_on (Some x) None c first second = absurd first
known_on (Some x) (Some y) None first second = absurd second
known_on (Some x) (Some y) (Some z) first second = (second.0 ∙ first.0, second.1 ∙ first.1)

known_behind : (k : ℕ) (name : List ℕ) (ts : List plain.Table) (t : plain.Table) → StaysKnown (find_from k name ts) (find_from k name (ts ++ t ∷ []))
known_behind k name [] t = tt
known_behind k name (x ∷ ts) t = by_test (has_name name x) refl (known_behind (k + 1) name ts t) where
  by_test : (b : Bool) → has_name name x ≡ b → StaysKnown (find_from (k + 1) name ts) (find_from (k + 1) name (ts ++ t ∷ [])) → StaysKnown (find_from k name (x ∷ ts)) (find_from k name (x ∷ ts ++ t ∷ []))
  by_test true e more = rw e (refl, refl)
  by_test false e more = rw e more

-- one of the tables is another with the same schema
known_placed : (f : plain.Table → plain.Table) → ((t : plain.Table) → (f t).schema ≡ t.schema) → (k : ℕ) (name : List ℕ) (i : ℕ) (ts : List plain.Table) → StaysKnown (find_from k name ts) (find_from k name (at_place i f ts))
known_placed f same k name i [] = tt
known_placed f same k name zero (x ∷ ts) = by_test (has_name name x) refl where
  by_test : (b : Bool) → has_name name x ≡ b → StaysKnown (find_from k name (x ∷ ts)) (find_from k name (f x ∷ ts))
  by_test true e = rw (same x, e) (refl, refl)
  by_test false e = rw (same x, e) (known_same (find_from (k + 1) name ts))
known_placed f same k name (suc i) (x ∷ ts) = by_test (has_name name x) refl (known_placed f same (k + 1) name i ts) where
  by_test : (b : Bool) → has_name name x ≡ b → StaysKnown (find_from (k + 1) name ts) (find_from (k + 1) name (at_place i f ts)) → StaysKnown (find_from k name (x ∷ ts)) (find_from k name (x ∷ at_place i f ts))
  by_test true e more = rw e (refl, refl)
  by_test false e more = rw e more

pub known_after : (name : List ℕ) (v : ℕ) (b : Body) (ts : List plain.Table) → StaysKnown (find_table name ts) (find_table name (after_body v b ts))
known_after name v (body.Create schema) ts = known_behind 0 name ts (new_table schema)
known_after name v (body.Change change) ts = known_placed (table_after v change) (λ t. refl) 0 name change.table ts
known_after name v (body.Moment moment) ts = known_same (find_table name ts)
known_after name v (body.Forget number floor) ts = known_placed (with_floor floor) (λ t. refl) 0 name number ts

-- and under all later commits
pub known_later : (name : List ℕ) (db : plain.Database) (cs : List Commit) → StaysKnown (find_table name db.tables) (find_table name (fold after_commit db cs).tables)
known_later name db [] = known_same (find_table name db.tables)
known_later name db (c ∷ cs) =
    known_on (find_table name db.tables) (find_table name (after_commit db c).tables) (find_table name (fold after_commit (after_commit db c) cs).tables)
    (known_after name (db.version + 1) c.body db.tables) (known_later name (after_commit db c) cs)

-- Tables found by name.
use Rattle.std.proofs.Common.{◌≡◌, ℕ, suc, ◌+◌, ◌-◌, ◌<◌, ◌≤◌, Bool, true, false, List, [], ◌∷◌, length, Option, Some, None, refl, ap, arith, slice_get}
use Rattle.std.proofs.lemmas.Option.{slice_get_within}
use Rattle.std.specs.Option.{option_map}
use Rattle.std.proofs.lemmas.Slice.Eq.{bytes_eq-Decides}
use Rattle.tl_types.specs.Plain as plain
use Rattle.tl_types.specs.Names.{same_bytes}
use Rattle.tl_types.specs.History.{has_name}
use Rattle.tl_types.specs.Resolving.{find_from, find_table}

abbrev number_of : Option (ℕ × plain.Table) → ℕ
number_of None = 0
number_of (Some x) = x.0

abbrev table_of : plain.Table → Option (ℕ × plain.Table) → plain.Table
table_of d None = d
table_of d (Some x) = x.1

-- names that are the same are equal
pub same_names : (xs ys : List ℕ) → same_bytes xs ys ≡ true → xs ≡ ys
same_names xs ys h = (bytes_eq-Decides xs ys).0 h

-- the table with a name is the one at its number
pub found_from : (k : ℕ) (name : List ℕ) (ts : List plain.Table) (n : ℕ) (t : plain.Table) → find_from k name ts ≡ Some (n, t) → (k ≤ n) × (slice_get ts (n - k) ≡ Some t)
found_from k name [] n t h = absurd (cc)
found_from k name (x ∷ xs) n t h = by_test (has_name name x) refl (found_from (k + 1) name xs n t) where
  by_test : (b : Bool) → has_name name x ≡ b → (find_from (k + 1) name xs ≡ Some (n, t) → (k + 1 ≤ n) × (slice_get xs (n - (k + 1)) ≡ Some t)) → (k ≤ n) × (slice_get (x ∷ xs) (n - k) ≡ Some t)
  by_test true e more =
      let f : Some (k, x) ≡ Some (n, t) = rw e at h in
      let same : k ≡ n = ap number_of f in
      let here : x ≡ t = ap (table_of x) f in
      let none : n - k ≡ 0 = omega arith in
      (omega arith, rw none (ap Some here))
  by_test false e more =
      let later = more (rw e at h) in
      let next : n - k ≡ suc (n - (k + 1)) = omega (arith, later.0) in
      (omega (arith, later.0), rw next later.1)

-- the found table has the name
pub name_found : (k : ℕ) (name : List ℕ) (ts : List plain.Table) (n : ℕ) (t : plain.Table) → find_from k name ts ≡ Some (n, t) → t.schema.name ≡ name
name_found k name [] n t h = absurd (cc)
name_found k name (x ∷ xs) n t h = by_test (has_name name x) refl (name_found (k + 1) name xs n t) where
  by_test : (b : Bool) → has_name name x ≡ b → (find_from (k + 1) name xs ≡ Some (n, t) → t.schema.name ≡ name) → t.schema.name ≡ name
  by_test true e more =
      let f : Some (k, x) ≡ Some (n, t) = rw e at h in
      let here : x ≡ t = ap (table_of x) f in
      rw (← here) (same_names x.schema.name name e)
  by_test false e more = more (rw e at h)

-- a table that is found by name, and stands at its number
pub record IsFound (db : plain.Database) (name : List ℕ) (number : ℕ) : Type 0 where
  pub table : plain.Table
  pub named : find_table name db.tables ≡ Some (number, table)
  pub at : slice_get db.tables number ≡ Some table
  pub within : number < length db.tables

-- a table that was found has a number
pub number_some : (o : Option (ℕ × plain.Table)) (n : ℕ) → option_map (λ found. found.0) o ≡ Some n → (t : plain.Table) × (o ≡ Some (n, t))
number_some None n h = absurd (cc)
number_some (Some x) n h = let e : x.0 ≡ n = cc in (x.1, ap (λ m. Some (m, x.1)) e)

-- a table that was not found has none
pub number_none : (o : Option (ℕ × plain.Table)) → option_map (λ found. found.0) o ≡ None → o ≡ None
number_none None h = refl
number_none (Some x) h = absurd (cc)

pub table_found : (db : plain.Database) (name : List ℕ) (number : ℕ) → option_map (λ found. found.0) (find_table name db.tables) ≡ Some number → IsFound db name number
table_found db name number h =
    let there = number_some (find_table name db.tables) number h in
    let found = found_from 0 name db.tables number there.0 there.1 in
    let place : number - 0 ≡ number = omega arith in
    let at : slice_get db.tables number ≡ Some there.0 = rw place at found.1 in
    record { table = there.0; named = there.1; at = at; within = slice_get_within db.tables number there.0 at }

-- the schema of the table at its number
schema_at : (o : Option plain.Table) (t : plain.Table) (schema : plain.Schema) → o ≡ Some t → Some schema ≡ option_map (λ u. u.schema) o → schema ≡ t.schema
schema_at None t schema at e = absurd (cc)
schema_at (Some u) t schema at e = cc

pub schema_found : (db : plain.Database) (name : List ℕ) (number : ℕ) (schema : plain.Schema) (f : IsFound db name number) → Some schema ≡ option_map (λ u. u.schema) (slice_get db.tables number) → schema ≡ f.table.schema
schema_found db name number schema f e = schema_at (slice_get db.tables number) f.table schema f.at e

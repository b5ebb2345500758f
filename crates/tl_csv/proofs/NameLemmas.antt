-- Columns, and their names, which differ.
use Rattle.std.proofs.Common.{◌≡◌, ℕ, nat_le, nat_lt, Bool, true, false, ◌&&◌, ◌||◌, not, List, [], ◌∷◌, length, take, Some, refl}
use Rattle.std.specs.Bool.{IsTrue}
use Rattle.std.specs.List.{find, list_all, list_any}
use Rattle.std.proofs.lemmas.Slice.Eq.{bytes_eq-Decides}
use Rattle.tl_types.specs.declared.schemas.Column.{Column}
use Rattle.tl_types.specs.Facts.{are_distinct, is_schema, names_of}
use Rattle.tl_types.specs.Names.{is_name, same_bytes}
use Rattle.tl_types.specs.Plain as plain
use Rattle.tl_types.proofs.FoundTables.{same_names}
use Rattle.tl_types.proofs.Lists.{and_left, and_right}
use Rattle.tl_csv.specs.Header.{has_name}

third : (a b c d e : Bool) → (a && b && c && d && e) ≡ true → c ≡ true
third a b true d e h = refl
third true true false d e h = absurd (cc)
third true false false d e h = absurd (cc)
third false b false d e h = absurd (cc)

-- the columns of a schema have names that differ
pub kept_distinct : (s : plain.Schema) → IsTrue (is_schema s) → are_distinct (names_of s.columns) ≡ true
kept_distinct s h = third (is_name s.name) (list_all (λ c. is_name c.name) s.columns) (are_distinct (names_of s.columns)) (nat_le (length s.columns) 16) (nat_lt s.key (length s.columns)) h

-- so do those of one column
pub one_distinct : (columns : List Column) → are_distinct (names_of (take 1 columns)) ≡ true
one_distinct [] = refl
one_distinct (c ∷ columns) = refl

pub ruleset distinct_names = (kept_distinct, one_distinct)

pub same_self : (xs : List ℕ) → same_bytes xs xs ≡ true
same_self xs = (bytes_eq-Decides xs xs).1 refl

pub not_true : (a : Bool) → not a ≡ true → a ≡ false
not_true true h = absurd (cc)
not_true false h = refl

pub or_left : (a b : Bool) → (a || b) ≡ false → a ≡ false
or_left true b h = absurd (cc)
or_left false b h = refl

pub or_right : (a b : Bool) → (a || b) ≡ false → b ≡ false
or_right true b h = absurd (cc)
or_right false b h = h

-- names that differ are not the same bytes the other way round
other_way : (xs ys : List ℕ) → same_bytes xs ys ≡ false → same_bytes ys xs ≡ false
other_way xs ys h = by_test (same_bytes ys xs) refl where
  by_test : (t : Bool) → same_bytes ys xs ≡ t → same_bytes ys xs ≡ false
  by_test false e = e
  by_test true e =
      let same : ys ≡ xs = same_names ys xs e in
      absurd (let f : same_bytes xs xs ≡ false = rw same at h in let g = same_self xs in cc)

-- each of these columns is the first with its name among all
abbrev pub AreFirst : List Column → List Column → Type 0
AreFirst all [] = Unit {0}
AreFirst all (c ∷ columns) = (find (has_name c.name) all ≡ Some c) × AreFirst all columns

more_first : (d : Column) (all columns : List Column) → list_any (λ y. same_bytes y d.name) (names_of columns) ≡ false → AreFirst all columns → AreFirst (d ∷ all) columns
more_first d all [] h f = tt
more_first d all (c ∷ columns) h f =
    let other : same_bytes d.name c.name ≡ false = other_way c.name d.name (or_left (same_bytes c.name d.name) _ h) in
    (rw other f.0, more_first d all columns (or_right (same_bytes c.name d.name) _ h) f.1)

-- columns whose names differ are each the first with its name
pub are_first : (columns : List Column) → are_distinct (names_of columns) ≡ true → AreFirst columns columns
are_first [] h = tt
are_first (c ∷ columns) h =
    let apart = not_true _ (and_left (not (list_any (λ y. same_bytes y c.name) (names_of columns))) _ h) in
    let later = and_right (not (list_any (λ y. same_bytes y c.name) (names_of columns))) _ h in
    (rw (same_self c.name) refl, more_first c columns columns apart (are_first columns later))

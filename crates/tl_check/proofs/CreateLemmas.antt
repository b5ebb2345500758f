-- A new table without a fault has a schema.
use Rattle.std.proofs.Common.{◌≡◌, ℕ, ◌+◌, ◌<◌, ◌≤◌, Bool, true, false, not, ◌&&◌, ◌||◌, List, [], ◌∷◌, ◌++◌, length, map, Option, Some, None, refl, ap, arith, sym, ◌∙◌, append_assoc, length-append, nat_le, nat_lt, is_some}
use Rattle.std.proofs.lemmas.List.{length-map}
use Rattle.std.proofs.Math.Seq.{take-append_seam}
use Rattle.std.proofs.lemmas.List.Folds.{list_any-append, list_all-map}
use Rattle.std.proofs.lemmas.List.Quantifiers.{position-Some}
use Rattle.std.proofs.lemmas.Bool.{or_parts}
use Rattle.std.proofs.lemmas.Grind.{common_steps}
use Rattle.std.specs.List.{enumerate_from, list_any, list_all, position}
use Rattle.std.specs.Cmp.Lexicographic.{nat_list_eq_equiv}
use Rattle.tl_types.specs.declared.schemas.Column.{Column}
use Rattle.tl_types.specs.Names.{same_bytes, is_name}
use Rattle.tl_types.proofs.Lists.{and_both}
use Rattle.tl_types.specs.Facts.{are_distinct, names_of, is_schema}
use Rattle.tl_query.specs.declared.ast.ColumnForm.{ColumnForm}
use Rattle.tl_query.specs.declared.ast.CreateForm.{CreateForm}
use Rattle.tl_check.proofs.FirstLemmas.{AllNone, all_none, earlier_none, fault_if_none}
use Rattle.tl_query.specs.Checking.{twice_at, twice_fault, columns_of, key_of, create_fault, or_zero}
use Rattle.tl_query.specs.Parsed.{IsNewTable}

same_back : (xs ys : List ℕ) → same_bytes xs ys ≡ false → same_bytes ys xs ≡ false
same_back xs ys h = nat_list_eq_equiv.symm ys xs ∙ h

-- none of the columns has the name of one of the first
abbrev ApartFrom : List ColumnForm → List ColumnForm → Type 0
ApartFrom P [] = Unit {0}
ApartFrom P (y ∷ ys) = (list_any (λ e. same_bytes e.name.text y.name.text) P ≡ false) × ApartFrom P ys

or_single : (b : Bool) → (b || false) ≡ false → b ≡ false
or_single true h = h
or_single false h = refl

not_false : (b : Bool) → b ≡ false → not b ≡ true
not_false b h = ap not h

-- apart from more is apart from some, and no later column has the last one's name
apart_less : (P : List ColumnForm) (x : ColumnForm) (ys : List ColumnForm) → ApartFrom (P ++ x ∷ []) ys → ApartFrom P ys × (list_any (λ n. same_bytes n x.name.text) (names_of (columns_of ys)) ≡ false)
apart_less P x [] h = (tt, refl)
apart_less P x (y ∷ ys) h =
    let rest = apart_less P x ys h.1 in
    let split = or_parts (list_any (λ e. same_bytes e.name.text y.name.text) P) (same_bytes x.name.text y.name.text || false) (sym (list_any-append (λ e. same_bytes e.name.text y.name.text) P (x ∷ [])) ∙ h.0) in
    let here = or_single (same_bytes x.name.text y.name.text) split.1 in
    let back = same_back x.name.text y.name.text here in
    ((split.0, rest.0), grind (arith, back, rest.1))

distinct_after : (P xs : List ColumnForm) → AllNone (map (twice_at (P ++ xs)) (enumerate_from (length P) xs)) → (are_distinct (names_of (columns_of xs)) ≡ true) × ApartFrom P xs
distinct_after P [] h = (refl, tt)
distinct_after P (x ∷ xs) h =
    let seam = take-append_seam P (x ∷ xs) in
    let here : list_any (λ e. same_bytes e.name.text x.name.text) P ≡ false = rw seam at (fault_if_none _ _ h.0) in
    let joined : (P ++ x ∷ []) ++ xs ≡ P ++ x ∷ xs = append_assoc P (x ∷ []) xs in
    let longer : length (P ++ x ∷ []) ≡ length P + 1 = length-append P (x ∷ []) in
    let rest = distinct_after (P ++ x ∷ []) xs (rw (joined, longer) h.1) in
    let less = apart_less P x xs rest.1 in
    (and_both _ _ (not_false _ less.1) rest.0, (here, less.0))

-- columns no two of which have one name
pub distinct_columns : (columns : List ColumnForm) → twice_fault columns ≡ None → are_distinct (names_of (columns_of columns)) ≡ true
distinct_columns columns h = (distinct_after [] columns (all_none _ h)).0

below_length : (o : Option ℕ) (xs : List ColumnForm) (p : ColumnForm → Bool) → position p xs ≡ o → not (is_some o) ≡ false → or_zero o < length xs
below_length None xs p e h = absurd (cc)
below_length (Some i) [] p e h = absurd (cc)
below_length (Some i) (x ∷ xs) p e h = (position-Some p (x ∷ xs) i x e).0

true_le : (a b : ℕ) → a ≤ b → nat_le a b ≡ true
true_le a b h = grind (arith, common_steps)

true_lt : (a b : ℕ) → a < b → nat_lt a b ≡ true
true_lt a b h = grind (arith, common_steps)

five : (a b c d e : Bool) → a ≡ true → b ≡ true → c ≡ true → d ≡ true → e ≡ true → (a && b && c && d && e) ≡ true
five a b c d e h i j k l = cc

-- a new table without a fault has a schema
pub schema_there : (form : CreateForm) → IsNewTable form → create_fault form ≡ None →
    is_schema (record { name = form.name.text; columns = columns_of form.columns; key = or_zero (key_of form); valid = form.valid }) ≡ true
schema_there form named none =
    let both = earlier_none (twice_fault form.columns) _ none in
    let key = below_length (key_of form) form.columns _ refl (fault_if_none _ _ both.1) in
    let columns : length (columns_of form.columns) ≡ length form.columns = simp length-map in
    let names : list_all (λ c. is_name c.name) (columns_of form.columns) ≡ true = list_all-map (λ c. is_name c.name) _ form.columns ∙ named.columns in
    five _ _ _ _ _ named.name names (distinct_columns form.columns both.0) (true_le _ _ (omega (arith, columns, named.few))) (true_lt _ _ (omega (arith, columns, key)))

-- the same of its parts
pub schema_there_by : (form : CreateForm) (name : List ℕ) (columns : List Column) (key : ℕ) → IsNewTable form → create_fault form ≡ None →
    name ≡ form.name.text → columns ≡ columns_of form.columns → key ≡ or_zero (key_of form) →
    is_schema (record { name = name; columns = columns; key = key; valid = form.valid }) ≡ true
schema_there_by form name columns key named none e f g = rw (e, f, g) (schema_there form named none)

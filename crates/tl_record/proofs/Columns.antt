-- Names, columns and schemas are read exactly.
use Rattle.std.proofs.Common.{◌≡◌, ℕ, zero, suc, ◌+◌, ◌-◌, ◌<◌, ◌≤◌, Bool, true, false, ◌&&◌, ◌||◌, not, nat_le, nat_lt, ◌==◌, List, [], ◌∷◌, ◌++◌, length, refl, sym, ap, ◌∙◌, subst, arith, Some, Ok, IsTrue, append_assoc}
use Rattle.std.specs.List.{list_all, list_any, flat_map, AllByRecursion}
use Rattle.std.proofs.lemmas.List.{length-append}
use Rattle.std.proofs.lemmas.Bool.Decides.{nat_tests}
use Rattle.tl_types.specs.declared.cells.ColumnKind.{ColumnKind}
use Rattle.tl_types.specs.declared.cells.ColumnKind.TheVariants.{IntKind, TextKind}
use Rattle.tl_types.specs.declared.schemas.Column.{Column}
use Rattle.tl_types.specs.Facts.{names_of, are_distinct, is_schema, schema_of}
use Rattle.tl_types.specs.Names.{is_word, is_name, same_bytes}
use Rattle.tl_types.specs.Plain as plain
use Rattle.tl_record.specs.Spelling.{name_bytes, kind_byte, column_bytes, flag_byte, schema_bytes}
use Rattle.tl_record.specs.Reading.{Reader, in_turn, byte_between, block, is_new_name, begins_name, name_at, kind_of, column_of, column_at, columns_at, all_columns, columns_and_key, schema_from, schema_at, IsBetween}
use Rattle.tl_record.proofs.Exact.{Reads, SpellsIn, FitsIn, one}
use Rattle.tl_record.proofs.Turns.{turns}
use Rattle.tl_record.proofs.Parts.{maps, restated, behinds, none_reads, more_reads, block_reads, IsNone, IsMore}
use Rattle.tl_record.proofs.Bounds.{byte_reads}
use Rattle.tl_record.proofs.Letters.{both, is_new, flipped}
use Rattle.tl_record.proofs.FreshNames.{name_goes_on, name_began, same_word, hits}

-- NAMES

word_some : (w : List ℕ) → is_word w ≡ true → 1 ≤ length w
word_some [] e = absurd (cc)
word_some (b ∷ bytes) e = omega arith

empty_begins : begins_name [] ≡ true
unfolding begins_name
empty_begins = refl

abbrev IsNew : List Column → List ℕ → Type 0
IsNew columns w = is_new_name columns w ≡ true

some_name : (columns : List Column) → length columns ≤ 15 → (n : ℕ) → IsBetween 1 64 n
    → (w : List ℕ) × (IsNew columns w × (length w ≡ n))
some_name columns few n h =
    let low = h.0 in
    let m = name_goes_on columns n few h.1 [] (omega (arith, low)) empty_begins in
    (m.0, (m.1, m.2))

pub name_reads : (columns : List Column) → length columns ≤ 15
    → Reads (name_at columns) name_bytes (IsNew columns)
unfolding name_at
name_reads columns few =
    behinds (byte_between 1 64) (block (is_new_name columns) begins_name) one (λ t. t) (IsBetween 1 64)
    (IsNew columns) length (byte_reads 1 64 (omega arith))
    (λ w e. let f = is_new columns w e in (word_some w f.word, f.short))
    (λ n h.
    block_reads (is_new_name columns) begins_name n (name_goes_on columns n few h.1)
    (name_began columns n))
    (λ n h. some_name columns few n h)

-- COLUMNS

kind_there : (k : ColumnKind) → kind_of (kind_byte k) ≡ k
kind_there IntKind = refl
kind_there TextKind = refl

kind_within : (k : ColumnKind) → IsBetween 1 2 (kind_byte k)
kind_within IntKind = (omega arith, omega arith)
kind_within TextKind = (omega arith, omega arith)

kind_back : (n : ℕ) → IsBetween 1 2 n → kind_byte (kind_of n) ≡ n
kind_back zero h = absurd (omega (arith, h.0))
kind_back (suc zero) h = refl
kind_back (suc (suc zero)) h = refl
kind_back (suc (suc (suc n))) h = absurd (omega (arith, h.1))

abbrev IsNewColumn : List Column → Column → Type 0
IsNewColumn columns c = IsNew columns c.name

column_reads : (columns : List Column) → length columns ≤ 15
    → Reads (column_at columns) column_bytes (IsNewColumn columns)
unfolding column_at
column_reads columns few =
    maps (in_turn (name_at columns) (λ name. byte_between 1 2)) column_of
    (λ c. (c.name, kind_byte c.kind)) (SpellsIn name_bytes (λ name. one)) column_bytes
    (FitsIn (IsNew columns) (λ name. IsBetween 1 2)) (IsNewColumn columns)
    (turns (name_at columns) (λ name. byte_between 1 2) name_bytes (λ name. one) (IsNew columns)
    (λ name. IsBetween 1 2) (name_reads columns few) (λ name f. byte_reads 1 2 (omega arith))
    (λ name f. (1, (omega arith, omega arith))))
    (λ p f. (f.0, ap (λ k. name_bytes p.0 ++ one k) (kind_back p.1 f.1)))
    (λ c f. ((f, kind_within c.kind), whole c)) where
      whole : (c : Column) → column_of (c.name, kind_byte c.kind) ≡ c
      whole c =
          let make : ColumnKind → Column = λ k. record { name = c.name; kind = k } in
          ap make (kind_there c.kind)

-- so many columns behind others
abbrev FitsColumns : List Column → ℕ → List Column → Type 0
FitsColumns front zero [] = Unit {0}
FitsColumns front zero (c ∷ cs) = ⊥
FitsColumns front (suc n) [] = ⊥
FitsColumns front (suc n) (c ∷ cs) = IsNewColumn front c × FitsColumns (front ++ c ∷ []) n cs

longer : (front : List Column) (c : Column) (n : ℕ) → length front + suc n ≤ 16
    → length (front ++ c ∷ []) + n ≤ 16
longer front c n h = let l = length-append front (c ∷ []) in omega (arith, l, h)

some_columns : (n : ℕ) (front : List Column) → length front + n ≤ 16
    → (cs : List Column) × FitsColumns front n cs
some_columns zero front h = ([], tt)
some_columns (suc n) front h =
    let w = some_name front (omega (arith, h)) 1 (omega arith, omega arith) in
    let c : Column = record { name = w.0; kind = IntKind } in
    let r = some_columns n (front ++ c ∷ []) (longer front c n h) in
    (c ∷ r.0, (w.1.0, r.1))

abbrev no_column : Column
no_column = record { name = []; kind = IntKind }

columns_read : (n : ℕ) (front : List Column) → length front + n ≤ 16
    → Reads (columns_at front n) (flat_map column_bytes) (FitsColumns front n)
unfolding columns_at
columns_read zero front h =
    restated (columns_at front zero) (flat_map column_bytes) (flat_map column_bytes) IsNone
    (FitsColumns front zero) (none_reads column_bytes) to from where
      to : (cs : List Column) → IsNone cs
          → FitsColumns front zero cs × (flat_map column_bytes cs ≡ flat_map column_bytes cs)
      to [] f = (tt, refl)
      to (c ∷ cs) f = absurd f

      from : (cs : List Column) → FitsColumns front zero cs → IsNone cs
      from [] f = tt
      from (c ∷ cs) f = absurd f
columns_read (suc n) front h =
    restated (columns_at front (suc n)) (flat_map column_bytes) (flat_map column_bytes)
    (IsMore (IsNewColumn front) (λ c. FitsColumns (front ++ c ∷ []) n)) (FitsColumns front (suc n))
    (more_reads no_column (column_at front) (λ c. columns_at (front ++ c ∷ []) n) column_bytes
    (IsNewColumn front) (λ c. FitsColumns (front ++ c ∷ []) n)
    (column_reads front (omega (arith, h)))
    (λ c f. columns_read n (front ++ c ∷ []) (longer front c n h))
    (λ c f. some_columns n (front ++ c ∷ []) (longer front c n h))) to from where
      to : (cs : List Column) → IsMore (IsNewColumn front) (λ c. FitsColumns (front ++ c ∷ []) n) cs
          → FitsColumns front (suc n) cs × (flat_map column_bytes cs ≡ flat_map column_bytes cs)
      to [] f = absurd f
      to (c ∷ cs) f = (f, refl)

      from : (cs : List Column) → FitsColumns front (suc n) cs
          → IsMore (IsNewColumn front) (λ c. FitsColumns (front ++ c ∷ []) n) cs
      from [] f = absurd f
      from (c ∷ cs) f = f

-- THEIR NAMES DIFFER

same_self : (xs : List ℕ) → same_bytes xs xs ≡ true
same_self [] = refl
same_self (x ∷ xs) = let e : (x == x) ≡ true = grind (arith, nat_tests) in rw (e, same_self xs) refl

turned_round : (xs ys : List ℕ) → same_bytes xs ys ≡ false → same_bytes ys xs ≡ false
turned_round xs ys e = by_test (same_bytes ys xs) refl where
  by_test : (t : Bool) → same_bytes ys xs ≡ t → same_bytes ys xs ≡ false
  by_test false f = f
  by_test true f =
      let is : ys ≡ xs = same_word ys xs f in
      absurd (let g : same_bytes xs ys ≡ true = ap (λ z. same_bytes xs z) is ∙ same_self xs in cc)

neither : (a b : Bool) → (a || b) ≡ false → (a ≡ false) × (b ≡ false)
neither true b e = absurd (cc)
neither false b e = (refl, e)

-- no column of the second list has a name of the first
abbrev Apart : List Column → List Column → Type 0
Apart front cs = AllByRecursion (λ c. hits (names_of front) c.name ≡ false) cs

hits_behind : (front : List Column) (c : Column) (w : List ℕ)
    → hits (names_of (front ++ c ∷ [])) w ≡ (hits (names_of front) w || (same_bytes c.name w || false))
hits_behind [] c w = refl
hits_behind (f ∷ front) c w = by_test (same_bytes f.name w) (hits_behind front c w) where
  by_test : (t : Bool)
      → hits (names_of (front ++ c ∷ [])) w ≡ (hits (names_of front) w || (same_bytes c.name w || false))
      → (t || hits (names_of (front ++ c ∷ [])) w)
      ≡ ((t || hits (names_of front) w) || (same_bytes c.name w || false))
  by_test true ih = refl
  by_test false ih = ih

apart_less : (front : List Column) (c : Column) (cs : List Column) → Apart (front ++ c ∷ []) cs
    → Apart front cs × (list_any (λ y. same_bytes y c.name) (names_of cs) ≡ false)
apart_less front c [] f = (tt, refl)
apart_less front c (x ∷ xs) f =
    let a = neither (hits (names_of front) x.name) (same_bytes c.name x.name || false)
    (sym (hits_behind front c x.name) ∙ f.0) in
    let b = neither (same_bytes c.name x.name) false a.1 in
    let r = apart_less front c xs f.1 in
    ((a.0, r.0), rw (turned_round c.name x.name b.0, r.1) refl)

apart_more : (front : List Column) (c : Column) (cs : List Column) → Apart front cs
    → list_any (λ y. same_bytes y c.name) (names_of cs) ≡ false → Apart (front ++ c ∷ []) cs
apart_more front c [] f e = tt
apart_more front c (x ∷ xs) f e =
    let b = neither (same_bytes x.name c.name) (list_any (λ y. same_bytes y c.name) (names_of xs)) e in
    let t = turned_round x.name c.name b.0 in
    (hits_behind front c x.name ∙ rw (f.0, t) refl, apart_more front c xs f.1 b.1)

-- what the names of columns keep
abbrev AreNamed : List Column → Type 0
AreNamed cs = (list_all (λ c. is_name c.name) cs ≡ true) × (are_distinct (names_of cs) ≡ true)

columns_to : (n : ℕ) (front cs : List Column) → FitsColumns front n cs
    → AreNamed cs × Apart front cs × (length cs ≡ n)
columns_to zero front [] f = ((refl, refl), tt, refl)
columns_to zero front (c ∷ cs) f = absurd f
columns_to (suc n) front [] f = absurd f
columns_to (suc n) front (c ∷ cs) f =
    let i = is_new front c.name f.0 in
    let r = columns_to n (front ++ c ∷ []) cs f.1 in
    let a = apart_less front c cs r.1 in
    let l = r.2 in
    ((rw (i.name, r.0.0) refl, rw (a.1, r.0.1) refl), (i.new, a.0), omega (arith, l))

new_name : (front : List Column) (w : List ℕ) → is_name w ≡ true → hits (names_of front) w ≡ false
    → is_new_name front w ≡ true
unfolding is_new_name
new_name front w e f = rw (e, f) refl

columns_from : (n : ℕ) (front cs : List Column) → AreNamed cs → Apart front cs → length cs ≡ n
    → FitsColumns front n cs
columns_from zero front [] a p e = tt
columns_from zero front (c ∷ cs) a p e = absurd (omega (arith, e))
columns_from (suc n) front [] a p e = absurd (omega (arith, e))
columns_from (suc n) front (c ∷ cs) a p e =
    let b = both (is_name c.name) (list_all (λ c. is_name c.name) cs) a.0 in
    let d = both (not (list_any (λ y. same_bytes y c.name) (names_of cs))) (are_distinct (names_of cs)) a.1 in
    let g = flipped (list_any (λ y. same_bytes y c.name) (names_of cs)) d.0 in (
      new_name front c.name b.0 p.0,
      columns_from n (front ++ c ∷ []) cs (b.1, d.1) (apart_more front c cs p.1 g) (omega (arith, e)),
    )

none_apart : (cs : List Column) → Apart [] cs
none_apart [] = tt
none_apart (c ∷ cs) = (refl, none_apart cs)

-- the columns of a schema
abbrev AreColumns : List Column → Type 0
AreColumns cs = AreNamed cs × IsBetween 1 16 (length cs)

abbrev columns_bytes : List Column → List ℕ
columns_bytes cs = one (length cs) ++ flat_map column_bytes cs

all_columns_read : Reads all_columns columns_bytes AreColumns
unfolding all_columns
all_columns_read =
    behinds (byte_between 1 16) (columns_at []) one (flat_map column_bytes) (IsBetween 1 16) AreColumns
    length (byte_reads 1 16 (omega arith)) (λ cs f. f.1)
    (λ n h.
    let u = h.1 in
    restated (columns_at [] n) (flat_map column_bytes) (flat_map column_bytes) (FitsColumns [] n)
    (λ cs. AreColumns cs × (length cs ≡ n)) (columns_read n [] (omega (arith, u)))
    (λ cs f.
    let a = columns_to n [] cs f in
    (((a.0, subst (IsBetween 1 16) (sym a.2) h), a.2), refl))
    (λ cs f. columns_from n [] cs f.0.0 (none_apart cs) f.1))
    (λ n h.
    let u = h.1 in
    let r = some_columns n [] (omega (arith, u)) in
    let a = columns_to n [] r.0 r.1 in
    (r.0, ((a.0, subst (IsBetween 1 16) (sym a.2) h), a.2)))

pub columns_some : (bytes rest : List ℕ) (cs : List Column) → all_columns bytes ≡ Ok (cs, rest)
    → IsBetween 1 16 (length cs)
columns_some bytes rest cs e = (all_columns_read.takes bytes rest cs e).0.1

-- SCHEMAS

abbrev KeyFits : List Column → ℕ → Type 0
KeyFits cs key = IsBetween 0 (length cs - 1) key

columns_key_read : Reads columns_and_key (SpellsIn columns_bytes (λ cs. one)) (FitsIn AreColumns KeyFits)
unfolding columns_and_key
columns_key_read =
    turns all_columns (λ cs. byte_between 0 (length cs - 1)) columns_bytes (λ cs. one) AreColumns KeyFits
    all_columns_read (λ cs f. byte_reads 0 (length cs - 1) (omega arith))
    (λ cs f. (0, (omega arith, omega arith)))

-- a schema's parts
abbrev parts_of : plain.Schema → List ℕ × (ℕ × (List Column × ℕ))
parts_of s = (s.name, (flag_byte s.valid, (s.columns, s.key)))

flag_within : (t : Bool) → IsBetween 0 1 (flag_byte t)
flag_within true = (omega arith, omega arith)
flag_within false = (omega arith, omega arith)

flag_there : (t : Bool) → (flag_byte t == 1) ≡ t
flag_there true = refl
flag_there false = refl

flag_back : (n : ℕ) → IsBetween 0 1 n → flag_byte (n == 1) ≡ n
flag_back zero h = refl
flag_back (suc zero) h = refl
flag_back (suc (suc n)) h = absurd (omega (arith, h.1))

abbrev Valid : List ℕ → ℕ → Type 0
Valid name = IsBetween 0 1

abbrev flag_and_columns : Reader (ℕ × (List Column × ℕ))
flag_and_columns = in_turn (byte_between 0 1) (λ valid. columns_and_key)

some_columns_key : (p : List Column × ℕ) × FitsIn AreColumns KeyFits p
some_columns_key =
    let r = some_columns 1 [] (omega arith) in
    let a = columns_to 1 [] r.0 r.1 in
    let l = a.2 in
    ((r.0, 0), ((a.0, (omega (arith, l), omega (arith, l))), (omega arith, omega arith)))

flag_columns_read : Reads flag_and_columns
    (SpellsIn one (λ valid. SpellsIn columns_bytes (λ cs. one)))
    (FitsIn (IsBetween 0 1) (λ valid. FitsIn AreColumns KeyFits))
flag_columns_read =
    turns (byte_between 0 1) (λ valid. columns_and_key) one
    (λ valid. SpellsIn columns_bytes (λ cs. one)) (IsBetween 0 1) (λ valid. FitsIn AreColumns KeyFits)
    (byte_reads 0 1 (omega arith)) (λ valid f. columns_key_read) (λ valid f. some_columns_key)

abbrev pub IsASchema : plain.Schema → Type 0
IsASchema s = IsTrue (is_schema s)

true_of : (t : Bool) → IsTrue t → t ≡ true
true_of t h = h

fits_back : (s : plain.Schema) → IsASchema s
    → FitsIn (IsNew []) (λ name. FitsIn (IsBetween 0 1) (λ valid. FitsIn AreColumns KeyFits)) (parts_of s)
fits_back s f =
    let n : Bool = is_name s.name in
    let a : Bool = list_all (λ c. is_name c.name) s.columns in
    let d : Bool = are_distinct (names_of s.columns) in
    let l : Bool = nat_le (length s.columns) 16 in
    let k : Bool = nat_lt s.key (length s.columns) in
    let p4 = both (n && a && d && l) k (true_of (is_schema s) f) in
    let p3 = both (n && a && d) l p4.0 in
    let p2 = both (n && a) d p3.0 in
    let p1 = both n a p2.0 in
    let few = p3.1 in
    let key = p4.1 in
    let under : s.key < length s.columns = grind (arith, nat_tests) in
    let most : length s.columns ≤ 16 = grind (arith, nat_tests) in (
      new_name [] s.name p1.0 refl,
      (
        flag_within s.valid,
        (((p1.1, p2.1), (omega (arith, under), most)), (omega arith, omega (arith, under))),
      ),
    )

pub schema_fits : (p : List ℕ × (ℕ × (List Column × ℕ)))
    → FitsIn (IsNew []) (λ name. FitsIn (IsBetween 0 1) (λ valid. FitsIn AreColumns KeyFits)) p
    → IsASchema (schema_from p)
schema_fits p f =
    let n = (is_new [] p.0 f.0).name in
    let a = f.1.1.0 in
    let u = a.1 in
    let k = f.1.1.1.1 in
    let few : nat_le (length p.1.1.0) 16 ≡ true = grind (arith, nat_tests) in
    let key : nat_lt p.1.1.1 (length p.1.1.0) ≡ true = grind (arith, nat_tests) in
    rw (n, a.0.0, a.0.1, few, key) refl

pub schema_reads : Reads schema_at schema_bytes IsASchema
unfolding schema_at
schema_reads =
    maps (in_turn (name_at []) (λ name. flag_and_columns)) schema_from parts_of
    (SpellsIn name_bytes (λ name. SpellsIn one (λ valid. SpellsIn columns_bytes (λ cs. one))))
    schema_bytes
    (FitsIn (IsNew []) (λ name. FitsIn (IsBetween 0 1) (λ valid. FitsIn AreColumns KeyFits)))
    IsASchema
    (turns (name_at []) (λ name. flag_and_columns) name_bytes
    (λ name. SpellsIn one (λ valid. SpellsIn columns_bytes (λ cs. one))) (IsNew [])
    (λ name. FitsIn (IsBetween 0 1) (λ valid. FitsIn AreColumns KeyFits)) (name_reads [] (omega arith))
    (λ name f. flag_columns_read) (λ name f. let r = some_columns_key in ((0, r.0), ((omega arith, omega arith), r.1))))
    (λ p f. (schema_fits p f, spelled_out p f)) back where
      spelled_out : (p : List ℕ × (ℕ × (List Column × ℕ)))
          → FitsIn (IsNew []) (λ name. FitsIn (IsBetween 0 1) (λ valid. FitsIn AreColumns KeyFits)) p
          → schema_bytes (schema_from p)
          ≡ name_bytes p.0 ++ (one p.1.0 ++ (columns_bytes p.1.1.0 ++ one p.1.1.1))
      spelled_out p f =
          let cs : List Column = p.1.1.0 in
          let v : List ℕ = flag_byte (p.1.0 == 1) ∷ length cs ∷ [] in
          append_assoc (name_bytes p.0 ++ v) (flat_map column_bytes cs) (one p.1.1.1)
          ∙ append_assoc (name_bytes p.0) v (flat_map column_bytes cs ++ one p.1.1.1)
          ∙ ap (λ n. name_bytes p.0 ++ (one n ++ (columns_bytes cs ++ one p.1.1.1))) (flag_back p.1.0 f.1.0)

      back : (s : plain.Schema) → IsASchema s
          → FitsIn (IsNew []) (λ name. FitsIn (IsBetween 0 1) (λ valid. FitsIn AreColumns KeyFits)) (parts_of s)
          × (schema_from (parts_of s) ≡ s)
      back s f = (fits_back s f, whole) where
        whole : schema_from (parts_of s) ≡ s
        whole =
            let make : Bool → plain.Schema =
            λ t. record { name = s.name; columns = s.columns; key = s.key; valid = t } in
            ap make (flag_there s.valid)

-- a schema, with no reader beside it
pub some_schema : (s : plain.Schema) × IsASchema s
some_schema =
    let w = some_name [] (omega arith) 1 (omega arith, omega arith) in
    let c = some_columns_key in
    let p : List ℕ × (ℕ × (List Column × ℕ)) = (w.0, (0, c.0)) in
    (schema_from p, schema_fits p (w.1.0, ((omega arith, omega arith), c.1)))

pub made : (bytes r1 r2 r3 name : List ℕ) (valid key : ℕ) (cs seen : List Column) → seen ≡ cs
    → name_at [] bytes ≡ Ok (name, r1) → byte_between 0 1 r1 ≡ Ok (valid, r2)
    → columns_and_key r2 ≡ Ok ((cs, key), r3)
    → schema_of (record { name = name; columns = seen; key = key; valid = valid == 1 })
    ≡ Some (record { name = name; columns = seen; key = key; valid = valid == 1 })
made bytes r1 r2 r3 name valid key cs seen same e f g =
    let n = ((name_reads [] (omega arith)).takes bytes r1 name e).0 in
    let v = ((byte_reads 0 1 (omega arith)).takes r1 r2 valid f).0 in
    let c = (columns_key_read.takes r2 r3 (cs, key) g).0 in
    let t = schema_fits (name, (valid, (cs, key))) (n, (v, c)) in
    let made : schema_of (record { name = name; columns = cs; key = key; valid = valid == 1 })
    ≡ Some (record { name = name; columns = cs; key = key; valid = valid == 1 }) = rw t refl in
    subst (λ z. schema_of (record { name = name; columns = z; key = key; valid = valid == 1 })
    ≡ Some (record { name = name; columns = z; key = key; valid = valid == 1 })) (sym same) made

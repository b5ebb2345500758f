-- Commits are read exactly, and what decoding tells.
use Rattle.std.proofs.Common.{◌≡◌, ◌≢◌, ℕ, ℤ, pos, zero, suc, Bool, true, false, get_or, subst, ◌+◌, ◌-◌, ◌<◌, ◌≤◌, ◌^◌, List, [], ◌∷◌, ◌++◌, length, drop, refl, sym, ap, ◌∙◌, arith, Result, Ok, Err, IfOk, IfErr, IsErrOf, append_assoc}
use Rattle.std.specs.List.{flat_map, AllByRecursion}
use Rattle.std.proofs.lemmas.List.{length-append, append-nil, length-drop}
use Rattle.std.proofs.lemmas.Int.{ints}
use Rattle.std.proofs.lemmas.Bool.Decides.{nat_tests}
use Rattle.tl_types.specs.declared.commits.Commit.{Commit}
use Rattle.tl_types.specs.declared.commits.Body.{Body}
use Rattle.tl_types.specs.declared.commits.Body.TheVariants as body
use Rattle.tl_types.specs.Facts.{IsChange}
use Rattle.tl_types.specs.Plain as plain
use Rattle.tl_record.specs.declared.faults.Fault.TheVariants.{Short, Bad}
use Rattle.tl_record.specs.declared.faults.RecordFault.{RecordFault}
use Rattle.tl_record.specs.declared.faults.RecordFault.TheVariants as fault
use Rattle.tl_record.specs.declared.decoding.Decoded.{Decoded}
use Rattle.tl_record.specs.Spelling.{short_number, number, signed_number, row_bytes, schema_bytes, change_bytes, floor_bytes, body_bytes, spelling, IsNumber, IsSigned, IsRow, IsBody, IsCommit}
use Rattle.tl_record.specs.Decoding.{BeginsWith, IsCutRecord, IsNoRecord, IsAt, IsDecoded, FindsUnlessMemory, FailsUnlessMemory}
use Rattle.tl_record.specs.Reading.{Reader, in_turn, judged, is_kind, kind_at, signed_between, least, greatest, floor_from, floor_at, any_2, any_4, closes_at, row_at, opens_at, change_from, change_at, schema_at, body_of, body_at, commit_from, commit_at}
use Rattle.tl_record.proofs.Exact.{Reads, SpellsIn, FitsIn, one}
use Rattle.tl_record.proofs.Turns.{turns}
use Rattle.tl_record.proofs.Parts.{same_value, maps, restated, behinds}
use Rattle.tl_record.proofs.Fields.{any_2_reads, any_4_reads, list_reads, closes_read, AreCloses}
use Rattle.tl_record.proofs.Columns.{schema_reads, some_schema, IsASchema}
use Rattle.tl_record.proofs.RowsRead.{row_reads, some_row, any_signed}

-- CHANGES

abbrev opens_bytes : List plain.Opened → List ℕ
opens_bytes rows = number (length rows) ++ flat_map row_bytes rows

abbrev AreOpens : List plain.Opened → Type 0
AreOpens rows = AllByRecursion IsRow rows × IsNumber (length rows)

opens_read : Reads opens_at opens_bytes AreOpens
unfolding opens_at
opens_read = list_reads row_at row_bytes IsRow row_reads some_row any_4 number IsNumber any_4_reads

abbrev closes_bytes : List ℕ → List ℕ
closes_bytes ids = number (length ids) ++ flat_map number ids

abbrev IsTable : ℕ → Type 0
IsTable n = n < 2 ^ 16

abbrev IsAChange : plain.Change → Type 0
IsAChange c = IsTable c.table × IsChange c × AllByRecursion IsNumber c.closes × AllByRecursion IsRow c.opens

abbrev parts_of : plain.Change → ℕ × (List ℕ × List plain.Opened)
parts_of c = (c.table, (c.closes, c.opens))

abbrev closes_and_opens : Reader (List ℕ × List plain.Opened)
closes_and_opens = in_turn closes_at (λ closes. opens_at)

both_read : Reads closes_and_opens (SpellsIn closes_bytes (λ closes. opens_bytes))
    (FitsIn AreCloses (λ closes. AreOpens))
both_read =
    turns closes_at (λ closes. opens_at) closes_bytes (λ closes. opens_bytes) AreCloses
    (λ closes. AreOpens) closes_read (λ closes f. opens_read) (λ closes f. ([], (tt, omega arith)))

regrouped : (s a b c d : List ℕ) → s ++ a ++ b ++ c ++ d ≡ s ++ ((a ++ b) ++ (c ++ d))
regrouped s a b c d =
    append_assoc (s ++ a ++ b) c d ∙ ap (λ l. l ++ (c ++ d)) (append_assoc s a b)
    ∙ append_assoc s (a ++ b) (c ++ d)

change_reads : Reads change_at change_bytes IsAChange
unfolding change_at
change_reads =
    maps (in_turn any_2 (λ table. closes_and_opens)) change_from parts_of
    (SpellsIn short_number (λ table. SpellsIn closes_bytes (λ closes. opens_bytes))) change_bytes
    (FitsIn IsTable (λ table. FitsIn AreCloses (λ closes. AreOpens))) IsAChange
    (turns any_2 (λ table. closes_and_opens) short_number
    (λ table. SpellsIn closes_bytes (λ closes. opens_bytes)) IsTable
    (λ table. FitsIn AreCloses (λ closes. AreOpens)) any_2_reads (λ table f. both_read)
    (λ table f. (([], []), ((tt, tt, omega arith), (tt, omega arith)))))
    (λ p f.
    let a = f.1.0 in
    let b = f.1.1 in (
      (f.0, record { ascending = a.0; few_closes = a.2; few_opens = b.1 }, a.1, b.0),
      regrouped (short_number p.0) (number (length p.1.0)) (flat_map number p.1.0)
          (number (length p.1.1)) (flat_map row_bytes p.1.1),
    ))
    (λ c f.
    ((f.0, ((f.1.ascending, f.2, f.1.few_closes), (f.3, f.1.few_opens))), refl))

-- THE KIND OF A BODY

abbrev IsKind : ℕ → Type 0
IsKind n = is_kind n ≡ true

kind_small : (n : ℕ) → IsKind n → n ≤ 5
kind_small n h = grind (arith, nat_tests)

kind_takes : (bytes rest : List ℕ) (x : ℕ) → kind_at bytes ≡ Ok (x, rest)
    → IsKind x × (bytes ≡ (x ∷ []) ++ rest)
kind_takes [] rest x e = absurd (cc)
kind_takes (b ∷ bytes) rest x e = by_test (is_kind b) refl e where
  by_test : (t : Bool) → is_kind b ≡ t → judged t b bytes ≡ Ok (x, rest)
      → IsKind x × (b ∷ bytes ≡ x ∷ rest)
  by_test true t e' =
      let p : (b, bytes) ≡ (x, rest) = same_value (b, bytes) (x, rest) e' in
      (subst IsKind (ap (λ z. z.0) p) t, ap (λ z. z.0 ∷ z.1) p)
  by_test false t e' = absurd (cc)

kind_short : (bytes : List ℕ) → kind_at bytes ≡ Err Short
    → (x : ℕ) × (more : List ℕ) × IsKind x × (more ≢ []) × (bytes ++ more ≡ x ∷ [])
kind_short [] e = (1, 1 ∷ [], refl, (λ f. absurd (cc)), refl)
kind_short (b ∷ bytes) e = by_test (is_kind b) e where
  by_test : (t : Bool) → judged t b bytes ≡ Err Short
      → (x : ℕ) × (more : List ℕ) × IsKind x × (more ≢ []) × ((b ∷ bytes) ++ more ≡ x ∷ [])
  by_test true e' = absurd (cc)
  by_test false e' = absurd (cc)

kind_bad : (bytes : List ℕ) → kind_at bytes ≡ Err Bad
    → (x : ℕ) (more rest : List ℕ) → IsKind x → bytes ++ more ≢ (x ∷ []) ++ rest
kind_bad [] e x more rest fits same = absurd (cc)
kind_bad (b ∷ bytes) e x more rest fits same =
    let is : b ≡ x = ap (λ l. get_or l 0 0) same in
    let t : is_kind b ≡ true = ap is_kind is ∙ fits in
    absurd (let f : judged true b bytes ≡ Err Bad = ap (λ z. judged z b bytes) (sym t) ∙ e in cc)

kind_reads : Reads kind_at one IsKind
kind_reads = record {
  again = λ x rest fits. ap (λ t. judged t x rest) fits;
  takes = kind_takes;
  short = kind_short;
  bad = kind_bad;
}

-- BODIES

abbrev body_tag : Body → ℕ
body_tag (body.Create s) = 1
body_tag (body.Change c) = 2
body_tag (body.Moment m) = 4
body_tag (body.Forget t f) = 5

abbrev body_rest : Body → List ℕ
body_rest (body.Create s) = schema_bytes s
body_rest (body.Change c) = change_bytes c
body_rest (body.Moment m) = signed_number m
body_rest (body.Forget t f) = floor_bytes t f

abbrev BodyAs : ℕ → Body → Type 0
BodyAs n y = IsBody y × (body_tag y ≡ n)

abbrev schema_in : Body → plain.Schema
schema_in (body.Create s) = s
schema_in _ = some_schema.0

abbrev no_change : plain.Change
no_change = record { table = 0; closes = []; opens = [] }

abbrev change_in : Body → plain.Change
change_in (body.Create s) = no_change
change_in (body.Change c) = c
change_in _ = no_change

abbrev moment_in : Body → ℤ
moment_in (body.Moment m) = m
moment_in _ = pos 0

create_back : (y : Body) → BodyAs 1 y → IsASchema (schema_in y) × (body.Create (schema_in y) ≡ y)
create_back (body.Create s) f = (f.0, refl)
create_back (body.Change c) f = absurd (omega (arith, f.1))
create_back (body.Moment m) f = absurd (omega (arith, f.1))
create_back (body.Forget t n) f = absurd (omega (arith, f.1))

change_back : (y : Body) → BodyAs 2 y → IsAChange (change_in y) × (body.Change (change_in y) ≡ y)
change_back (body.Create s) f = absurd (omega (arith, f.1))
change_back (body.Change c) f = (f.0, refl)
change_back (body.Moment m) f = absurd (omega (arith, f.1))
change_back (body.Forget t n) f = absurd (omega (arith, f.1))

moment_back : (y : Body) → BodyAs 4 y → IsSigned (moment_in y) × (body.Moment (moment_in y) ≡ y)
moment_back (body.Create s) f = absurd (omega (arith, f.1))
moment_back (body.Change c) f = absurd (omega (arith, f.1))
moment_back (body.Moment m) f = (f.0, refl)
moment_back (body.Forget t n) f = absurd (omega (arith, f.1))

-- a table and a floor
abbrev pair_in : Body → ℕ × ℕ
pair_in (body.Forget t n) = (t, n)
pair_in _ = (0, 0)

abbrev IsAFloor : ℕ × ℕ → Type 0
IsAFloor p = IsTable p.0 × IsNumber p.1

floor_back : (y : Body) → BodyAs 5 y → IsAFloor (pair_in y) × (floor_from (pair_in y) ≡ y)
floor_back (body.Create s) f = absurd (omega (arith, f.1))
floor_back (body.Change c) f = absurd (omega (arith, f.1))
floor_back (body.Moment m) f = absurd (omega (arith, f.1))
floor_back (body.Forget t n) f = (f.0, refl)

pair_reads : Reads (in_turn any_2 (λ table. any_4)) (SpellsIn short_number (λ table. number)) (FitsIn IsTable (λ table. IsNumber))
pair_reads =
    turns any_2 (λ table. any_4) short_number (λ table. number) IsTable (λ table. IsNumber)
    any_2_reads (λ table f. any_4_reads) (λ table f. (0, omega arith))

floor_reads : Reads floor_at body_rest (BodyAs 5)
unfolding floor_at
floor_reads =
    maps (in_turn any_2 (λ table. any_4)) floor_from pair_in (SpellsIn short_number (λ table. number)) body_rest
    (FitsIn IsTable (λ table. IsNumber)) (BodyAs 5) pair_reads (λ p f. ((f, refl), refl)) floor_back

body_of_reads : (n : ℕ) → IsKind n → Reads (body_of n) body_rest (BodyAs n)
body_of_reads zero h = absurd (cc)
body_of_reads (suc zero) h =
    maps schema_at (λ s. body.Create s) schema_in schema_bytes body_rest IsASchema (BodyAs 1) schema_reads
    (λ s f. ((f, refl), refl)) create_back
body_of_reads (suc (suc zero)) h =
    maps change_at (λ c. body.Change c) change_in change_bytes body_rest IsAChange (BodyAs 2) change_reads
    (λ c f. ((f, refl), refl)) change_back
body_of_reads (suc (suc (suc zero))) h = absurd (cc)
body_of_reads (suc (suc (suc (suc zero)))) h =
    maps (signed_between least greatest) (λ m. body.Moment m) moment_in signed_number body_rest IsSigned (BodyAs 4) any_signed
    (λ m f. ((f, refl), refl)) moment_back
body_of_reads (suc (suc (suc (suc (suc zero))))) h = floor_reads
body_of_reads (suc (suc (suc (suc (suc (suc n)))))) h = absurd (let l = kind_small (suc (suc (suc (suc (suc (suc n)))))) h in omega (arith, l))

change_fits : IsAChange no_change
change_fits =
    (omega arith, record { ascending = tt; few_closes = omega arith; few_opens = omega arith }, tt, tt)

some_body : (n : ℕ) → IsKind n → (y : Body) × BodyAs n y
some_body zero h = absurd (cc)
some_body (suc zero) h = (body.Create some_schema.0, (some_schema.1, refl))
some_body (suc (suc zero)) h = (body.Change no_change, (change_fits, refl))
some_body (suc (suc (suc zero))) h = absurd (cc)
some_body (suc (suc (suc (suc zero)))) h = (body.Moment (pos 0), ((omega (arith, ints), omega (arith, ints)), refl))
some_body (suc (suc (suc (suc (suc zero))))) h = (body.Forget 0 0, ((omega arith, omega arith), refl))
some_body (suc (suc (suc (suc (suc (suc n)))))) h = absurd (let l = kind_small (suc (suc (suc (suc (suc (suc n)))))) h in omega (arith, l))

tag_within : (y : Body) → IsKind (body_tag y)
tag_within (body.Create s) = refl
tag_within (body.Change c) = refl
tag_within (body.Moment m) = refl
tag_within (body.Forget t f) = refl

body_whole : (y : Body) → body_bytes y ≡ one (body_tag y) ++ body_rest y
body_whole (body.Create s) = refl
body_whole (body.Change c) = refl
body_whole (body.Moment m) = refl
body_whole (body.Forget t f) = refl

body_reads : Reads body_at body_bytes IsBody
unfolding body_at
body_reads =
    restated body_at (λ y. one (body_tag y) ++ body_rest y) body_bytes IsBody IsBody
    (behinds kind_at body_of one body_rest IsKind IsBody body_tag
    kind_reads (λ y f. tag_within y) body_of_reads some_body)
    (λ y f. (f, body_whole y)) (λ y f. f)

-- COMMITS

pub commit_reads : Reads commit_at spelling IsCommit
unfolding commit_at
commit_reads =
    maps (in_turn any_4 (λ author. body_at)) commit_from (λ c. (c.author, c.body))
    (SpellsIn number (λ author. body_bytes)) spelling (FitsIn IsNumber (λ author. IsBody)) IsCommit
    (turns any_4 (λ author. body_at) number (λ author. body_bytes) IsNumber (λ author. IsBody)
    any_4_reads (λ author f. body_reads) (λ author f. (body.Change no_change, change_fits)))
    (λ p f. ((f.0, f.1), refl)) (λ c f. ((f.0, f.1), refl))

pub no_prefix : (c d : Commit) (r s : List ℕ) → IsCommit c → IsCommit d
    → spelling c ++ r ≡ spelling d ++ s → (c ≡ d) × (r ≡ s)
no_prefix c d r s f g e =
    let p = same_value {X = Commit × List ℕ} (c, r) (d, s)
    (sym (commit_reads.again c r f) ∙ (ap commit_at e ∙ commit_reads.again d s g)) in
    (ap (λ z. z.0) p, ap (λ z. z.1) p)

-- WHAT DECODING TELLS

pub read_ok : (at : ℕ) (bytes front rest : List ℕ) (c : Commit) → front ≡ drop at bytes
    → commit_at front ≡ Ok (c, rest)
    → (length rest ≤ length bytes)
    × ((x : List ℕ) × (commit_at (drop at bytes) ≡ Ok (c, x))
    × (length bytes - length rest + length x ≡ length bytes))
read_ok at bytes front rest c same e =
    let r : commit_at (drop at bytes) ≡ Ok (c, rest) = ap commit_at (sym same) ∙ e in
    let t = (commit_reads.takes (drop at bytes) rest c r).1 in
    let l : length (drop at bytes) ≡ length (spelling c) + length rest =
    ap length t ∙ length-append (spelling c) rest in
    let k = length-drop at bytes in
    let fits : length rest ≤ length bytes = omega (arith, l, k) in
    (fits, (rest, r, omega (arith, fits)))

abbrev Told : ℕ → List ℕ → Result Decoded RecordFault → Type 0
Told at bytes result = IsDecoded at (length bytes) result (commit_at (drop at bytes))

pub told_ok : (at : ℕ) (bytes : List ℕ) (result : Result Decoded RecordFault) → Told at bytes result
    → IfOk result (λ d. (rest : List ℕ) × BeginsWith (drop at bytes) d.commit rest)
told_ok at bytes (Err e) h = tt
told_ok at bytes (Ok d) h = (h.0, commit_reads.takes (drop at bytes) h.0 d.commit h.1)

pub told_end : (at : ℕ) (bytes : List ℕ) (result : Result Decoded RecordFault) → at ≤ length bytes
    → Told at bytes result → IfOk result (λ d. d.end ≡ at + length (spelling d.commit))
told_end at bytes (Err e) a h = tt
told_end at bytes (Ok d) a h =
    let t = (commit_reads.takes (drop at bytes) h.0 d.commit h.1).1 in
    let l : length (drop at bytes) ≡ length (spelling d.commit) + length h.0 =
    ap length t ∙ length-append (spelling d.commit) h.0 in
    let k = length-drop at bytes in
    let e = h.2 in
    omega (arith, l, k, e, a)

pub told_within : (at : ℕ) (bytes : List ℕ) (result : Result Decoded RecordFault) → Told at bytes result
    → IfOk result (λ d. d.end ≤ length bytes)
told_within at bytes (Err e) h = tt
told_within at bytes (Ok d) h = let e = h.2 in omega (arith, e)

pub told_short : (at : ℕ) (bytes : List ℕ) (result : Result Decoded RecordFault) → Told at bytes result
    → IsErrOf result (fault.Short at) → IsCutRecord (drop at bytes)
told_short at bytes (Ok d) h e = absurd (cc)
told_short at bytes (Err (fault.Short a)) h e = commit_reads.short (drop at bytes) h.1
told_short at bytes (Err (fault.Bad a)) h e = absurd (cc)
told_short at bytes (Err fault.NoMemory) h e = absurd (cc)

pub told_bad : (at : ℕ) (bytes : List ℕ) (result : Result Decoded RecordFault) → Told at bytes result
    → IsErrOf result (fault.Bad at) → IsNoRecord (drop at bytes)
told_bad at bytes (Ok d) h e = absurd (cc)
told_bad at bytes (Err (fault.Short a)) h e = absurd (cc)
told_bad at bytes (Err (fault.Bad a)) h e = commit_reads.bad (drop at bytes) h.1
told_bad at bytes (Err fault.NoMemory) h e = absurd (cc)

pub told_place : (at : ℕ) (bytes : List ℕ) (result : Result Decoded RecordFault) → Told at bytes result
    → IfErr result (IsAt at)
told_place at bytes (Ok d) h = tt
told_place at bytes (Err (fault.Short a)) h = h.0
told_place at bytes (Err (fault.Bad a)) h = h.0
told_place at bytes (Err fault.NoMemory) h = tt

again_at : (bytes : List ℕ) (c : Commit) (rest : List ℕ) → BeginsWith bytes c rest
    → commit_at bytes ≡ Ok (c, rest)
again_at bytes c rest b = ap commit_at b.1 ∙ commit_reads.again c rest b.0

pub told_found : (at : ℕ) (bytes : List ℕ) (result : Result Decoded RecordFault) → Told at bytes result
    → (c : Commit) (rest : List ℕ) → BeginsWith (drop at bytes) c rest → FindsUnlessMemory c result
told_found at bytes (Ok d) h c rest b =
    ap (λ z. z.0) (same_value {X = Commit × List ℕ} (d.commit, h.0) (c, rest)
    (sym h.1 ∙ again_at (drop at bytes) c rest b))
told_found at bytes (Err (fault.Short a)) h c rest b =
    absurd (let e : Err Short ≡ Ok (c, rest) = sym h.1 ∙ again_at (drop at bytes) c rest b in cc)
told_found at bytes (Err (fault.Bad a)) h c rest b =
    absurd (let e : Err Bad ≡ Ok (c, rest) = sym h.1 ∙ again_at (drop at bytes) c rest b in cc)
told_found at bytes (Err fault.NoMemory) h c rest b = refl

none_left : (xs ys : List ℕ) → xs ++ ys ≡ [] → ys ≡ []
none_left [] ys e = e
none_left (x ∷ xs) ys e = absurd (cc)

pub told_cut : (at : ℕ) (bytes : List ℕ) (result : Result Decoded RecordFault) → Told at bytes result
    → IsCutRecord (drop at bytes) → FailsUnlessMemory (fault.Short at) result
told_cut at bytes (Ok d) h cut =
    let t = commit_reads.takes (drop at bytes) h.0 d.commit h.1 in
    let e : spelling d.commit ++ (h.0 ++ cut.1) ≡ spelling cut.0 ++ [] =
    sym (append_assoc (spelling d.commit) h.0 cut.1)
    ∙ (ap (λ l. l ++ cut.1) (sym t.1) ∙ (cut.4 ∙ sym (append-nil (spelling cut.0)))) in
    cut.3 (none_left h.0 cut.1 (no_prefix d.commit cut.0 (h.0 ++ cut.1) [] t.0 cut.2 e).1)
told_cut at bytes (Err (fault.Short a)) h cut = λ some. ap (λ z. fault.Short z) h.0
told_cut at bytes (Err (fault.Bad a)) h cut =
    absurd (commit_reads.bad (drop at bytes) h.1 cut.0 cut.1 [] cut.2
    (cut.4 ∙ sym (append-nil (spelling cut.0))))
told_cut at bytes (Err fault.NoMemory) h cut = λ some. absurd (some refl)

pub told_none : (at : ℕ) (bytes : List ℕ) (result : Result Decoded RecordFault) → Told at bytes result
    → IsNoRecord (drop at bytes) → FailsUnlessMemory (fault.Bad at) result
told_none at bytes (Ok d) h none =
    let t = commit_reads.takes (drop at bytes) h.0 d.commit h.1 in
    none d.commit [] h.0 t.0 (append-nil (drop at bytes) ∙ t.1)
told_none at bytes (Err (fault.Short a)) h none =
    let s = commit_reads.short (drop at bytes) h.1 in
    absurd (none s.0 s.1 [] s.2 (s.4 ∙ sym (append-nil (spelling s.0))))
told_none at bytes (Err (fault.Bad a)) h none = λ some. ap (λ z. fault.Bad z) h.0
told_none at bytes (Err fault.NoMemory) h none = λ some. absurd (some refl)

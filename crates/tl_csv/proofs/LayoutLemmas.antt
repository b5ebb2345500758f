-- What a layout keeps: columns stand at places of their own, and all places are those of fields.
use Rattle.std.proofs.Common.{◌≡◌, ℕ, zero, suc, ◌+◌, ◌<◌, ◌≤◌, nat_lt, ◌==◌, Bool, true, false, ◌&&◌, ◌||◌, not, List, [], ◌∷◌, length, codes, get_or, Option, Some, None, Result, Ok, Err, refl, ap, sym, ◌∙◌, arith, slice_get}
use Rattle.std.specs.List.{list_any}
use Rattle.std.specs.Option.{ok_or}
use Rattle.std.proofs.lemmas.Bool.Decides.{nat_tests}
use Rattle.std.proofs.lemmas.Grind.{common_steps}
use Rattle.std.proofs.lemmas.List.Quantifiers.{position-Some}
use Rattle.tl_types.specs.declared.schemas.Column.{Column}
use Rattle.tl_types.specs.Facts.{are_distinct, names_of}
use Rattle.tl_types.specs.Names.{same_bytes}
use Rattle.tl_types.proofs.FoundTables.{same_names}
use Rattle.tl_types.proofs.Lists.{and_both, and_left, and_right}
use Rattle.tl_csv.specs.declared.faults.CsvFault.{CsvFault}
use Rattle.tl_csv.specs.declared.faults.CsvFault.TheVariants as fault
use Rattle.tl_csv.specs.declared.layouts.PeriodPlaces.{PeriodPlaces}
use Rattle.tl_csv.specs.declared.needs.FieldKind.{FieldKind}
use Rattle.tl_csv.specs.Faults.{◌>>=◌, with_first, each_from}
use Rattle.tl_csv.specs.Header.{period_at, place_at, place_named, place_of}
use Rattle.tl_csv.specs.Layouts.{IsLayout, are_distinct_places, are_within, is_period_within}
use Rattle.tl_csv.proofs.NameLemmas.{not_true, or_left, or_right, same_self}

-- WHERE THERE IS NO FAULT

pub first_ok : {X : Type 0} (r : Result X CsvFault) (others : Result (List X) CsvFault) (ys : List X) → with_first r others ≡ Ok ys
    → (x : X) × (xs : List X) × (r ≡ Ok x) × (others ≡ Ok xs) × (ys ≡ x ∷ xs)
first_ok (Err e) others ys h = absurd (cc)
first_ok (Ok x) (Err e) ys h = absurd (cc)
first_ok (Ok x) (Ok xs) ys h = (x, xs, refl, refl, cc)

pub then_ok : {X Y : Type 0} (r : Result X CsvFault) (f : X → Result Y CsvFault) (y : Y) → (r >>= f) ≡ Ok y → (x : X) × (r ≡ Ok x) × (f x ≡ Ok y)
then_ok (Err e) f y h = absurd (cc)
then_ok (Ok x) f y h = (x, refl, h)

pub there_ok : {X : Type 0} (o : Option X) (e : CsvFault) (x : X) → ok_or o e ≡ Ok x → o ≡ Some x
there_ok None e x h = absurd (cc)
there_ok (Some y) e x h = cc

-- there are as many results as things
pub each_length : {X Y : Type 0} (f : ℕ → X → Result Y CsvFault) (n : ℕ) (xs : List X) (ys : List Y) → each_from f n xs ≡ Ok ys → length ys ≡ length xs
each_length f n [] [] h = refl
each_length f n [] (y ∷ ys) h = absurd (cc)
each_length f n (x ∷ xs) ys h =
    let (z, zs, found, more, same) = first_ok (f n x) (each_from f (n + 1) xs) ys h in
    rw same (ap suc (each_length f (n + 1) xs zs more))

head_at : {Y : Type 0} (ys others : List Y) (y : Y) → ys ≡ y ∷ others → slice_get ys 0 ≡ Some y
head_at ys others y e = rw e refl

tail_at : {Y : Type 0} (ys others : List Y) (y w : Y) (i : ℕ) → ys ≡ y ∷ others → slice_get others i ≡ Some w → slice_get ys (suc i) ≡ Some w
tail_at ys others y w i e h = rw e h

at_head : {X Y : Type 0} (f : ℕ → X → Result Y CsvFault) (n : ℕ) (z x : X) (y : Y) → Some z ≡ Some x → f n z ≡ Ok y → f (n + 0) x ≡ Ok y
at_head f n z x y e h =
    let equal : z ≡ x = cc in
    let number : n + 0 ≡ n = omega arith in
    rw (number, ← equal) h

at_tail : {X Y : Type 0} (f : ℕ → X → Result Y CsvFault) (n i : ℕ) (x : X) (y : Y) → f (n + 1 + i) x ≡ Ok y → f (n + suc i) x ≡ Ok y
at_tail f n i x y h = let e : n + suc i ≡ n + 1 + i = omega arith in rw e h

-- the result of each thing
pub each_at : {X Y : Type 0} (f : ℕ → X → Result Y CsvFault) (n i : ℕ) (xs : List X) (ys : List Y) (x : X) → each_from f n xs ≡ Ok ys → slice_get xs i ≡ Some x
    → (y : Y) × (slice_get ys i ≡ Some y) × (f (n + i) x ≡ Ok y)
each_at f n i [] ys x h g = absurd (cc)
each_at f n zero (z ∷ xs) ys x h g =
    let (y, others, found, more, same) = first_ok (f n z) (each_from f (n + 1) xs) ys h in
    (y, head_at ys others y same, at_head f n z x y g found)
each_at f n (suc i) (z ∷ xs) ys x h g =
    let (y, others, found, more, same) = first_ok (f n z) (each_from f (n + 1) xs) ys h in
    let (w, there, read) = each_at f (n + 1) i xs others x more g in
    (w, tail_at ys others y w i same there, at_tail f n i x w read)

-- PLACES

-- a place is that of a field with the name
pub place_within : (name : List ℕ) (header : List (List ℕ)) (place : ℕ) → place_of name header ≡ Some place → place < length header
place_within name header place h = (position-Some (λ field. same_bytes field name) header place [] h).0

pub place_name : (name : List ℕ) (header : List (List ℕ)) (place : ℕ) → place_of name header ≡ Some place → get_or header place [] ≡ name
place_name name header place h = same_names (get_or header place []) name (position-Some (λ field. same_bytes field name) header place [] h).1

-- two names do not stand at one place
one_name : (name other : List ℕ) (header : List (List ℕ)) (p q : ℕ) → q ≡ p → place_of name header ≡ Some p → place_of other header ≡ Some q → other ≡ name
one_name name other header p q e h g =
    let here = place_name name header p h in
    let there = place_name other header q g in
    sym there ∙ (ap (λ k. get_or header k []) e ∙ here)

eq_true : (a b : ℕ) → (a == b) ≡ true → a ≡ b
eq_true a b h = grind (arith, nat_tests)

other_place : (name other : List ℕ) (header : List (List ℕ)) (p q : ℕ) → same_bytes other name ≡ false → place_of name header ≡ Some p → place_of other header ≡ Some q → (q == p) ≡ false
other_place name other header p q d h g = by_test (q == p) refl where
  by_test : (t : Bool) → (q == p) ≡ t → (q == p) ≡ false
  by_test false e = e
  by_test true e =
      let same : other ≡ name = one_name name other header p q (eq_true q p e) h g in
      absurd (let f : same_bytes name name ≡ false = rw same at d in let k = same_self name in cc)

both_false : (a b : Bool) → a ≡ false → b ≡ false → (a || b) ≡ false
both_false a b h g = rw (h, g) refl

none_more : (p q : ℕ) (places rest : List ℕ) → places ≡ q ∷ rest → (q == p) ≡ false → list_any (λ r. r == p) rest ≡ false → list_any (λ r. r == p) places ≡ false
none_more p q places rest e h g = rw e (both_false (q == p) (list_any (λ r. r == p) rest) h g)

not_among : (name : List ℕ) (header : List (List ℕ)) (p n : ℕ) (columns : List Column) (places : List ℕ) → place_of name header ≡ Some p
    → list_any (λ y. same_bytes y name) (names_of columns) ≡ false → each_from (place_at header) n columns ≡ Ok places → list_any (λ q. q == p) places ≡ false
not_among name header p n [] [] here d h = refl
not_among name header p n [] (q ∷ places) here d h = absurd (cc)
not_among name header p n (c ∷ columns) places here d h =
    let (q, qs, found, more, same) = first_ok (place_at header n c) (each_from (place_at header) (n + 1) columns) places h in
    let there = there_ok (place_of c.name header) (fault.HeaderMissing (n + 1)) q found in
    let first = other_place name c.name header p q (or_left (same_bytes c.name name) _ d) here there in
    let others = not_among name header p (n + 1) columns qs here (or_right (same_bytes c.name name) _ d) more in
    none_more p q places qs same first others

not_and : (a b : Bool) → a ≡ false → b ≡ true → (not a && b) ≡ true
not_and a b h g = rw (h, g) refl

distinct_more : (p : ℕ) (places rest : List ℕ) → places ≡ p ∷ rest → list_any (λ q. q == p) rest ≡ false → are_distinct_places rest ≡ true → are_distinct_places places ≡ true
distinct_more p places rest e h g = rw e (not_and (list_any (λ q. q == p) rest) (are_distinct_places rest) h g)

pub places_distinct : (header : List (List ℕ)) (n : ℕ) (columns : List Column) (places : List ℕ) → are_distinct (names_of columns) ≡ true → each_from (place_at header) n columns ≡ Ok places → are_distinct_places places ≡ true
places_distinct header n [] [] d h = refl
places_distinct header n [] (p ∷ places) d h = absurd (cc)
places_distinct header n (c ∷ columns) places d h =
    let (p, ps, found, more, same) = first_ok (place_at header n c) (each_from (place_at header) (n + 1) columns) places h in
    let here = there_ok (place_of c.name header) (fault.HeaderMissing (n + 1)) p found in
    let apart = not_true _ (and_left (not (list_any (λ y. same_bytes y c.name) (names_of columns))) _ d) in
    let later = and_right (not (list_any (λ y. same_bytes y c.name) (names_of columns))) _ d in
    let first = not_among c.name header p (n + 1) columns ps here apart more in
    distinct_more p places ps same first (places_distinct header (n + 1) columns ps later more)

is_below : (a b : ℕ) → a < b → nat_lt a b ≡ true
is_below a b h = grind (arith, common_steps)

place_below : (name : List ℕ) (header : List (List ℕ)) (place m : ℕ) → length header ≡ m → place_of name header ≡ Some place → nat_lt place m ≡ true
place_below name header place m e h = let here = place_within name header place h in is_below place m (omega (arith, here, e))

within_more : (m p : ℕ) (places rest : List ℕ) → places ≡ p ∷ rest → nat_lt p m ≡ true → are_within m rest ≡ true → are_within m places ≡ true
within_more m p places rest e h g = rw e (and_both (nat_lt p m) (are_within m rest) h g)

pub places_within : (header : List (List ℕ)) (m n : ℕ) (columns : List Column) (places : List ℕ) → length header ≡ m → each_from (place_at header) n columns ≡ Ok places → are_within m places ≡ true
places_within header m n [] [] e h = refl
places_within header m n [] (p ∷ places) e h = absurd (cc)
places_within header m n (c ∷ columns) places e h =
    let (p, ps, found, more, same) = first_ok (place_at header n c) (each_from (place_at header) (n + 1) columns) places h in
    let here = place_below c.name header p m e (there_ok (place_of c.name header) (fault.HeaderMissing (n + 1)) p found) in
    within_more m p places ps same here (places_within header m (n + 1) columns ps e more)

named_within : (header : List (List ℕ)) (m n : ℕ) (name : List ℕ) (p : ℕ) → length header ≡ m → place_named header n name ≡ Ok p → nat_lt p m ≡ true
named_within header m n name p e h = place_below name header p m e (there_ok (place_of name header) (fault.HeaderMissing (n + 1)) p h)

pub period_within : (header : List (List ℕ)) (m n : ℕ) (valid : Bool) (period : Option PeriodPlaces) → length header ≡ m → period_at header n valid ≡ Ok period → is_period_within m period ≡ true
period_within header m n false None e h = refl
period_within header m n false (Some places) e h = absurd (cc)
period_within header m n true period e h =
    let (from, begins, more) = then_ok (place_named header n (codes "valid_from")) _ period h in
    let (to, ends, last) = then_ok (place_named header (n + 1) (codes "valid_to")) _ period more in
    let same : Some (record { from = from; to = to }) ≡ period = cc in
    rw (← same) (and_both (nat_lt from m) (nat_lt to m) (named_within header m n (codes "valid_from") from e begins) (named_within header m (n + 1) (codes "valid_to") to e ends))

-- the layout of a header
pub is_layout : (header : List (List ℕ)) (f : ℕ → List ℕ → Result FieldKind CsvFault) (columns : List Column) (valid : Bool) (kinds : List FieldKind) (places : List ℕ) (period : Option PeriodPlaces)
    → 1 ≤ length columns → length columns ≤ 16 → are_distinct (names_of columns) ≡ true → each_from f 0 header ≡ Ok kinds → each_from (place_at header) 0 columns ≡ Ok places
    → period_at header (length places) valid ≡ Ok period → IsLayout (record { kinds = kinds; columns = places; period = period })
is_layout header f columns valid kinds places period some few d k c p =
    let sized : length header ≡ length kinds = sym (each_length f 0 header kinds k) in
    let number : length places ≡ length columns = each_length (place_at header) 0 columns places c in
    record {
      some = omega (arith, number, some);
      few = omega (arith, number, few);
      distinct = places_distinct header 0 columns places d c;
      columns = places_within header (length kinds) 0 columns places sized c;
      period = period_within header (length kinds) (length places) valid period sized p;
    }

-- there are as many places as columns
pub few_places : (header : List (List ℕ)) (columns : List Column) (places : List ℕ) → length columns ≤ 16 → each_from (place_at header) 0 columns ≡ Ok places → length places ≤ 16
few_places header columns places few c =
    let number : length places ≡ length columns = each_length (place_at header) 0 columns places c in
    omega (arith, number, few)

-- Cells that are taken out of a record, one after the other.
use Rattle.std.proofs.Common.{◌≡◌, ◌≢◌, ℕ, zero, suc, ◌+◌, ◌-◌, ◌≤◌, ◌<◌, nat_lt, ◌==◌, true, false, not, pos, List, [], ◌∷◌, ◌++◌, length, map, set, drop, drop-cons, get_or, refl, ap, ◌∙◌, append_assoc, arith, min, Result, Ok, Err, sym, take}
use Rattle.std.specs.List.{list_any, zip}
use Rattle.std.proofs.lemmas.Bool.{ltb-true}
use Rattle.std.proofs.lemmas.Bool.Decides.{nat_tests}
use Rattle.std.proofs.lemmas.List.{get_or-set_other}
use Rattle.tl_types.specs.declared.cells.Cell.{Cell}
use Rattle.tl_types.specs.declared.cells.Cell.TheVariants as cell
use Rattle.tl_types.proofs.Lists.{and_left, and_right}
use Rattle.tl_csv.proofs.NameLemmas.{not_true, or_left, or_right}
use Rattle.std.proofs.lemmas.Slice.Zip.{length-zip}
use Rattle.std.proofs.lemmas.List.{length-drop, length-take-le}
use Rattle.tl_csv.specs.declared.faults.CsvFault.{CsvFault}
use Rattle.tl_csv.specs.declared.needs.FieldKind.{FieldKind}
use Rattle.tl_csv.specs.Faults.{◌>>=◌, with_first, each_from}
use Rattle.tl_csv.proofs.LayoutLemmas.{each_length}
use Rattle.tl_types.specs.declared.limits.Limits.{Limits}
use Rattle.tl_csv.specs.Block.{cell_at, cell_in, period_of, row_of, row_with, row_in_order}
use Rattle.tl_csv.specs.Layouts.{Layout, IsLayout, are_distinct_places, are_places_from, are_in_order, are_within}

-- what stands in the place of a cell that was taken
abbrev pub nothing : Cell
nothing = cell.Int (pos 0)

eq_false : (a b : ℕ) → (a == b) ≡ false → a ≢ b
eq_false a b h e = grind (arith, nat_tests)

-- the cells at other places are as they were
others_same : (cells : List Cell) (place : ℕ) (x : Cell) (places : List ℕ) → list_any (λ q. q == place) places ≡ false → map (cell_in (set cells place x)) places ≡ map (cell_in cells) places
others_same cells place x [] h = refl
others_same cells place x (q ∷ places) h =
    let other : q ≢ place = eq_false q place (or_left (q == place) _ h) in
    let same : cell_in (set cells place x) q ≡ cell_in cells q = get_or-set_other cells place q x nothing other in
    let more = others_same cells place x places (or_right (q == place) _ h) in
    ap (λ y. y ∷ map (cell_in (set cells place x)) places) same ∙ ap (λ ys. cell_in cells q ∷ ys) more

-- the places from one on
split : (places : List ℕ) (i : ℕ) → i < length places → drop i places ≡ get_or places i 0 ∷ drop (i + 1) places
split places i h = let e : i + 1 ≡ suc i = omega arith in rw (e, drop-cons places i 0) refl

step_taken : (cells left : List Cell) (place : ℕ) (rest behind : List ℕ) (taken new all : List Cell) → rest ≡ place ∷ behind → left ≡ set cells place nothing → are_distinct_places rest ≡ true → new ≡ taken ++ cell_in cells place ∷ [] → taken ++ map (cell_in cells) rest ≡ all → new ++ map (cell_in left) behind ≡ all
step_taken cells left place rest behind taken new all r l d n h =
    let apart = not_true _ (and_left (not (list_any (λ q. q == place) behind)) (are_distinct_places behind) (rw r at d)) in
    let same = others_same cells place nothing behind apart in
    rw (l, n, same, append_assoc taken (cell_in cells place ∷ []) (map (cell_in cells) behind)) (rw r at h)

-- one cell more is taken
pub one_taken : (cells left : List Cell) (places : List ℕ) (i : ℕ) (taken new all : List Cell) → i < length places → left ≡ set cells (get_or places i 0) nothing → are_distinct_places (drop i places) ≡ true
    → new ≡ taken ++ cell_in cells (get_or places i 0) ∷ [] → taken ++ map (cell_in cells) (drop i places) ≡ all → new ++ map (cell_in left) (drop (i + 1) places) ≡ all
one_taken cells left places i taken new all h l d n g = step_taken cells left (get_or places i 0) (drop i places) (drop (i + 1) places) taken new all (split places i h) l d n g

later_distinct : (place : ℕ) (rest behind : List ℕ) → rest ≡ place ∷ behind → are_distinct_places rest ≡ true → are_distinct_places behind ≡ true
later_distinct place rest behind r h = and_right (not (list_any (λ q. q == place) behind)) (are_distinct_places behind) (rw r at h)

pub others_distinct : (places : List ℕ) (i : ℕ) → i < length places → are_distinct_places (drop i places) ≡ true → are_distinct_places (drop (i + 1) places) ≡ true
others_distinct places i h d = later_distinct (get_or places i 0) (drop i places) (drop (i + 1) places) (split places i h) d

first_below : (n place : ℕ) (rest behind : List ℕ) → rest ≡ place ∷ behind → are_within n rest ≡ true → place < n
first_below n place rest behind r h = ltb-true place n (and_left (nat_lt place n) (are_within n behind) (rw r at h))

pub one_within : (n : ℕ) (places : List ℕ) (i : ℕ) → i < length places → are_within n (drop i places) ≡ true → get_or places i 0 < n
one_within n places i h w = first_below n (get_or places i 0) (drop i places) (drop (i + 1) places) (split places i h) w

later_below : (n place : ℕ) (rest behind : List ℕ) → rest ≡ place ∷ behind → are_within n rest ≡ true → are_within n behind ≡ true
later_below n place rest behind r h = and_right (nat_lt place n) (are_within n behind) (rw r at h)

pub others_within : (n m : ℕ) (places : List ℕ) (i : ℕ) → i < length places → m ≡ n → are_within n (drop i places) ≡ true → are_within m (drop (i + 1) places) ≡ true
others_within n m places i h e w = rw e (later_below n (get_or places i 0) (drop i places) (drop (i + 1) places) (split places i h) w)

-- a record gives as many cells as it has fields
pub as_many_cells : (f : ℕ → FieldKind × List ℕ → Result Cell CsvFault) (kinds : List FieldKind) (fields : List (List ℕ)) (cells same : List Cell) → length fields ≡ length kinds → each_from f 0 (zip kinds fields) ≡ Ok cells → same ≡ cells → length same ≡ length kinds
as_many_cells f kinds fields cells same number h e =
    let counted : length cells ≡ length (zip kinds fields) = each_length f 0 (zip kinds fields) cells h in
    let zipped : length (zip kinds fields) ≡ min (length kinds) (length fields) = length-zip kinds fields in
    rw e (omega (arith, counted, zipped, number))

-- CELLS THAT COME FIRST

with_none : {X : Type 0} (r : Result (List X) CsvFault) → r ≡ (r >>= λ zs. Ok ([] ++ zs))
with_none (Ok zs) = refl
with_none (Err e) = refl

first_then : {X : Type 0} (r : Result X CsvFault) (a b : Result (List X) CsvFault) → with_first r (a >>= λ ys. b >>= λ zs. Ok (ys ++ zs)) ≡ (with_first r a >>= λ ys. b >>= λ zs. Ok (ys ++ zs))
first_then (Err e) a b = refl
first_then (Ok y) (Err e) b = refl
first_then (Ok y) (Ok ys) (Err e) = refl
first_then (Ok y) (Ok ys) (Ok zs) = refl

-- the first fault of things and then of others is that of all
each_split : {X Y : Type 0} (f : ℕ → X → Result Y CsvFault) (n m : ℕ) (xs others : List X) → m ≡ n + length xs → each_from f n (xs ++ others) ≡ (each_from f n xs >>= λ ys. each_from f m others >>= λ zs. Ok (ys ++ zs))
each_split f n m [] others h = let same : m ≡ n = omega (arith, h) in rw same (with_none (each_from f n others))
each_split f n m (x ∷ xs) others h =
    let count : m ≡ n + 1 + length xs = omega (arith, h) in
    let more = each_split f (n + 1) m xs others count in
    rw more (first_then (f n x) (each_from f (n + 1) xs) (each_from f m others))

zip_none : {X Y : Type 0} (kinds : List X) (fields : List Y) → fields ≡ [] → zip kinds fields ≡ []
zip_none [] fields h = refl
zip_none (k ∷ kinds) fields h = rw h refl

-- a record's first fields beside their kinds, and then the others beside theirs
zip_split : {X Y : Type 0} (i : ℕ) (kinds : List X) (fields : List Y) → zip kinds fields ≡ zip (take i kinds) fields ++ zip (drop i kinds) (drop i fields)
zip_split zero kinds fields = refl
zip_split (suc i) [] fields = refl
zip_split (suc i) (k ∷ kinds) [] = sym (zip_none (drop i kinds) [] refl)
zip_split (suc i) (k ∷ kinds) (f ∷ fields) = ap (λ ps. (k, f) ∷ ps) (zip_split i kinds fields)

drop_head : {X : Type 0} (xs rest : List X) (n : ℕ) (x d : X) → drop n xs ≡ x ∷ rest → (get_or xs n d ≡ x) × (drop (suc n) xs ≡ rest)
drop_head [] rest zero x d h = absurd (cc)
drop_head [] rest (suc n) x d h = absurd (cc)
drop_head (y ∷ xs) rest zero x d h = (cc, cc)
drop_head (y ∷ xs) rest (suc n) x d h = drop_head xs rest n x d h

eq_true : (a b : ℕ) → (a == b) ≡ true → a ≡ b
eq_true a b h = grind (arith, nat_tests)

-- the cells at places in order are those that stand there
in_order : (cells xs rest : List Cell) (n : ℕ) (places : List ℕ) → drop n cells ≡ xs ++ rest → are_places_from n places ≡ true → length xs ≡ length places → map (cell_in cells) places ≡ xs
in_order cells [] rest n [] h p l = refl
in_order cells (x ∷ xs) rest n [] h p l = absurd (cc)
in_order cells [] rest n (q ∷ places) h p l = absurd (cc)
in_order cells (x ∷ xs) rest n (q ∷ places) h p l =
    let here : q ≡ n = eq_true q n (and_left (q == n) (are_places_from (n + 1) places) p) in
    let (first, others) = drop_head cells (xs ++ rest) n x nothing h in
    let next : n + 1 ≡ suc n = omega arith in
    let behind : drop (n + 1) cells ≡ xs ++ rest = rw next others in
    let more = in_order cells xs rest (n + 1) places behind (and_right (q == n) (are_places_from (n + 1) places) p) (omega (arith, l)) in
    let found : cell_in cells q ≡ x = rw here first in
    ap (λ y. y ∷ map (cell_in cells) places) found ∙ ap (λ ys. x ∷ ys) more

-- places in order are no more than there are
in_order_within : (m n : ℕ) (places : List ℕ) → are_places_from n places ≡ true → are_within m places ≡ true → n ≤ m → n + length places ≤ m
in_order_within m n [] p w h = omega (arith, h)
in_order_within m n (q ∷ places) p w h =
    let here : q ≡ n = eq_true q n (and_left (q == n) (are_places_from (n + 1) places) p) in
    let below : q < m = ltb-true q m (and_left (nat_lt q m) (are_within m places) w) in
    let more = in_order_within m (n + 1) places (and_right (q == n) (are_places_from (n + 1) places) p) (and_right (nat_lt q m) (are_within m places) w) (omega (arith, here, below)) in
    omega (arith, more)

pub few_in_order : (m : ℕ) (places : List ℕ) → are_in_order places ≡ true → are_within m places ≡ true → length places ≤ m
few_in_order m places p w = let h = in_order_within m 0 places p w (omega arith) in omega (arith, h)

-- so many fields are beside their kinds, and give so many cells
pub front_count : (n : ℕ) (kinds : List FieldKind) (fields : List (List ℕ)) → n ≤ length kinds → length fields ≡ length kinds → length (zip (take n kinds) fields) ≡ n
front_count n kinds fields few number =
    let zipped = length-zip (take n kinds) fields in
    let taken = length-take-le n kinds few in
    omega (arith, zipped, taken, few, number)

pub front_cells : (f : ℕ → FieldKind × List ℕ → Result Cell CsvFault) (n : ℕ) (kinds : List FieldKind) (fields : List (List ℕ)) (cells : List Cell) → n ≤ length kinds → length fields ≡ length kinds → each_from f 0 (zip (take n kinds) fields) ≡ Ok cells → length cells ≡ n
front_cells f n kinds fields cells few number h =
    let counted = each_length f 0 (zip (take n kinds) fields) cells h in
    omega (arith, counted, front_count n kinds fields few number)

same_row : (layout : Layout) (rec : ℕ) (a b : Result (List Cell) CsvFault) → ((xs : List Cell) → a ≡ Ok xs → length xs ≡ length layout.columns) → are_in_order layout.columns ≡ true
    → ((a >>= λ xs. b >>= λ ys. Ok (xs ++ ys)) >>= row_with layout rec) ≡ (a >>= λ xs. b >>= λ ys. period_of rec (xs ++ ys) layout.period >>= λ period. Ok (record { cells = xs; period = period }))
same_row layout rec (Err e) b n s = refl
same_row layout rec (Ok xs) (Err e) n s = refl
same_row layout rec (Ok xs) (Ok ys) n s =
    ap (λ (cells : List Cell). period_of rec (xs ++ ys) layout.period >>= λ period. Ok (record { cells = cells; period = period })) (in_order (xs ++ ys) xs ys 0 layout.columns refl s (n xs refl))

test_true : (a b : ℕ) → a ≡ b → (a == b) ≡ true
test_true a b h = grind (arith, nat_tests)

-- the row of a record whose first cells are those of the columns, in order
pub in_order_is : (limits : Limits) (layout : Layout) (rec : ℕ) (fields : List (List ℕ)) → IsLayout layout → are_in_order layout.columns ≡ true → length fields ≡ length layout.kinds → row_of limits layout rec fields ≡ row_in_order limits layout rec fields
in_order_is limits layout rec fields kept s number =
    let n = length layout.columns in
    let f = cell_at limits rec in
    let few : n ≤ length layout.kinds = few_in_order (length layout.kinds) layout.columns s kept.columns in
    let count : n ≡ 0 + length (zip (take n layout.kinds) fields) = omega (arith, front_count n layout.kinds fields few number) in
    let parts = each_split f 0 n (zip (take n layout.kinds) fields) (zip (drop n layout.kinds) (drop n fields)) count in
    let whole = ap (each_from f 0) (zip_split n layout.kinds fields) ∙ parts in
    let row = same_row layout rec (each_from f 0 (zip (take n layout.kinds) fields)) (each_from f n (zip (drop n layout.kinds) (drop n fields))) (λ xs e. front_cells f n layout.kinds fields xs few number e) s in
    rw (test_true (length fields) (length layout.kinds) number) (ap (λ r. r >>= row_with layout rec) whole ∙ row)

pub split_within : (layout : Layout) (columns : List ℕ) (kinds : List FieldKind) → columns ≡ layout.columns → kinds ≡ layout.kinds → IsLayout layout → are_in_order layout.columns ≡ true → length columns ≤ length kinds
split_within layout columns kinds c k kept s = rw (c, k) (few_in_order (length layout.kinds) layout.columns s kept.columns)

-- as many first cells as columns
pub front_number : (f : ℕ → FieldKind × List ℕ → Result Cell CsvFault) (layout : Layout) (front : List FieldKind) (fields : List (List ℕ)) (cells : List Cell) → IsLayout layout → are_in_order layout.columns ≡ true → length fields ≡ length layout.kinds
    → front ≡ take (length layout.columns) layout.kinds → each_from f 0 (zip front fields) ≡ Ok cells → length cells ≡ length layout.columns
front_number f layout front fields cells kept s number e h =
    front_cells f (length layout.columns) layout.kinds fields cells (few_in_order (length layout.kinds) layout.columns s kept.columns) number (rw e at h)

-- a record gives as many cells as it has fields, also where its first ones are apart
pub beside_number : (f g : ℕ → FieldKind × List ℕ → Result Cell CsvFault) (layout : Layout) (front behind : List FieldKind) (fields : List (List ℕ)) (n : ℕ) (cells others : List Cell) → IsLayout layout → are_in_order layout.columns ≡ true → length fields ≡ length layout.kinds
    → front ≡ take (length layout.columns) layout.kinds → behind ≡ drop (length layout.columns) layout.kinds → n ≡ length layout.columns
    → each_from f 0 (zip front fields) ≡ Ok cells → each_from g n (zip behind (drop n fields)) ≡ Ok others → length cells + length others ≡ length layout.kinds
beside_number f g layout front behind fields n cells others kept s number e b m h k =
    let few = few_in_order (length layout.kinds) layout.columns s kept.columns in
    let first = front_number f layout front fields cells kept s number e h in
    let counted = each_length g n (zip behind (drop n fields)) others k in
    let zipped = length-zip behind (drop n fields) in
    let left : length behind ≡ length layout.kinds - length layout.columns = rw b (length-drop (length layout.columns) layout.kinds) in
    let fewer = length-drop n fields in
    omega (arith, few, first, counted, zipped, left, fewer, number, m)

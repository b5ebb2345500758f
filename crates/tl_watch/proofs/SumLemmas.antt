-- Sums of the numbers of the rows of a set, word by word.
use Rattle.std.proofs.Common.{◌≡◌, ℕ, zero, suc, ◌+◌, ◌-◌, ◌*◌, ◌/◌, ◌%◌, ◌^◌, ◌<◌, ◌≤◌, ℤ, pos, negsuc, SFits, to_z, of_z, Bool, true, false, cond, List, [], ◌∷◌, ◌++◌, length, map, take, drop, get_or, fold, Some, None, refl, sym, ap, ◌∙◌, arith, subst}
use Rattle.std.specs.Prelude.{◌+ℤ◌, ◌≤ℤ◌, neg_ℤ}
use Rattle.std.specs.Int.{w128}
use Rattle.std.proofs.lemmas.Int.{ints, to_z-of_z}
use Rattle.std.proofs.lemmas.List.{take_more, take-map, drop-map, take-take, get_or-take, get_or-drop, length-map, length-take, length-drop, take_all}
use Rattle.tl_types.specs.Plain as plain
use Rattle.tl_types.specs.declared.cells.Cell.TheVariants as cell
use Rattle.tl_types.specs.History.{cell_at}
use Rattle.tl_query.specs.Aggregates.{total_of}
use Rattle.tl_store.specs.Reading.{some_int, column_cells}
use Rattle.tl_lanes.specs.Masks.{words_for, is_bit, bit_of}
use Rattle.tl_lanes.specs.Masks as masks
use Rattle.tl_bits.specs.Sets.{is_member}
use Rattle.tl_running.specs.Standing.{IsShort, AreShort, number_in}
use Rattle.tl_running.proofs.SumLemmas.{short_total}
use Rattle.tl_agg.specs.Kept.{picked}
use Rattle.tl_watch.specs.Sums.{AddsUp, piece, pieces_before, numbers_in}

-- NUMBERS OF 64 BITS

short_append : (xs ys : List ℤ) → AreShort xs → AreShort ys → AreShort (xs ++ ys)
short_append [] ys s t = t
short_append (x ∷ xs) ys s t = (s.0, short_append xs ys s.1 t)

pub short_more : (xs : List ℤ) (i : ℕ) (n d : ℤ) → i < length xs → n ≡ get_or xs i d → IsShort n → AreShort (take i xs) → AreShort (take (i + 1) xs)
short_more xs i n d l is short so_far = subst AreShort (sym (take_more xs i d l)) (short_append (take i xs) (get_or xs i d ∷ []) so_far (subst IsShort is short, tt))

-- SUMS

total_from : (a : ℤ) (ns : List ℤ) → fold ◌+ℤ◌ a ns ≡ a +ℤ total_of ns
total_from a [] = omega (arith, ints)
total_from a (n ∷ ns) =
    let h = total_from (a +ℤ n) ns in
    let k = total_from (pos 0 +ℤ n) ns in
    omega (arith, ints)

total_append : (xs ys : List ℤ) → total_of (xs ++ ys) ≡ total_of xs +ℤ total_of ys
total_append [] ys = omega (arith, ints)
total_append (x ∷ xs) ys =
    let h = total_append xs ys in
    let a = total_from (pos 0 +ℤ x) (xs ++ ys) in
    let b = total_from (pos 0 +ℤ x) xs in
    omega (arith, ints)

pub adds_append : (xs ys : List ℤ) (a b : ℤ) → AddsUp xs a → AddsUp ys b → AddsUp (xs ++ ys) (a +ℤ b)
adds_append xs ys a b s t = record {
  total = ap (λ z. z +ℤ b) s.total ∙ ap (λ z. total_of xs +ℤ z) t.total ∙ sym (total_append xs ys);
  short = short_append xs ys s.short t.short;
}

pub adds_low : (xs : List ℤ) (a : ℤ) → length xs ≤ 16777216 → AddsUp xs a → neg_ℤ (pos (2 ^ 96)) ≤ℤ a
adds_low xs a few s = let t = (short_total xs s.short).0 in let e = s.total in omega (arith, ints)

pub adds_high : (xs : List ℤ) (a : ℤ) → length xs ≤ 16777216 → AddsUp xs a → a ≤ℤ pos (2 ^ 96)
adds_high xs a few s = let t = (short_total xs s.short).1 in let e = s.total in omega (arith, ints)

-- where no column is asked for, each number is 0
pub none_add : (rows : List plain.Row) → AddsUp (map (number_in None) rows) (pos 0)
none_add [] = record { total = refl; short = tt }
none_add (r ∷ rows) = let later = none_add rows in record { total = later.total; short = ((omega (arith, ints), omega (arith, ints)), later.short) }

-- a sum that is kept in 128 bits
fits_wide : (z : ℤ) → neg_ℤ (pos (2 ^ 97)) ≤ℤ z → z ≤ℤ pos (2 ^ 97) → SFits w128 z
fits_wide (pos n) l h = record { sfits = omega (arith, ints) }
fits_wide (negsuc n) l h = record { sfits = omega (arith, ints) }

pub stored : (a r : ℤ) → SFits w128 r → neg_ℤ (pos (2 ^ 96)) ≤ℤ a → a ≤ℤ pos (2 ^ 96) → neg_ℤ (pos (2 ^ 96)) ≤ℤ r → r ≤ℤ pos (2 ^ 96) → to_z w128 (of_z w128 (a +ℤ to_z w128 (of_z w128 r))) ≡ a +ℤ r
stored a r fits al ah rl rh =
    let whole = to_z-of_z w128 r fits in
    ap (λ z. to_z w128 (of_z w128 (a +ℤ z))) whole ∙ to_z-of_z w128 (a +ℤ r) (fits_wide (a +ℤ r) (omega (arith, ints)) (omega (arith, ints)))

-- ONE WORD

bit_in : (word j : ℕ) → j < 64 → bit_of (word ∷ []) j ≡ is_bit word j
bit_in word j l =
    let d : j / 64 ≡ 0 = omega arith in
    let m : j % 64 ≡ j = omega arith in
    ap (λ k. is_bit (get_or (word ∷ []) k 0) (j % 64)) d ∙ ap (is_bit word) m

word_picked : (word j column : ℕ) (vs : List ℤ) (rows : List plain.Row) (bs : List Bool) → map some_int vs ≡ column_cells rows column → length bs ≡ length rows → j + length rows ≤ 64 → ((k : ℕ) → k < length rows → is_bit word (j + k) ≡ is_member bs k)
    → masks.picked_from (word ∷ []) j vs ≡ map (number_in (Some column)) (picked bs rows)
word_picked word j column [] [] [] e long few bits = refl
word_picked word j column [] [] (b ∷ bs) e long few bits = absurd (omega arith)
word_picked word j column [] (r ∷ rows) bs e long few bits = absurd (cc)
word_picked word j column (v ∷ vs) [] bs e long few bits = absurd (cc)
word_picked word j column (v ∷ vs) (r ∷ rows) [] e long few bits = absurd (omega arith)
word_picked word j column (v ∷ vs) (r ∷ rows) (b ∷ bs) e long few bits = step b here (word_picked word (j + 1) column vs rows bs rest (omega arith) (omega arith) later) where
  first : Some (cell.Int v) ≡ cell_at r.cells column
  first = cc

  rest : map some_int vs ≡ column_cells rows column
  rest = cc

  number_is : number_in (Some column) r ≡ v
  number_is = rw (← first) refl

  here : bit_of (word ∷ []) j ≡ b
  here = let z : j + 0 ≡ j = omega arith in bit_in word j (omega arith) ∙ ap (is_bit word) (sym z) ∙ bits 0 (omega arith)

  later : (k : ℕ) → k < length rows → is_bit word ((j + 1) + k) ≡ is_member bs k
  later k l = let z : (j + 1) + k ≡ j + suc k = omega arith in ap (is_bit word) z ∙ bits (suc k) (omega arith)

  step : (t : Bool) → bit_of (word ∷ []) j ≡ t → masks.picked_from (word ∷ []) (j + 1) vs ≡ map (number_in (Some column)) (picked bs rows)
      → cond (bit_of (word ∷ []) j) (v ∷ masks.picked_from (word ∷ []) (j + 1) vs) (masks.picked_from (word ∷ []) (j + 1) vs) ≡ map (number_in (Some column)) (cond t (r ∷ picked bs rows) (picked bs rows))
  step true at ih = rw at (ap (λ x. x ∷ masks.picked_from (word ∷ []) (j + 1) vs) (sym number_is) ∙ ap (λ xs. number_in (Some column) r ∷ xs) ih)
  step false at ih = rw at ih

-- the numbers of a run, as far as the word reaches
run_cells : (rows : List plain.Row) (column i : ℕ) (run vs : List ℤ) → map some_int run ≡ take (1024 - (64 * i) % 1024) (drop (64 * i) (column_cells rows column)) → vs ≡ take 64 run → map some_int vs ≡ column_cells (piece i rows) column
run_cells rows column i run vs cells is =
    ap (map some_int) is ∙ sym (take-map some_int 64 run) ∙ ap (take 64) cells
    ∙ take-take 64 (1024 - (64 * i) % 1024) (drop (64 * i) (column_cells rows column)) (omega arith)
    ∙ ap (take 64) (drop-map (λ (r : plain.Row). cell_at r.cells column) (64 * i) rows)
    ∙ take-map (λ (r : plain.Row). cell_at r.cells column) 64 (drop (64 * i) rows)

piece_long : {X Y : Type 0} (i : ℕ) (xs : List X) (ys : List Y) → length xs ≡ length ys → length (piece i xs) ≡ length (piece i ys)
piece_long i xs ys e =
    let a = length-take 64 (drop (64 * i) xs) in
    let b = length-take 64 (drop (64 * i) ys) in
    let c = length-drop (64 * i) xs in
    let d = length-drop (64 * i) ys in
    omega arith

piece_few : {X : Type 0} (i : ℕ) (xs : List X) → length (piece i xs) ≤ 64
piece_few i xs = let a = length-take 64 (drop (64 * i) xs) in omega arith

picked_short : (mask : List ℕ) (j : ℕ) (vs : List ℤ) → AreShort vs → AreShort (masks.picked_from mask j vs)
picked_short mask j [] s = tt
picked_short mask j (v ∷ vs) s = by_test (bit_of mask j) (picked_short mask (j + 1) vs s.1) where
  by_test : (b : Bool) → AreShort (masks.picked_from mask (j + 1) vs) → AreShort (cond b (v ∷ masks.picked_from mask (j + 1) vs) (masks.picked_from mask (j + 1) vs))
  by_test true later = (s.0, later)
  by_test false later = later

pub word_adds : (rows : List plain.Row) (column i word : ℕ) (members : List Bool) (run vs : List ℤ) (sum : ℤ) → length members ≡ length rows → ((k : ℕ) → k < 64 → is_bit word k ≡ is_member members (64 * i + k))
    → map some_int run ≡ take (1024 - (64 * i) % 1024) (drop (64 * i) (column_cells rows column)) → vs ≡ take 64 run → AreShort vs → sum ≡ fold ◌+ℤ◌ (pos 0) (masks.picked (word ∷ []) vs) → AddsUp (numbers_in column (piece i members) (piece i rows)) sum
word_adds rows column i word members run vs sum long bits cells is short sum_is = record {
  total = sum_is ∙ ap total_of same;
  short = subst AreShort same (picked_short (word ∷ []) 0 vs short);
} where
  same : masks.picked (word ∷ []) vs ≡ numbers_in column (piece i members) (piece i rows)
  same = word_picked word 0 column vs (piece i rows) (piece i members) (run_cells rows column i run vs cells is) (piece_long i members rows long) (let f = piece_few i rows in omega arith)
      (λ k l. let f = piece_few i rows in let z : 0 + k ≡ k = omega arith in ap (is_bit word) z ∙ bits k (omega arith) ∙ sym (get_or-take 64 (drop (64 * i) members) k false (omega arith) ∙ get_or-drop (64 * i) members k false))

-- the numbers of a word are few
pub numbers_few : (column : ℕ) (bs : List Bool) (rows : List plain.Row) → length (numbers_in column bs rows) ≤ length rows
numbers_few column bs rows = let m = length-map (picked bs rows) (number_in (Some column)) in let f = few bs rows in omega arith where
  few : (bs : List Bool) (rows : List plain.Row) → length (picked bs rows) ≤ length rows
  few [] rows = omega arith
  few (b ∷ bs) [] = omega arith
  few (b ∷ bs) (r ∷ rows) = by_test b (few bs rows) where
    by_test : (t : Bool) → length (picked bs rows) ≤ length rows → length (cond t (r ∷ picked bs rows) (picked bs rows)) ≤ suc (length rows)
    by_test true l = omega arith
    by_test false l = omega arith

pub word_few : (column i : ℕ) (bs : List Bool) (rows : List plain.Row) → length (numbers_in column bs (piece i rows)) ≤ 16777216
word_few column i bs rows = let a = numbers_few column bs (piece i rows) in let b = piece_few i rows in omega arith

-- ALL WORDS

picked_parts : (a b : ℕ) (bs : List Bool) (rows : List plain.Row) → picked (take (a + b) bs) (take (a + b) rows) ≡ picked (take a bs) (take a rows) ++ picked (take b (drop a bs)) (take b (drop a rows))
picked_parts zero b bs rows = let z : 0 + b ≡ b = omega arith in rw z refl
picked_parts (suc a) b [] rows = let z : suc a + b ≡ suc (a + b) = omega arith in rw z (none (take b (drop (suc a) rows))) where
  none : (rs : List plain.Row) → [] ≡ picked (take b []) rs
  none rs = none_at b where
    none_at : (n : ℕ) → [] ≡ picked (take n []) rs
    none_at zero = refl
    none_at (suc n) = refl
picked_parts (suc a) b (x ∷ bs) [] = let z : suc a + b ≡ suc (a + b) = omega arith in rw z (none b (drop a bs)) where
  none : (n : ℕ) (cs : List Bool) → [] ≡ picked (take n cs) (take n [])
  none zero cs = refl
  none (suc n) [] = refl
  none (suc n) (c ∷ cs) = refl
picked_parts (suc a) b (x ∷ bs) (r ∷ rows) = let z : suc a + b ≡ suc (a + b) = omega arith in rw z (step x (picked_parts a b bs rows)) where
  step : (t : Bool) → picked (take (a + b) bs) (take (a + b) rows) ≡ picked (take a bs) (take a rows) ++ picked (take b (drop a bs)) (take b (drop a rows))
      → cond t (r ∷ picked (take (a + b) bs) (take (a + b) rows)) (picked (take (a + b) bs) (take (a + b) rows)) ≡ cond t (r ∷ picked (take a bs) (take a rows)) (picked (take a bs) (take a rows)) ++ picked (take b (drop a bs)) (take b (drop a rows))
  step true e = ap (λ xs. r ∷ xs) e
  step false e = e

map_append : (f : plain.Row → ℤ) (xs ys : List plain.Row) → map f (xs ++ ys) ≡ map f xs ++ map f ys
map_append f [] ys = refl
map_append f (x ∷ xs) ys = ap (λ zs. f x ∷ zs) (map_append f xs ys)

pub words_none : (column : ℕ) (bs : List Bool) (rows : List plain.Row) → AddsUp (numbers_in column (pieces_before 0 bs) (pieces_before 0 rows)) (pos 0)
words_none column bs rows = let z : 64 * 0 ≡ 0 = omega arith in rw z (record { total = refl; short = tt })

pub words_more : (column i : ℕ) (bs : List Bool) (rows : List plain.Row) (a b : ℤ) → AddsUp (numbers_in column (pieces_before i bs) (pieces_before i rows)) a → AddsUp (numbers_in column (piece i bs) (piece i rows)) b → AddsUp (numbers_in column (pieces_before (i + 1) bs) (pieces_before (i + 1) rows)) (a +ℤ b)
words_more column i bs rows a b before one =
    let z : 64 * (i + 1) ≡ 64 * i + 64 = omega arith in
    let parts : numbers_in column (pieces_before (i + 1) bs) (pieces_before (i + 1) rows) ≡ numbers_in column (pieces_before i bs) (pieces_before i rows) ++ numbers_in column (piece i bs) (piece i rows) =
    rw z (ap (map (number_in (Some column))) (picked_parts (64 * i) 64 bs rows) ∙ map_append (number_in (Some column)) (picked (take (64 * i) bs) (take (64 * i) rows)) (picked (piece i bs) (piece i rows))) in
    subst (λ ns. AddsUp ns (a +ℤ b)) (sym parts) (adds_append (numbers_in column (pieces_before i bs) (pieces_before i rows)) (numbers_in column (piece i bs) (piece i rows)) a b before one)

pub words_all : (column i : ℕ) (bs : List Bool) (rows : List plain.Row) (a : ℤ) → length bs ≡ length rows → words_for (length bs) ≤ i → AddsUp (numbers_in column (pieces_before i bs) (pieces_before i rows)) a → AddsUp (numbers_in column bs rows) a
words_all column i bs rows a long l adds = subst (λ cs. AddsUp (numbers_in column cs rows) a) (take_all (64 * i) bs (omega arith)) (subst (λ rs. AddsUp (numbers_in column (take (64 * i) bs) rs) a) (take_all (64 * i) rows (omega arith)) adds)

pub words_few : (column i : ℕ) (bs : List Bool) (rows : List plain.Row) → length rows ≤ 16777216 → length (numbers_in column (pieces_before i bs) (pieces_before i rows)) ≤ 16777216
words_few column i bs rows few =
    let a = numbers_few column (pieces_before i bs) (pieces_before i rows) in
    let b = length-take (64 * i) rows in
    omega arith

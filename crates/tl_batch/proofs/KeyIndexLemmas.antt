-- What a map from keys has at each key, after a change at one key.
use Rattle.std.proofs.Common.{◌≡◌, ℕ, pos, negsuc, zero, suc, slice_get, ◌+◌, ◌≤◌, subst, Bool, true, false, ◌&&◌, ◌||◌, not, cond, nat_eq, length, ◌<◌, List, [], ◌∷◌, ◌++◌, Option, Some, None, IfSome, refl, sym, ap, ◌∙◌, arith}
use Rattle.std.specs.List.{list_any, remove, AllByRecursion, dedup, dedup_from}
use Rattle.std.specs.Map.{lookup}
use Rattle.std.specs.declared.cmp.Ordering.TheVariants.{Less}
use Rattle.std.specs.Ordering.{nat_cmp}
use Rattle.std.specs.List.Sorted.{IsPermutation, IsSorted, IsStrictlySortedBy}
use Rattle.std.proofs.lemmas.List.Folds.{list_any-append}
use Rattle.std.proofs.lemmas.List.Sorted.{list_any-IsPermutation}
use Rattle.std.proofs.lemmas.Map.Keys.{IsStrictlyIncreasing-dedup, sorted_from_strictly_increasing}
use Rattle.tl_types.specs.Facts.{AscendFrom}
use Rattle.std.specs.Cmp.{int_eq_equiv, unsigned_tied}
use Rattle.std.specs.Cmp.Lexicographic.{nat_list_eq_equiv}
use Rattle.std.specs.BTreeMap.{is_at}
use Rattle.tl_types.specs.declared.cells.Cell.{Cell}
use Rattle.tl_types.specs.declared.cells.Cell.TheVariants as cell
use Rattle.tl_types.specs.contracts.cells.CellPartialEq.TheImpl as equal
use Rattle.tl_types.specs.History.{same_cell, has_id}
use Rattle.tl_batch.specs.KeyIndex.{IdsByKey, SmallIds, FewIdsByKey, has_small, has_few, has_further, has_row, no_ids, Changes}

-- CELLS

pub cell_sym : (x y : Cell) → same_cell x y ≡ same_cell y x
cell_sym (cell.Int i) (cell.Int j) = int_eq_equiv.symm i j
cell_sym (cell.Int i) (cell.Text t) = refl
cell_sym (cell.Text s) (cell.Int j) = refl
cell_sym (cell.Text s) (cell.Text t) = nat_list_eq_equiv.symm s t

pub cell_self : (x : Cell) → same_cell x x ≡ true
cell_self (cell.Int i) = int_eq_equiv.refl i
cell_self (cell.Text t) = nat_list_eq_equiv.refl t

pub same_as : (x y z : Cell) → same_cell x y ≡ true → same_cell x z ≡ same_cell y z
same_as (cell.Int i) (cell.Int j) (cell.Int k) e = int_eq_equiv.congr i j k e
same_as (cell.Int i) (cell.Int j) (cell.Text t) e = refl
same_as (cell.Int i) (cell.Text s) z e = absurd (cc)
same_as (cell.Text s) (cell.Int j) z e = absurd (cc)
same_as (cell.Text s) (cell.Text t) (cell.Int k) e = refl
same_as (cell.Text s) (cell.Text t) (cell.Text u) e = nat_list_eq_equiv.congr s t u e

-- equal keys find the same
pub finds_same : {X : Type 0} (x y : Cell) (entries : List (Cell × X)) → same_cell x y ≡ true → lookup (same_cell x) entries ≡ lookup (same_cell y) entries
finds_same x y [] e = refl
finds_same x y (f ∷ entries) e = grind (arith, same_as x y f.0 e, finds_same x y entries e)

-- A CHANGE AT ONE KEY

-- cells are compared as `==` compares them
pub eq_is : (x y : Cell) → equal.eq-value.it x y ≡ same_cell x y
eq_is (cell.Int i) (cell.Int j) = refl
eq_is (cell.Int i) (cell.Text t) = refl
eq_is (cell.Text s) (cell.Int j) = refl
eq_is (cell.Text s) (cell.Text t) = refl

finds : {X : Type 0} (x : Cell) (entries : List (Cell × X)) → lookup (equal.eq-value.it x) entries ≡ lookup (same_cell x) entries
finds x [] = refl
finds x (e ∷ entries) = grind (arith, eq_is x e.0, finds x entries)

-- what a map finds at a key
pub found_at : {X : Type 0} (key : Cell) (o : Option X) (entries all : List (Cell × X)) → o ≡ lookup (equal.eq-value.it key) entries → entries ≡ all → o ≡ lookup (same_cell key) all
found_at key o entries all e view = e ∙ (finds key entries ∙ ap (lookup (same_cell key)) view)

-- what a map finds after a change at one key
pub copied : {X : Type 0} (key copy : Cell) (w : Option X) (before all after : List (Cell × X)) → copy ≡ key → before ≡ all
    → ((q : Cell) → lookup (equal.eq-value.it q) after ≡ cond (equal.eq-value.it copy q) w (lookup (equal.eq-value.it q) before)) → Changes key w all after
copied key copy w before all after same view change q = grind (arith, finds q after, eq_is copy q, finds q before)

module _ {X : Type 0} (at : Option X → ℕ → Bool) (key : Cell) (w : Option X) (before after : List (Cell × X)) (change : Changes key w before after) where
  pub changed : (x : Cell) (n : ℕ) → at (lookup (same_cell x) after) n ≡ cond (same_cell x key) (at w n) (at (lookup (same_cell x) before) n)
  changed x n = grind (arith, change x, cell_sym key x)

  -- an id more
  pub added : (id : ℕ) → ((n : ℕ) → at w n ≡ (nat_eq n id || at (lookup (same_cell key) before) n))
      → (x : Cell) (n : ℕ) → at (lookup (same_cell x) after) n ≡ ((same_cell x key && nat_eq n id) || at (lookup (same_cell x) before) n)
  added id more x n = grind (arith, changed x n, more n, finds_same x key before)

  -- an id less
  pub removed : (id : ℕ) → ((n : ℕ) → at w n ≡ (not (nat_eq n id) && at (lookup (same_cell key) before) n))
      → (x : Cell) (n : ℕ) → at (lookup (same_cell x) after) n ≡ (not (same_cell x key && nat_eq n id) && at (lookup (same_cell x) before) n)
  removed id fewer x n = grind (arith, changed x n, fewer n, finds_same x key before)

  -- the same ids
  pub kept : ((n : ℕ) → at w n ≡ at (lookup (same_cell key) before) n) → (x : Cell) (n : ℕ) → at (lookup (same_cell x) after) n ≡ at (lookup (same_cell x) before) n
  kept same x n = grind (arith, changed x n, same n, finds_same x key before)

-- SETS OF IDS

tests_same : (n : ℕ) (keys : List ℕ) → list_any (is_at (nat_cmp n)) keys ≡ has_id keys n
tests_same n [] = refl
tests_same n (k ∷ keys) = grind (arith, unsigned_tied n k, tests_same n keys)

pub id_added : (id : ℕ) (keys list more : List ℕ) → ((q : ℕ) → list_any (is_at (nat_cmp q)) more ≡ cond (is_at (nat_cmp id) q) true (list_any (is_at (nat_cmp q)) keys)) → keys ≡ list
    → (n : ℕ) → has_id more n ≡ (nat_eq n id || has_id list n)
id_added id keys list more update view n = grind (arith, tests_same n more, unsigned_tied id n, tests_same n keys)

pub id_removed : (id : ℕ) (keys list less : List ℕ) → ((q : ℕ) → list_any (is_at (nat_cmp q)) less ≡ cond (is_at (nat_cmp id) q) false (list_any (is_at (nat_cmp q)) keys)) → keys ≡ list
    → (n : ℕ) → has_id less n ≡ (not (nat_eq n id) && has_id list n)
id_removed id keys list less update view n = grind (arith, tests_same n less, unsigned_tied id n, tests_same n keys)

less_than : (m n : ℕ) → nat_cmp m n ≡ Less → m + 1 ≤ n
less_than m n e = grind arith

all_above : (m : ℕ) (keys : List ℕ) → AllByRecursion (λ n. nat_cmp m n ≡ Less) keys → AllByRecursion (λ n. m + 1 ≤ n) keys
all_above m [] all = tt
all_above m (k ∷ keys) all = (less_than m k all.0, all_above m keys all.1)

sorted_ascend : (low : ℕ) (keys : List ℕ) → IsStrictlySortedBy nat_cmp keys → AllByRecursion (λ n. low ≤ n) keys → AscendFrom low keys
unfolding IsStrictlySortedBy
sorted_ascend low [] sorted all = tt
sorted_ascend low (k ∷ keys) sorted all = (all.0, sorted_ascend (k + 1) keys sorted.1 (all_above k keys sorted.0))

from_zero : (keys : List ℕ) → AllByRecursion (λ n. 0 ≤ n) keys
from_zero [] = tt
from_zero (k ∷ keys) = (omega arith, from_zero keys)

-- an id at the end
pub id_pushed : (id : ℕ) (ids more list : List ℕ) → more ≡ ids ++ id ∷ [] → ids ≡ list → (n : ℕ) → has_id more n ≡ (nat_eq n id || has_id list n)
id_pushed id ids more list e view n = grind (arith, list_any-append (λ m. nat_eq m n) ids (id ∷ []))

-- an id below all others
below_all : (low n : ℕ) (ids : List ℕ) → AscendFrom low ids → n < low → has_id ids n ≡ false
below_all low n [] up h = refl
below_all low n (k ∷ ids) up h = let later = below_all (k + 1) n ids up.1 (let a = up.0 in omega arith) in let a = up.0 in let apart : nat_eq k n ≡ false = grind (arith, a) in rw apart later

at_least : (low at id : ℕ) (ids : List ℕ) → AscendFrom low ids → slice_get ids at ≡ Some id → low ≤ id
at_least low at id [] up e = absurd (cc)
at_least low zero id (k ∷ ids) up e = let same : k ≡ id = cc in let a = up.0 in omega arith
at_least low (suc at) id (k ∷ ids) up e = let a = up.0 in let b = at_least (k + 1) at id ids up.1 e in omega arith

-- an id taken out of ids that ascend
pub id_cut : (low at id : ℕ) (ids : List ℕ) → AscendFrom low ids → slice_get ids at ≡ Some id → (n : ℕ) → has_id (remove ids at) n ≡ (not (nat_eq n id) && has_id ids n)
id_cut low at id [] up e n = absurd (cc)
id_cut low zero id (k ∷ ids) up e n = by_test (nat_eq n id) refl where
  same : k ≡ id
  same = cc

  by_test : (b : Bool) → nat_eq n id ≡ b → has_id ids n ≡ (not (nat_eq n id) && (nat_eq k n || has_id ids n))
  by_test true f = let here : n ≡ id = grind arith in let none = below_all (k + 1) n ids up.1 (omega (arith, here, same)) in grind (arith, none)
  by_test false f = let apart : nat_eq k n ≡ false = grind (arith, same) in grind (arith, apart)
id_cut low (suc at) id (k ∷ ids) up e n =
    let above = at_least (k + 1) at id ids up.1 e in
    let later = id_cut (k + 1) at id ids up.1 e n in
    by_test (nat_eq n id) refl above later where
      by_test : (b : Bool) → nat_eq n id ≡ b → k + 1 ≤ id → has_id (remove ids at) n ≡ (not (nat_eq n id) && has_id ids n) → (nat_eq k n || has_id (remove ids at) n) ≡ (not (nat_eq n id) && (nat_eq k n || has_id ids n))
      by_test true f above later = let here : n ≡ id = grind arith in let apart : nat_eq k n ≡ false = grind arith in grind arith
      by_test false f above later = grind arith

pub cut_ascends : (low at : ℕ) (ids : List ℕ) → AscendFrom low ids → AscendFrom low (remove ids at)
cut_ascends low zero [] up = tt
cut_ascends low (suc at) [] up = tt
cut_ascends low zero (k ∷ ids) up = lower (k + 1) low ids (let a = up.0 in omega arith) up.1 where
  lower : (high low : ℕ) (ids : List ℕ) → low ≤ high → AscendFrom high ids → AscendFrom low ids
  lower high low [] h up = tt
  lower high low (m ∷ ids) h up = ((let a = up.0 in omega arith), up.1)
cut_ascends low (suc at) (k ∷ ids) up = (up.0, cut_ascends (k + 1) at ids up.1)

-- a greater id at the end
pub ascends_more : (low i id last : ℕ) (ids : List ℕ) → i + 1 ≡ length ids → slice_get ids i ≡ Some last → last < id → AscendFrom low ids → AscendFrom low (ids ++ id ∷ [])
ascends_more low i id last [] n e h up = absurd (cc)
ascends_more low zero id last (k ∷ []) n e h up = let same : k ≡ last = cc in (up.0, (omega (arith, h, same), tt))
ascends_more low zero id last (k ∷ (m ∷ ids)) n e h up = absurd (omega arith)
ascends_more low (suc i) id last (k ∷ ids) n e h up = (up.0, ascends_more (k + 1) i id last ids (omega arith) e h up.1)

-- after a sort and a `dedup` the ids ascend
pub ids_ascend : (ids list : List ℕ) → IsSorted nat_cmp ids → list ≡ dedup nat_eq ids → AscendFrom 0 list
ids_ascend ids list sorted e =
    let rises = sorted_from_strictly_increasing (dedup nat_eq ids) (IsStrictlyIncreasing-dedup ids sorted) in
    subst (AscendFrom 0) (sym e) (sorted_ascend 0 (dedup nat_eq ids) rises (from_zero (dedup nat_eq ids)))

-- `dedup` keeps each id
dedup_from_has : (k n : ℕ) (ids : List ℕ) → has_id (dedup_from nat_eq k ids) n ≡ has_id (k ∷ ids) n
dedup_from_has k n [] = refl
dedup_from_has k n (id ∷ ids) = grind (arith, dedup_from_has k n ids, dedup_from_has id n ids)

dedup_has : (n : ℕ) (ids : List ℕ) → has_id (dedup nat_eq ids) n ≡ has_id ids n
dedup_has n [] = refl
dedup_has n (id ∷ ids) = dedup_from_has id n ids

-- after a sort and a `dedup` the ids are the same
pub ids_kept : (ids all sorted list : List ℕ) → IsPermutation ids sorted → ids ≡ all → list ≡ dedup nat_eq sorted → (n : ℕ) → has_id list n ≡ has_id all n
ids_kept ids all sorted list moved view e n = ap (λ is. has_id is n) e ∙ (dedup_has n sorted ∙ (sym (list_any-IsPermutation (λ m. nat_eq m n) ids sorted moved) ∙ ap (λ is. has_id is n) view))

-- FURTHER IDS

pub none_removed : (key : Cell) (id : ℕ) (entries : List (Cell × List ℕ)) → None ≡ lookup (same_cell key) entries → (x : Cell) (n : ℕ) → has_further entries x n ≡ (not (same_cell x key && nat_eq n id) && has_further entries x n)
none_removed key id entries none x n = grind (arith, finds_same x key entries)

pub found_further : (key : Cell) (ids : List ℕ) (entries all : List (Cell × List ℕ)) (r : Option ℕ) → Some ids ≡ lookup (same_cell key) entries → entries ≡ all → IfSome r (λ id. has_id ids id ≡ true) → IfSome r (λ id. has_further all key id ≡ true)
found_further key ids entries all None there view has = tt
found_further key ids entries all (Some id) there view has = grind arith

-- AN ID LESS IN EACH PART

less_each : (gone s f g s' f' g' : Bool) → s' ≡ (not gone && s) → f' ≡ (not gone && f) → g' ≡ (not gone && g) → (s' || f' || g') ≡ (not gone && (s || f || g))
less_each gone s f g s' f' g' a b c = grind arith

pub index_less : (small smaller : SmallIds) (few fewer : FewIdsByKey) (further less : List (Cell × List ℕ)) (all : IdsByKey) (key : Cell) (id : ℕ) → record { small = small; few = few; further = further } ≡ all
    → ((x : Cell) (n : ℕ) → has_small smaller x n ≡ (not (same_cell x key && nat_eq n id) && has_small small x n))
    → ((x : Cell) (n : ℕ) → has_few fewer x n ≡ (not (same_cell x key && nat_eq n id) && has_few few x n))
    → ((x : Cell) (n : ℕ) → has_further less x n ≡ (not (same_cell x key && nat_eq n id) && has_further further x n))
    → (x : Cell) (n : ℕ) → has_row (record { small = smaller; few = fewer; further = less }) x n ≡ (not (same_cell x key && nat_eq n id) && has_row all x n)
index_less small smaller few fewer further less all key id view a b c x n =
    less_each (same_cell x key && nat_eq n id) (has_small small x n) (has_few few x n) (has_further further x n) (has_small smaller x n) (has_few fewer x n) (has_further less x n) (a x n) (b x n) (c x n)
    ∙ ap (λ (k : IdsByKey). not (same_cell x key && nat_eq n id) && has_row k x n) view

-- NO IDS

pub none_in : (x : Cell) (n : ℕ) → has_row no_ids x n ≡ false
none_in (cell.Int (pos i)) n = refl
none_in (cell.Int (negsuc i)) n = refl
none_in (cell.Text t) n = refl

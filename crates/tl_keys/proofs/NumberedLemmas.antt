-- Items that stand at the numbers of their values.
use Rattle.std.proofs.Common.{◌≡◌, ℕ, zero, suc, ◌+◌, ◌<◌, ◌≤◌, Bool, true, false, cond, List, [], ◌∷◌, ◌++◌, length, Option, Some, None, refl, sym, ap, ◌∙◌, arith, subst, slice_get, length-append, ◌⊎◌, inl, inr}
use Rattle.std.specs.Prelude.{slice_set}
use Rattle.std.specs.Map.{lookup}
use Rattle.tl_types.specs.declared.cells.Cell.{Cell}
use Rattle.tl_types.specs.History.{same_cell}
use Rattle.tl_keys.specs.Keys.{KeyNumbers, number_in, AreApart, KeepsNumbers}
use Rattle.tl_keys.specs.Numbered.{AreNumbered}
use Rattle.tl_query.proofs.CellOrder.{cell_itself, cell_symm, cell_equal}

-- the items of a part, whose first one has this number
abbrev AreFrom : {X : Type 0} → KeyNumbers → ℕ → List (Cell × X) → Type 0
AreFrom {X = X} keys k by = (n : ℕ) (value : Cell) (group : X) → slice_get by n ≡ Some (value, group) → number_in keys value ≡ Some (k + n)

some_same : {X : Type 0} {x y : X} → Some x ≡ Some y → x ≡ y
some_same h = cc

later : {X : Type 0} (keys : KeyNumbers) (k : ℕ) (e : Cell × X) (by : List (Cell × X)) → AreFrom keys k (e ∷ by) → AreFrom keys (suc k) by
later keys k e by are = λ n value group is. let s : k + suc n ≡ suc k + n = omega arith in are (suc n) value group is ∙ ap Some s

-- a later item has another value
apart_from : {X : Type 0} (keys : KeyNumbers) (k n : ℕ) (e : Cell × X) (by : List (Cell × X)) (value : Cell) (group : X) → AreFrom keys k (e ∷ by) → slice_get by n ≡ Some (value, group) → same_cell value e.0 ≡ false
apart_from keys k n e by value group are is = by_test (same_cell value e.0) refl where
  by_test : (b : Bool) → same_cell value e.0 ≡ b → b ≡ false
  by_test true same = absurd (
      let first = are 0 e.0 e.1 refl in
      let behind = are (suc n) value group is in
      let equal = cell_equal value e.0 same in
      let numbers : k + 0 ≡ k + suc n = some_same (sym first ∙ ap (number_in keys) (sym equal) ∙ behind) in
      omega arith)
  by_test false other = refl

found_from : {X : Type 0} (keys : KeyNumbers) (k n : ℕ) (by : List (Cell × X)) (value : Cell) (group : X) → AreFrom keys k by → slice_get by n ≡ Some (value, group) → lookup (same_cell value) by ≡ Some group
found_from keys k n [] value group are is = absurd (cc)
found_from keys k zero (e ∷ by) value group are is = let same : e ≡ (value, group) = some_same is in rw (same, cell_itself value) refl
found_from keys k (suc n) (e ∷ by) value group are is = rw (apart_from keys k n e by value group are is) (found_from keys (suc k) n by value group (later keys k e by are) is)

-- the item at a number is that of its value
found_at : {X : Type 0} (keys : KeyNumbers) (by : List (Cell × X)) (n : ℕ) (value : Cell) (group : X) → AreNumbered keys by → slice_get by n ≡ Some (value, group) → lookup (same_cell value) by ≡ Some group
found_at keys by n value group are is = found_from keys 0 n by value group (λ i v g h. let s : 0 + i ≡ i = omega arith in are.each i v g h ∙ ap Some (sym s)) is

set_from : {X : Type 0} (keys : KeyNumbers) (k n : ℕ) (by : List (Cell × X)) (value : Cell) (group moved : X) → AreFrom keys k by → slice_get by n ≡ Some (value, group)
    → (x : Cell) → lookup (same_cell x) (slice_set by n (value, moved)) ≡ cond (same_cell x value) (Some moved) (lookup (same_cell x) by)
set_from keys k n [] value group moved are is x = absurd (cc)
set_from keys k zero (e ∷ by) value group moved are is x = let same : e ≡ (value, group) = some_same is in rw same (by_test (same_cell x value)) where
  by_test : (b : Bool) → cond b (Some moved) (lookup (same_cell x) by) ≡ cond b (Some moved) (cond b (Some group) (lookup (same_cell x) by))
  by_test true = refl
  by_test false = refl
set_from keys k (suc n) (e ∷ by) value group moved are is x = by_test (same_cell x e.0) refl (set_from keys (suc k) n by value group moved (later keys k e by are) is x) where
  by_test : (b : Bool) → same_cell x e.0 ≡ b → lookup (same_cell x) (slice_set by n (value, moved)) ≡ cond (same_cell x value) (Some moved) (lookup (same_cell x) by)
      → cond b (Some e.1) (lookup (same_cell x) (slice_set by n (value, moved))) ≡ cond (same_cell x value) (Some moved) (cond b (Some e.1) (lookup (same_cell x) by))
  by_test true same h =
      let equal = cell_equal x e.0 same in
      let other : same_cell x value ≡ false = ap (λ y. same_cell y value) equal ∙ cell_symm e.0 value ∙ apart_from keys k n e by value group are is in
      rw other refl
  by_test false other h = h

-- an item that is changed at its number
set_at : {X : Type 0} (keys : KeyNumbers) (by : List (Cell × X)) (n : ℕ) (value : Cell) (group moved : X) → AreNumbered keys by → slice_get by n ≡ Some (value, group)
    → (x : Cell) → lookup (same_cell x) (slice_set by n (value, moved)) ≡ cond (same_cell x value) (Some moved) (lookup (same_cell x) by)
set_at keys by n value group moved are is = set_from keys 0 n by value group moved (λ i v g h. let s : 0 + i ≡ i = omega arith in are.each i v g h ∙ ap Some (sym s)) is

set_length : {X : Type 0} (xs : List X) (n : ℕ) (x : X) → length (slice_set xs n x) ≡ length xs
set_length [] n x = refl
set_length (y ∷ xs) zero x = refl
set_length (y ∷ xs) (suc n) x = ap suc (set_length xs n x)

-- each value stays at its number
set_values : {X : Type 0} (by : List (Cell × X)) (n i : ℕ) (value v : Cell) (group moved g : X) → slice_get by n ≡ Some (value, group) → slice_get (slice_set by n (value, moved)) i ≡ Some (v, g) → (old : X) × (slice_get by i ≡ Some (v, old))
set_values [] n i value v group moved g is there = absurd (cc)
set_values {X = X} (e ∷ by) zero zero value v group moved g is there = let same : v ≡ value = ap (λ (x : Cell × X). x.0) (some_same (sym there)) in (group, is ∙ ap (λ y. Some (y, group)) (sym same))
set_values (e ∷ by) zero (suc i) value v group moved g is there = (g, there)
set_values (e ∷ by) (suc n) zero value v group moved g is there = (g, there)
set_values (e ∷ by) (suc n) (suc i) value v group moved g is there = set_values by n i value v group moved g is there

set_numbered : {X : Type 0} (keys : KeyNumbers) (by : List (Cell × X)) (n : ℕ) (value : Cell) (group moved : X) → AreNumbered keys by → slice_get by n ≡ Some (value, group) → AreNumbered keys (slice_set by n (value, moved))
set_numbered keys by n value group moved are is = record {
  apart = are.apart;
  many = set_length by n (value, moved) ∙ are.many;
  each = λ i v g h. let old = set_values by n i value v group moved g is h in are.each i v old.0 old.1;
}

-- A VALUE THAT GETS A NUMBER

item_at : {X : Type 0} (xs : List X) (n : ℕ) → n < length xs → (x : X) × (slice_get xs n ≡ Some x)
item_at [] n l = absurd (omega arith)
item_at (x ∷ xs) zero l = (x, refl)
item_at (x ∷ xs) (suc n) l = item_at xs n (omega arith)

-- it had one
pub had_item : {X : Type 0} (old new : KeyNumbers) (before items : List (Cell × X)) (value : Cell) (n : ℕ) → AreNumbered old before → AreApart new → number_in new value ≡ Some n → n < length before → new ≡ old → items ≡ before
    → (group : X) × (slice_get items n ≡ Some (value, group)) × (lookup (same_cell value) before ≡ Some group) × AreNumbered new items × ((x : Cell) → lookup (same_cell x) items ≡ cond (same_cell x value) (Some group) (lookup (same_cell x) before))
had_item {X = X} old new before items value n are apart number l keys by =
    let at = item_at before n l in
    let found_item : Cell × X = at.0 in
    let mine = are.each n found_item.0 found_item.1 at.1 in
    let same : found_item.0 ≡ value = cell_equal found_item.0 value (apart.one found_item.0 value n (ap (λ k. number_in k found_item.0) keys ∙ mine) number) in
    let there : slice_get before n ≡ Some (value, found_item.1) = at.1 ∙ ap (λ v. Some (v, found_item.1)) same in
    let found = found_at old before n value found_item.1 are there in (
      found_item.1,
      ap (λ xs. slice_get xs n) by ∙ there,
      found,
      subst (λ k. AreNumbered k items) (sym keys) (subst (AreNumbered old) (sym by) are),
      λ x. ap (lookup (same_cell x)) by ∙ either x found_item.1 found (same_cell x value) refl,
    ) where
      either : (x : Cell) (group : X) → lookup (same_cell value) before ≡ Some group → (b : Bool) → same_cell x value ≡ b → lookup (same_cell x) before ≡ cond b (Some group) (lookup (same_cell x) before)
      either x group found true same = ap (λ y. lookup (same_cell y) before) (cell_equal x value same) ∙ found
      either x group found false other = refl

-- a value with its item
abbrev item : {X : Type 0} → Cell → X → Cell × X
item value group = (value, group)

get_pushed : {X : Type 0} (xs : List X) (x y : X) (i : ℕ) → slice_get (xs ++ x ∷ []) i ≡ Some y → ((i ≡ length xs) × (x ≡ y)) ⊎ (slice_get xs i ≡ Some y)
get_pushed [] x y zero is = inl (refl, some_same is)
get_pushed [] x y (suc i) is = absurd (cc)
get_pushed (z ∷ xs) x y zero is = inr is
get_pushed (z ∷ xs) x y (suc i) is = by_case (get_pushed xs x y i is) where
  by_case : ((i ≡ length xs) × (x ≡ y)) ⊎ (slice_get xs i ≡ Some y) → ((suc i ≡ suc (length xs)) × (x ≡ y)) ⊎ (slice_get xs i ≡ Some y)
  by_case (inl both) = inl (ap suc both.0, both.1)
  by_case (inr there) = inr there

get_last : {X : Type 0} (xs : List X) (x : X) → slice_get (xs ++ x ∷ []) (length xs) ≡ Some x
get_last [] x = refl
get_last (y ∷ xs) x = get_last xs x

-- no item has the value
none_from : {X : Type 0} (keys : KeyNumbers) (k n : ℕ) (by : List (Cell × X)) (value : Cell) → AreFrom keys k by → number_in keys value ≡ Some n → k + length by ≤ n → lookup (same_cell value) by ≡ None
none_from keys k n [] value are number l = refl
none_from keys k n (e ∷ by) value are number l = by_test (same_cell value e.0) refl (λ more. none_from keys (suc k) n by value (later keys k e by are) number more) where
  by_test : (b : Bool) → same_cell value e.0 ≡ b → (suc k + length by ≤ n → lookup (same_cell value) by ≡ None) → cond b (Some e.1) (lookup (same_cell value) by) ≡ None
  by_test true same h = absurd (
      let first = are 0 e.0 e.1 refl in
      let equal = cell_equal value e.0 same in
      let numbers : k + 0 ≡ n = some_same (sym first ∙ ap (number_in keys) (sym equal) ∙ number) in
      omega arith)
  by_test false other h = h (omega arith)

pushed_found : {X : Type 0} (by : List (Cell × X)) (value : Cell) (group : X) → lookup (same_cell value) by ≡ None → (x : Cell) → lookup (same_cell x) (by ++ (value, group) ∷ []) ≡ cond (same_cell x value) (Some group) (lookup (same_cell x) by)
pushed_found [] value group none x = refl
pushed_found (e ∷ by) value group none x = by_tests (same_cell x e.0) (same_cell value e.0) refl refl none (λ out. pushed_found by value group out x) where
  by_tests : (b d : Bool) → same_cell x e.0 ≡ b → same_cell value e.0 ≡ d → cond d (Some e.1) (lookup (same_cell value) by) ≡ None → (lookup (same_cell value) by ≡ None → lookup (same_cell x) (by ++ (value, group) ∷ []) ≡ cond (same_cell x value) (Some group) (lookup (same_cell x) by))
      → cond b (Some e.1) (lookup (same_cell x) (by ++ (value, group) ∷ [])) ≡ cond (same_cell x value) (Some group) (cond b (Some e.1) (lookup (same_cell x) by))
  by_tests b true same own out h = absurd (cc)
  by_tests true false same own out h =
      let other : same_cell x value ≡ false = ap (λ y. same_cell y value) (cell_equal x e.0 same) ∙ cell_symm e.0 value ∙ own in
      rw other refl
  by_tests false false same own out h = h out

-- it had none
pub new_item : {X : Type 0} (old new : KeyNumbers) (before items : List (Cell × X)) (value : Cell) (n : ℕ) (group : X) → AreNumbered old before → AreApart new → KeepsNumbers old new → number_in new value ≡ Some n → length before ≤ n → new.count ≤ old.count + 1 → items ≡ before ++ (value, group) ∷ []
    → (slice_get items n ≡ Some (value, group)) × (lookup (same_cell value) before ≡ None) × AreNumbered new items × ((x : Cell) → lookup (same_cell x) items ≡ cond (same_cell x value) (Some group) (lookup (same_cell x) before))
new_item {X = X} old new before items value n group are apart keeps number l few by =
    let below = apart.below value n number in
    let many = are.many in
    let here : n ≡ length before = omega arith in
    let out = none_from new 0 n before value (λ i v g h. let s : 0 + i ≡ i = omega arith in keeps v i (are.each i v g h) ∙ ap Some (sym s)) number (omega arith) in (
      ap (λ xs. slice_get xs n) by ∙ ap (slice_get (before ++ (value, group) ∷ [])) here ∙ get_last before (value, group),
      out,
      record {
        apart = apart;
        many = ap length by ∙ length-append before ((value, group) ∷ []) ∙ counted (length before) here below many few;
        each = λ i v g h. either i v g (get_pushed before (value, group) (v, g) i (sym (ap (λ xs. slice_get xs i) by) ∙ h));
      },
      λ x. ap (lookup (same_cell x)) by ∙ pushed_found before value group out x,
    ) where
      counted : (m : ℕ) → n ≡ m → n < new.count → m ≡ old.count → new.count ≤ old.count + 1 → m + 1 ≡ new.count
      counted m here below many few = omega arith

      either : (i : ℕ) (v : Cell) (g : X) → ((i ≡ length before) × (item value group ≡ item v g)) ⊎ (slice_get before i ≡ Some (v, g)) → number_in new v ≡ Some i
      either i v g (inl both) =
          let below = apart.below value n number in
          let many = are.many in
          let here : n ≡ i = let is = both.0 in omega arith in
          let same : value ≡ v = ap (λ (e : Cell × X). e.0) both.1 in
          ap (number_in new) (sym same) ∙ number ∙ ap Some here
      either i v g (inr there) = keeps v i (are.each i v g there)

-- AN ITEM THAT CHANGES

-- what stands at a number, said twice, is one value and one item
pub same_item : {X : Type 0} (items : List (Cell × X)) (n : ℕ) (v value : Cell) (g group : X) → slice_get items n ≡ Some (v, g) → slice_get items n ≡ Some (value, group) → (v ≡ value) × (g ≡ group)
same_item {X = X} items n v value g group is there =
    let pair : item v g ≡ item value group = some_same (sym is ∙ there) in
    (ap (λ (e : Cell × X). e.0) pair, ap (λ (e : Cell × X). e.1) pair)

-- the item of a value that was given a number is changed
pub moved_item : {X : Type 0} (keys later : KeyNumbers) (before middle items : List (Cell × X)) (value : Cell) (n : ℕ) (group moved : X) → AreNumbered keys middle → slice_get middle n ≡ Some (value, group) → ((x : Cell) → lookup (same_cell x) middle ≡ cond (same_cell x value) (Some group) (lookup (same_cell x) before)) → later ≡ keys → items ≡ slice_set middle n (value, moved)
    → AreNumbered later items × ((x : Cell) → lookup (same_cell x) items ≡ cond (same_cell x value) (Some moved) (lookup (same_cell x) before))
moved_item {X = X} keys later before middle items value n group moved are there others same now = (
  subst (λ k. AreNumbered k items) (sym same) (subst (AreNumbered keys) (sym now) (set_numbered keys middle n value group moved are there)),
  λ x. ap (lookup (same_cell x)) now ∙ set_at keys middle n value group moved are there x ∙ ap (cond (same_cell x value) (Some moved)) (others x) ∙ by_test (same_cell x value) (lookup (same_cell x) before),
) where
  by_test : (b : Bool) (o : Option X) → cond b (Some moved) (cond b (Some group) o) ≡ cond b (Some moved) o
  by_test true o = refl
  by_test false o = refl

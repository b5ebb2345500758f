-- How often a bag has a value, by the counts of its map.
use Rattle.std.proofs.Common.{◌≡◌, ◌≢◌, ℕ, zero, suc, ◌+◌, ◌-◌, ◌<◌, ◌⊎◌, true, false, cond, List, refl, sym, ◌∙◌, ap, subst, arith, inl, inr}
use Rattle.std.specs.Prelude.{if◌then◌else◌, Option, Some, None, ℤ, ◌≤ℤ◌, ◌<ℤ◌, unwrap_or, IsSome, nat_le}
use Rattle.std.specs.declared.cmp.Ordering.{Ordering}
use Rattle.std.specs.declared.cmp.Ordering.TheVariants.{Less, Equal, Greater}
use Rattle.std.specs.Ordering.{int_cmp, int_eq, is_gt, is_lt, MatchOrdering}
use Rattle.std.specs.Cmp.{int_ranks}
use Rattle.std.specs.Map.{lookup}
use Rattle.std.proofs.lemmas.Bool.{cases_Bool, cond-true, cond-false, lt-leb}
use Rattle.std.proofs.lemmas.Bool.Decides.{Decides-int_eq}
use Rattle.std.proofs.lemmas.Int.{ints}
use Rattle.tl_bits.specs.Bags.{times, AddsOne, IsLeast, IsGreatest}

pub not_counted : (o : Option ℕ) → o ≡ None → 0 < unwrap_or o 0 → ⊥
not_counted None is some = omega arith
not_counted (Some n) is some = absurd (cc)

pub counted_is : (o : Option ℕ) (n : ℕ) → o ≡ Some n → unwrap_or o 0 ≡ n
counted_is o n is = ap (λ p. unwrap_or p 0) is

pub counted_some : (o : Option ℕ) → 0 < unwrap_or o 0 → IsSome o
counted_some None some = absurd (omega arith)
counted_some (Some n) some = refl

-- a count that is put is one more
pub adds_one : (old new : List (ℤ × ℕ)) (value : ℤ)
    → ((v : ℤ) → lookup (int_eq v) new ≡ cond (int_eq value v) (Some (times old value + 1)) (lookup (int_eq v) old)) → AddsOne old new value
adds_one old new value puts v = by_value (cases_Bool (int_eq value v)) where
  by_value : (int_eq value v ≡ true) ⊎ (int_eq value v ≡ false) → times new v ≡ times old v + (if int_eq value v then 1 else 0)
  by_value (inl same) =
      let is : value ≡ v = (Decides-int_eq value v).0 same in
      counted_is (lookup (int_eq v) new) (times old value + 1) (puts v ∙ cond-true (int_eq value v) (Some (times old value + 1)) (lookup (int_eq v) old) same)
      ∙ ap (λ w. times old w + 1) is ∙ ap (λ n. times old v + n) (sym (cond-true (int_eq value v) 1 0 same))
  by_value (inr other) =
      ap (λ o. unwrap_or o 0) (puts v ∙ cond-false (int_eq value v) (Some (times old value + 1)) (lookup (int_eq v) old) other)
      ∙ sym (ap (λ n. times old v + n) (cond-false (int_eq value v) 1 0 other) ∙ omega arith)

-- a count that is lessened, and gone where it was 1
abbrev pub lessened : ℕ → Option ℕ
lessened count = if nat_le count 1 then None else Some (count - 1)

pub lessened_count : (count : ℕ) → 0 < count → unwrap_or (lessened count) 0 + 1 ≡ count
lessened_count zero some = absurd (omega arith)
lessened_count (suc zero) some = refl
lessened_count (suc (suc n)) some =
    ap (λ o. unwrap_or o 0 + 1)
    (cond-false (nat_le (suc (suc n)) 1) None (Some (suc (suc n) - 1)) (lt-leb (suc (suc n)) 1 (omega arith))) ∙ omega arith

pub takes_one : (old new : List (ℤ × ℕ)) (value : ℤ) → 0 < times old value
    → ((v : ℤ) → lookup (int_eq v) new ≡ (if int_eq value v then lessened (times old value) else lookup (int_eq v) old)) → AddsOne new old value
takes_one old new value some puts v = by_value (cases_Bool (int_eq value v)) where
  by_value : (int_eq value v ≡ true) ⊎ (int_eq value v ≡ false) → times old v ≡ times new v + (if int_eq value v then 1 else 0)
  by_value (inl same) =
      let is : value ≡ v = (Decides-int_eq value v).0 same in
      let left : times new v ≡ unwrap_or (lessened (times old value)) 0 =
      ap (λ o. unwrap_or o 0) (puts v ∙ cond-true (int_eq value v) (lessened (times old value)) (lookup (int_eq v) old) same) in
      let all = lessened_count (times old value) some in
      let here : times old value ≡ times old v = ap (times old) is in
      sym here ∙ sym all ∙ ap (λ n. n + 1) (sym left) ∙ ap (λ n. times new v + n) (sym (cond-true (int_eq value v) 1 0 same))
  by_value (inr other) =
      let left : times new v ≡ times old v =
      ap (λ o. unwrap_or o 0) (puts v ∙ cond-false (int_eq value v) (lessened (times old value)) (lookup (int_eq v) old) other) in
      sym (ap (λ n. times new v + n) (cond-false (int_eq value v) 1 0 other) ∙ omega arith)

pub not_above : (x y : ℤ) → is_gt (int_cmp x y) ≡ false → x ≤ℤ y
not_above x y not_gt = by_order (int_cmp x y) (int_ranks x y) not_gt where
  by_order : (r : Ordering) → MatchOrdering r (x <ℤ y) (x ≡ y) (y <ℤ x) → is_gt r ≡ false → x ≤ℤ y
  by_order Less lt e = omega (arith, ints)
  by_order Equal same e = omega (arith, ints)
  by_order Greater gt e = absurd (cc)

pub not_below : (x y : ℤ) → is_lt (int_cmp x y) ≡ false → y ≤ℤ x
not_below x y not_lt = by_order (int_cmp x y) (int_ranks x y) not_lt where
  by_order : (r : Ordering) → MatchOrdering r (x <ℤ y) (x ≡ y) (y <ℤ x) → is_lt r ≡ false → y ≤ℤ x
  by_order Less lt e = absurd (cc)
  by_order Equal same e = omega (arith, ints)
  by_order Greater gt e = omega (arith, ints)

pub counted_there : (bag : List (ℤ × ℕ)) (value : ℤ) (count : ℕ) → ((v : ℤ) → lookup (int_eq v) bag ≢ Some 0) → lookup (int_eq value) bag ≡ Some count → 0 < times bag value
counted_there bag value zero none is = absurd (none value is)
counted_there bag value (suc n) none is = let e = counted_is (lookup (int_eq value) bag) (suc n) is in omega arith

pub least_is : (bag : List (ℤ × ℕ)) (value : ℤ) (count : ℕ) → ((v : ℤ) → lookup (int_eq v) bag ≢ Some 0) → lookup (int_eq value) bag ≡ Some count
    → ((q : ℤ) → IsSome (lookup (int_eq q) bag) → is_gt (int_cmp value q) ≡ false) → IsLeast bag value
least_is bag value count none is bound = record {
  there = counted_there bag value count none is;
  below = λ v some. not_above value v (bound v (counted_some (lookup (int_eq v) bag) some));
}

pub greatest_is : (bag : List (ℤ × ℕ)) (value : ℤ) (count : ℕ) → ((v : ℤ) → lookup (int_eq v) bag ≢ Some 0) → lookup (int_eq value) bag ≡ Some count
    → ((q : ℤ) → IsSome (lookup (int_eq q) bag) → is_lt (int_cmp value q) ≡ false) → IsGreatest bag value
greatest_is bag value count none is bound = record {
  there = counted_there bag value count none is;
  above = λ v some. not_below value v (bound v (counted_some (lookup (int_eq v) bag) some));
}

-- the same with the value under another name
pub adds_one_at : (old new : List (ℤ × ℕ)) (key value : ℤ) → key ≡ value
    → ((v : ℤ) → lookup (int_eq v) new ≡ cond (int_eq key v) (Some (times old key + 1)) (lookup (int_eq v) old)) → AddsOne old new value
adds_one_at old new key value same puts = subst (AddsOne old new) same (adds_one old new key puts)

pub takes_one_at : (old new : List (ℤ × ℕ)) (key value : ℤ) → key ≡ value → 0 < times old value
    → ((v : ℤ) → lookup (int_eq v) new ≡ (if int_eq key v then lessened (times old key) else lookup (int_eq v) old)) → AddsOne new old value
takes_one_at old new key value same some puts =
    subst (AddsOne new old) same (takes_one old new key (subst (λ v. 0 < times old v) (sym same) some) puts)

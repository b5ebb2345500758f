-- The order of events of valid time, which their type derives.
use Rattle.std.proofs.Common.{◌≡◌, ℕ, ℤ, Bool, true, false, ◌&&◌, ◌||◌, not, cond, nat_eq, nat_lt, int_lt, refl, sym, ap, ◌∙◌, arith}
use Rattle.std.specs.Bool.{beq}
use Rattle.std.specs.declared.cmp.Ordering.{Ordering}
use Rattle.std.specs.declared.cmp.Ordering.TheVariants.{Less, Equal, Greater}
use Rattle.std.specs.Ordering.{eq_by_cmp, ordering_then, bool_cmp, is_lt, is_eq, int_eq, int_cmp, nat_cmp}
use Rattle.std.specs.Cmp.{IsTotalOrder, bool_cmp_total}
use Rattle.std.proofs.lemmas.Cmp.{then_total, on_total, int_cmp_total, nat_cmp_total}
use Rattle.std.proofs.lemmas.Bool.Decides.{nat_tests}
use Rattle.std.proofs.lemmas.Int.{ints}
use Rattle.tl_types.specs.declared.events.ValidEvent.{ValidEvent}
use Rattle.tl_types.specs.contracts.events.ValidEventOrd.TheImpl as order
use Rattle.tl_types.specs.contracts.events.ValidEventPartialEq.TheImpl as same
use Rattle.tl_types.specs.Checkpoints.{comes_before}

-- two events are the same
abbrev pub same_event : ValidEvent → ValidEvent → Bool
same_event x y = int_eq x.time y.time && (beq x.opens y.opens && nat_eq x.row y.row)

-- ON PLAIN VALUES

abbrev bef : ℤ → Bool → ℕ → ℤ → Bool → ℕ → Bool
bef s a m t b n = int_lt s t || (int_eq s t && ((not a && b) || (beq a b && nat_lt m n)))

one_way_of : (s t : ℤ) (a b : Bool) (m n : ℕ) → bef s a m t b n ≡ true → bef t b n s a m ≡ false
one_way_of s t true true m n h = grind (arith, ints)
one_way_of s t true false m n h = grind (arith, ints)
one_way_of s t false true m n h = grind (arith, ints)
one_way_of s t false false m n h = grind (arith, ints)

third_of : (s t u : ℤ) (a b c : Bool) (m n o : ℕ) → bef s a m t b n ≡ true → bef t b n u c o ≡ true → bef s a m u c o ≡ true
third_of s t u true true true m n o h k = grind (arith, ints)
third_of s t u true true false m n o h k = grind (arith, ints)
third_of s t u true false true m n o h k = grind (arith, ints)
third_of s t u true false false m n o h k = grind (arith, ints)
third_of s t u false true true m n o h k = grind (arith, ints)
third_of s t u false true false m n o h k = grind (arith, ints)
third_of s t u false false true m n o h k = grind (arith, ints)
third_of s t u false false false m n o h k = grind (arith, ints)

apart_of : (s t : ℤ) (a b : Bool) (m n : ℕ) → bef s a m t b n ≡ true → (int_eq t s && (beq b a && nat_eq n m)) ≡ false
apart_of s t true true m n h = grind (arith, ints)
apart_of s t true false m n h = grind (arith, ints)
apart_of s t false true m n h = grind (arith, ints)
apart_of s t false false m n h = grind (arith, ints)

other_of : (s t : ℤ) (a b : Bool) (m n : ℕ) → (int_eq s t && (beq a b && nat_eq m n)) ≡ false → bef s a m t b n ≡ false → bef t b n s a m ≡ true
other_of s t true true m n h k = grind (arith, ints)
other_of s t true false m n h k = grind (arith, ints)
other_of s t false true m n h k = grind (arith, ints)
other_of s t false false m n h k = grind (arith, ints)

itself_of : (s : ℤ) (a : Bool) (m : ℕ) → (int_eq s s && (beq a a && nat_eq m m)) ≡ true
itself_of s true m = grind (arith, ints)
itself_of s false m = grind (arith, ints)

symm_of : (s t : ℤ) (a b : Bool) (m n : ℕ) → (int_eq s t && (beq a b && nat_eq m n)) ≡ (int_eq t s && (beq b a && nat_eq n m))
symm_of s t true true m n = grind (arith, ints)
symm_of s t true false m n = grind (arith, ints)
symm_of s t false true m n = grind (arith, ints)
symm_of s t false false m n = grind (arith, ints)

equal_of : (s t : ℤ) (a b : Bool) (m n : ℕ) → (int_eq s t && (beq a b && nat_eq m n)) ≡ true → (s ≡ t) × (a ≡ b) × (m ≡ n)
equal_of s t true true m n h = (grind (arith, ints), refl, grind (arith, ints))
equal_of s t true false m n h = absurd (grind (arith, ints))
equal_of s t false true m n h = absurd (grind (arith, ints))
equal_of s t false false m n h = (grind (arith, ints), refl, grind (arith, ints))

-- ON EVENTS

pub one_way : (x y : ValidEvent) → comes_before x y ≡ true → comes_before y x ≡ false
one_way x y h = one_way_of x.time y.time x.opens y.opens x.row y.row h

pub third : (x y z : ValidEvent) → comes_before x y ≡ true → comes_before y z ≡ true → comes_before x z ≡ true
third x y z h k = third_of x.time y.time z.time x.opens y.opens z.opens x.row y.row z.row h k

pub apart : (x y : ValidEvent) → comes_before x y ≡ true → same_event y x ≡ false
apart x y h = apart_of x.time y.time x.opens y.opens x.row y.row h

pub other : (x y : ValidEvent) → same_event x y ≡ false → comes_before x y ≡ false → comes_before y x ≡ true
other x y h k = other_of x.time y.time x.opens y.opens x.row y.row h k

pub itself : (x : ValidEvent) → same_event x x ≡ true
itself x = itself_of x.time x.opens x.row

pub symm : (x y : ValidEvent) → same_event x y ≡ same_event y x
symm x y = symm_of x.time y.time x.opens y.opens x.row y.row

pub equal : (x y : ValidEvent) → same_event x y ≡ true → x ≡ y
equal x y h = parts x.time y.time x.opens y.opens x.row y.row (equal_of x.time y.time x.opens y.opens x.row y.row h) where
  parts : (s t : ℤ) (a b : Bool) (m n : ℕ) → (s ≡ t) × (a ≡ b) × (m ≡ n) → ◌≡◌ {A = ValidEvent} (record { time = s; opens = a; row = m }) (record { time = t; opens = b; row = n })
  parts s t a b m n e = rw (e.0, e.1, e.2) refl

-- THE DERIVED ORDER

pub total : IsTotalOrder order.cmp-value.it
total = then_total (on_total (λ (e : ValidEvent). e.time) int_cmp_total) (then_total (on_total (λ (e : ValidEvent). e.opens) bool_cmp_total) (on_total (λ (e : ValidEvent). e.row) nat_cmp_total))

pub int_before : (x y : ℤ) → is_lt (int_cmp x y) ≡ int_lt x y
int_before x y = by_tests (int_lt x y) (int_lt y x) where
  by_tests : (a b : Bool) → is_lt (cond a Less (cond b Greater Equal)) ≡ a
  by_tests true b = refl
  by_tests false true = refl
  by_tests false false = refl

pub nat_before : (m n : ℕ) → is_lt (nat_cmp m n) ≡ nat_lt m n
nat_before m n = by_tests (nat_lt m n) (nat_eq m n) where
  by_tests : (a b : Bool) → is_lt (cond a Less (cond b Equal Greater)) ≡ a
  by_tests true b = refl
  by_tests false true = refl
  by_tests false false = refl

nat_tied : (m n : ℕ) → is_eq (nat_cmp m n) ≡ nat_eq m n
nat_tied m n = by_tests (nat_lt m n) (nat_eq m n) not_both where
  not_both : (nat_lt m n && nat_eq m n) ≡ false
  not_both = grind (arith, nat_tests)

  by_tests : (a b : Bool) → (a && b) ≡ false → is_eq (cond a Less (cond b Equal Greater)) ≡ b
  by_tests true true h = absurd (cc)
  by_tests true false h = refl
  by_tests false true h = refl
  by_tests false false h = refl

less_table : (r : Ordering) (a b : Bool) (s : Ordering) → is_lt (ordering_then r (ordering_then (bool_cmp a b) s)) ≡ (is_lt r || (is_eq r && ((not a && b) || (beq a b && is_lt s))))
less_table Less a b s = refl
less_table Greater a b s = refl
less_table Equal true true s = refl
less_table Equal true false s = refl
less_table Equal false true s = refl
less_table Equal false false s = refl

tie_table : (r : Ordering) (a b : Bool) (s : Ordering) → (is_eq r && (beq a b && is_eq s)) ≡ is_eq (ordering_then r (ordering_then (bool_cmp a b) s))
tie_table Less a b s = refl
tie_table Greater a b s = refl
tie_table Equal true true s = refl
tie_table Equal true false s = refl
tie_table Equal false true s = refl
tie_table Equal false false s = refl

pub less_is : (x y : ValidEvent) → is_lt (order.cmp-value.it x y) ≡ comes_before x y
less_is x y =
    less_table (int_cmp x.time y.time) x.opens y.opens (nat_cmp x.row y.row)
    ∙ ap (λ b. b || (int_eq x.time y.time && ((not x.opens && y.opens) || (beq x.opens y.opens && is_lt (nat_cmp x.row y.row))))) (int_before x.time y.time)
    ∙ ap (λ b. int_lt x.time y.time || (int_eq x.time y.time && ((not x.opens && y.opens) || (beq x.opens y.opens && b)))) (nat_before x.row y.row)

pub tie_is : (x y : ValidEvent) → same.eq-value.it x y ≡ eq_by_cmp order.cmp-value.it x y
tie_is x y =
    ap (λ b. int_eq x.time y.time && (beq x.opens y.opens && b)) (sym (nat_tied x.row y.row))
    ∙ tie_table (int_cmp x.time y.time) x.opens y.opens (nat_cmp x.row y.row)

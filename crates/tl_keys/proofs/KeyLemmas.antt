-- One more key that has a number.
use Rattle.std.proofs.Common.{◌≡◌, ℕ, ℤ, ◌+◌, ◌<◌, Bool, true, false, cond, List, [], ◌∷◌, Some, None, refl, sym, ap, ◌∙◌, subst, arith, Option, ◌==◌}
use Rattle.std.specs.Borrow.{Bor}
use Rattle.std.specs.Cmp.{int_eq_equiv}
use Rattle.std.specs.Cmp.Lexicographic.{nat_list_eq_equiv}
use Rattle.std.specs.Ordering.{int_eq}
use Rattle.tl_types.specs.declared.cells.Cell.{Cell}
use Rattle.tl_types.specs.declared.cells.Cell.TheVariants as cell
use Rattle.tl_types.specs.History.{same_cell}
use Rattle.tl_types.specs.Names.{same_bytes}
use Rattle.tl_types.specs.Resolving.{same_key}
use Rattle.tl_keys.specs.Keys.{KeyNumbers, no_keys, int_number, text_number, number_in, AreApart, KeepsNumbers, number_at}

pub cell_self : (x : Cell) → same_cell x x ≡ true
cell_self (cell.Int i) = int_eq_equiv.refl i
cell_self (cell.Text t) = nat_list_eq_equiv.refl t

pub cell_sym : (x y : Cell) → same_cell x y ≡ same_cell y x
cell_sym (cell.Int i) (cell.Int j) = int_eq_equiv.symm i j
cell_sym (cell.Int i) (cell.Text t) = refl
cell_sym (cell.Text s) (cell.Int j) = refl
cell_sym (cell.Text s) (cell.Text t) = nat_list_eq_equiv.symm s t

pub same_as : (x y z : Cell) → same_cell x y ≡ true → same_cell x z ≡ same_cell y z
same_as (cell.Int i) (cell.Int j) (cell.Int k) e = int_eq_equiv.congr i j k e
same_as (cell.Int i) (cell.Int j) (cell.Text t) e = refl
same_as (cell.Int i) (cell.Text s) z e = absurd (cc)
same_as (cell.Text s) (cell.Int j) z e = absurd (cc)
same_as (cell.Text s) (cell.Text t) (cell.Int k) e = refl
same_as (cell.Text s) (cell.Text t) (cell.Text u) e = nat_list_eq_equiv.congr s t u e

pub same_texts : (s t : List ℕ) (texts : List (Bor (List ℕ) × ℕ)) → same_bytes s t ≡ true → text_number texts s ≡ text_number texts t
same_texts s t [] e = refl
same_texts s t (x ∷ texts) e = by_test (same_bytes s x.0.now) refl (nat_list_eq_equiv.congr s t x.0.now e) (same_texts s t texts e) where
  by_test : (b : Bool) → same_bytes s x.0.now ≡ b → same_bytes s x.0.now ≡ same_bytes t x.0.now → text_number texts s ≡ text_number texts t → text_number (x ∷ texts) s ≡ text_number (x ∷ texts) t
  by_test true k l later = let m : same_bytes t x.0.now ≡ true = sym l ∙ k in rw (k, m) refl
  by_test false k l later = let m : same_bytes t x.0.now ≡ false = sym l ∙ k in rw (k, m) later

same_ints : (i j : ℤ) (ints : List (ℤ × ℕ)) → int_eq i j ≡ true → int_number ints i ≡ int_number ints j
same_ints i j [] e = refl
same_ints i j (x ∷ ints) e = by_test (int_eq i x.0) refl (int_eq_equiv.congr i j x.0 e) (same_ints i j ints e) where
  by_test : (b : Bool) → int_eq i x.0 ≡ b → int_eq i x.0 ≡ int_eq j x.0 → int_number ints i ≡ int_number ints j → int_number (x ∷ ints) i ≡ int_number (x ∷ ints) j
  by_test true k l later = let m : int_eq j x.0 ≡ true = sym l ∙ k in rw (k, m) refl
  by_test false k l later = let m : int_eq j x.0 ≡ false = sym l ∙ k in rw (k, m) later

-- equal keys have equal numbers
pub same_numbers : (keys : KeyNumbers) (x y : Cell) → same_cell x y ≡ true → number_in keys x ≡ number_in keys y
same_numbers keys (cell.Int i) (cell.Int j) e = same_ints i j keys.ints e
same_numbers keys (cell.Int i) (cell.Text t) e = absurd (cc)
same_numbers keys (cell.Text s) (cell.Int j) e = absurd (cc)
same_numbers keys (cell.Text s) (cell.Text t) e = same_texts s t keys.texts e

some_is : {X : Type 0} {x y : X} → Some x ≡ Some y → x ≡ y
some_is h = cc

module _ (old new : KeyNumbers) (key : Cell) (more : (q : Cell) → number_in new q ≡ cond (same_cell key q) (Some old.count) (number_in old q)) (count : new.count ≡ old.count + 1) (none : number_in old key ≡ None) (apart : AreApart old) where
  pub has_new : number_in new key ≡ Some old.count
  has_new = more key ∙ ap (λ b. cond b (Some old.count) (number_in old key)) (cell_self key)

  pub keeps_old : KeepsNumbers old new
  keeps_old q n h = by_test (same_cell key q) refl where
    by_test : (b : Bool) → same_cell key q ≡ b → number_in new q ≡ Some n
    by_test true e = absurd (let a : None ≡ Some n = sym none ∙ same_numbers old key q e ∙ h in cc)
    by_test false e = more q ∙ ap (λ b. cond b (Some old.count) (number_in old q)) e ∙ h

  is_old : (q : Cell) (n : ℕ) → same_cell key q ≡ false → number_in new q ≡ Some n → number_in old q ≡ Some n
  is_old q n e h = sym (more q ∙ ap (λ b. cond b (Some old.count) (number_in old q)) e) ∙ h

  is_new : (q : Cell) (n : ℕ) → same_cell key q ≡ true → number_in new q ≡ Some n → old.count ≡ n
  is_new q n e h = some_is (sym (more q ∙ ap (λ b. cond b (Some old.count) (number_in old q)) e) ∙ h)

  pub apart_new : AreApart new
  apart_new =
      record {
        below = λ q. λ n. λ h. by_test q n h (same_cell key q) refl;
        one = λ q. λ r. λ n. λ h. λ k. by_tests q r n h k (same_cell key q) refl (same_cell key r) refl;
      } where
        by_test : (q : Cell) (n : ℕ) → number_in new q ≡ Some n → (b : Bool) → same_cell key q ≡ b → n < new.count
        by_test q n h true e = let a = is_new q n e h in omega (arith, a, count)
        by_test q n h false e = let a = apart.below q n (is_old q n e h) in omega (arith, a, count)

        by_tests : (q r : Cell) (n : ℕ) → number_in new q ≡ Some n → number_in new r ≡ Some n → (b : Bool) → same_cell key q ≡ b → (d : Bool) → same_cell key r ≡ d → same_cell q r ≡ true
        by_tests q r n h k true e true f = sym (same_as key q r e) ∙ f
        by_tests q r n h k true e false f = absurd (let a = is_new q n e h in let b = apart.below r n (is_old r n f k) in omega (arith, a, b))
        by_tests q r n h k false e true f = absurd (let a = is_new r n f k in let b = apart.below q n (is_old q n e h) in omega (arith, a, b))
        by_tests q r n h k false e false f = apart.one q r n (is_old q n e h) (is_old r n f k)

-- no key is apart from others
pub none_apart : AreApart no_keys
none_apart = record { below = λ q. λ n. λ h. absurd (no_number q n h); one = λ q. λ r. λ n. λ h. λ k. absurd (no_number q n h) } where
  no_number : (q : Cell) (n : ℕ) → number_in no_keys q ≡ Some n → ⊥
  no_number (cell.Int i) n h = absurd (cc)
  no_number (cell.Text t) n h = absurd (cc)

-- ONE MORE ENTRY OF A MAP

module _ (now : KeyNumbers) (before ints : List (ℤ × ℕ)) (texts : List (Bor (List ℕ) × ℕ)) (count : ℕ) (key : ℤ) (view : record { ints = before; texts = texts; count = count } ≡ now) (apart : AreApart now) (none : int_number before key ≡ None) (updates : (q : ℤ) → int_number ints q ≡ cond (int_eq key q) (Some count) (int_number before q)) where
  abbrev int_old : KeyNumbers
  int_old = record { ints = before; texts = texts; count = count }

  abbrev int_new : KeyNumbers
  int_new = record { ints = ints; texts = texts; count = count + 1 }

  int_more : (q : Cell) → number_in int_new q ≡ cond (same_cell (cell.Int key) q) (Some count) (number_in int_old q)
  int_more (cell.Int i) = updates i
  int_more (cell.Text t) = refl

  pub int_apart : AreApart (record { ints = ints; texts = texts; count = count + 1 })
  int_apart = apart_new int_old int_new (cell.Int key) int_more refl none (subst AreApart (sym view) apart)

module _ (now : KeyNumbers) (ints : List (ℤ × ℕ)) (before texts : List (Bor (List ℕ) × ℕ)) (count : ℕ) (key : Bor (List ℕ)) (view : record { ints = ints; texts = before; count = count } ≡ now) (apart : AreApart now) (none : text_number before key.now ≡ None) (updates : (q : List ℕ) → text_number texts q ≡ cond (same_bytes key.now q) (Some count) (text_number before q)) where
  abbrev text_old : KeyNumbers
  text_old = record { ints = ints; texts = before; count = count }

  abbrev text_new : KeyNumbers
  text_new = record { ints = ints; texts = texts; count = count + 1 }

  text_more : (q : Cell) → number_in text_new q ≡ cond (same_cell (cell.Text key.now) q) (Some count) (number_in text_old q)
  text_more (cell.Int i) = refl
  text_more (cell.Text t) = updates t

  pub text_apart : AreApart (record { ints = ints; texts = texts; count = count + 1 })
  text_apart = apart_new text_old text_new (cell.Text key.now) text_more refl none (subst AreApart (sym view) apart)

  pub text_kept : KeepsNumbers now (record { ints = ints; texts = texts; count = count + 1 })
  text_kept = subst (λ k. KeepsNumbers k text_new) view (keeps_old text_old text_new (cell.Text key.now) text_more refl none (subst AreApart (sym view) apart))

-- EQUAL KEYS

-- keys are equal exactly where their numbers are
pub numbers_agree : (keys : KeyNumbers) → AreApart keys → (o u : Option Cell) (m k : ℕ) → number_at keys o ≡ Some m → number_at keys u ≡ Some k → (m == k) ≡ same_key o u
numbers_agree keys apart None u m k h l = absurd (cc)
numbers_agree keys apart (Some x) None m k h l = absurd (cc)
numbers_agree keys apart (Some x) (Some y) m k h l = by_tests (same_cell x y) refl (m == k) refl where
  some_same : {X : Type 0} {v w : X} → Some v ≡ Some w → v ≡ w
  some_same h = cc

  by_tests : (s : Bool) → same_cell x y ≡ s → (t : Bool) → (m == k) ≡ t → (m == k) ≡ same_cell x y
  by_tests true e true f = f ∙ sym e
  by_tests false e false f = f ∙ sym e
  by_tests true e false f = absurd (let g : m ≡ k = some_same (sym h ∙ same_numbers keys x y e ∙ l) in let j : (m == k) ≡ true = grind (arith) in cc)
  by_tests false e true f = absurd (let g : m ≡ k = grind (arith) in let j = apart.one x y m h (l ∙ ap Some (sym g)) in cc)

-- The rows that are open after one event more.
use Rattle.std.proofs.Common.{◌≡◌, ℕ, zero, suc, ◌+◌, ◌≤◌, Bool, true, false, ◌&&◌, ◌||◌, not, cond, nat_eq, List, [], ◌∷◌, ◌++◌, length, map, Option, Some, None, refl, sym, ap, ◌∙◌, arith, subst, slice_get}
use Rattle.std.specs.Bool.{beq}
use Rattle.std.specs.Ordering.{int_eq}
use Rattle.std.specs.List.{filter, enumerate_from}
use Rattle.std.proofs.lemmas.Bool.{ne_eqb}
use Rattle.std.proofs.lemmas.List.Folds.{list_any-append}
use Rattle.tl_types.specs.declared.events.ValidEvent.{ValidEvent}
use Rattle.tl_types.specs.Plain as plain
use Rattle.tl_running.specs.Standing.{Inserts}
use Rattle.tl_running.proofs.TellLemmas.{Turn}
use Rattle.tl_app.specs.Opening.{same_event, has, begin_of, end_of, is_open, open_rows, Turns}

-- ROWS THAT A TEST CHOOSES

abbrev pub chosen : (ℕ → plain.Row → Bool) → ℕ → List plain.Row → List plain.Row
chosen P n rows = map (λ (r : ℕ × plain.Row). r.1) (filter (λ (r : ℕ × plain.Row). P r.0 r.1) (enumerate_from n rows))

step : (b : Bool) (n : ℕ) (r : plain.Row) (rs : List (ℕ × plain.Row)) → map (λ (r : ℕ × plain.Row). r.1) (cond b ((n, r) ∷ rs) rs) ≡ cond b (r ∷ map (λ (r : ℕ × plain.Row). r.1) rs) (map (λ (r : ℕ × plain.Row). r.1) rs)
step true n r rs = refl
step false n r rs = refl

pub chosen_step : (P : ℕ → plain.Row → Bool) (n : ℕ) (r : plain.Row) (rows : List plain.Row) → chosen P n (r ∷ rows) ≡ cond (P n r) (r ∷ chosen P (n + 1) rows) (chosen P (n + 1) rows)
chosen_step P n r rows = step (P n r) n r (filter (λ (r : ℕ × plain.Row). P r.0 r.1) (enumerate_from (n + 1) rows))

pub chosen_few : (P : ℕ → plain.Row → Bool) (n : ℕ) (rows : List plain.Row) → length (chosen P n rows) ≤ length rows
chosen_few P n [] = omega arith
chosen_few P n (r ∷ rows) = subst (λ xs. length xs ≤ suc (length rows)) (sym (chosen_step P n r rows)) (by_test (P n r) (chosen_few P (n + 1) rows)) where
  by_test : (b : Bool) → length (chosen P (n + 1) rows) ≤ length rows → length (cond b (r ∷ chosen P (n + 1) rows) (chosen P (n + 1) rows)) ≤ suc (length rows)
  by_test true h = omega arith
  by_test false h = omega arith

module _ (P Q : ℕ → plain.Row → Bool) where
  both_steps : (n : ℕ) (r : plain.Row) (rows : List plain.Row) → P n r ≡ Q n r → chosen P (n + 1) rows ≡ chosen Q (n + 1) rows → chosen P n (r ∷ rows) ≡ chosen Q n (r ∷ rows)
  both_steps n r rows e ih =
      chosen_step P n r rows ∙ ap (λ b. cond b (r ∷ chosen P (n + 1) rows) (chosen P (n + 1) rows)) e
      ∙ ap (λ xs. cond (Q n r) (r ∷ xs) xs) ih ∙ sym (chosen_step Q n r rows)

  pub chosen_same : (n : ℕ) (rows : List plain.Row) → ((i : ℕ) (r : plain.Row) → slice_get rows i ≡ Some r → P (n + i) r ≡ Q (n + i) r) → chosen P n rows ≡ chosen Q n rows
  chosen_same n [] h = refl
  chosen_same n (r ∷ rows) h =
      let e : n + 0 ≡ n = omega arith in
      both_steps n r rows (subst (λ k. P k r ≡ Q k r) e (h 0 r refl)) (chosen_same (n + 1) rows (λ i s is. subst (λ k. P k s ≡ Q k s) (next n i) (h (suc i) s is))) where
        next : (n i : ℕ) → n + suc i ≡ n + 1 + i
        next n i = omega arith

  -- they choose the same but for one row, which the second alone chooses
  pub chosen_more : (n i : ℕ) (rows : List plain.Row) (row : plain.Row) → slice_get rows i ≡ Some row → P (n + i) row ≡ false → Q (n + i) row ≡ true
      → ((k : ℕ) (r : plain.Row) → (k ≡ n + i → ⊥) → P k r ≡ Q k r) → Inserts row (chosen P n rows) (chosen Q n rows)
  chosen_more n i [] row is out in_ h = absurd (cc)
  chosen_more n zero (r ∷ rows) row is out in_ h =
      let same : r ≡ row = some_is r row is in
      let e : n + 0 ≡ n = omega arith in
      let p : P n r ≡ false = subst (λ k. P k r ≡ false) e (ap (P (n + 0)) same ∙ out) in
      let q : Q n r ≡ true = subst (λ k. Q k r ≡ true) e (ap (Q (n + 0)) same ∙ in_) in
      let tail : chosen P (n + 1) rows ≡ chosen Q (n + 1) rows = chosen_same (n + 1) rows (λ j s is. h (n + 1 + j) s (λ bad. omega (arith, bad))) in
      record {
        front = [];
        back = chosen P (n + 1) rows;
        without = chosen_step P n r rows ∙ ap (λ b. cond b (r ∷ chosen P (n + 1) rows) (chosen P (n + 1) rows)) p;
        with = chosen_step Q n r rows ∙ ap (λ b. cond b (r ∷ chosen Q (n + 1) rows) (chosen Q (n + 1) rows)) q ∙ ap (λ x. x ∷ chosen Q (n + 1) rows) same ∙ ap (λ xs. row ∷ xs) (sym tail);
      } where
        some_is : (x y : plain.Row) → Some x ≡ Some y → x ≡ y
        some_is x y is = cc
  chosen_more n (suc i) (r ∷ rows) row is out in_ h =
      let e : n + suc i ≡ n + 1 + i = omega arith in
      let same : P n r ≡ Q n r = h n r (λ bad. omega (arith, bad)) in
      let tail = chosen_more (n + 1) i rows row is (subst (λ k. P k row ≡ false) e out) (subst (λ k. Q k row ≡ true) e in_) (λ k s apart. h k s (λ bad. apart (bad ∙ e))) in
      behind (Q n r) (chosen_step P n r rows ∙ ap (λ b. cond b (r ∷ chosen P (n + 1) rows) (chosen P (n + 1) rows)) same) (chosen_step Q n r rows) tail where
        behind : (b : Bool) → chosen P n (r ∷ rows) ≡ cond b (r ∷ chosen P (n + 1) rows) (chosen P (n + 1) rows) → chosen Q n (r ∷ rows) ≡ cond b (r ∷ chosen Q (n + 1) rows) (chosen Q (n + 1) rows)
            → Inserts row (chosen P (n + 1) rows) (chosen Q (n + 1) rows) → Inserts row (chosen P n (r ∷ rows)) (chosen Q n (r ∷ rows))
        behind true p q ins = record { front = r ∷ ins.front; back = ins.back; without = p ∙ ap (λ xs. r ∷ xs) ins.without; with = q ∙ ap (λ xs. r ∷ xs) ins.with }
        behind false p q ins = record { front = ins.front; back = ins.back; without = p ∙ ins.without; with = q ∙ ins.with }

-- ONE EVENT MORE

and_none : (a b c : Bool) → c ≡ false → ((a && (b && c)) || false) ≡ false
and_none true true c e = rw e refl
and_none true false c e = refl
and_none false b c e = refl

or_none : (a b : Bool) → b ≡ false → (a || b) ≡ a
or_none true b e = refl
or_none false b e = e

pub has_append : (z : ValidEvent) (xs ys : List ValidEvent) → has (xs ++ ys) z ≡ (has xs z || has ys z)
has_append z xs ys = list_any-append (λ y. same_event y z) xs ys

-- an event of another row does not tell of this one
has_apart : (done : List ValidEvent) (e z : ValidEvent) → (e.row ≡ z.row → ⊥) → has (done ++ e ∷ []) z ≡ has done z
has_apart done e z apart =
    has_append z done (e ∷ []) ∙ or_none (has done z) (has (e ∷ []) z) (and_none (int_eq e.time z.time) (beq e.opens z.opens) (nat_eq e.row z.row) (ne_eqb e.row z.row apart))

open_apart : (done : List ValidEvent) (e : ValidEvent) (id : ℕ) (period : Option plain.Period) → (id ≡ e.row → ⊥) → is_open done id period ≡ is_open (done ++ e ∷ []) id period
open_apart done e id None apart = refl
open_apart done e id (Some p) apart =
    sym (ap (λ b. b && not (has (done ++ e ∷ []) (end_of id p))) (has_apart done e (begin_of id p) (λ s. apart (sym s)))
    ∙ ap (λ b. has done (begin_of id p) && not b) (has_apart done e (end_of id p) (λ s. apart (sym s))))

pub turned : (rows : List plain.Row) (done : List ValidEvent) (e : ValidEvent) (r : plain.Row) → slice_get rows e.row ≡ Some r → Turns done e r.period → Turn e.opens r (open_rows rows done) (open_rows rows (done ++ e ∷ []))
turned rows done e r is turns = record {
  comes = λ opens. chosen_more (λ id s. is_open done id s.period) (λ id s. is_open (done ++ e ∷ []) id s.period) 0 e.row rows r is (at (λ k. is_open done k r.period) (turns.before ∙ ap not opens)) (at (λ k. is_open (done ++ e ∷ []) k r.period) (turns.after ∙ opens))
      (λ k s apart. open_apart done e k s.period (λ bad. apart (bad ∙ plus)));
  goes = λ closes. chosen_more (λ id s. is_open (done ++ e ∷ []) id s.period) (λ id s. is_open done id s.period) 0 e.row rows r is (at (λ k. is_open (done ++ e ∷ []) k r.period) (turns.after ∙ closes)) (at (λ k. is_open done k r.period) (turns.before ∙ ap not closes))
      (λ k s apart. sym (open_apart done e k s.period (λ bad. apart (bad ∙ plus))));
} where
  plus : e.row ≡ 0 + e.row
  plus = omega arith

  at : (f : ℕ → Bool) {b : Bool} → f e.row ≡ b → f (0 + e.row) ≡ b
  at f h = ap f (sym plus) ∙ h

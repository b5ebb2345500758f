-- The events of valid time of some rows, and which rows are open after them.
use Rattle.std.proofs.Common.{◌≡◌, ℕ, zero, suc, ◌+◌, ◌<◌, ℤ, ◌<ℤ◌, ◌≤ℤ◌, Bool, true, false, ◌&&◌, ◌||◌, not, cond, nat_eq, nat_lt, int_le, int_lt, List, [], ◌∷◌, ◌++◌, length, map, take, get_or, Option, Some, None, ◌⊎◌, inl, inr, refl, sym, ap, ◌∙◌, arith, subst, slice_get}
use Rattle.std.specs.Bool.{beq}
use Rattle.std.specs.Ordering.{int_eq}
use Rattle.std.specs.List.{filter, enumerate_from}
use Rattle.std.proofs.lemmas.Int.{ints}
use Rattle.std.proofs.lemmas.Map.Views.{any-filter_same}
use Rattle.std.proofs.lemmas.Option.{slice_get_within}
use Rattle.tl_types.specs.declared.events.ValidEvent.{ValidEvent}
use Rattle.tl_types.specs.Plain as plain
use Rattle.tl_types.specs.Checkpoints.{comes_first, comes_before, ends_of, valid_events_in}
use Rattle.tl_types.specs.History.{with_ids, is_visible, is_within}
use Rattle.tl_types.proofs.ValidEventOrder.{one_way, itself, equal}
use Rattle.tl_bits.specs.Sets.{is_member}
use Rattle.tl_ckpt.specs.Valid.{Rises}
use Rattle.tl_ckpt.proofs.Members.{Above}
use Rattle.tl_index.proofs.ChangeLemmas.{rises_valid, has_valid}
use Rattle.tl_app.specs.Opening.{same_event, has, begin_of, end_of, is_open, open_rows, up_to, InTime, Turns, Alternate}
use Rattle.tl_app.specs.Parts.{part_of}
use Rattle.tl_query.proofs.ValueOrder.{all_filter}
use Rattle.tl_app.proofs.OpenLemmas.{chosen, chosen_step, chosen_same, has_append}

-- EVENTS THAT A TEST CHOOSES

has_filter : (P : ValidEvent → Bool) (xs : List ValidEvent) (z : ValidEvent) → has (filter P xs) z ≡ (P z && has xs z)
has_filter P xs z = any-filter_same (λ y. same_event y z) P (P z) (λ y h. ap P (equal y z h)) xs

has_stands : (rows : List plain.Row) (v : ℕ) (z : ValidEvent) (r : plain.Row) → slice_get rows z.row ≡ Some r → has (valid_events_in rows v) z ≡ (is_visible v r && has (ends_of z.row r.period) z)
has_stands rows v z r here = rw here at (has_valid rows v z)

has_nobody : (rows : List plain.Row) (v : ℕ) (z : ValidEvent) → slice_get rows z.row ≡ None → has (valid_events_in rows v) z ≡ false
has_nobody rows v z here = rw here at (has_valid rows v z)

has_part : (chooses : ℕ → Bool) (rows : List plain.Row) (v : ℕ) (z : ValidEvent) → has (part_of chooses rows v) z ≡ (chooses z.row && has (valid_events_in rows v) z)
has_part chooses rows v z = has_filter (λ e. chooses e.row) (valid_events_in rows v) z

rises_filter : (P : ValidEvent → Bool) (xs : List ValidEvent) → Rises xs → Rises (filter P xs)
rises_filter P [] up = tt
rises_filter P (x ∷ xs) up = by_test (P x) (rises_filter P xs up.1) where
  by_test : (b : Bool) → Rises (filter P xs) → Rises (cond b (x ∷ filter P xs) (filter P xs))
  by_test true h = (all_filter (λ y. comes_before x y ≡ true) P xs up.0, h)
  by_test false h = h

rises_part : (chooses : ℕ → Bool) (rows : List plain.Row) (v : ℕ) → Rises (part_of chooses rows v)
rises_part chooses rows v = rises_filter (λ e. chooses e.row) (valid_events_in rows v) (rises_valid rows v)

-- IN ORDER OF TIME

not_later : (x y : ValidEvent) → comes_before x y ≡ true → x.time ≤ℤ y.time
not_later x y h = by_parts x.time y.time ((not x.opens && y.opens) || (beq x.opens y.opens && nat_lt x.row y.row)) h where
  by_parts : (s t : ℤ) (b : Bool) → (int_lt s t || (int_eq s t && b)) ≡ true → s ≤ℤ t
  by_parts s t b e = grind (arith, ints)

above_time : (x : ValidEvent) (xs : List ValidEvent) (k : ℕ) (d : ValidEvent) → Above x xs → k < length xs → x.time ≤ℤ (get_or xs k d).time
above_time x [] k d all l = absurd (omega arith)
above_time x (y ∷ ys) zero d all l = not_later x y all.0
above_time x (y ∷ ys) (suc k) d all l = above_time x ys k d all.1 (omega arith)

in_time : (xs : List ValidEvent) → Rises xs → InTime xs
in_time [] up j k d l m = absurd (omega arith)
in_time (x ∷ xs) up zero zero d l m = omega (arith, ints)
in_time (x ∷ xs) up zero (suc k) d l m = above_time x xs k d up.0 (omega arith)
in_time (x ∷ xs) up (suc j) zero d l m = absurd (omega arith)
in_time (x ∷ xs) up (suc j) (suc k) d l m = in_time xs up.1 j k d (omega arith) (omega arith)

-- THE EVENTS BEFORE ONE

some_event : (x y : ValidEvent) → Some x ≡ Some y → x ≡ y
some_event x y is = cc

none_from : (e : ValidEvent) (xs : List ValidEvent) → Above e xs → filter (λ x. comes_before x e) xs ≡ []
none_from e [] all = refl
none_from e (x ∷ xs) all = let h = one_way e x all.0 in rw h (none_from e xs all.1)

not_itself : (e : ValidEvent) → comes_before e e ≡ false
not_itself e = by_test (comes_before e e) refl where
  by_test : (b : Bool) → comes_before e e ≡ b → b ≡ false
  by_test true h = absurd (let f = one_way e e h in cc)
  by_test false h = refl

above_get : (x : ValidEvent) (xs : List ValidEvent) (i : ℕ) (e : ValidEvent) → Above x xs → slice_get xs i ≡ Some e → comes_before x e ≡ true
above_get x [] i e all is = absurd (cc)
above_get x (y ∷ ys) zero e all is = subst (λ z. comes_before x z ≡ true) (some_event y e is) all.0
above_get x (y ∷ ys) (suc i) e all is = above_get x ys i e all.1 is

-- the events before one of a list in order are those that come before it
before_is : (xs : List ValidEvent) (i : ℕ) (e : ValidEvent) → Rises xs → slice_get xs i ≡ Some e → filter (λ x. comes_before x e) xs ≡ take i xs
before_is [] i e up is = absurd (cc)
before_is (x ∷ xs) zero e up is =
    let same : x ≡ e = some_event x e is in
    let h : comes_before x e ≡ false = ap (comes_before x) (sym same) ∙ not_itself x in
    rw h (none_from e xs (subst (λ y. Above y xs) same up.0))
before_is (x ∷ xs) (suc i) e up is =
    let h = above_get x xs i e up.0 is in
    rw h (ap (λ ys. x ∷ ys) (before_is xs i e up.1 is))

has_at : (xs : List ValidEvent) (i : ℕ) (e : ValidEvent) → slice_get xs i ≡ Some e → has xs e ≡ true
has_at [] i e is = absurd (cc)
has_at (x ∷ xs) zero e is = ap (λ y. same_event y e || has xs e) (some_event x e is) ∙ ap (λ b. b || has xs e) (itself e)
has_at (x ∷ xs) (suc i) e is = ap (λ b. same_event x e || b) (has_at xs i e is) ∙ or_true (same_event x e) where
  or_true : (b : Bool) → (b || true) ≡ true
  or_true true = refl
  or_true false = refl

-- AN EVENT TURNS ITS ROW

begins_first : (id : ℕ) (p : plain.Period) → p.from <ℤ p.to → comes_before (begin_of id p) (end_of id p) ≡ true
begins_first id p l = by_parts p.from p.to (int_eq p.from p.to && comes_first (begin_of id p) (end_of id p)) l where
  by_parts : (s t : ℤ) (b : Bool) → s <ℤ t → (int_lt s t || b) ≡ true
  by_parts s t b l = grind (arith, ints)

apart_ends : (a b : Bool) → ((a && (false && b)) || false) ≡ false
apart_ends true b = refl
apart_ends false b = refl

module _ (xs done : List ValidEvent) (id : ℕ) (p : plain.Period) (lasts : p.from <ℤ p.to) where
  turns_begin : ((z : ValidEvent) → has done z ≡ (comes_before z (begin_of id p) && has xs z)) → Turns done (begin_of id p) (Some p)
  turns_begin tells =
      let none : has done (begin_of id p) ≡ false = tells (begin_of id p) ∙ ap (λ t. t && has xs (begin_of id p)) (not_itself (begin_of id p)) in
      let early : has done (end_of id p) ≡ false = tells (end_of id p) ∙ ap (λ t. t && has xs (end_of id p)) (one_way (begin_of id p) (end_of id p) (begins_first id p lasts)) in
      let here : has (done ++ begin_of id p ∷ []) (begin_of id p) ≡ true = has_append (begin_of id p) done (begin_of id p ∷ []) ∙ ap (λ t. t || (same_event (begin_of id p) (begin_of id p) || false)) none ∙ ap (λ t. t || false) (itself (begin_of id p)) in
      let not_there : has (done ++ begin_of id p ∷ []) (end_of id p) ≡ false = has_append (end_of id p) done (begin_of id p ∷ []) ∙ ap (λ t. t || (same_event (begin_of id p) (end_of id p) || false)) early ∙ apart_ends (int_eq p.from p.to) (nat_eq id id) in
      record {
        before = ap (λ t. t && not (has done (end_of id p))) none;
        after = ap (λ t. t && not (has (done ++ begin_of id p ∷ []) (end_of id p))) here ∙ ap not not_there;
      }

  turns_end : ((z : ValidEvent) → has done z ≡ (comes_before z (end_of id p) && has xs z)) → has xs (begin_of id p) ≡ true → Turns done (end_of id p) (Some p)
  turns_end tells among =
      let none : has done (end_of id p) ≡ false = tells (end_of id p) ∙ ap (λ t. t && has xs (end_of id p)) (not_itself (end_of id p)) in
      let begun : has done (begin_of id p) ≡ true = tells (begin_of id p) ∙ ap (λ t. t && has xs (begin_of id p)) (begins_first id p lasts) ∙ among in
      let here : has (done ++ end_of id p ∷ []) (end_of id p) ≡ true = has_append (end_of id p) done (end_of id p ∷ []) ∙ ap (λ t. t || (same_event (end_of id p) (end_of id p) || false)) none ∙ ap (λ t. t || false) (itself (end_of id p)) in
      record {
        before = ap (λ t. t && not (has done (end_of id p))) begun ∙ ap not none;
        after = ap (λ t. has (done ++ end_of id p ∷ []) (begin_of id p) && not t) here ∙ and_false (has (done ++ end_of id p ∷ []) (begin_of id p));
      } where
        and_false : (t : Bool) → (t && false) ≡ false
        and_false true = refl
        and_false false = refl

-- the ends of a period are among its ends, and nothing else
begin_among : (id : ℕ) (p : plain.Period) → has (ends_of id (Some p)) (begin_of id p) ≡ true
begin_among id p = ap (λ t. t || (same_event (end_of id p) (begin_of id p) || false)) (itself (begin_of id p))

end_among : (id : ℕ) (p : plain.Period) → has (ends_of id (Some p)) (end_of id p) ≡ true
end_among id p = ap (λ t. same_event (begin_of id p) (end_of id p) || (t || false)) (itself (end_of id p)) ∙ or_true (same_event (begin_of id p) (end_of id p)) where
  or_true : (b : Bool) → (b || (true || false)) ≡ true
  or_true true = refl
  or_true false = refl

which_end : (id : ℕ) (p : plain.Period) (e : ValidEvent) → has (ends_of id (Some p)) e ≡ true → (begin_of id p ≡ e) ⊎ (end_of id p ≡ e)
which_end id p e h = by_tests (same_event (begin_of id p) e) (same_event (end_of id p) e) refl refl h where
  by_tests : (s t : Bool) → same_event (begin_of id p) e ≡ s → same_event (end_of id p) e ≡ t → (s || (t || false)) ≡ true → (begin_of id p ≡ e) ⊎ (end_of id p ≡ e)
  by_tests true t f g h = inl (equal (begin_of id p) e f)
  by_tests false true f g h = inr (equal (end_of id p) e g)
  by_tests false false f g h = absurd (cc)

and_parts : (a b c : Bool) → (a && (b && c)) ≡ true → (a ≡ true) × (b ≡ true) × (c ≡ true)
and_parts true true true h = (refl, refl, refl)
and_parts true true false h = absurd (cc)
and_parts true false c h = absurd (cc)
and_parts false b c h = absurd (cc)

module _ (chooses : ℕ → Bool) (rows : List plain.Row) (v : ℕ) where
  among : (z : ValidEvent) (r : plain.Row) → slice_get rows z.row ≡ Some r → has (part_of chooses rows v) z ≡ (chooses z.row && (is_visible v r && has (ends_of z.row r.period) z))
  among z r here = has_part chooses rows v z ∙ ap (λ b. chooses z.row && b) (has_stands rows v z r here)

  turns_part : (i : ℕ) (e : ValidEvent) (r : plain.Row) (p : plain.Period) → slice_get (part_of chooses rows v) i ≡ Some e → slice_get rows e.row ≡ Some r → r.period ≡ Some p → p.from <ℤ p.to → Turns (take i (part_of chooses rows v)) e r.period
  turns_part i e r p is here period lasts =
      let xs = part_of chooses rows v in
      let tells : (z : ValidEvent) → has (take i xs) z ≡ (comes_before z e && has xs z) = λ z. ap (λ done. has done z) (sym (before_is xs i e (rises_part chooses rows v) is)) ∙ has_filter (λ x. comes_before x e) xs z in
      let inside = and_parts (chooses e.row) (is_visible v r) (has (ends_of e.row r.period) e) (sym (among e r here) ∙ has_at xs i e is) in
      subst (Turns (take i xs) e) (sym period) (by_end tells inside.0 inside.1 (which_end e.row p e (ap (λ q. has (ends_of e.row q) e) (sym period) ∙ inside.2))) where
        by_end : ((z : ValidEvent) → has (take i (part_of chooses rows v)) z ≡ (comes_before z e && has (part_of chooses rows v) z)) → chooses e.row ≡ true → is_visible v r ≡ true
            → (begin_of e.row p ≡ e) ⊎ (end_of e.row p ≡ e) → Turns (take i (part_of chooses rows v)) e (Some p)
        by_end tells kept seen (inl same) =
            subst (λ x. Turns (take i (part_of chooses rows v)) x (Some p)) same
            (turns_begin (part_of chooses rows v) (take i (part_of chooses rows v)) e.row p lasts (subst (λ x. (z : ValidEvent) → has (take i (part_of chooses rows v)) z ≡ (comes_before z x && has (part_of chooses rows v) z)) (sym same) tells))
        by_end tells kept seen (inr same) =
            subst (λ x. Turns (take i (part_of chooses rows v)) x (Some p)) same
            (turns_end (part_of chooses rows v) (take i (part_of chooses rows v)) e.row p lasts (subst (λ x. (z : ValidEvent) → has (take i (part_of chooses rows v)) z ≡ (comes_before z x && has (part_of chooses rows v) z)) (sym same) tells)
            (among (begin_of e.row p) r here ∙ ap (λ t. t && (is_visible v r && has (ends_of e.row r.period) (begin_of e.row p))) kept ∙ ap (λ t. t && has (ends_of e.row r.period) (begin_of e.row p)) seen
            ∙ ap (λ q. has (ends_of e.row q) (begin_of e.row p)) period ∙ begin_among e.row p))

  row_there : (z : ValidEvent) → has (part_of chooses rows v) z ≡ true → z.row < length rows
  row_there z h = by_row (slice_get rows z.row) refl where
    none : (b : Bool) → (b && false) ≡ false
    none true = refl
    none false = refl

    by_row : (o : Option plain.Row) → slice_get rows z.row ≡ o → z.row < length rows
    by_row None is = absurd (let f = has_part chooses rows v z ∙ ap (λ b. chooses z.row && b) (has_nobody rows v z is) ∙ none (chooses z.row) in cc)
    by_row (Some r) is = slice_get_within rows z.row r is

  pub alternate_part : Alternate rows (part_of chooses rows v)
  alternate_part = record {
    there = λ i e is. row_there e (has_at (part_of chooses rows v) i e is);
    turns = turns_part;
    order = in_time (part_of chooses rows v) (rises_part chooses rows v);
  }

  -- WHICH ROWS ARE OPEN AT A MOMENT

  ends_at : (m : ℤ) (z : ValidEvent) (r : plain.Row) → slice_get rows z.row ≡ Some r → has (ends_of z.row r.period) z ≡ true → has (up_to (part_of chooses rows v) m) z ≡ (int_le z.time m && (chooses z.row && (is_visible v r && true)))
  ends_at m z r here end =
      has_filter (λ e. int_le e.time m) (part_of chooses rows v) z ∙ ap (λ t. int_le z.time m && t) (among z r here)
      ∙ ap (λ t. int_le z.time m && (chooses z.row && (is_visible v r && t))) end

  open_at : (m : ℤ) (id : ℕ) (r : plain.Row) → slice_get rows id ≡ Some r → is_open (up_to (part_of chooses rows v) m) id r.period ≡ (chooses id && (is_visible v r && is_within m r.period))
  open_at m id r here = by_period r.period refl where
    table : (a b c d : Bool) → ((a && (c && (d && true))) && not (b && (c && (d && true)))) ≡ (c && (d && (a && not b)))
    table true true true true = refl
    table true true true false = refl
    table true true false d = refl
    table true false true true = refl
    table true false true false = refl
    table true false false d = refl
    table false true true true = refl
    table false true true false = refl
    table false true false d = refl
    table false false true true = refl
    table false false true false = refl
    table false false false d = refl

    none : (c d : Bool) → false ≡ (c && (d && false))
    none true true = refl
    none true false = refl
    none false d = refl

    before : (s t : ℤ) → not (int_le s t) ≡ int_lt t s
    before s t = grind (arith, ints)

    by_period : (q : Option plain.Period) → r.period ≡ q → is_open (up_to (part_of chooses rows v) m) id q ≡ (chooses id && (is_visible v r && is_within m q))
    by_period None is = none (chooses id) (is_visible v r)
    by_period (Some p) is =
        ap (λ t. t && not (has (up_to (part_of chooses rows v) m) (end_of id p))) (ends_at m (begin_of id p) r here (ap (λ q. has (ends_of id q) (begin_of id p)) is ∙ begin_among id p))
        ∙ ap (λ t. (int_le p.from m && (chooses id && (is_visible v r && true))) && not t) (ends_at m (end_of id p) r here (ap (λ q. has (ends_of id q) (end_of id p)) is ∙ end_among id p))
        ∙ table (int_le p.from m) (int_le p.to m) (chooses id) (is_visible v r)
        ∙ ap (λ t. chooses id && (is_visible v r && (int_le p.from m && t))) (before p.to m)

  -- THE DEFINITION'S ROWS

  chosen_by : (q : plain.Row → Bool) (m : ℤ) (n : ℕ) (rs : List plain.Row) → ((i : ℕ) (r : plain.Row) → slice_get rs i ≡ Some r → chooses (n + i) ≡ q r)
      → chosen (λ id r. chooses id && (is_visible v r && is_within m r.period)) n rs ≡ filter q (map (λ (r : ℕ × plain.Row). r.1) (filter (λ (r : ℕ × plain.Row). is_within m r.1.period) (filter (λ (r : ℕ × plain.Row). is_visible v r.1) (enumerate_from n rs))))
  chosen_by q m n [] h = refl
  chosen_by q m n (r ∷ rs) h =
      chosen_step (λ id r. chooses id && (is_visible v r && is_within m r.period)) n r rs
      ∙ ap (λ t. cond (t && (is_visible v r && is_within m r.period)) (r ∷ chosen (λ id r. chooses id && (is_visible v r && is_within m r.period)) (n + 1) rs) (chosen (λ id r. chooses id && (is_visible v r && is_within m r.period)) (n + 1) rs)) (ap chooses zero_more ∙ h 0 r refl)
      ∙ ap (λ xs. cond (q r && (is_visible v r && is_within m r.period)) (r ∷ xs) xs) (chosen_by q m (n + 1) rs (λ i s is. ap chooses (next i) ∙ h (suc i) s is))
      ∙ by_tests (is_visible v r) (is_within m r.period) where
        zero_more : n ≡ n + 0
        zero_more = omega arith

        next : (i : ℕ) → n + 1 + i ≡ n + suc i
        next i = omega arith

        rest : List (ℕ × plain.Row)
        rest = filter (λ (r : ℕ × plain.Row). is_visible v r.1) (enumerate_from (n + 1) rs)

        found : List plain.Row
        found = filter q (map (λ (r : ℕ × plain.Row). r.1) (filter (λ (r : ℕ × plain.Row). is_within m r.1.period) rest))

        by_pass : (c : Bool) → cond (c && true) (r ∷ found) found ≡ cond c (r ∷ found) found
        by_pass true = refl
        by_pass false = refl

        not_pass : (c : Bool) → cond (c && false) (r ∷ found) found ≡ found
        not_pass true = refl
        not_pass false = refl

        inner : (b : Bool) → is_within m r.period ≡ b → cond (q r && b) (r ∷ found) found ≡ filter q (map (λ (r : ℕ × plain.Row). r.1) (filter (λ (r : ℕ × plain.Row). is_within m r.1.period) ((n, r) ∷ rest)))
        inner true e = rw e (by_pass (q r))
        inner false e = rw e (not_pass (q r))

        by_tests : (a b : Bool) → cond (q r && (a && is_within m r.period)) (r ∷ found) found ≡ filter q (map (λ (r : ℕ × plain.Row). r.1) (filter (λ (r : ℕ × plain.Row). is_within m r.1.period) (cond a ((n, r) ∷ rest) rest)))
        by_tests true b = inner (is_within m r.period) refl
        by_tests false b = not_pass (q r)

  pub open_is : (q : plain.Row → Bool) (m : ℤ) → ((i : ℕ) (r : plain.Row) → slice_get rows i ≡ Some r → chooses i ≡ q r)
      → open_rows rows (up_to (part_of chooses rows v) m) ≡ filter q (map (λ (r : ℕ × plain.Row). r.1) (filter (λ (r : ℕ × plain.Row). is_within m r.1.period) (filter (λ (r : ℕ × plain.Row). is_visible v r.1) (with_ids rows))))
  open_is q m h =
      chosen_same (λ id r. is_open (up_to (part_of chooses rows v) m) id r.period) (λ id r. chooses id && (is_visible v r && is_within m r.period)) 0 rows
      (λ i r is. subst (λ k. is_open (up_to (part_of chooses rows v) m) k r.period ≡ (chooses k && (is_visible v r && is_within m r.period))) (none_more i) (open_at m i r is))
      ∙ chosen_by q m 0 rows (λ i r is. ap chooses (sym (none_more i)) ∙ h i r is) where
        none_more : (i : ℕ) → i ≡ 0 + i
        none_more i = omega arith

-- a set that says of each row whether it passes
pub member_is : (q : plain.Row → Bool) (rows : List plain.Row) (i : ℕ) (r : plain.Row) → slice_get rows i ≡ Some r → is_member (map q rows) i ≡ q r
member_is q [] i r is = absurd (cc)
member_is q (x ∷ rows) zero r is = ap q (some_row x r is) where
  some_row : (x y : plain.Row) → Some x ≡ Some y → x ≡ y
  some_row x y is = cc
member_is q (x ∷ rows) (suc i) r is = member_is q rows i r is

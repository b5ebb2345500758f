-- The ids that a side finds are those of the rows that pass and are there in the piece, in order.
use Rattle.std.proofs.Common.{◌≡◌, ℕ, zero, suc, ◌+◌, ◌-◌, ◌≤◌, ◌<◌, Bool, true, false, ◌&&◌, ◌||◌, cond, ◌==◌, nat_le, nat_lt, List, [], ◌∷◌, ◌++◌, map, take, drop, refl, sym, ap, ◌∙◌, arith, slice_index_or}
use mathlib.Core.Path.{fun_ext}
use Rattle.std.proofs.lemmas.Bool.Decides.{nat_tests}
use Rattle.std.proofs.lemmas.List.{drop_all}
use Rattle.std.proofs.lemmas.List.Elements.{filter_map-append}
use Rattle.std.specs.List.{filter_map}
use Rattle.tl_types.specs.Events.{ids_from, ids_where, invalidation, activation, events_at, events_of, place_of}
use Rattle.tl_types.specs.History.{is_visible}
use Rattle.tl_types.specs.Plain as plain
use Rattle.tl_types.specs.Walks.{events_between}
use Rattle.tl_types.specs.WellFormed.{BeginInOrder}
use Rattle.tl_types.proofs.EventLemmas.{events_before, between_more}
use Rattle.tl_query.specs.declared.typed_queries.TypedPred.{TypedPred}
use Rattle.tl_query.specs.Passing.{passes, passing}
use Rattle.tl_bits.specs.Sets.{is_member, members}
use Rattle.tl_join.specs.Pieces.{is_there, starting}
use Rattle.tl_join.specs.There.{members_from, opened_row, opened_in, ids_there}

pub ids_true : (test : plain.Row → Bool) (n : ℕ) (r : plain.Row) (rows : List plain.Row) → test r ≡ true → ids_from n test (r ∷ rows) ≡ n ∷ ids_from (n + 1) test rows
ids_true test n r rows h = rw h refl

pub ids_false : (test : plain.Row → Bool) (n : ℕ) (r : plain.Row) (rows : List plain.Row) → test r ≡ false → ids_from n test (r ∷ rows) ≡ ids_from (n + 1) test rows
ids_false test n r rows h = rw h refl

-- THE START SET

members_true : (n : ℕ) (b : Bool) (bs : List Bool) → b ≡ true → members_from n (b ∷ bs) ≡ n ∷ members_from (n + 1) bs
members_true n b bs h = rw h refl

members_false : (n : ℕ) (b : Bool) (bs : List Bool) → b ≡ false → members_from n (b ∷ bs) ≡ members_from (n + 1) bs
members_false n b bs h = rw h refl

members_where : (test : plain.Row → Bool) (n : ℕ) (rows : List plain.Row) → members_from n (map test rows) ≡ ids_from n test rows
members_where test n [] = refl
members_where test n (r ∷ rows) = by_test (test r) refl (members_where test (n + 1) rows) where
  by_test : (b : Bool) → test r ≡ b → members_from (n + 1) (map test rows) ≡ ids_from (n + 1) test rows → members_from n (test r ∷ map test rows) ≡ ids_from n test (r ∷ rows)
  by_test true e later = members_true n (test r) (map test rows) e ∙ ap (λ ns. n ∷ ns) later ∙ sym (ids_true test n r rows e)
  by_test false e later = members_false n (test r) (map test rows) e ∙ later ∙ sym (ids_false test n r rows e)

-- THE EVENTS OF A VERSION

closed_none : (keep : List Bool) (ids : List ℕ) → filter_map (opened_row keep) (map invalidation ids) ≡ []
closed_none keep [] = refl
closed_none keep (id ∷ ids) = closed_none keep ids

activated : (keep : List Bool) (ids : List ℕ) (id : ℕ) (b : Bool) → is_member keep id ≡ b → filter_map (opened_row keep) (map activation (id ∷ ids)) ≡ cond b (id ∷ filter_map (opened_row keep) (map activation ids)) (filter_map (opened_row keep) (map activation ids))
activated keep ids id true h = rw h refl
activated keep ids id false h = rw h refl

and_false : (a b : Bool) → b ≡ false → (a && b) ≡ false
and_false true b h = h
and_false false b h = refl

opened_where : (pred : TypedPred) (test : plain.Row → Bool) (keep : List Bool) (n : ℕ) (rows : List plain.Row) → ((k : ℕ) → is_member keep (n + k) ≡ slice_index_or (map (passes pred) rows) k false) → filter_map (opened_row keep) (map activation (ids_from n test rows)) ≡ ids_from n (λ row. passes pred row && test row) rows
opened_where pred test keep n [] h = refl
opened_where pred test keep n (r ∷ rows) h =
    by_tests (test r) refl (passes pred r) refl (opened_where pred test keep (n + 1) rows (λ k. let e : n + 1 + k ≡ n + suc k = omega arith in ap (is_member keep) e ∙ h (suc k))) where
      here : is_member keep n ≡ passes pred r
      here = let e : n ≡ n + zero = omega arith in ap (is_member keep) e ∙ h zero

      by_tests : (a : Bool) → test r ≡ a → (b : Bool) → passes pred r ≡ b → filter_map (opened_row keep) (map activation (ids_from (n + 1) test rows)) ≡ ids_from (n + 1) (λ row. passes pred row && test row) rows → filter_map (opened_row keep) (map activation (ids_from n test (r ∷ rows))) ≡ ids_from n (λ row. passes pred row && test row) (r ∷ rows)
      by_tests true e true f later =
          let g : (passes pred r && test r) ≡ true = rw (e, f) refl in
          ap (λ ids. filter_map (opened_row keep) (map activation ids)) (ids_true test n r rows e) ∙ activated keep (ids_from (n + 1) test rows) n true (here ∙ f) ∙ ap (λ ns. n ∷ ns) later ∙ sym (ids_true (λ row. passes pred row && test row) n r rows g)
      by_tests true e false f later =
          let g : (passes pred r && test r) ≡ false = rw f refl in
          ap (λ ids. filter_map (opened_row keep) (map activation ids)) (ids_true test n r rows e) ∙ activated keep (ids_from (n + 1) test rows) n false (here ∙ f) ∙ later ∙ sym (ids_false (λ row. passes pred row && test row) n r rows g)
      by_tests false e b f later =
          let g : (passes pred r && test r) ≡ false = and_false (passes pred r) (test r) e in
          ap (λ ids. filter_map (opened_row keep) (map activation ids)) (ids_false test n r rows e) ∙ later ∙ sym (ids_false (λ row. passes pred row && test row) n r rows g)

-- ROWS IN ORDER

none_low : (f : plain.Row → Bool) (m low n : ℕ) (rows : List plain.Row) → m < low → ((row : plain.Row) → f row ≡ true → row.from ≤ m) → BeginInOrder low rows → ids_from n f rows ≡ []
none_low f m low n [] h early order = refl
none_low f m low n (r ∷ rows) h early order = by_test (f r) refl (λ l. none_low f m r.from (n + 1) rows l early order.1) where
  by_test : (b : Bool) → f r ≡ b → (m < r.from → ids_from (n + 1) f rows ≡ []) → ids_from n f (r ∷ rows) ≡ []
  by_test true e later = absurd (let a = early r e in let b = order.0 in omega (arith, a, b, h))
  by_test false e later = ids_false f n r rows e ∙ later (let b = order.0 in omega (arith, b, h))

-- the rows of an earlier test stand before those of a later one
ids_split : (f g : plain.Row → Bool) (m low n : ℕ) (rows : List plain.Row) → ((row : plain.Row) → f row ≡ true → row.from ≤ m) → ((row : plain.Row) → g row ≡ true → m < row.from) → BeginInOrder low rows → ids_from n f rows ++ ids_from n g rows ≡ ids_from n (λ row. f row || g row) rows
ids_split f g m low n [] early late order = refl
ids_split f g m low n (r ∷ rows) early late order = by_tests (f r) refl (g r) refl (ids_split f g m r.from (n + 1) rows early late order.1) where
  by_tests : (a : Bool) → f r ≡ a → (b : Bool) → g r ≡ b → ids_from (n + 1) f rows ++ ids_from (n + 1) g rows ≡ ids_from (n + 1) (λ row. f row || g row) rows → ids_from n f (r ∷ rows) ++ ids_from n g (r ∷ rows) ≡ ids_from n (λ row. f row || g row) (r ∷ rows)
  by_tests true e true h later = absurd (let a = early r e in let b = late r h in omega (arith, a, b))
  by_tests true e false h later =
      let k : (f r || g r) ≡ true = rw e refl in
      ap (λ ns. ns ++ ids_from n g (r ∷ rows)) (ids_true f n r rows e) ∙ ap (λ ns. n ∷ ids_from (n + 1) f rows ++ ns) (ids_false g n r rows h) ∙ ap (λ ns. n ∷ ns) later ∙ sym (ids_true (λ row. f row || g row) n r rows k)
  by_tests false e true h later =
      let k : (f r || g r) ≡ true = rw (e, h) refl in
      let none : ids_from (n + 1) f rows ≡ [] = none_low f m r.from (n + 1) rows (late r h) early order.1 in
      ap (λ ns. ns ++ ids_from n g (r ∷ rows)) (ids_false f n r rows e ∙ none) ∙ ids_true g n r rows h ∙ ap (λ ns. n ∷ ns) (ap (λ ns. ns ++ ids_from (n + 1) g rows) (sym none) ∙ later) ∙ sym (ids_true (λ row. f row || g row) n r rows k)
  by_tests false e false h later =
      let k : (f r || g r) ≡ false = rw (e, h) refl in
      ap (λ ns. ns ++ ids_from n g (r ∷ rows)) (ids_false f n r rows e) ∙ ap (λ ns. ids_from (n + 1) f rows ++ ns) (ids_false g n r rows h) ∙ later ∙ sym (ids_false (λ row. f row || g row) n r rows k)

-- THE EVENTS BEHIND A VERSION

-- the row passes, and begins behind a version and up to another
abbrev begins_in : TypedPred → ℕ → ℕ → plain.Row → Bool
begins_in pred p v row = passes pred row && (nat_lt p row.from && nat_le row.from v)

and_right : (a b : Bool) → (a && b) ≡ true → b ≡ true
and_right true b h = h
and_right false b h = absurd (cc)

and_left : (a b : Bool) → (a && b) ≡ true → a ≡ true
and_left true b h = refl
and_left false b h = absurd (cc)

never : (f : plain.Row → Bool) (n : ℕ) (rows : List plain.Row) → ((row : plain.Row) → f row ≡ false) → ids_from n f rows ≡ []
never f n [] h = refl
never f n (r ∷ rows) h = ids_false f n r rows (h r) ∙ never f (n + 1) rows h

one_version : (p v from : ℕ) (a : Bool) → p ≤ v → ((a && (nat_lt p from && nat_le from v)) || (a && (from == suc v))) ≡ (a && (nat_lt p from && nat_le from (suc v)))
one_version p v from false h = refl
one_version p v from true h = grind (arith, nat_tests)

module _ (pred : TypedPred) (rows : List plain.Row) (p : ℕ) (order : BeginInOrder 0 rows) where
  at_version : (v : ℕ) → filter_map (opened_row (passing pred rows)) (events_at rows v) ≡ ids_where (λ row. passes pred row && (row.from == v)) rows
  at_version v =
      filter_map-append (opened_row (passing pred rows)) (map invalidation (ids_where (λ row. row.to == v) rows)) (map activation (ids_where (λ row. row.from == v) rows))
      ∙ ap (λ ns. ns ++ filter_map (opened_row (passing pred rows)) (map activation (ids_where (λ row. row.from == v) rows))) (closed_none (passing pred rows) (ids_where (λ row. row.to == v) rows))
      ∙ opened_where pred (λ row. row.from == v) (passing pred rows) 0 rows (λ k. let e : 0 + k ≡ k = omega arith in ap (is_member (passing pred rows)) e)

  opened_behind : (k : ℕ) → filter_map (opened_row (passing pred rows)) (events_between rows p (p + k)) ≡ ids_where (begins_in pred p (p + k)) rows
  opened_behind zero =
      let e : p + zero ≡ p = omega arith in
      ap (λ v. filter_map (opened_row (passing pred rows)) (events_between rows p v)) e
      ∙ ap (filter_map (opened_row (passing pred rows))) (drop_all (place_of rows p) (events_of rows p) (omega arith))
      ∙ sym (never (begins_in pred p (p + zero)) 0 rows (λ row. and_false (passes pred row) (nat_lt p row.from && nat_le row.from (p + zero)) (grind (arith, nat_tests))))
  opened_behind (suc k) =
      let e : p + suc k ≡ suc (p + k) = omega arith in
      ap (λ v. filter_map (opened_row (passing pred rows)) (events_between rows p v)) e
      ∙ ap (filter_map (opened_row (passing pred rows))) (between_more rows p (p + k) (omega arith))
      ∙ filter_map-append (opened_row (passing pred rows)) (events_between rows p (p + k)) (events_at rows (suc (p + k)))
      ∙ ap (λ ns. ns ++ filter_map (opened_row (passing pred rows)) (events_at rows (suc (p + k)))) (opened_behind k)
      ∙ ap (λ ns. ids_where (begins_in pred p (p + k)) rows ++ ns) (at_version (suc (p + k)))
      ∙ ids_split (begins_in pred p (p + k)) (λ row. passes pred row && (row.from == suc (p + k))) (p + k) 0 0 rows (early_enough (p + k)) (late_enough (p + k)) order
      ∙ ap (λ f. ids_from 0 f rows) (fun_ext (λ row. one_version p (p + k) row.from (passes pred row) (omega arith) ∙ ap (λ v. passes pred row && (nat_lt p row.from && nat_le row.from v)) (sym e))) where
        early_enough : (v : ℕ) (row : plain.Row) → begins_in pred p v row ≡ true → row.from ≤ v
        early_enough v row h = let a = and_right (nat_lt p row.from) (nat_le row.from v) (and_right (passes pred row) (nat_lt p row.from && nat_le row.from v) h) in grind (arith, nat_tests)

        late_enough : (v : ℕ) (row : plain.Row) → (passes pred row && (row.from == suc v)) ≡ true → v < row.from
        late_enough v row h = let a = and_right (passes pred row) (row.from == suc v) h in grind (arith, nat_tests)

  there_test : (q from to : ℕ) (a : Bool) → p < q → (((nat_le from p && nat_lt p to) && a) || (a && (nat_lt p from && nat_le from (q - 1)))) ≡ (a && ((nat_le from p && nat_lt p to) || (nat_lt p from && nat_lt from q)))
  there_test q from to false h = first_false (nat_le from p && nat_lt p to) where
    first_false : (b : Bool) → ((b && false) || false) ≡ false
    first_false true = refl
    first_false false = refl
  there_test q from to true h =
      let e : nat_le from (q - 1) ≡ nat_lt from q = grind (arith, nat_tests) in
      rw e (first_true (nat_le from p && nat_lt p to)) where
        first_true : (b : Bool) → ((b && true) || (nat_lt p from && nat_lt from q)) ≡ (b || (nat_lt p from && nat_lt from q))
        first_true true = refl
        first_true false = refl

  -- the ids are those of the rows that pass and are there
  pub ids_are : (last q : ℕ) (start keep : List Bool) → p < q → q ≤ last + 1 → start ≡ starting p pred rows → keep ≡ passing pred rows → ids_there rows last p q start keep ≡ ids_where (λ row. passes pred row && is_there p q row) rows
  ids_are last q start keep some inside start_is keep_is =
      let at : p + (q - 1 - p) ≡ q - 1 = omega (arith, some) in
      let first : members start ≡ ids_where (λ row. is_visible p row && passes pred row) rows = ap members start_is ∙ members_where (λ row. is_visible p row && passes pred row) 0 rows in
      let events : drop (place_of rows p) (take (place_of rows (q - 1)) (events_of rows last)) ≡ events_between rows p (p + (q - 1 - p)) = ap (drop (place_of rows p)) (events_before rows (q - 1) last (omega (arith, inside)) ∙ ap (events_of rows) (sym at)) in
      let behind : opened_in (events_of rows last) (place_of rows p) (place_of rows (q - 1)) keep ≡ ids_where (begins_in pred p (q - 1)) rows = ap (λ k. opened_in (events_of rows last) (place_of rows p) (place_of rows (q - 1)) k) keep_is ∙ ap (filter_map (opened_row (passing pred rows))) events ∙ opened_behind (q - 1 - p) ∙ ap (λ v. ids_where (begins_in pred p v) rows) at in
      ap (λ ns. ns ++ opened_in (events_of rows last) (place_of rows p) (place_of rows (q - 1)) keep) first
      ∙ ap (λ ns. ids_where (λ row. is_visible p row && passes pred row) rows ++ ns) behind
      ∙ ids_split (λ row. is_visible p row && passes pred row) (begins_in pred p (q - 1)) p 0 0 rows by_start by_event order
      ∙ ap (λ f. ids_from 0 f rows) (fun_ext (λ row. there_test q row.from row.to (passes pred row) some)) where
        by_start : (row : plain.Row) → (is_visible p row && passes pred row) ≡ true → row.from ≤ p
        by_start row h = let a = and_left (nat_le row.from p) (nat_lt p row.to) (and_left (is_visible p row) (passes pred row) h) in grind (arith, nat_tests)

        by_event : (row : plain.Row) → begins_in pred p (q - 1) row ≡ true → p < row.from
        by_event row h = let a = and_left (nat_lt p row.from) (nat_le row.from (q - 1)) (and_right (passes pred row) (nat_lt p row.from && nat_le row.from (q - 1)) h) in grind (arith, nat_tests)

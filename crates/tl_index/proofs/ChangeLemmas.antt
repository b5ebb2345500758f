-- The events of valid time at two versions.
use Rattle.std.proofs.Common.{◌≡◌, ℕ, zero, suc, ◌+◌, ◌<◌, ◌≤◌, Bool, true, false, ◌&&◌, ◌||◌, not, cond, nat_eq, nat_le, nat_lt, List, [], ◌∷◌, ◌++◌, map, Option, Some, None, ◌⊎◌, inl, inr, refl, sym, ap, ◌∙◌, subst, arith, slice_get, eq-eqb}
use Rattle.std.specs.Bool.{beq}
use Rattle.std.specs.Ordering.{int_eq}
use Rattle.std.specs.List.{flat_map, filter, list_any, enumerate_from}
use Rattle.std.proofs.lemmas.Bool.{ne_eqb, eqb-true}
use Rattle.std.proofs.lemmas.Bool.Decides.{nat_tests}
use Rattle.std.proofs.lemmas.List.Elements.{filter-append}
use Rattle.std.proofs.lemmas.List.Folds.{list_any-append}
use Rattle.tl_types.specs.Plain as plain
use Rattle.tl_types.specs.declared.events.Event.{Event}
use Rattle.tl_types.specs.History.{has_id, is_visible}
use Rattle.tl_types.specs.Events.{ids_where, invalidation, activation, events_at}
use Rattle.tl_types.specs.Walks.{events_between}
use Rattle.tl_types.specs.declared.events.ValidEvent.{ValidEvent}
use Rattle.tl_types.specs.Checkpoints.{ends_of, ends_of_rows, valid_events_in}
use Rattle.tl_types.proofs.EventLemmas.{between_more}
use Rattle.tl_types.proofs.ValidEventOrder.{same_event}
use Rattle.tl_ckpt.specs.Valid.{Rises, merged}
use Rattle.tl_ckpt.proofs.Members.{has, xor, Distinct, has_in_order, rises_in_order, good_merged, members_same}
use Rattle.tl_ckpt.proofs.Merging.{equal_or_less}
use Rattle.tl_ckpt.specs.Choices.{Choice, is_chosen, chosen}
use Rattle.tl_ckpt.proofs.ChoiceLemmas.{rises_filter, has_filter, both_pass}
use Rattle.tl_index.specs.Changes.{differs, change_of_row, change_of, chosen_change_of}

has_append : (z : ValidEvent) (xs ys : List ValidEvent) → has (xs ++ ys) z ≡ (has xs z || has ys z)
has_append z xs ys = list_any-append (λ y. same_event y z) xs ys

or_false : (b : Bool) → (b || false) ≡ b
or_false true = refl
or_false false = refl

-- THE ENDS OF ONE ROW

no_ends : (a b c d e : Bool) → e ≡ false → ((a && (b && e)) || ((c && (d && e)) || false)) ≡ false
no_ends true true true true e h = rw h refl
no_ends true true true false e h = rw h refl
no_ends true true false d e h = rw h refl
no_ends true false true true e h = rw h refl
no_ends true false true false e h = refl
no_ends true false false d e h = refl
no_ends false b true true e h = rw h refl
no_ends false b true false e h = refl
no_ends false b false d e h = refl

other_row : (id : ℕ) (p : Option plain.Period) (z : ValidEvent) → nat_eq id z.row ≡ false → has (ends_of id p) z ≡ false
other_row id None z h = refl
other_row id (Some p) z h = no_ends (int_eq p.from z.time) (beq true z.opens) (int_eq p.to z.time) (beq false z.opens) (nat_eq id z.row) h

-- THE ROWS THAT STAND AT A VERSION

abbrev ends_from : ℕ → ℕ → List plain.Row → List ValidEvent
ends_from v n rows = ends_of_rows (filter (λ (r : ℕ × plain.Row). is_visible v r.1) (enumerate_from n rows))

none_below : (v n : ℕ) (rows : List plain.Row) (z : ValidEvent) → z.row < n → has (ends_from v n rows) z ≡ false
none_below v n [] z l = refl
none_below v n (r ∷ rows) z l = by_test (is_visible v r) (none_below v (n + 1) rows z (omega arith)) where
  by_test : (b : Bool) → has (ends_from v (n + 1) rows) z ≡ false → has (ends_of_rows (cond b ((n, r) ∷ filter (λ (r : ℕ × plain.Row). is_visible v r.1) (enumerate_from (n + 1) rows)) (filter (λ (r : ℕ × plain.Row). is_visible v r.1) (enumerate_from (n + 1) rows)))) z ≡ false
  by_test true h = has_append z (ends_of n r.period) (ends_from v (n + 1) rows) ∙ ap (λ b. b || has (ends_from v (n + 1) rows) z) (other_row n r.period z (ne_eqb n z.row (λ e. omega (arith, e)))) ∙ h
  by_test false h = h

-- the event is an end of the row's period, and the row stands at the version
abbrev end_at : Option plain.Row → ℕ → ValidEvent → Bool
end_at None v z = false
end_at (Some r) v z = is_visible v r && has (ends_of z.row r.period) z

has_stand : (v n k : ℕ) (rows : List plain.Row) (z : ValidEvent) → z.row ≡ n + k → has (ends_from v n rows) z ≡ end_at (slice_get rows k) v z
has_stand v n k [] z e = refl
has_stand v n zero (r ∷ rows) z e = by_test (is_visible v r) (none_below v (n + 1) rows z (omega arith)) where
  by_test : (b : Bool) → has (ends_from v (n + 1) rows) z ≡ false → has (ends_of_rows (cond b ((n, r) ∷ filter (λ (r : ℕ × plain.Row). is_visible v r.1) (enumerate_from (n + 1) rows)) (filter (λ (r : ℕ × plain.Row). is_visible v r.1) (enumerate_from (n + 1) rows)))) z ≡ (b && has (ends_of z.row r.period) z)
  by_test true h = let s : n ≡ z.row = omega arith in has_append z (ends_of n r.period) (ends_from v (n + 1) rows) ∙ ap (λ b. has (ends_of n r.period) z || b) h ∙ or_false (has (ends_of n r.period) z) ∙ ap (λ m. has (ends_of m r.period) z) s
  by_test false h = h
has_stand v n (suc k) (r ∷ rows) z e = by_test (is_visible v r) (has_stand v (n + 1) k rows z (omega arith)) where
  by_test : (b : Bool) → has (ends_from v (n + 1) rows) z ≡ end_at (slice_get rows k) v z → has (ends_of_rows (cond b ((n, r) ∷ filter (λ (r : ℕ × plain.Row). is_visible v r.1) (enumerate_from (n + 1) rows)) (filter (λ (r : ℕ × plain.Row). is_visible v r.1) (enumerate_from (n + 1) rows)))) z ≡ end_at (slice_get rows k) v z
  by_test true h = has_append z (ends_of n r.period) (ends_from v (n + 1) rows) ∙ ap (λ b. b || has (ends_from v (n + 1) rows) z) (other_row n r.period z (ne_eqb n z.row (λ s. omega (arith, s, e)))) ∙ h
  by_test false h = h

end_apart : (a b : Bool) → ((a && (false && b)) || false) ≡ false
end_apart true b = refl
end_apart false b = refl

distinct_stand : (v n : ℕ) (rows : List plain.Row) → Distinct (ends_from v n rows)
distinct_stand v n [] = tt
distinct_stand v n (r ∷ rows) = by_test (is_visible v r) r.period (distinct_stand v (n + 1) rows) where
  two : (p : Option plain.Period) → Distinct (ends_from v (n + 1) rows) → Distinct (ends_of n p ++ ends_from v (n + 1) rows)
  two None h = h
  two (Some p) h =
      let first : ValidEvent = record { time = p.from; opens = true; row = n } in
      let second : ValidEvent = record { time = p.to; opens = false; row = n } in
      let apart : same_event second first ≡ false = and_false (int_eq p.to p.from) in
      (ap (λ b. b || has (ends_from v (n + 1) rows) first) apart ∙ none_below v (n + 1) rows first (omega arith), (none_below v (n + 1) rows second (omega arith), h)) where
        and_false : (b : Bool) → (b && false) ≡ false
        and_false true = refl
        and_false false = refl

  by_test : (b : Bool) (p : Option plain.Period) → Distinct (ends_from v (n + 1) rows) → Distinct (ends_of_rows (cond b ((n, r) ∷ filter (λ (r : ℕ × plain.Row). is_visible v r.1) (enumerate_from (n + 1) rows)) (filter (λ (r : ℕ × plain.Row). is_visible v r.1) (enumerate_from (n + 1) rows))))
  by_test true p h = two r.period h
  by_test false p h = h

pub rises_valid : (rows : List plain.Row) (v : ℕ) → Rises (valid_events_in rows v)
rises_valid rows v = rises_in_order (ends_from v 0 rows) (distinct_stand v 0 rows)

pub has_valid : (rows : List plain.Row) (v : ℕ) (z : ValidEvent) → has (valid_events_in rows v) z ≡ end_at (slice_get rows z.row) v z
has_valid rows v z = has_in_order z (ends_from v 0 rows) ∙ has_stand v 0 z.row rows z (omega arith)

-- WHAT CHANGES

abbrev has_row : List Event → ℕ → Bool
has_row events id = list_any (λ (e : Event). nat_eq e.row id) events

abbrev diff_at : Option plain.Row → ℕ → ℕ → ValidEvent → Bool
diff_at None old new z = false
diff_at (Some r) old new z = differs old new r && has (ends_of z.row r.period) z

one_change : (old new id : ℕ) (o : Option plain.Row) (z : ValidEvent) → id ≡ z.row → has (change_of_row old new id o) z ≡ diff_at o old new z
one_change old new id None z e = refl
one_change old new id (Some r) z e = by_test (differs old new r) where
  by_test : (b : Bool) → has (cond b (ends_of id r.period) []) z ≡ (b && has (ends_of z.row r.period) z)
  by_test true = ap (λ m. has (ends_of m r.period) z) e
  by_test false = refl

no_change : (old new id : ℕ) (o : Option plain.Row) (z : ValidEvent) → nat_eq id z.row ≡ false → has (change_of_row old new id o) z ≡ false
no_change old new id None z e = refl
no_change old new id (Some r) z e = by_test (differs old new r) where
  by_test : (b : Bool) → has (cond b (ends_of id r.period) []) z ≡ false
  by_test true = other_row id r.period z e
  by_test false = refl

has_changes : (rows : List plain.Row) (old new : ℕ) (events : List Event) (z : ValidEvent) → has (flat_map (change_of rows old new) events) z ≡ (has_row events z.row && diff_at (slice_get rows z.row) old new z)
has_changes rows old new [] z = refl
has_changes rows old new (e ∷ es) z = has_append z (change_of rows old new e) (flat_map (change_of rows old new) es) ∙ by_test (nat_eq e.row z.row) refl (has_changes rows old new es z) where
  by_test : (b : Bool) → nat_eq e.row z.row ≡ b → has (flat_map (change_of rows old new) es) z ≡ (has_row es z.row && diff_at (slice_get rows z.row) old new z) → (has (change_of rows old new e) z || has (flat_map (change_of rows old new) es) z) ≡ ((b || has_row es z.row) && diff_at (slice_get rows z.row) old new z)
  by_test true h later =
      let same : e.row ≡ z.row = eqb-true e.row z.row h in
      let one : has (change_of rows old new e) z ≡ diff_at (slice_get rows z.row) old new z = one_change old new e.row (slice_get rows e.row) z same ∙ ap (λ m. diff_at (slice_get rows m) old new z) same in
      ap (λ b. b || has (flat_map (change_of rows old new) es) z) one ∙ ap (λ b. diff_at (slice_get rows z.row) old new z || b) later ∙ absorbs (diff_at (slice_get rows z.row) old new z) (has_row es z.row) where
        absorbs : (d r : Bool) → (d || (r && d)) ≡ d
        absorbs true r = refl
        absorbs false true = refl
        absorbs false false = refl
  by_test false h later = ap (λ b. b || has (flat_map (change_of rows old new) es) z) (no_change old new e.row (slice_get rows e.row) z h) ∙ later

both_ends : (o : Option plain.Row) (old new : ℕ) (z : ValidEvent) → end_at o new z ≡ xor (end_at o old z) (diff_at o old new z)
both_ends None old new z = refl
both_ends (Some r) old new z = table (is_visible old r) (is_visible new r) (has (ends_of z.row r.period) z) where
  table : (a b e : Bool) → (b && e) ≡ xor (a && e) (not (beq a b) && e)
  table true true true = refl
  table true true false = refl
  table true false true = refl
  table true false false = refl
  table false true true = refl
  table false true false = refl
  table false false true = refl
  table false false false = refl

-- A ROW THAT STANDS AT ONE OF THE VERSIONS ALONE HAS AN EVENT BETWEEN THEM

has_where : (test : plain.Row → Bool) (n k : ℕ) (rows : List plain.Row) (r : plain.Row) (id : ℕ) → id ≡ n + k → slice_get rows k ≡ Some r → test r ≡ true → has_id (map (λ (x : ℕ × plain.Row). x.0) (filter (λ (x : ℕ × plain.Row). test x.1) (enumerate_from n rows))) id ≡ true
has_where test n k [] r id e is t = absurd (cc)
has_where test n zero (x ∷ rows) r id e is t =
    let same : x ≡ r = some_is x r is in
    let here : test x ≡ true = ap test same ∙ t in
    let there : nat_eq n id ≡ true = eq-eqb n id (omega arith) in
    rw here (rw there refl) where
      some_is : (x r : plain.Row) → Some x ≡ Some r → x ≡ r
      some_is x r is = cc
has_where test n (suc k) (x ∷ rows) r id e is t = by_test (test x) (has_where test (n + 1) k rows r id (omega arith) is t) where
  by_test : (b : Bool) → has_id (map (λ (x : ℕ × plain.Row). x.0) (filter (λ (x : ℕ × plain.Row). test x.1) (enumerate_from (n + 1) rows))) id ≡ true → has_id (map (λ (x : ℕ × plain.Row). x.0) (cond b ((n, x) ∷ filter (λ (x : ℕ × plain.Row). test x.1) (enumerate_from (n + 1) rows)) (filter (λ (x : ℕ × plain.Row). test x.1) (enumerate_from (n + 1) rows)))) id ≡ true
  by_test true h = or_true (nat_eq n id) (has_id (map (λ (x : ℕ × plain.Row). x.0) (filter (λ (x : ℕ × plain.Row). test x.1) (enumerate_from (n + 1) rows))) id) h where
    or_true : (a b : Bool) → b ≡ true → (a || b) ≡ true
    or_true true b h = refl
    or_true false b h = h
  by_test false h = h

row_closes : (ids : List ℕ) (id : ℕ) → has_row (map invalidation ids) id ≡ has_id ids id
row_closes [] id = refl
row_closes (x ∷ ids) id = ap (λ b. nat_eq x id || b) (row_closes ids id)

row_opens : (ids : List ℕ) (id : ℕ) → has_row (map activation ids) id ≡ has_id ids id
row_opens [] id = refl
row_opens (x ∷ ids) id = ap (λ b. nat_eq x id || b) (row_opens ids id)

or_left : (a b : Bool) → a ≡ true → (a || b) ≡ true
or_left a b h = ap (λ t. t || b) h

or_right : (a b : Bool) → b ≡ true → (a || b) ≡ true
or_right true b h = refl
or_right false b h = h

row_append : (id : ℕ) (xs ys : List Event) → has_row (xs ++ ys) id ≡ (has_row xs id || has_row ys id)
row_append id xs ys = list_any-append (λ (e : Event). nat_eq e.row id) xs ys

event_there : (rows : List plain.Row) (v id : ℕ) (r : plain.Row) → slice_get rows id ≡ Some r → (r.from ≡ v) ⊎ (r.to ≡ v) → has_row (events_at rows v) id ≡ true
event_there rows v id r is (inl from) =
    row_append id (map invalidation (ids_where (λ row. nat_eq row.to v) rows)) (map activation (ids_where (λ row. nat_eq row.from v) rows))
    ∙ or_right (has_row (map invalidation (ids_where (λ row. nat_eq row.to v) rows)) id) (has_row (map activation (ids_where (λ row. nat_eq row.from v) rows)) id) (row_opens (ids_where (λ row. nat_eq row.from v) rows) id ∙ has_where (λ row. nat_eq row.from v) 0 id rows r id (omega arith) is (eq-eqb r.from v from))
event_there rows v id r is (inr to) =
    row_append id (map invalidation (ids_where (λ row. nat_eq row.to v) rows)) (map activation (ids_where (λ row. nat_eq row.from v) rows))
    ∙ or_left (has_row (map invalidation (ids_where (λ row. nat_eq row.to v) rows)) id) (has_row (map activation (ids_where (λ row. nat_eq row.from v) rows)) id) (row_closes (ids_where (λ row. nat_eq row.to v) rows) id ∙ has_where (λ row. nat_eq row.to v) 0 id rows r id (omega arith) is (eq-eqb r.to v to))

there_after : (rows : List plain.Row) (old new u id : ℕ) (r : plain.Row) → slice_get rows id ≡ Some r → old < u → u ≤ new → (r.from ≡ u) ⊎ (r.to ≡ u) → has_row (events_between rows old new) id ≡ true
there_after rows old zero u id r is l m which = absurd (omega arith)
there_after rows old (suc n) u id r is l m which =
    ap (λ es. has_row es id) (between_more rows old n (omega arith)) ∙ row_append id (events_between rows old n) (events_at rows (suc n))
    ∙ by_place (equal_or_less u (suc n) m) (λ k. there_after rows old n u id r is l k which) where
      by_place : (u ≡ suc n) ⊎ (u < suc n) → (u ≤ n → has_row (events_between rows old n) id ≡ true) → (has_row (events_between rows old n) id || has_row (events_at rows (suc n)) id) ≡ true
      by_place (inl e) later = or_right (has_row (events_between rows old n) id) (has_row (events_at rows (suc n)) id) (event_there rows (suc n) id r is (subst (λ k. (r.from ≡ k) ⊎ (r.to ≡ k)) e which))
      by_place (inr k) later = or_left (has_row (events_between rows old n) id) (has_row (events_at rows (suc n)) id) (later (omega arith))

apart_between : (f t old new : ℕ) → old ≤ new → not (beq (nat_le f old && nat_lt old t) (nat_le f new && nat_lt new t)) ≡ true → ((old < f) × (f ≤ new)) ⊎ ((old < t) × (t ≤ new))
apart_between f t old new l h = by_tests (nat_lt old f && nat_le f new) (nat_lt old t && nat_le t new) refl refl where
  by_tests : (a b : Bool) → (nat_lt old f && nat_le f new) ≡ a → (nat_lt old t && nat_le t new) ≡ b → ((old < f) × (f ≤ new)) ⊎ ((old < t) × (t ≤ new))
  by_tests true b e k = inl (grind (arith, nat_tests), grind (arith, nat_tests))
  by_tests false true e k = inr (grind (arith, nat_tests), grind (arith, nat_tests))
  by_tests false false e k = absurd (grind (arith, nat_tests))

seen_change : (rows : List plain.Row) (old new id : ℕ) (r : plain.Row) → old ≤ new → slice_get rows id ≡ Some r → differs old new r ≡ true → has_row (events_between rows old new) id ≡ true
seen_change rows old new id r l is h = elim (apart_between r.from r.to old new l h) [
  | inl p ↦ there_after rows old new r.from id r is p.0 p.1 (inl refl)
  | inr p ↦ there_after rows old new r.to id r is p.0 p.1 (inr refl)
]

all_seen : (rows : List plain.Row) (old new : ℕ) (z : ValidEvent) → old ≤ new → (has_row (events_between rows old new) z.row && diff_at (slice_get rows z.row) old new z) ≡ diff_at (slice_get rows z.row) old new z
all_seen rows old new z l = by_row (slice_get rows z.row) refl where
  by_row : (o : Option plain.Row) → slice_get rows z.row ≡ o → (has_row (events_between rows old new) z.row && diff_at o old new z) ≡ diff_at o old new z
  by_row None e = and_false (has_row (events_between rows old new) z.row) where
    and_false : (b : Bool) → (b && false) ≡ false
    and_false true = refl
    and_false false = refl
  by_row (Some r) e = by_test (differs old new r) (λ h. seen_change rows old new z.row r l e h) where
    by_test : (b : Bool) → (b ≡ true → has_row (events_between rows old new) z.row ≡ true) → (has_row (events_between rows old new) z.row && (b && has (ends_of z.row r.period) z)) ≡ (b && has (ends_of z.row r.period) z)
    by_test true h = let e = h refl in rw e refl
    by_test false h = let f : (has_row (events_between rows old new) z.row && false) ≡ false = and_none (has_row (events_between rows old new) z.row) in f where
      and_none : (b : Bool) → (b && false) ≡ false
      and_none true = refl
      and_none false = refl

-- THE HEART

-- what is in one of the two lists of events alone is a change
later_has : (rows : List plain.Row) (old new : ℕ) (z : ValidEvent) → old ≤ new → xor (has (valid_events_in rows old) z) (has (flat_map (change_of rows old new) (events_between rows old new)) z) ≡ has (valid_events_in rows new) z
later_has rows old new z l =
    ap (λ b. xor b (has (flat_map (change_of rows old new) (events_between rows old new)) z)) (has_valid rows old z)
    ∙ ap (xor (end_at (slice_get rows z.row) old z)) (has_changes rows old new (events_between rows old new) z ∙ all_seen rows old new z l)
    ∙ sym (both_ends (slice_get rows z.row) old new z) ∙ sym (has_valid rows new z)

-- OF CHOSEN ROWS

both_same : (b : Bool) (xs : List ValidEvent) → cond b xs xs ≡ xs
both_same true xs = refl
both_same false xs = refl

chosen_row : (choice : Choice) (old new id : ℕ) (o : Option plain.Row) → cond (is_chosen choice id) (change_of_row old new id o) [] ≡ chosen choice (change_of_row old new id o)
chosen_row choice old new id None = both_same (is_chosen choice id) []
chosen_row choice old new id (Some r) = by_tests (differs old new r) r.period where
  ends : (p : Option plain.Period) → cond (is_chosen choice id) (ends_of id p) [] ≡ chosen choice (ends_of id p)
  ends None = both_same (is_chosen choice id) []
  ends (Some p) = by_test (is_chosen choice id) where
    first : ValidEvent
    first = record { time = p.from; opens = true; row = id }

    second : ValidEvent
    second = record { time = p.to; opens = false; row = id }

    by_test : (b : Bool) → cond b (first ∷ second ∷ []) [] ≡ cond b (first ∷ cond b (second ∷ []) []) (cond b (second ∷ []) [])
    by_test true = refl
    by_test false = refl

  by_tests : (b : Bool) (p : Option plain.Period) → cond (is_chosen choice id) (cond b (ends_of id p) []) [] ≡ chosen choice (cond b (ends_of id p) [])
  by_tests true p = ends p
  by_tests false p = ends None

-- the changes of chosen rows are those of the changes that are of chosen rows
chosen_changes : (choice : Choice) (rows : List plain.Row) (old new : ℕ) (events : List Event) → flat_map (chosen_change_of choice rows old new) events ≡ chosen choice (flat_map (change_of rows old new) events)
chosen_changes choice rows old new [] = refl
chosen_changes choice rows old new (e ∷ es) =
    let P : ValidEvent → Bool = λ event. is_chosen choice event.row in
    ap (λ xs. xs ++ flat_map (chosen_change_of choice rows old new) es) (chosen_row choice old new e.row (slice_get rows e.row))
    ∙ ap (λ xs. chosen choice (change_of rows old new e) ++ xs) (chosen_changes choice rows old new es)
    ∙ sym (filter-append P (change_of rows old new e) (flat_map (change_of rows old new) es))

module _ (choice : Choice) (rows : List plain.Row) (old new : ℕ) (given once : List ValidEvent) (is : given ≡ flat_map (chosen_change_of choice rows old new) (events_between rows old new)) (up : Rises once) (same : (z : ValidEvent) → has once z ≡ has given z) where
  once_has : (z : ValidEvent) → has once z ≡ (has (flat_map (change_of rows old new) (events_between rows old new)) z && is_chosen choice z.row)
  once_has z = same z ∙ ap (λ xs. has xs z) (is ∙ chosen_changes choice rows old new (events_between rows old new)) ∙ has_filter (λ event. is_chosen choice event.row) z (flat_map (change_of rows old new) (events_between rows old new))

  -- with the changes of chosen rows their events at a version are those at a later one
  pub later_chosen : old ≤ new → merged (chosen choice (valid_events_in rows old)) once ≡ chosen choice (valid_events_in rows new)
  later_chosen l =
      let P : ValidEvent → Bool = λ event. is_chosen choice event.row in
      let all = flat_map (change_of rows old new) (events_between rows old new) in
      let first = valid_events_in rows old in
      let last = valid_events_in rows new in
      let good = good_merged (chosen choice first) once (rises_filter P first (rises_valid rows old)) up in
      members_same (merged (chosen choice first) once) (chosen choice last) good.rises (rises_filter P last (rises_valid rows new)) (λ z.
      good.members z ∙ ap (λ b. xor b (has once z)) (has_filter P z first) ∙ ap (xor (has first z && P z)) (once_has z) ∙ sym (both_pass (has first z) (has all z) (P z))
      ∙ ap (λ b. b && P z) (later_has rows old new z l) ∙ sym (has_filter P z last))

  -- and they are of chosen rows alone
  pub once_chosen : chosen choice once ≡ once
  once_chosen =
      let P : ValidEvent → Bool = λ event. is_chosen choice event.row in
      members_same (chosen choice once) once (rises_filter P once up) up (λ z.
      has_filter P z once ∙ ap (λ b. b && P z) (once_has z) ∙ twice (has (flat_map (change_of rows old new) (events_between rows old new)) z) (P z) ∙ sym (once_has z)) where
        twice : (a b : Bool) → ((a && b) && b) ≡ (a && b)
        twice true true = refl
        twice true false = refl
        twice false b = refl

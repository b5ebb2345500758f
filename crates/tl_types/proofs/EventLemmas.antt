-- The events of a table: how many there are, of which rows, and those up to a version.
use Rattle.std.proofs.Common.{◌≡◌, ℕ, zero, suc, ◌+◌, ◌<◌, ◌≤◌, Bool, true, false, ◌&&◌, ◌||◌, cond, nat_eq, nat_le, List, [], ◌∷◌, ◌++◌, length, map, take, All, ◌⊎◌, inl, inr, refl, sym, ap, subst, ◌∙◌, arith, length-append}
use Rattle.std.specs.List.{filter, enumerate_from}
use Rattle.std.proofs.lemmas.Bool.{cases_lt, ne_eqb}
use Rattle.std.proofs.lemmas.Bool.Decides.{nat_tests}
use Rattle.std.proofs.lemmas.List.{length-map, append-nil, take-append-le, take_all, drop-append-le}
use Rattle.std.proofs.lemmas.List.Elements.{All-append, All-nil}
use Rattle.tl_types.specs.declared.events.Event.{Event}
use Rattle.tl_types.specs.Plain as plain
use Rattle.tl_types.specs.History.{open_end}
use Rattle.tl_types.specs.Events.{ids_from, ids_where, invalidation, activation, events_at, events_of, place_of}
use Rattle.tl_types.specs.WellFormed.{AreWellFormed}
use Rattle.tl_types.specs.Walks.{events_between}

abbrev pub event_of : Bool → ℕ → Event
event_of opens id = record { row = id; opens = opens }

-- PLACES

pub place_grows : (rows : List plain.Row) (u v : ℕ) → u ≤ v → place_of rows u ≤ place_of rows v
place_grows rows u zero l = let e : u ≡ zero = omega arith in subst (λ w. place_of rows w ≤ 0) (sym e) (omega arith)
place_grows rows u (suc v) l = by_last (cases_lt v u) (place_grows rows u v) where
  by_last : (v < u) ⊎ (u ≤ v) → (u ≤ v → place_of rows u ≤ place_of rows v) → place_of rows u ≤ place_of rows (suc v)
  by_last (inl here) ih = let e : u ≡ suc v = omega arith in subst (λ w. place_of rows w ≤ place_of rows (suc v)) (sym e) (omega arith)
  by_last (inr before) ih = omega (arith, ih before, length-append (events_of rows v) (events_at rows (suc v)))

-- the first events, as many as the place of a version, are those up to it
pub events_before : (rows : List plain.Row) (v n : ℕ) → v ≤ n → take (place_of rows v) (events_of rows n) ≡ events_of rows v
events_before rows v zero l = let e : v ≡ zero = omega arith in subst (λ w. take (place_of rows w) [] ≡ events_of rows w) (sym e) refl
events_before rows v (suc n) l = by_last (cases_lt n v) (events_before rows v n) where
  by_last : (n < v) ⊎ (v ≤ n) → (v ≤ n → take (place_of rows v) (events_of rows n) ≡ events_of rows v) → take (place_of rows v) (events_of rows (suc n)) ≡ events_of rows v
  by_last (inl here) ih =
      let e : v ≡ suc n = omega arith in
      subst (λ w. take (place_of rows w) (events_of rows (suc n)) ≡ events_of rows w) (sym e) (take_all (place_of rows (suc n)) (events_of rows (suc n)) (omega arith))
  by_last (inr before) ih = take-append-le (place_of rows v) (events_of rows n) (events_at rows (suc n)) (place_grows rows v n before) ∙ ih before

-- the events between two versions, with those of one version more
pub between_more : (rows : List plain.Row) (u v : ℕ) → u ≤ v → events_between rows u (suc v) ≡ events_between rows u v ++ events_at rows (suc v)
between_more rows u v l = drop-append-le (place_of rows u) (events_of rows v) (events_at rows (suc v)) (place_grows rows u v l)

-- HOW MANY

less_or_more : (x v : ℕ) → ((nat_le x v && nat_eq x (suc v)) ≡ false) × (nat_le x (suc v) ≡ (nat_le x v || nat_eq x (suc v)))
less_or_more x v = (grind (arith, nat_tests), grind (arith, nat_tests))

pub ids_few : (n : ℕ) (test : plain.Row → Bool) (rows : List plain.Row) → length (ids_from n test rows) ≤ length rows
ids_few n test [] = omega arith
ids_few n test (r ∷ rows) = by_test (test r) (ids_few (n + 1) test rows) where
  by_test : (t : Bool) → length (ids_from (n + 1) test rows) ≤ length rows → length (map (λ (r : ℕ × plain.Row). r.0) (cond t ((n, r) ∷ filter (λ (r : ℕ × plain.Row). test r.1) (enumerate_from (n + 1) rows)) (filter (λ (r : ℕ × plain.Row). test r.1) (enumerate_from (n + 1) rows)))) ≤ suc (length rows)
  by_test true h = omega (arith, h)
  by_test false h = omega (arith, h)

ids_more : (f : plain.Row → ℕ) (v n : ℕ) (rows : List plain.Row) → length (ids_from n (λ row. nat_le (f row) v) rows) + length (ids_from n (λ row. nat_eq (f row) (suc v)) rows) ≡ length (ids_from n (λ row. nat_le (f row) (suc v)) rows)
ids_more f v n [] = omega arith
ids_more f v n (r ∷ rows) =
    let t = less_or_more (f r) v in
    by_tests (nat_le (f r) v) (nat_eq (f r) (suc v)) (nat_le (f r) (suc v)) t.0 t.1
    (filter (λ (r : ℕ × plain.Row). nat_le (f r.1) v) (enumerate_from (n + 1) rows)) (filter (λ (r : ℕ × plain.Row). nat_eq (f r.1) (suc v)) (enumerate_from (n + 1) rows)) (filter (λ (r : ℕ × plain.Row). nat_le (f r.1) (suc v)) (enumerate_from (n + 1) rows))
    (ids_more f v (n + 1) rows) where
      by_tests : (a b c : Bool) → (a && b) ≡ false → c ≡ (a || b) → (xs ys zs : List (ℕ × plain.Row)) → length (map (λ (r : ℕ × plain.Row). r.0) xs) + length (map (λ (r : ℕ × plain.Row). r.0) ys) ≡ length (map (λ (r : ℕ × plain.Row). r.0) zs)
          → length (map (λ (r : ℕ × plain.Row). r.0) (cond a ((n, r) ∷ xs) xs)) + length (map (λ (r : ℕ × plain.Row). r.0) (cond b ((n, r) ∷ ys) ys)) ≡ length (map (λ (r : ℕ × plain.Row). r.0) (cond c ((n, r) ∷ zs) zs))
      by_tests true true c n e xs ys zs h = absurd (cc)
      by_tests true false c n e xs ys zs h = rw e (omega (arith, h))
      by_tests false true c n e xs ys zs h = rw e (omega (arith, h))
      by_tests false false c n e xs ys zs h = rw e (omega (arith, h))

events_by : (rows : List plain.Row) (v : ℕ) → place_of rows v ≤ length (ids_from 0 (λ row. nat_le row.from v) rows) + length (ids_from 0 (λ row. nat_le row.to v) rows)
events_by rows zero = omega arith
events_by rows (suc v) =
    let ends = ids_where (λ row. nat_eq row.to (suc v)) rows in
    let begins = ids_where (λ row. nat_eq row.from (suc v)) rows in
    omega (arith, events_by rows v, ids_more (λ row. row.from) v 0 rows, ids_more (λ row. row.to) v 0 rows, length-append (events_of rows v) (events_at rows (suc v)), length-append (map invalidation ends) (map activation begins), length-map ends invalidation, length-map begins activation)

-- each row begins and ends once at most
pub events_few : (rows : List plain.Row) (v : ℕ) → place_of rows v ≤ length rows + length rows
events_few rows v = omega (arith, events_by rows v, ids_few 0 (λ row. nat_le row.from v) rows, ids_few 0 (λ row. nat_le row.to v) rows)

-- OF WHICH ROWS

ids_within : (test : plain.Row → Bool) (n : ℕ) (opens : Bool) (rows : List plain.Row) (m : ℕ) → n + length rows ≤ m → All (λ (e : Event). e.row < m) (map (event_of opens) (ids_from n test rows))
ids_within test n opens [] m l = All-nil (λ (e : Event). e.row < m)
ids_within test n opens (r ∷ rows) m l = by_test (test r) (ids_within test (n + 1) opens rows m (omega (arith, l))) where
  P : Event → Type 0
  P e = e.row < m

  by_test : (t : Bool) → All P (map (event_of opens) (ids_from (n + 1) test rows)) → All P (map (event_of opens) (map (λ (r : ℕ × plain.Row). r.0) (cond t ((n, r) ∷ filter (λ (r : ℕ × plain.Row). test r.1) (enumerate_from (n + 1) rows)) (filter (λ (r : ℕ × plain.Row). test r.1) (enumerate_from (n + 1) rows)))))
  by_test true h = All-append P (event_of opens n ∷ []) (map (event_of opens) (ids_from (n + 1) test rows)) first h where
    first : All P (event_of opens n ∷ [])
    first zero d s = omega (arith, l)
    first (suc k) d s = absurd (omega (arith, s))
  by_test false h = h

-- each event of a table is of one of its rows
pub events_within : (rows : List plain.Row) (v : ℕ) → All (λ (e : Event). e.row < length rows) (events_of rows v)
events_within rows zero = All-nil (λ (e : Event). e.row < length rows)
events_within rows (suc v) =
    All-append (λ (e : Event). e.row < length rows) (events_of rows v) (events_at rows (suc v)) (events_within rows v)
    (All-append (λ (e : Event). e.row < length rows) (map invalidation (ids_where (λ row. nat_eq row.to (suc v)) rows)) (map activation (ids_where (λ row. nat_eq row.from (suc v)) rows))
    (ids_within (λ row. nat_eq row.to (suc v)) 0 false rows (length rows) (omega arith)) (ids_within (λ row. nat_eq row.from (suc v)) 0 true rows (length rows) (omega arith)))

-- NO EVENT AT A VERSION TO COME

none_begins : (v n : ℕ) (rows : List plain.Row) → AreWellFormed v rows → ids_from n (λ row. nat_eq row.from (suc v)) rows ≡ []
none_begins v n [] h = refl
none_begins v n (r ∷ rows) h =
    let e : nat_eq r.from (suc v) ≡ false = ne_eqb r.from (suc v) (λ e. omega (arith, e, h.0.begun)) in
    rw e (none_begins v (n + 1) rows h.1)

none_ends : (v n : ℕ) (rows : List plain.Row) → suc v < open_end → AreWellFormed v rows → ids_from n (λ row. nat_eq row.to (suc v)) rows ≡ []
none_ends v n [] l h = refl
none_ends v n (r ∷ rows) l h =
    let e : nat_eq r.to (suc v) ≡ false = ne_eqb r.to (suc v) (λ e. elim h.0.ended [ inl w ↦ omega (arith, e, w) | inr o ↦ omega (arith, e, o, l) ]) in
    rw e (none_ends v (n + 1) rows l h.1)

-- a table that a commit leaves as it was has no event at the commit's version
pub none_happens : (v : ℕ) (rows : List plain.Row) → suc v < open_end → AreWellFormed v rows → events_at rows (suc v) ≡ []
none_happens v rows l h =
    ap (λ ids. map invalidation ids ++ map activation (ids_where (λ row. nat_eq row.from (suc v)) rows)) (none_ends v 0 rows l h)
    ∙ ap (λ ids. map activation ids) (none_begins v 0 rows h)

pub no_events : (v : ℕ) → events_of [] v ≡ []
no_events zero = refl
no_events (suc v) = append-nil (events_of [] v) ∙ no_events v

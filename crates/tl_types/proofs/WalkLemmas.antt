-- The events from one version to a later one turn the set of rows of the one into that of the other,
-- and each of them changes the set.
use Rattle.std.proofs.Common.{◌≡◌, ℕ, zero, suc, ◌+◌, ◌-◌, ◌<◌, ◌≤◌, ◌⊎◌, inl, inr, Bool, true, false, ◌&&◌, not, cond, nat_eq, nat_le, nat_lt, List, [], ◌∷◌, ◌++◌, length, map, take, drop, get_or, replicate, All, Some, refl, sym, ap, subst, ◌∙◌, arith, slice_get, length-append, append_assoc}
use Rattle.std.specs.Prelude.{slice_set}
use Rattle.std.specs.List.{filter, enumerate_from}
use Rattle.std.proofs.Math.Seq.{set-append_seam}
use Rattle.std.proofs.lemmas.Bool.{cases_lt}
use Rattle.std.proofs.lemmas.Bool.Decides.{nat_tests}
use Rattle.std.proofs.lemmas.List.{append-nil, drop_all, drop-append-le, length_push, length-set, length-take-le, take_more}
use Rattle.std.proofs.lemmas.List.Sums.{fold-append}
use Rattle.std.proofs.lemmas.Option.{get_or_from_slice_get}
use Rattle.tl_types.specs.declared.events.Event.{Event}
use Rattle.tl_types.specs.Plain as plain
use Rattle.tl_types.specs.History.{is_visible}
use Rattle.tl_types.specs.Events.{ids_from, ids_where, invalidation, activation, events_at, events_of, place_of}
use Rattle.tl_types.specs.WellFormed.{AreWellFormed}
use Rattle.tl_types.specs.Walks.{standing, after_event, after_events, ChangesEach, events_between, IsQuiet}
use Rattle.tl_types.proofs.EventLemmas.{event_of, between_more}

-- ONE KIND OF EVENTS

-- events of one kind put that kind at the rows that pass, and leave the others
put_where : (b : Bool) (test f : plain.Row → Bool) (n : ℕ) (front : List Bool) (rows : List plain.Row) → length front ≡ n → after_events (front ++ map f rows) (map (event_of b) (ids_from n test rows)) ≡ front ++ map (λ row. cond (test row) b (f row)) rows
put_where b test f n front [] l = refl
put_where b test f n front (r ∷ rows) l =
    by_test (test r) (put_where b test f (n + 1) (front ++ cond (test r) b (f r) ∷ []) rows (omega (arith, l, length-append front (cond (test r) b (f r) ∷ [])))) where
      by_test : (t : Bool) → after_events ((front ++ cond t b (f r) ∷ []) ++ map f rows) (map (event_of b) (ids_from (n + 1) test rows)) ≡ (front ++ cond t b (f r) ∷ []) ++ map (λ row. cond (test row) b (f row)) rows
          → after_events (front ++ f r ∷ map f rows) (map (event_of b) (map (λ (r : ℕ × plain.Row). r.0) (cond t ((n, r) ∷ filter (λ (r : ℕ × plain.Row). test r.1) (enumerate_from (n + 1) rows)) (filter (λ (r : ℕ × plain.Row). test r.1) (enumerate_from (n + 1) rows))))) ≡ front ++ cond t b (f r) ∷ map (λ row. cond (test row) b (f row)) rows
      by_test true ih =
          ap (λ s. after_events s (map (event_of b) (ids_from (n + 1) test rows)))
          (ap (λ m. slice_set (front ++ f r ∷ map f rows) m b) (sym l) ∙ set-append_seam front (f r) (map f rows) b ∙ sym (append_assoc front (b ∷ []) (map f rows)))
          ∙ ih ∙ append_assoc front (b ∷ []) (map (λ row. cond (test row) b (f row)) rows)
      by_test false ih =
          ap (λ s. after_events s (map (event_of b) (ids_from (n + 1) test rows)))
          (sym (append_assoc front (f r ∷ []) (map f rows)))
          ∙ ih ∙ append_assoc front (f r ∷ []) (map (λ row. cond (test row) b (f row)) rows)

-- each row that passes has the value
abbrev HaveValue : Bool → (plain.Row → Bool) → (plain.Row → Bool) → List plain.Row → Type 0
HaveValue b test f [] = Unit {0}
HaveValue b test f (row ∷ rows) = (test row ≡ true → f row ≡ b) × HaveValue b test f rows

at_seam : (front back : List Bool) (x : Bool) (n : ℕ) → length front ≡ n → slice_get (front ++ x ∷ back) n ≡ Some x
at_seam [] back x zero e = refl
at_seam [] back x (suc n) e = absurd (omega arith)
at_seam (f ∷ front) back x zero e = absurd (omega arith)
at_seam (f ∷ front) back x (suc n) e = at_seam front back x n (omega arith)

-- and each of them changes the set, where the rows that pass are of the other kind
put_changes : (b : Bool) (test f : plain.Row → Bool) (n : ℕ) (front : List Bool) (rows : List plain.Row) → length front ≡ n → HaveValue (not b) test f rows → ChangesEach (front ++ map f rows) (map (event_of b) (ids_from n test rows))
put_changes b test f n front [] l h = tt
put_changes b test f n front (r ∷ rows) l h =
    by_test (test r) refl (λ x. put_changes b test f (n + 1) (front ++ x ∷ []) rows (length_push front x ∙ omega (arith, l)) h.1) where
      by_test : (t : Bool) → test r ≡ t
          → ((x : Bool) → ChangesEach ((front ++ x ∷ []) ++ map f rows) (map (event_of b) (ids_from (n + 1) test rows)))
          → ChangesEach (front ++ f r ∷ map f rows) (map (event_of b) (map (λ (r : ℕ × plain.Row). r.0) (cond (test r) ((n, r) ∷ filter (λ (r : ℕ × plain.Row). test r.1) (enumerate_from (n + 1) rows)) (filter (λ (r : ℕ × plain.Row). test r.1) (enumerate_from (n + 1) rows)))))
      by_test true t ih =
          let put : slice_set (front ++ f r ∷ map f rows) n b ≡ (front ++ b ∷ []) ++ map f rows =
          ap (λ m. slice_set (front ++ f r ∷ map f rows) m b) (sym l) ∙ set-append_seam front (f r) (map f rows) b ∙ sym (append_assoc front (b ∷ []) (map f rows)) in
          let was : slice_get (front ++ f r ∷ map f rows) n ≡ Some (not b) = at_seam front (map f rows) (f r) n l ∙ ap Some (h.0 t) in
          rw t (was, subst (λ s. ChangesEach s (map (event_of b) (ids_from (n + 1) test rows))) (sym put) (ih b))
      by_test false t ih =
          rw t (subst (λ s. ChangesEach s (map (event_of b) (ids_from (n + 1) test rows))) (append_assoc front (f r ∷ []) (map f rows)) (ih (f r)))

-- ONE VERSION

-- the row stands when the rows that end at version v + 1 have ended
abbrev ended : ℕ → plain.Row → Bool
ended v row = cond (nat_eq row.to (suc v)) false (is_visible v row)

stands_then : (v from to : ℕ) → from < to → cond (nat_eq from (suc v)) true (cond (nat_eq to (suc v)) false (nat_le from v && nat_lt v to)) ≡ (nat_le from (suc v) && nat_lt (suc v) to)
stands_then v from to l = grind (arith, nat_tests)

all_stand_then : (v last : ℕ) (rows : List plain.Row) → AreWellFormed last rows → map (λ (row : plain.Row). cond (nat_eq row.from (suc v)) true (ended v row)) rows ≡ standing rows (suc v)
all_stand_then v last [] h = refl
all_stand_then v last (r ∷ rows) h =
    ap (λ b. b ∷ map (λ (row : plain.Row). cond (nat_eq row.from (suc v)) true (ended v row)) rows) (stands_then v r.from r.to h.0.lasts)
    ∙ ap (λ bs. is_visible (suc v) r ∷ bs) (all_stand_then v last rows h.1)

after_ends : (v : ℕ) (rows : List plain.Row) → after_events (standing rows v) (map invalidation (ids_where (λ row. nat_eq row.to (suc v)) rows)) ≡ map (ended v) rows
after_ends v rows = put_where false (λ row. nat_eq row.to (suc v)) (is_visible v) 0 [] rows refl

-- the events of a version turn the set of the version before it into its own
pub version_leads : (v last : ℕ) (rows : List plain.Row) → AreWellFormed last rows → after_events (standing rows v) (events_at rows (suc v)) ≡ standing rows (suc v)
version_leads v last rows h =
    fold-append after_event (standing rows v) (map invalidation (ids_where (λ row. nat_eq row.to (suc v)) rows)) (map activation (ids_where (λ row. nat_eq row.from (suc v)) rows))
    ∙ ap (λ s. after_events s (map activation (ids_where (λ row. nat_eq row.from (suc v)) rows))) (after_ends v rows)
    ∙ put_where true (λ row. nat_eq row.from (suc v)) (ended v) 0 [] rows refl
    ∙ all_stand_then v last rows h

ends_stand : (v from to : ℕ) → from < to → nat_eq to (suc v) ≡ true → (nat_le from v && nat_lt v to) ≡ true
ends_stand v from to l e = grind (arith, nat_tests)

begins_not : (v from to : ℕ) → from < to → nat_eq from (suc v) ≡ true → cond (nat_eq to (suc v)) false (nat_le from v && nat_lt v to) ≡ false
begins_not v from to l e = grind (arith, nat_tests)

all_ends_stand : (v last : ℕ) (rows : List plain.Row) → AreWellFormed last rows → HaveValue true (λ row. nat_eq row.to (suc v)) (is_visible v) rows
all_ends_stand v last [] h = tt
all_ends_stand v last (r ∷ rows) h = ((λ e. ends_stand v r.from r.to h.0.lasts e), all_ends_stand v last rows h.1)

all_begins_not : (v last : ℕ) (rows : List plain.Row) → AreWellFormed last rows → HaveValue false (λ row. nat_eq row.from (suc v)) (ended v) rows
all_begins_not v last [] h = tt
all_begins_not v last (r ∷ rows) h = ((λ e. begins_not v r.from r.to h.0.lasts e), all_begins_not v last rows h.1)

changes-append : (set : List Bool) (xs ys : List Event) → ChangesEach set xs → ChangesEach (after_events set xs) ys → ChangesEach set (xs ++ ys)
changes-append set [] ys h k = k
changes-append set (x ∷ xs) ys h k = (h.0, changes-append (after_event set x) xs ys h.1 k)

pub version_changes : (v last : ℕ) (rows : List plain.Row) → AreWellFormed last rows → ChangesEach (standing rows v) (events_at rows (suc v))
version_changes v last rows h =
    changes-append (standing rows v) (map invalidation (ids_where (λ row. nat_eq row.to (suc v)) rows)) (map activation (ids_where (λ row. nat_eq row.from (suc v)) rows))
    (put_changes false (λ row. nat_eq row.to (suc v)) (is_visible v) 0 [] rows refl (all_ends_stand v last rows h))
    (subst (λ s. ChangesEach s (map activation (ids_where (λ row. nat_eq row.from (suc v)) rows))) (sym (after_ends v rows))
    (put_changes true (λ row. nat_eq row.from (suc v)) (ended v) 0 [] rows refl (all_begins_not v last rows h)))

-- MANY VERSIONS

none_between : (rows : List plain.Row) (v : ℕ) → events_between rows v v ≡ []
none_between rows v = drop_all (place_of rows v) (events_of rows v) (omega arith)

-- the events between two versions turn the set of the one into that of the other
pub events_lead : (last : ℕ) (rows : List plain.Row) (u v : ℕ) → AreWellFormed last rows → u ≤ v → after_events (standing rows u) (events_between rows u v) ≡ standing rows v
events_lead last rows u zero h l = let e : u ≡ zero = omega arith in subst (λ w. after_events (standing rows w) (events_between rows w zero) ≡ standing rows 0) (sym e) refl
events_lead last rows u (suc v) h l = by_last (cases_lt v u) (events_lead last rows u v h) where
  by_last : (v < u) ⊎ (u ≤ v) → (u ≤ v → after_events (standing rows u) (events_between rows u v) ≡ standing rows v) → after_events (standing rows u) (events_between rows u (suc v)) ≡ standing rows (suc v)
  by_last (inl here) ih =
      let e : u ≡ suc v = omega arith in
      subst (λ w. after_events (standing rows w) (events_between rows w (suc v)) ≡ standing rows (suc v)) (sym e)
      (ap (after_events (standing rows (suc v))) (none_between rows (suc v)))
  by_last (inr before) ih =
      ap (after_events (standing rows u)) (between_more rows u v before)
      ∙ fold-append after_event (standing rows u) (events_between rows u v) (events_at rows (suc v))
      ∙ ap (λ s. after_events s (events_at rows (suc v))) (ih before)
      ∙ version_leads v last rows h

-- and each of them changes the set
pub events_change : (last : ℕ) (rows : List plain.Row) (u v : ℕ) → AreWellFormed last rows → u ≤ v → ChangesEach (standing rows u) (events_between rows u v)
events_change last rows u zero h l = let e : u ≡ zero = omega arith in subst (λ w. ChangesEach (standing rows w) (events_between rows w zero)) (sym e) tt
events_change last rows u (suc v) h l = by_last (cases_lt v u) (events_change last rows u v h) where
  by_last : (v < u) ⊎ (u ≤ v) → (u ≤ v → ChangesEach (standing rows u) (events_between rows u v)) → ChangesEach (standing rows u) (events_between rows u (suc v))
  by_last (inl here) ih =
      let e : u ≡ suc v = omega arith in
      subst (λ w. ChangesEach (standing rows w) (events_between rows w (suc v))) (sym e)
      (subst (ChangesEach (standing rows (suc v))) (sym (none_between rows (suc v))) tt)
  by_last (inr before) ih =
      subst (ChangesEach (standing rows u)) (sym (between_more rows u v before))
      (changes-append (standing rows u) (events_between rows u v) (events_at rows (suc v)) (ih before)
      (subst (λ s. ChangesEach s (events_at rows (suc v))) (sym (events_lead last rows u v h before)) (version_changes v last rows h)))

-- no row stands at version 0
pub none_stand : (last : ℕ) (rows : List plain.Row) → AreWellFormed last rows → replicate (length rows) false ≡ standing rows 0
none_stand last [] h = refl
none_stand last (r ∷ rows) h =
    let e : false ≡ is_visible 0 r = first r.from r.to h.0.begins in
    ap (λ bs. false ∷ bs) (none_stand last rows h.1) ∙ ap (λ b. b ∷ standing rows 0) e where
      first : (from to : ℕ) → 0 < from → false ≡ (nat_le from 0 && nat_lt 0 to)
      first from to l = grind (arith, nat_tests)

-- WHERE A WALK BEGINS

none_of : {X : Type 0} (test : X → Bool) (m n : ℕ) (xs : List X) (ids : List ℕ) → n < m → ids_from m test xs ≡ n ∷ ids → ⊥
none_of test m n [] ids l h = absurd (cc)
none_of {X} test m n (x ∷ xs) ids l h = by_test (test x) (none_of test (m + 1) n xs ids (omega arith)) h where
  by_test : (t : Bool) → (ids_from (m + 1) test xs ≡ n ∷ ids → ⊥) → map (λ (r : ℕ × X). r.0) (cond t ((m, x) ∷ filter (λ (r : ℕ × X). test r.1) (enumerate_from (m + 1) xs)) (filter (λ (r : ℕ × X). test r.1) (enumerate_from (m + 1) xs))) ≡ n ∷ ids → ⊥
  by_test true ih h = let e : m ≡ n = cc in omega arith
  by_test false ih h = ih h

-- a set with the ids of the rows that pass, grown to as many rows, says of each row whether it passes
pub grown_from : (n k : ℕ) (set : List Bool) (test : plain.Row → Bool) (rows : List plain.Row) → k + length set ≡ length rows → ids_from n (λ b. b) set ≡ ids_from n test rows → set ++ replicate k false ≡ map test rows
grown_from n zero [] test [] l h = refl
grown_from n (suc k) [] test [] l h = absurd (omega arith)
grown_from n k (b ∷ set) test [] l h = absurd (omega arith)
grown_from n zero [] test (r ∷ rows) l h = absurd (omega arith)
grown_from n (suc k) [] test (r ∷ rows) l h =
    by_test (test r) (grown_from (n + 1) k [] test rows (omega arith)) h where
      by_test : (t : Bool) → ([] ≡ ids_from (n + 1) test rows → replicate k false ≡ map test rows)
          → [] ≡ map (λ (r : ℕ × plain.Row). r.0) (cond t ((n, r) ∷ filter (λ (r : ℕ × plain.Row). test r.1) (enumerate_from (n + 1) rows)) (filter (λ (r : ℕ × plain.Row). test r.1) (enumerate_from (n + 1) rows)))
          → false ∷ replicate k false ≡ t ∷ map test rows
      by_test true ih h = absurd (cc)
      by_test false ih h = ap (λ bs. false ∷ bs) (ih h)
grown_from n k (b ∷ set) test (r ∷ rows) l h =
    by_tests b (test r) (grown_from (n + 1) k set test rows (omega arith)) h where
      by_tests : (s t : Bool) → (ids_from (n + 1) (λ b. b) set ≡ ids_from (n + 1) test rows → set ++ replicate k false ≡ map test rows)
          → map (λ (r : ℕ × Bool). r.0) (cond s ((n, b) ∷ filter (λ (r : ℕ × Bool). r.1) (enumerate_from (n + 1) set)) (filter (λ (r : ℕ × Bool). r.1) (enumerate_from (n + 1) set)))
          ≡ map (λ (r : ℕ × plain.Row). r.0) (cond t ((n, r) ∷ filter (λ (r : ℕ × plain.Row). test r.1) (enumerate_from (n + 1) rows)) (filter (λ (r : ℕ × plain.Row). test r.1) (enumerate_from (n + 1) rows)))
          → s ∷ set ++ replicate k false ≡ t ∷ map test rows
      by_tests true true ih h = ap (λ bs. true ∷ bs) (ih (cc))
      by_tests true false ih h = absurd (none_of test (n + 1) n rows (ids_from (n + 1) (λ b. b) set) (omega arith) (sym h))
      by_tests false true ih h = absurd (none_of (λ (b : Bool). b) (n + 1) n set (ids_from (n + 1) test rows) (omega arith) h)
      by_tests false false ih h = ap (λ bs. false ∷ bs) (ih h)

-- A WALK OVER A LIST

pub length_after : (set : List Bool) (events : List Event) → length (after_events set events) ≡ length set
length_after set [] = refl
length_after set (e ∷ events) = length_after (after_event set e) events ∙ length-set set e.row e.opens

-- the event at a place is of a row of the set
pub row_within : (set now : List Bool) (events : List Event) (from i : ℕ) (e : Event) → now ≡ after_events set (drop from (take i events)) → All (λ event. event.row < length set) events → i < length events → slice_get events i ≡ Some e → e.row < length now
row_within set now events from i e is all l here =
    let at : get_or events i e ≡ e = get_or_from_slice_get events i e e here in
    let row = subst (λ (event : Event). event.row < length set) at (all i e l) in
    let same = ap length is ∙ length_after set (drop from (take i events)) in
    omega (arith, row, same)

-- one event more
pub event_more : (set now new : List Bool) (events : List Event) (from i : ℕ) (e : Event) → from ≤ i → i < length events → slice_get events i ≡ Some e → now ≡ after_events set (drop from (take i events)) → new ≡ after_event now e → new ≡ after_events set (drop from (take (i + 1) events))
event_more set now new events from i e o l here is step =
    let at : get_or events i e ≡ e = get_or_from_slice_get events i e e here in
    let taken : length (take i events) ≡ i = length-take-le i events (omega arith) in
    step ∙ ap (λ s. after_event s e) is
    ∙ sym (ap (after_events set) (ap (drop from) (take_more events i e l ∙ ap (λ (f : Event). take i events ++ f ∷ []) at) ∙ drop-append-le from (take i events) (e ∷ []) (omega arith))
    ∙ fold-append after_event set (drop from (take i events)) (e ∷ []))

-- QUIET VERSIONS

quiet_same : (last : ℕ) (rows : List plain.Row) → AreWellFormed last rows → (from k : ℕ) → IsQuiet rows from (suc (from + k)) → standing rows (from + k) ≡ standing rows from
quiet_same last rows h from zero quiet = let e : from + 0 ≡ from = omega arith in ap (standing rows) e
quiet_same last rows h from (suc k) quiet =
    let e : from + suc k ≡ suc (from + k) = omega arith in
    let none : events_at rows (suc (from + k)) ≡ [] = quiet (suc (from + k)) (omega arith) (omega arith) in
    ap (standing rows) e ∙ sym (version_leads (from + k) last rows h) ∙ ap (after_events (standing rows (from + k))) none
    ∙ quiet_same last rows h from k (λ m l b. quiet m l (omega arith))

-- the same rows stand at versions without an event between them
pub quiet_stays : (last : ℕ) (rows : List plain.Row) → AreWellFormed last rows → (from to v : ℕ) → IsQuiet rows from to → from ≤ v → v < to → standing rows v ≡ standing rows from
quiet_stays last rows h from to v quiet l b =
    let e : from + (v - from) ≡ v = omega arith in
    ap (standing rows) (sym e) ∙ quiet_same last rows h from (v - from) (λ m a c. quiet m a (omega arith))

quiet_before : (rows : List plain.Row) (from k : ℕ) → IsQuiet rows from (suc (from + k)) → events_of rows (from + k) ≡ events_of rows from
quiet_before rows from zero quiet = let e : from + 0 ≡ from = omega arith in ap (events_of rows) e
quiet_before rows from (suc k) quiet =
    let e : from + suc k ≡ suc (from + k) = omega arith in
    let none : events_at rows (suc (from + k)) ≡ [] = quiet (suc (from + k)) (omega arith) (omega arith) in
    ap (events_of rows) e ∙ ap (λ es. events_of rows (from + k) ++ es) none ∙ append-nil (events_of rows (from + k))
    ∙ quiet_before rows from k (λ m l h. quiet m l (omega arith))

-- the events up to a version, where there is none behind an earlier version and before this one
pub quiet_events : (rows : List plain.Row) (from version : ℕ) → from < version → IsQuiet rows from version → events_of rows version ≡ events_of rows from ++ events_at rows version
quiet_events rows from zero l quiet = absurd (omega arith)
quiet_events rows from (suc v) l quiet =
    let e : from + (v - from) ≡ v = omega arith in
    let same : events_of rows v ≡ events_of rows from = ap (events_of rows) (sym e) ∙ quiet_before rows from (v - from) (λ m a b. quiet m a (omega arith)) in
    ap (λ es. es ++ events_at rows (suc v)) same

-- One commit more makes the timelines of all tables those of the next version.
use Rattle.std.proofs.Common.{◌≡◌, ℕ, zero, suc, ◌+◌, ◌-◌, ◌<◌, ◌≤◌, Bool, true, false, ◌||◌, cond, nat_eq, List, [], ◌∷◌, ◌++◌, length, map, Some, ◌⊎◌, inl, inr, refl, sym, ap, subst, ◌∙◌, arith, slice_get, length-append}
use Rattle.std.specs.List.{enumerate_from, list_all, range_with_len, All}
use Rattle.std.proofs.lemmas.Bool.{ne_eqb, cases_lt}
use Rattle.std.proofs.lemmas.Bool.Decides.{nat_tests}
use Rattle.std.proofs.lemmas.List.{length-map, append-nil}
use Rattle.std.proofs.lemmas.List.Elements.{All-push, All-nil}
use Rattle.std.proofs.lemmas.List.FromFn.{length-range_with_len}
use Rattle.tl_types.proofs.Lists.{open_within}
use Rattle.std.proofs.Common.{set}
use Rattle.std.proofs.lemmas.Option.{get_or_from_slice_get, slice_get_within}
use Rattle.tl_types.specs.Plain as plain
use Rattle.tl_types.specs.Facts.{AscendFrom}
use Rattle.tl_types.specs.declared.events.Event.{Event}
use Rattle.tl_types.specs.History.{open_end, has_id, is_open_at, row_after, new_row, table_after, at_place}
use Rattle.tl_types.proofs.EventLemmas.{none_happens, no_events}
use Rattle.tl_types.specs.Events.{ids_from, ids_where, invalidation, activation, events_at, events_of, place_of}
use Rattle.tl_types.proofs.CheckpointLemmas.{SameRows, events_kept, rows_go_on, closed_are_open}
use Rattle.tl_events.specs.declared.version_maps.VersionEnd.{VersionEnd}
use Rattle.tl_events.specs.Timeline.{version_events, ends_of, IsAfter}
use Rattle.tl_types.specs.WellFormed.{AreWellFormed, HaveWellFormedRows}
use Rattle.tl_index.specs.declared.timelines.Timeline.{Timeline}
use Rattle.tl_index.specs.Timelines.{timeline_of, timeline_after}

-- A TABLE THAT STAYS AS IT WAS

-- the timeline of such a table stays as it was
left_timeline : (v : ℕ) (table : plain.Table) → suc v < open_end → AreWellFormed v table.rows → timeline_of v table ≡ timeline_of (suc v) table
left_timeline v table l h =
    let e = none_happens v table.rows l h in
    parts (events_of table.rows v) (events_of table.rows (suc v)) (ends_of table.rows v) (ends_of table.rows (suc v))
    (sym (ap (λ es. events_of table.rows v ++ es) e ∙ append-nil (events_of table.rows v)))
    (sym (ap (λ b. ends_of table.rows v ++ cond b [] (record { version = suc v; end = place_of table.rows (suc v) } ∷ [])) (ap (λ (es : List Event). nat_eq (length es) 0) e) ∙ append-nil (ends_of table.rows v))) where
      parts : (a b : List Event) (c d : List VersionEnd) → a ≡ b → c ≡ d → ◌≡◌ {A = Timeline} (record { events = a; ends = c }) (record { events = b; ends = d })
      parts a b c d e f = rw (e, f) refl

pub left_timelines : (v : ℕ) (tables : List plain.Table) → suc v < open_end → HaveWellFormedRows v tables → map (timeline_of v) tables ≡ map (timeline_of (suc v)) tables
left_timelines v [] l h = refl
left_timelines v (t ∷ tables) l h =
    ap (λ x. x ∷ map (timeline_of v) tables) (left_timeline v t l h.0) ∙ ap (λ xs. timeline_of (suc v) t ∷ xs) (left_timelines v tables l h.1)

-- THE EVENTS OF A CHANGE

opened_begin : (w n : ℕ) (opens : List plain.Opened) → ids_from n (λ row. nat_eq row.from w) (map (new_row w) opens) ≡ range_with_len n (length opens)
opened_begin w n [] = refl
opened_begin w n (p ∷ opens) =
    let e : nat_eq w w ≡ true = grind (arith, nat_tests) in
    rw e (ap (λ ids. n ∷ ids) (opened_begin w (n + 1) opens))

opened_last : (w n : ℕ) (opens : List plain.Opened) → w < open_end → ids_from n (λ row. nat_eq row.to w) (map (new_row w) opens) ≡ []
opened_last w n [] l = refl
opened_last w n (p ∷ opens) l =
    let e : nat_eq open_end w ≡ false = ne_eqb open_end w (λ e. omega (arith, e, l)) in
    rw e (opened_last w (n + 1) opens l)

kept_from : (w : ℕ) (b : Bool) (r : plain.Row) → (cond b (record r { to = w }) r).from ≡ r.from
kept_from w true r = refl
kept_from w false r = refl

pub begin_there : (v n m : ℕ) (closes : List ℕ) (opens : List plain.Opened) (rows : List plain.Row) → n + length rows ≡ m → AreWellFormed v rows → ids_from n (λ row. nat_eq row.from (suc v)) (map (row_after (suc v) closes) (enumerate_from n rows) ++ map (new_row (suc v)) opens) ≡ range_with_len m (length opens)
begin_there v n m closes opens [] l h = let e : n ≡ m = omega (arith, l) in opened_begin (suc v) n opens ∙ ap (λ k. range_with_len k (length opens)) e
begin_there v n m closes opens (r ∷ rows) l h =
    let e : nat_eq (cond (has_id closes n) (record r { to = suc v }) r).from (suc v) ≡ false =
    ap (λ f. nat_eq f (suc v)) (kept_from (suc v) (has_id closes n) r) ∙ ne_eqb r.from (suc v) (λ e. omega (arith, e, h.0.begun)) in
    rw e (begin_there v (n + 1) m closes opens rows (omega (arith, l)) h.1)

-- ids from a number on do not have a lesser one
not_below : (n k : ℕ) (ids : List ℕ) → k < n → AscendFrom n ids → has_id ids k ≡ false
not_below n k [] l h = refl
not_below n k (id ∷ ids) l h =
    let e : nat_eq id k ≡ false = ne_eqb id k (λ e. omega (arith, e, l, h.0)) in
    rw e (not_below (id + 1) k ids (omega (arith, l, h.0)) h.1)

-- what ends at the change's version: the rows that it closes
pub end_there : (v n : ℕ) (all closes : List ℕ) (opens : List plain.Opened) (rows : List plain.Row) → suc v < open_end → AreWellFormed v rows
    → AscendFrom n closes → ((j : ℕ) → n ≤ j → has_id all j ≡ has_id closes j) → ((j : ℕ) → has_id closes j ≡ true → j < n + length rows)
    → ids_from n (λ row. nat_eq row.to (suc v)) (map (row_after (suc v) all) (enumerate_from n rows) ++ map (new_row (suc v)) opens) ≡ closes
end_there v n all [] opens [] l h a s w = opened_last (suc v) n opens l
end_there v n all (c ∷ closes) opens [] l h a s w =
    let e : nat_eq c c ≡ true = grind (arith, nat_tests) in
    let i : has_id (c ∷ closes) c ≡ true = rw e refl in
    absurd (omega (arith, w c i, a.0))
end_there v n all [] opens (r ∷ rows) l h a s w =
    let stays : has_id all n ≡ false = s n (omega arith) in
    let e : nat_eq r.to (suc v) ≡ false = ne_eqb r.to (suc v) (λ e. elim h.0.ended [ inl t ↦ omega (arith, e, t) | inr o ↦ omega (arith, e, o, l) ]) in
    rw (stays, e) (end_there v (n + 1) all [] opens rows l h.1 tt (λ j o. s j (omega (arith, o))) (λ j i. absurd (cc)))
end_there v n all (c ∷ closes) opens (r ∷ rows) l h a s w =
    by_first (cases_lt n c)
    (λ t. end_there v (n + 1) all (c ∷ closes) opens rows l h.1 (omega (arith, t), a.1) (λ j o. s j (omega (arith, o))) (λ j i. omega (arith, w j i)))
    (λ e. end_there v (n + 1) all closes opens rows l h.1 (subst (λ k. AscendFrom (k + 1) closes) e a.1) (λ j o. s j (omega (arith, o)) ∙ passed j (omega (arith, e, o))) (λ j i. omega (arith, w j (later j i)))) where
      passed : (j : ℕ) → c < j → has_id (c ∷ closes) j ≡ has_id closes j
      passed j o = let e : nat_eq c j ≡ false = ne_eqb c j (λ e. omega (arith, e, o)) in rw e refl

      later : (j : ℕ) → has_id closes j ≡ true → has_id (c ∷ closes) j ≡ true
      later j i = by_test (nat_eq c j) where
        by_test : (b : Bool) → (b || has_id closes j) ≡ true
        by_test true = refl
        by_test false = i

      rest : List ℕ
      rest = ids_from (n + 1) (λ row. nat_eq row.to (suc v)) (map (row_after (suc v) all) (enumerate_from (n + 1) rows) ++ map (new_row (suc v)) opens)

      by_first : (n < c) ⊎ (c ≤ n) → (n < c → rest ≡ c ∷ closes) → (c ≡ n → rest ≡ closes)
          → ids_from n (λ row. nat_eq row.to (suc v)) (map (row_after (suc v) all) (enumerate_from n (r ∷ rows)) ++ map (new_row (suc v)) opens) ≡ c ∷ closes
      by_first (inl t) before here =
          let stays : has_id all n ≡ false = s n (omega arith) ∙ not_below c n (c ∷ closes) t (omega arith, a.1) in
          let e : nat_eq r.to (suc v) ≡ false = ne_eqb r.to (suc v) (λ e. elim h.0.ended [ inl t ↦ omega (arith, e, t) | inr o ↦ omega (arith, e, o, l) ]) in
          rw (stays, e) (before t)
      by_first (inr t) before here =
          let e : c ≡ n = omega (arith, t, a.0) in
          let f : nat_eq c n ≡ true = grind (arith, nat_tests) in
          let g : has_id (c ∷ closes) n ≡ true = rw f refl in
          let ends : has_id all n ≡ true = s n (omega arith) ∙ g in
          let same : nat_eq (suc v) (suc v) ≡ true = grind (arith, nat_tests) in
          rw (ends, same) (ap (λ ids. n ∷ ids) (here e) ∙ ap (λ k. k ∷ closes) (sym e))

-- A CHANGE

module _ (v : ℕ) (table : plain.Table) (change : plain.Change) (late : suc v < open_end) (proper : AreWellFormed v table.rows) (ascend : AscendFrom 0 change.closes) (current : list_all (is_open_at table.rows) change.closes ≡ true) where
  abbrev more : List plain.Row
  more = (table_after (suc v) change table).rows

  change_goes_on : SameRows v table.rows more
  change_goes_on = rows_go_on v (suc v) change.closes change.opens 0 table.rows (omega arith) (omega (arith, late)) (λ k j e i. let s : k ≡ j = omega (arith, e) in rw s (closed_are_open table.rows change.closes j current i))

  change_happens : events_at more (suc v) ≡ version_events change.closes (length table.rows) (length change.opens)
  change_happens =
      ap (λ ids. map invalidation ids ++ map activation (ids_where (λ row. nat_eq row.from (suc v)) more))
      (end_there v 0 change.closes change.closes change.opens table.rows late proper ascend (λ j o. refl) (λ j i. omega (arith, open_within table.rows j (closed_are_open table.rows change.closes j current i))))
      ∙ ap (λ ids. map invalidation change.closes ++ map activation ids) (begin_there v 0 (length table.rows) change.closes change.opens table.rows (omega arith) proper)

  ends_go_on : (u : ℕ) → u ≤ v → ends_of more u ≡ ends_of table.rows u
  ends_go_on zero l = refl
  ends_go_on (suc u) l =
      let p = ap length (events_kept v (suc u) table.rows more change_goes_on l) in
      let q = ap length (events_kept v u table.rows more change_goes_on (omega arith)) in
      let many : length (events_at more (suc u)) ≡ length (events_at table.rows (suc u)) = omega (arith, p, q, length-append (events_of more u) (events_at more (suc u)), length-append (events_of table.rows u) (events_at table.rows (suc u))) in
      ap (λ es. es ++ cond (nat_eq (length (events_at more (suc u))) 0) [] (record { version = suc u; end = place_of more (suc u) } ∷ [])) (ends_go_on u (omega arith))
      ∙ ap (λ n. ends_of table.rows u ++ cond (nat_eq n 0) [] (record { version = suc u; end = place_of more (suc u) } ∷ [])) many
      ∙ ap (λ n. ends_of table.rows u ++ cond (nat_eq (length (events_at table.rows (suc u))) 0) [] (record { version = suc u; end = n } ∷ [])) p

  pub changed_timeline : timeline_after (timeline_of v table) (suc v) change.closes (length table.rows) (length change.opens) ≡ timeline_of (suc v) (table_after (suc v) change table)
  changed_timeline =
      let old = events_kept v v table.rows more change_goes_on (omega arith) in
      let size : length (events_at more (suc v)) ≡ length change.closes + length change.opens =
      ap length change_happens ∙ length-append (map invalidation change.closes) (map activation (range_with_len (length table.rows) (length change.opens)))
      ∙ (let a = length-map change.closes invalidation in let b = length-map (range_with_len (length table.rows) (length change.opens)) activation in let c = length-range_with_len (length table.rows) (length change.opens) in omega (arith, a, b, c)) in
      parts (events_of table.rows v) (events_of more v) (version_events change.closes (length table.rows) (length change.opens)) (events_at more (suc v)) (ends_of table.rows v) (ends_of more v)
      (length change.closes + length change.opens) (length (events_at more (suc v))) (place_of more (suc v)) (sym old) (sym change_happens) (sym (ends_go_on v (omega arith))) (sym size)
      (omega (arith, ap length old, size, length-append (events_of more v) (events_at more (suc v)))) where
        parts : (a b c d : List Event) (x y : List VersionEnd) (m n p : ℕ) → a ≡ b → c ≡ d → x ≡ y → m ≡ n → length a + m ≡ p
            → ◌≡◌ {A = Timeline} (record { events = a ++ c; ends = cond (nat_eq m 0) x (x ++ record { version = suc v; end = length a + m } ∷ []) }) (record { events = b ++ d; ends = y ++ cond (nat_eq n 0) [] (record { version = suc v; end = p } ∷ []) })
        parts a b c d x y m n p e f g h i = rw (e, f, g, h) (by_test b d y n p (nat_eq n 0) (length b + n) (sym (ap (λ k. length k + n) e) ∙ sym (ap (λ k. length a + k) h) ∙ i)) where
          by_test : (b d : List Event) (y : List VersionEnd) (n p : ℕ) (t : Bool) (q : ℕ) → q ≡ p → ◌≡◌ {A = Timeline} (record { events = b ++ d; ends = cond t y (y ++ record { version = suc v; end = q } ∷ []) }) (record { events = b ++ d; ends = y ++ cond t [] (record { version = suc v; end = p } ∷ []) })
          by_test b d y n p true q i = ap (λ (es : List VersionEnd). record { events = b ++ d; ends = es }) (sym (append-nil y))
          by_test b d y n p false q i = rw i refl

-- what a change's table was, and all tables after it
pub changed_timelines : (v i : ℕ) (change : plain.Change) (tables : List plain.Table) (t : plain.Table) → suc v < open_end → HaveWellFormedRows v tables → AscendFrom 0 change.closes → slice_get tables i ≡ Some t → list_all (is_open_at t.rows) change.closes ≡ true
    → set (map (timeline_of v) tables) i (timeline_after (timeline_of v t) (suc v) change.closes (length t.rows) (length change.opens)) ≡ map (timeline_of (suc v)) (at_place i (table_after (suc v) change) tables)
changed_timelines v i change [] t l h a e o = absurd (cc)
changed_timelines v zero change (x ∷ tables) t l h a e o =
    let s : x ≡ t = cc in
    let proper : AreWellFormed v t.rows = subst (λ (y : plain.Table). AreWellFormed v y.rows) s h.0 in
    ap (λ y. y ∷ map (timeline_of v) tables) (changed_timeline v t change l proper a o)
    ∙ ap (λ ys. timeline_of (suc v) (table_after (suc v) change t) ∷ ys) (left_timelines v tables l h.1)
    ∙ ap (λ y. timeline_of (suc v) (table_after (suc v) change y) ∷ map (timeline_of (suc v)) tables) (sym s)
changed_timelines v (suc i) change (x ∷ tables) t l h a e o =
    ap (λ y. y ∷ set (map (timeline_of v) tables) i (timeline_after (timeline_of v t) (suc v) change.closes (length t.rows) (length change.opens))) (left_timeline v x l h.0)
    ∙ ap (λ ys. timeline_of (suc v) x ∷ ys) (changed_timelines v i change tables t l h.1 a e o)

no_ends : (v : ℕ) → ends_of [] v ≡ []
no_ends zero = refl
no_ends (suc v) = append-nil (ends_of [] v) ∙ no_ends v

-- a table more
pub made_timelines : (v : ℕ) (schema : plain.Schema) (tables : List plain.Table) → suc v < open_end → HaveWellFormedRows v tables
    → map (timeline_of v) tables ++ (record { events = []; ends = [] }) ∷ [] ≡ map (timeline_of (suc v)) (tables ++ (record { schema = schema; floor = 0; rows = [] }) ∷ [])
made_timelines v schema [] l h = ap (λ t. t ∷ []) (parts (events_of [] (suc v)) (ends_of [] (suc v)) (no_events (suc v)) (no_ends (suc v))) where
  parts : (a : List Event) (b : List VersionEnd) → a ≡ [] → b ≡ [] → ◌≡◌ {A = Timeline} (record { events = []; ends = [] }) (record { events = a; ends = b })
  parts a b e f = rw (e, f) refl
made_timelines v schema (t ∷ tables) l h =
    ap (λ x. x ∷ map (timeline_of v) tables ++ (record { events = []; ends = [] }) ∷ []) (left_timeline v t l h.0)
    ∙ ap (λ xs. timeline_of (suc v) t ∷ xs) (made_timelines v schema tables l h.1)

-- THE LAST ENTRY

entries_by : (rows : List plain.Row) (v : ℕ) → All (λ (e : VersionEnd). (e.version ≤ v) × (e.end ≤ place_of rows v)) (ends_of rows v)
entries_by rows zero = All-nil (λ (e : VersionEnd). (e.version ≤ 0) × (e.end ≤ 0))
entries_by rows (suc v) =
    let grows = length-append (events_of rows v) (events_at rows (suc v)) in
    by_test (nat_eq (length (events_at rows (suc v))) 0) (λ k d l. let h = entries_by rows v k d l in (omega (arith, h.0), omega (arith, h.1, grows))) where
      P : VersionEnd → Type 0
      P e = (e.version ≤ suc v) × (e.end ≤ place_of rows (suc v))

      by_test : (t : Bool) → All P (ends_of rows v) → All P (ends_of rows v ++ cond t [] (record { version = suc v; end = place_of rows (suc v) } ∷ []))
      by_test true h = subst (All P) (sym (append-nil (ends_of rows v))) h
      by_test false h = All-push P (ends_of rows v) (record { version = suc v; end = place_of rows (suc v) }) h (omega arith, omega arith)

-- a later version with more events may stand behind the entries
pub stands_after : (rows : List plain.Row) (v more : ℕ) → 0 < more → IsAfter (ends_of rows v) (suc v) (place_of rows v + more)
stands_after rows v more some last here =
    let h = entries_by rows v (length (ends_of rows v) - 1) last (slice_get_within (ends_of rows v) (length (ends_of rows v) - 1) last here) in
    let at = get_or_from_slice_get (ends_of rows v) (length (ends_of rows v) - 1) last last here in
    let e = subst (λ (x : VersionEnd). (x.version ≤ v) × (x.end ≤ place_of rows v)) at h in
    (omega (arith, e.0), omega (arith, e.1, some))

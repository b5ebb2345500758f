-- A scan for a least or greatest number of all kept rows.
use Rattle.std.proofs.Common.{◌≡◌, ◌⊎◌, inl, inr, ℕ, zero, suc, ◌+◌, ◌-◌, ◌^◌, ◌<◌, ◌≤◌, ℤ, pos, ◌≤ℤ◌, Bool, true, false, ◌&&◌, cond, nat_lt, nat_le, List, [], ◌∷◌, ◌++◌, length, take, drop, map, Option, Some, None, option_map, refl, sym, ap, ◌∙◌, arith, subst, slice_get}
use Rattle.std.specs.Prelude.{◌==◌, is_some}
use Rattle.std.specs.List.{filter, enumerate_from}
use Rattle.std.proofs.lemmas.Bool.{cases_lt}
use Rattle.std.proofs.lemmas.Bool.Decides.{nat_tests}
use Rattle.std.proofs.lemmas.Int.{ints}
use Rattle.tl_types.specs.declared.answers.Field.{Field}
use Rattle.tl_types.specs.declared.events.Event.{Event}
use Rattle.tl_types.specs.declared.runs.Run.{Run}
use Rattle.tl_types.specs.Plain as plain
use Rattle.tl_types.specs.History.{open_end}
use Rattle.tl_types.specs.Events.{ids_from, ids_where, invalidation, activation, events_at, events_of, place_of}
use Rattle.tl_types.specs.Runs.{add_stretch, stretch_of, runs_of}
use Rattle.tl_types.specs.Walks.{standing, after_event, IsQuiet}
use Rattle.tl_types.specs.WellFormed.{IsWellFormed, AreWellFormed}
use Rattle.tl_types.proofs.EventLemmas.{events_before}
use Rattle.tl_types.proofs.WalkLemmas.{quiet_events, quiet_stays}
use Rattle.tl_bits.specs.Sets.{is_member, IsNext, IsFree}
use Rattle.tl_store.specs.Reading.{system_period}
use Rattle.tl_store.specs.declared.shown.SystemPeriod.{SystemPeriod}
use Rattle.tl_index.specs.Tables.{TableOf, rows_in}
use Rattle.tl_query.specs.declared.ast.AggKind.{AggKind}
use Rattle.tl_query.specs.Aggregates.{aggregate_of}
use Rattle.tl_running.specs.Standing.{is_ordered, number_in, Suits, Inserts}
use Rattle.tl_running.specs.Telling.{TellsNumber, has_rows}
use Rattle.tl_running.specs.Lasting.{LastFor, Takes, Comes, StandsFrom, AllLast, TellsExtreme, lasting_of, ordered}
use Rattle.tl_running.proofs.TellLemmas.{Turn, suits_none, suits_enter, suits_leave}
use Rattle.tl_running.proofs.LastingLemmas.{last_weaker, last_without, inserts_mapped}
use Rattle.tl_agg.specs.Kept.{both, picked, below}
use Rattle.tl_agg.specs.Groups.{Wanted, kept_in, kept_value, runs_to}
use Rattle.tl_agg.specs.Runs.{runs_by, system_runs, start_set}
use Rattle.tl_agg.specs.Scans.{ScanOf, wanted_of, Turns, set_after}
use Rattle.tl_agg.specs.Extremes.{ExtremeState, end_of, StandsSince, extreme_runs, ExtremeAdvances, AreExtremeRuns, ExtremePuts, RowComes, IdComes, EventComes, TracksExtreme, EndAt, TracksAt, IsExtreme}
use Rattle.tl_agg.proofs.KeptLemmas.{row_left, both_again}
use Rattle.tl_agg.proofs.GroupLemmas.{plain_more, turn_of}
use Rattle.tl_agg.proofs.StartLemmas.{next_turns, next_below, rest_below}
use Rattle.tl_agg.proofs.StepLemmas.{row_with, turn_inside, event_here, run_turns, step_at, set_at_version, last_stands}
use Rattle.tl_agg.proofs.PieceLemmas.{none_below, none_made}

-- EVENTS THAT END ROWS

abbrev EndsOne : List plain.Row → ℕ → Event → Type 0
EndsOne rows version e = e.opens ≡ false → (r : plain.Row) → slice_get rows e.row ≡ Some r → r.to ≡ version

abbrev EndAll : List plain.Row → ℕ → List Event → Type 0
EndAll rows version [] = Unit {0}
EndAll rows version (e ∷ es) = EndsOne rows version e × EndAll rows version es

end_both : (rows : List plain.Row) (version : ℕ) (front back : List Event) → EndAll rows version front → EndAll rows version back → EndAll rows version (front ++ back)
end_both rows version [] back f b = b
end_both rows version (e ∷ front) back f b = (f.0, end_both rows version front back f.1 b)

begins_end : (rows : List plain.Row) (version : ℕ) (ids : List ℕ) → EndAll rows version (map activation ids)
begins_end rows version [] = tt
begins_end rows version (id ∷ ids) = ((λ closes. absurd (cc)), begins_end rows version ids)

ends_end : (all : List plain.Row) (version n : ℕ) (rows : List plain.Row) → ((k : ℕ) → slice_get all (n + k) ≡ slice_get rows k) → EndAll all version (map invalidation (ids_from n (λ row. row.to == version) rows))
ends_end all version n [] there = tt
ends_end all version n (r ∷ rows) there =
    by_test (r.to == version) refl (ends_end all version (n + 1) rows (λ k. let s : n + 1 + k ≡ n + suc k = omega arith in ap (slice_get all) s ∙ there (suc k))) where
      by_test : (t : Bool) → (r.to == version) ≡ t → EndAll all version (map invalidation (ids_from (n + 1) (λ row. row.to == version) rows))
          → EndAll all version (map invalidation (map (λ (x : ℕ × plain.Row). x.0) (cond t ((n, r) ∷ filter (λ (x : ℕ × plain.Row). x.1.to == version) (enumerate_from (n + 1) rows)) (filter (λ (x : ℕ × plain.Row). x.1.to == version) (enumerate_from (n + 1) rows)))))
      by_test true e h = (
        λ closes row is.
            let z : n + 0 ≡ n = omega arith in
            let here : slice_get all n ≡ Some r = ap (slice_get all) (sym z) ∙ there 0 in
            let same : r ≡ row = cc in
            let to : r.to ≡ version = grind (arith, nat_tests) in
            ap (λ (x : plain.Row). x.to) (sym same) ∙ to,
        h,
      )
      by_test false e h = h

version_end : (rows : List plain.Row) (version : ℕ) → EndAll rows version (events_at rows version)
version_end rows version =
    end_both rows version (map invalidation (ids_where (λ row. row.to == version) rows)) (map activation (ids_where (λ row. row.from == version) rows))
    (ends_end rows version 0 rows (λ k. let z : 0 + k ≡ k = omega arith in ap (slice_get rows) z))
    (begins_end rows version (ids_where (λ row. row.from == version) rows))

end_got : (rows : List plain.Row) (version : ℕ) (es : List Event) (i : ℕ) (e : Event) → EndAll rows version es → slice_get es i ≡ Some e → EndsOne rows version e
end_got rows version [] i e all is = absurd (cc)
end_got rows version (x ∷ es) zero e all is = let same : x ≡ e = cc in subst (EndsOne rows version) same all.0
end_got rows version (x ∷ es) (suc i) e all is = end_got rows version es i e all.1 is

end_behind : (rows : List plain.Row) (version : ℕ) (front mid es : List Event) (n i : ℕ) (e : Event) → take n es ≡ front ++ mid → EndAll rows version mid → length front ≤ i → i < n → slice_get es i ≡ Some e → EndsOne rows version e
end_behind rows version front mid [] n i e is all l h there = absurd (cc)
end_behind rows version front mid (x ∷ es) zero i e is all l h there = absurd (omega arith)
end_behind rows version [] mid (x ∷ es) (suc n) i e is all l h there = end_got rows version mid i e all (ap (λ xs. slice_get xs i) (sym is) ∙ taken (suc n) i (x ∷ es) h ∙ there) where
  taken : (n i : ℕ) (xs : List Event) → i < n → slice_get (take n xs) i ≡ slice_get xs i
  taken zero i xs l = absurd (omega arith)
  taken (suc n) i [] l = refl
  taken (suc n) zero (y ∷ xs) l = refl
  taken (suc n) (suc i) (y ∷ xs) l = taken n i xs (omega arith)
end_behind rows version (f ∷ front) mid (x ∷ es) (suc n) zero e is all l h there = absurd (omega arith)
end_behind rows version (f ∷ front) mid (x ∷ es) (suc n) (suc i) e is all l h there = end_behind rows version front mid es n i e (ap (drop 1) is) all (omega arith) (omega arith) there

-- the rows that go by the events of a version end there
pub ends_there : (rows : List plain.Row) (last before version from to : ℕ) → before < version → version ≤ last → IsQuiet rows before version → from ≡ place_of rows before → to ≡ place_of rows version → EndAt rows (events_of rows last) from to version
ends_there rows last before version from to l within quiet from_is to_is i e r a b is closes there =
    end_behind rows version (events_of rows before) (events_at rows version) (events_of rows last) (place_of rows version) i e
    (events_before rows version last within ∙ quiet_events rows before version l quiet) (version_end rows version) (omega arith) (omega arith) is closes r there

-- STRETCHES

all_last : (v : ℕ) (rows : List plain.Row) (keep : List Bool) → AllLast (pos v) end_of (picked (both (standing rows v) keep) rows)
all_last v [] keep = tt
all_last v (r ∷ rows) [] = tt
all_last v (r ∷ rows) (k ∷ keep) = by_tests (nat_le r.from v) (nat_lt v r.to) k refl (all_last v rows keep) where
  by_tests : (a b k : Bool) → nat_lt v r.to ≡ b → AllLast (pos v) end_of (picked (both (standing rows v) keep) rows)
      → AllLast (pos v) end_of (cond ((a && b) && k) (r ∷ picked (both (standing rows v) keep) rows) (picked (both (standing rows v) keep) rows))
  by_tests true true true e h = let l : v < r.to = grind (arith, nat_tests) in (omega (arith, ints), h)
  by_tests true true false e h = h
  by_tests true false k e h = h
  by_tests false b k e h = h

abbrev wanted : ScanOf → Wanted
wanted scan = wanted_of scan scan.keep

plain_runs : (scan : ScanOf) (to : ℕ) → scan.plan.by ≡ None → runs_to (wanted scan) to ≡ runs_of (kept_value (wanted scan)) (pos scan.from) (pos to)
plain_runs scan to single =
    ap (λ by. cond (is_some by) (filter (λ (r : Run). has_rows scan.plan.kind r.value) (runs_of (kept_value (wanted scan)) (pos scan.from) (pos to))) (runs_of (kept_value (wanted scan)) (pos scan.from) (pos to))) single

advanced_to : (scan : ScanOf) (set : List Bool) (at : ℕ) (old : ExtremeState) → scan.plan.by ≡ None → TracksExtreme scan set at old → extreme_runs old at scan.plan.column (kept_in (wanted scan) set) ≡ runs_to (wanted scan) at
advanced_to scan set at old single tracks = by_test (nat_lt old.since at) refl where
  rows : List plain.Row
  rows = kept_in (wanted scan) set

  stretch : AggKind → Run
  stretch k = stretch_of (pos old.since) (pos at) (aggregate_of k scan.plan.column rows)

  by_test : (b : Bool) → nat_lt old.since at ≡ b → cond b (add_stretch old.runs (stretch old.extreme.kind)) old.runs ≡ runs_to (wanted scan) at
  by_test true e =
      let l : old.since < at = grind (arith, nat_tests) in
      ap (λ k. add_stretch old.runs (stretch k)) tracks.kind
      ∙ ap (λ rs. add_stretch rs (stretch scan.plan.kind)) (tracks.made ∙ plain_runs scan old.since single)
      ∙ plain_more (wanted scan) old.since at rows tracks.after l tracks.same
      ∙ sym (plain_runs scan at single)
  by_test false e =
      let b = tracks.before in
      let same : old.since ≡ at = grind (arith, nat_tests) in
      tracks.made ∙ ap (runs_to (wanted scan)) same

-- the runs are made to reach up to the version
pub extreme_advanced : (scan : ScanOf) (set : List Bool) (at : ℕ) (old new : ExtremeState) → IsExtreme scan → ExtremeAdvances old new at → TracksExtreme scan set at old → TracksExtreme scan set at new × (new.since ≡ at)
extreme_advanced scan set at old new is advances tracks =
    let since : new.since ≡ at = advances.since tracks.before in
    let after = tracks.after in
    let before = tracks.before in
    let rows = kept_in (wanted scan) set in
    let made : new.runs ≡ extreme_runs old at scan.plan.column rows = advances.runs scan.plan.column rows (ap is_ordered tracks.kind ∙ is.kind) tracks.stands
    (λ l. subst (AllLast (pos old.since) end_of) (tracks.same old.since (omega arith) l) (all_last old.since (rows_in scan.table) scan.keep))
    (subst (λ k. Suits k scan.plan.column rows) (sym tracks.kind) tracks.suits) in (
      record {
        kind = advances.kind ∙ tracks.kind;
        stands = advances.stands scan.plan.column rows before tracks.stands;
        suits = tracks.suits;
        after = omega arith;
        before = omega arith;
        made = made ∙ advanced_to scan set at old is.single tracks ∙ ap (runs_to (wanted scan)) (sym since);
        same = λ v l h. absurd (omega arith);
      },
      since,
    )

-- the value since the last change is put behind the runs
pub extreme_closed : (old new : ExtremeState) (to : ℕ) (value : Field) → old.since < to → new.extreme.kind ≡ old.extreme.kind
    → ((floor : ℤ) (column : Option ℕ) (ends : plain.Row → ℤ) (rows : List plain.Row) → StandsFrom old.extreme floor column ends rows → floor ≤ℤ pos old.since → StandsFrom new.extreme (pos old.since) column ends rows)
    → TellsExtreme old.extreme (pos old.since) value
    → new.since ≡ to → new.runs ≡ add_stretch old.runs (stretch_of (pos old.since) (pos to) value) → ExtremeAdvances old new to
extreme_closed old new to value l kind stands told since runs = record {
  kind = kind;
  since = λ h. since;
  stands = λ column rows h s.
      let kept = stands (pos old.since) column end_of rows s (omega (arith, ints)) in
      subst (λ n. StandsFrom new.extreme (pos n) column end_of rows) (sym since)
      (last_weaker new.extreme.kept (pos old.since) (pos to) (map (lasting_of new.extreme.kind column end_of) rows) (omega (arith, ints)) kept);
  runs = λ column rows is s lasts suits.
      let e : nat_lt old.since to ≡ true = grind (arith, nat_tests) in
      runs
      ∙ ap (λ v. add_stretch old.runs (stretch_of (pos old.since) (pos to) v)) (told (pos old.since) column end_of rows is s (omega (arith, ints)) (lasts l) suits)
      ∙ sym (ap (λ b. cond b (add_stretch old.runs (stretch_of (pos old.since) (pos to) (aggregate_of old.extreme.kind column rows))) old.runs) e);
}

-- ONE EVENT

extreme_same : (scan : ScanOf) (set other : List Bool) (at : ℕ) (state : ExtremeState) → kept_in (wanted scan) set ≡ kept_in (wanted scan) other → TracksExtreme scan set at state → TracksExtreme scan other at state
extreme_same scan set other at state e tracks = record {
  kind = tracks.kind;
  stands = subst (StandsSince state scan.plan.column) e tracks.stands;
  suits = subst (Suits scan.plan.kind scan.plan.column) e tracks.suits;
  after = tracks.after;
  before = tracks.before;
  made = tracks.made;
  same = λ v l h. tracks.same v l h ∙ e;
}

-- a row that ends at the version goes by itself
row_goes : (scan : ScanOf) (set other : List Bool) (at : ℕ) (state : ExtremeState) (r : plain.Row) → Inserts r (kept_in (wanted scan) other) (kept_in (wanted scan) set) → r.to ≡ at → state.since ≡ at → TracksExtreme scan set at state → TracksExtreme scan other at state
row_goes scan set other at state r ins to since tracks =
    let f = lasting_of state.extreme.kind scan.plan.column end_of in
    let fewer = kept_in (wanted scan) other in
    let more = kept_in (wanted scan) set in record {
      kind = tracks.kind;
      stands = last_without state.extreme.kept (pos state.since) (f r) (map f fewer) (map f more) (inserts_mapped f r fewer more ins) (omega (arith, ints)) tracks.stands;
      suits = suits_leave scan.plan.kind scan.plan.column r fewer more ins tracks.suits;
      after = tracks.after;
      before = tracks.before;
      made = tracks.made;
      same = λ v l h. absurd (omega arith);
    }

-- a row that comes is put in
row_comes : (scan : ScanOf) (set other : List Bool) (at : ℕ) (old new : ExtremeState) (r : plain.Row) → Inserts r (kept_in (wanted scan) set) (kept_in (wanted scan) other) → RowComes old new scan.plan.column r → old.since ≡ at → TracksExtreme scan set at old → TracksExtreme scan other at new
row_comes scan set other at old new r ins comes since tracks =
    let f = lasting_of old.extreme.kind scan.plan.column end_of in
    let fewer = kept_in (wanted scan) set in
    let more = kept_in (wanted scan) other in
    let after = tracks.after in
    let before = tracks.before in
    let moved = comes.since in
    let put : LastFor new.extreme.kept (pos old.since) (map f more) = comes.takes (pos old.since) (map f fewer) (map f more) (inserts_mapped f r fewer more ins) tracks.stands in
    let kept : LastFor new.extreme.kept (pos old.since) (map (lasting_of new.extreme.kind scan.plan.column end_of) more) = subst (λ k. LastFor new.extreme.kept (pos old.since) (map (lasting_of k scan.plan.column end_of) more)) (sym comes.kind) put in record {
      kind = comes.kind ∙ tracks.kind;
      stands = subst (λ n. LastFor new.extreme.kept (pos n) (map (lasting_of new.extreme.kind scan.plan.column end_of) more)) (sym comes.since) kept;
      suits = suits_enter scan.plan.kind scan.plan.column r fewer more ins (subst (λ k. Suits k scan.plan.column (r ∷ [])) tracks.kind comes.suits) tracks.suits;
      after = omega arith;
      before = omega arith;
      made = comes.runs ∙ tracks.made ∙ ap (runs_to (wanted scan)) (sym comes.since);
      same = λ v l h. absurd (omega arith);
    }

pub extreme_event : (scan : ScanOf) (at : ℕ) (set : List Bool) (event : Event) (old new : ExtremeState) → Turns (rows_in scan.table) set event → EndsOne (rows_in scan.table) at event → EventComes scan event old new → old.since ≡ at
    → TracksExtreme scan set at old → TracksExtreme scan (after_event set event) at new × (new.since ≡ at)
extreme_event scan at set event old new turns ends comes since tracks = by_tests event.opens (is_member scan.keep event.row) refl refl where
  other : List Bool
  other = after_event set event

  stays : new ≡ old → TracksExtreme scan other at old → TracksExtreme scan other at new × (new.since ≡ at)
  stays e t = (subst (TracksExtreme scan other at) (sym e) t, ap (λ (s : ExtremeState). s.since) e ∙ since)

  turn : (r : plain.Row) → slice_get (rows_in scan.table) event.row ≡ Some r → is_member scan.keep event.row ≡ true → Turn event.opens r (kept_in (wanted scan) set) (kept_in (wanted scan) other)
  turn r is kept = turn_of (wanted scan) set event r turns.long is turns.turn kept

  found : (r : plain.Row) × (slice_get (rows_in scan.table) event.row ≡ Some r)
  found = row_with (rows_in scan.table) event.row (turn_inside (rows_in scan.table) set event turns)

  by_tests : (o k : Bool) → event.opens ≡ o → is_member scan.keep event.row ≡ k → TracksExtreme scan other at new × (new.since ≡ at)
  by_tests o false p q =
      stays (comes.left q) (extreme_same scan set other at old (ap (λ s. picked s (rows_in scan.table)) (sym (row_left set scan.keep event.opens event.row q))) tracks)
  by_tests false true p q =
      stays (comes.goes p) (row_goes scan set other at old found.0 ((turn found.0 found.1 q).goes p) (ends p found.0 found.1) since tracks)
  by_tests true true p q =
      let one = comes.comes p q found.0 found.1 in
      (row_comes scan set other at old new found.0 ((turn found.0 found.1 q).comes p) one since tracks, one.since ∙ since)

-- the events of a run
pub extreme_taken : (scan : ScanOf) (at place i : ℕ) (events : List Event) (e : Event) (old new : ExtremeState) → AreWellFormed scan.table.db.version (rows_in scan.table)
    → events ≡ take (length events) (drop place (events_of (rows_in scan.table) scan.table.db.version)) → EndAt (rows_in scan.table) (events_of (rows_in scan.table) scan.table.db.version) place (place + length events) at
    → i < length events → slice_get events i ≡ Some e → EventComes scan e old new → TracksAt scan (place + i) at old → TracksAt scan (place + (i + 1)) at new
extreme_taken scan at place i events e old new formed are ends l is comes old_at =
    let rows = rows_in scan.table in
    let last = scan.table.db.version in
    let here = event_here scan.table events place i e are is in
    let turns = run_turns scan.table place i events e formed are is in
    let s : place + (i + 1) ≡ place + i + 1 = omega arith in
    let next : set_after scan.table (place + (i + 1)) ≡ after_event (set_after scan.table (place + i)) e = ap (set_after scan.table) s ∙ step_at (standing rows 0) (events_of rows last) (place + i) e here in
    let made = extreme_event scan at (set_after scan.table (place + i)) e old new turns (λ closes r there. ends (place + i) e r (omega arith) (omega arith) here closes there) comes old_at.since old_at.tracks in
    record { tracks = subst (λ set. TracksExtreme scan set at new) (sym next) made.0; since = made.1 }

-- a row of the table
pub event_inside : (table : TableOf) (place i : ℕ) (events : List Event) (e : Event) → AreWellFormed table.db.version (rows_in table)
    → events ≡ take (length events) (drop place (events_of (rows_in table) table.db.version)) → slice_get events i ≡ Some e → e.row < length (rows_in table)
event_inside table place i events e formed are is =
    turn_inside (rows_in table) (set_after table (place + i)) e (run_turns table place i events e formed are is)

-- VERSIONS

pub extreme_later : (scan : ScanOf) (last at next : ℕ) (state : ExtremeState) → AreWellFormed last (rows_in scan.table) → IsQuiet (rows_in scan.table) at next → at ≤ next → TracksExtreme scan (standing (rows_in scan.table) at) at state
    → TracksExtreme scan (standing (rows_in scan.table) at) next state
extreme_later scan last at next state formed quiet l tracks =
    let before = tracks.before in record {
      kind = tracks.kind;
      stands = tracks.stands;
      suits = tracks.suits;
      after = tracks.after;
      before = omega arith;
      made = tracks.made;
      same = λ v a b. by_place v a b (cases_lt v at);
    } where
      by_place : (v : ℕ) → state.since ≤ v → v < next → (v < at) ⊎ (at ≤ v) → kept_in (wanted scan) (standing (rows_in scan.table) v) ≡ kept_in (wanted scan) (standing (rows_in scan.table) at)
      by_place v a b (inl early) = tracks.same v a early
      by_place v a b (inr late) = ap (kept_in (wanted scan)) (quiet_stays last (rows_in scan.table) formed at next v quiet late b)

pub extreme_begins : (scan : ScanOf) (at next place : ℕ) (state : ExtremeState) → AreWellFormed scan.table.db.version (rows_in scan.table) → at < next → next ≤ scan.table.db.version → IsQuiet (rows_in scan.table) at next
    → place ≡ place_of (rows_in scan.table) at → TracksExtreme scan (standing (rows_in scan.table) at) at state → TracksExtreme scan (set_after scan.table place) next state
extreme_begins scan at next place state formed l within quiet place_is tracks =
    let same : set_after scan.table place ≡ standing (rows_in scan.table) at = ap (set_after scan.table) place_is ∙ set_at_version scan.table at formed (omega arith) in
    subst (λ set. TracksExtreme scan set next state) (sym same) (extreme_later scan scan.table.db.version at next state formed quiet (omega arith) tracks)

pub extreme_ends : (scan : ScanOf) (at place : ℕ) (state : ExtremeState) → AreWellFormed scan.table.db.version (rows_in scan.table) → at ≤ scan.table.db.version → place ≡ place_of (rows_in scan.table) at
    → TracksExtreme scan (set_after scan.table place) at state → TracksExtreme scan (standing (rows_in scan.table) at) at state
extreme_ends scan at place state formed within place_is tracks =
    subst (λ set. TracksExtreme scan set at state) (ap (set_after scan.table) place_is ∙ set_at_version scan.table at formed within) tracks

pub extreme_piece : (scan : ScanOf) (at to : ℕ) (state : ExtremeState) → AreWellFormed scan.table.db.version (rows_in scan.table) → at < to → IsQuiet (rows_in scan.table) at to
    → TracksExtreme scan (standing (rows_in scan.table) at) at state → TracksExtreme scan (standing (rows_in scan.table) (to - 1)) to state
extreme_piece scan at to state formed l quiet tracks =
    subst (λ set. TracksExtreme scan set to state) (sym (last_stands scan.table.db.version (rows_in scan.table) at to formed l quiet))
    (extreme_later scan scan.table.db.version at to state formed quiet (omega arith) tracks)

-- THE START AND THE END

pub extreme_none : (scan : ScanOf) (start : List Bool) (state : ExtremeState) → state.extreme.kind ≡ scan.plan.kind → state.since ≡ scan.from → state.runs ≡ [] → ((column : Option ℕ) → StandsSince state column []) → TracksExtreme scan (below 0 start) scan.from state
extreme_none scan start state kind since runs stands =
    let empty = none_below start scan.keep (rows_in scan.table) in record {
      kind = kind;
      stands = subst (StandsSince state scan.plan.column) (sym empty) (stands scan.plan.column);
      suits = subst (Suits scan.plan.kind scan.plan.column) (sym empty) (suits_none scan.plan.kind scan.plan.column);
      after = omega arith;
      before = omega arith;
      made = runs ∙ sym (none_made (wanted scan) state.since since);
      same = λ v l h. absurd (omega arith);
    }

pub extreme_entered : (scan : ScanOf) (from row : ℕ) (start : List Bool) (old new : ExtremeState) → length start ≡ length (rows_in scan.table) → IsNext start from row → is_member scan.keep row ≡ true → IdComes scan row old new
    → TracksExtreme scan (below from start) scan.from old → TracksExtreme scan (below (row + 1) start) scan.from new
extreme_entered scan from row start old new long next kept comes tracks =
    let after = tracks.after in
    let before = tracks.before in
    let made = extreme_event scan scan.from (below from start) (activation row) old new (next_turns (rows_in scan.table) start from row long next) (λ closes. absurd (cc))
    (record { goes = λ closes. absurd (cc); left = λ out. absurd (cc); comes = λ opens member. comes }) (omega arith) tracks in
    subst (λ set. TracksExtreme scan set scan.from new) (next_below start from row next) made.0

pub extreme_start : (scan : ScanOf) (from : ℕ) (start : List Bool) (state : ExtremeState) → from ≤ length start → IsFree start from (length start) → TracksExtreme scan (below from start) scan.from state → TracksExtreme scan start scan.from state
extreme_start scan from start state l free tracks = subst (λ set. TracksExtreme scan set scan.from state) (rest_below start from l free) tracks

pub extreme_stands : (scan : ScanOf) (start : List Bool) (state : ExtremeState) → start ≡ start_set (rows_in scan.table) scan.keep scan.from → TracksExtreme scan start scan.from state → TracksExtreme scan (standing (rows_in scan.table) scan.from) scan.from state
extreme_stands scan start state start_is tracks =
    let rows = rows_in scan.table in
    extreme_same scan start (standing rows scan.from) scan.from state
    (ap (λ s. picked (both s scan.keep) rows) start_is ∙ ap (λ s. picked s rows) (both_again (standing rows scan.from) scan.keep)) tracks

pub extreme_told : (scan : ScanOf) (set : List Bool) (state : ExtremeState) (runs : List Run) → IsExtreme scan → TracksExtreme scan set scan.to state → AreExtremeRuns state scan.to runs → runs ≡ system_runs scan.plan (rows_in scan.table) scan.keep scan.from scan.to
extreme_told scan set state runs is tracks told =
    let made = extreme_advanced scan set scan.to state told.state is told.advances tracks in
    told.are ∙ made.0.made ∙ ap (runs_to (wanted scan)) made.1 ∙ plain_runs scan scan.to is.single
    ∙ ap (λ by. runs_by scan.plan.kind scan.plan.column by (rows_in scan.table) scan.keep scan.from scan.to) (sym is.single)

-- ONE ROW

pub row_put : (scan : ScanOf) (row end : ℕ) (number : ℤ) (old new : ExtremeState) → old.extreme.kind ≡ scan.plan.kind → TellsNumber scan.plan.kind scan.plan.column (rows_in scan.table) row number
    → ((r : plain.Row) → slice_get (rows_in scan.table) row ≡ Some r → r.to ≡ end) → ExtremePuts old new number (pos end) → IdComes scan row old new
row_put scan row end number old new kind told ends puts r is =
    let n = told r is in record {
      kind = puts.comes.kind;
      since = puts.since;
      runs = puts.runs;
      suits = subst (λ k. Suits k scan.plan.column (r ∷ [])) (sym kind) n.1;
      takes = subst (λ (m : ℕ). Takes old.extreme.kept new.extreme.kept (record { value = ordered old.extreme.kind (number_in scan.plan.column r); end = pos m })) (sym (ends r is))
          (subst (λ (m : ℤ). Takes old.extreme.kept new.extreme.kept (record { value = ordered old.extreme.kind m; end = pos end })) (sym n.0) puts.comes.takes);
    }

row_formed : (last id : ℕ) (rows : List plain.Row) (r : plain.Row) → AreWellFormed last rows → slice_get rows id ≡ Some r → IsWellFormed last r
row_formed last id [] r formed is = absurd (cc)
row_formed last zero (x ∷ rows) r formed is = let same : x ≡ r = cc in subst (IsWellFormed last) same formed.0
row_formed last (suc id) (x ∷ rows) r formed is = row_formed last id rows r formed.1 is

short_end : (last : ℕ) (r : plain.Row) → last < 2 ^ 32 → IsWellFormed last r → r.to < 2 ^ 32
short_end last r l formed = by_end formed.ended where
  by_end : (r.to ≤ last) ⊎ (r.to ≡ open_end) → r.to < 2 ^ 32
  by_end (inl h) = omega arith
  by_end (inr h) = omega arith

-- a row whose number alone tells that it changes nothing
pub row_covered : (scan : ScanOf) (last row : ℕ) (number : ℤ) (state : ExtremeState) → state.extreme.kind ≡ scan.plan.kind → TellsNumber scan.plan.kind scan.plan.column (rows_in scan.table) row number
    → AreWellFormed last (rows_in scan.table) → last < 2 ^ 32 → ((end : ℕ) → end < 2 ^ 32 → Comes state.extreme state.extreme number (pos end)) → IdComes scan row state state
row_covered scan last row number state kind told formed l comes r is =
    row_put scan row r.to number state state kind told (λ other there. let same : other ≡ r = cc in ap (λ (x : plain.Row). x.to) same)
    (record { comes = comes r.to (short_end last r l (row_formed last row (rows_in scan.table) r formed is)); since = refl; runs = refl }) r is

-- the end that is read of a row
pub period_ends : (rows : List plain.Row) (row : ℕ) (period : SystemPeriod) → Some period ≡ option_map system_period (slice_get rows row) → (r : plain.Row) → slice_get rows row ≡ Some r → r.to ≡ period.to
period_ends rows row period value r is =
    let e : Some period ≡ Some (system_period r) = value ∙ ap (option_map system_period) is in
    let same : period ≡ system_period r = cc in
    sym (ap (λ (p : SystemPeriod). p.to) same)

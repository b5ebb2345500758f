-- A group while rows come and go: it stays that of its rows, and its runs reach up to its last change.
use Rattle.std.proofs.Common.{◌≡◌, ◌⊎◌, inl, inr, ℕ, ◌<◌, ◌≤◌, ℤ, pos, negsuc, ◌≤ℤ◌, ◌<ℤ◌, Bool, true, false, not, cond, nat_lt, List, length, Some, refl, sym, ap, ◌∙◌, arith, subst, slice_get}
use Rattle.std.specs.Prelude.{◌==◌, slice_set}
use Rattle.std.specs.List.{filter}
use Rattle.std.proofs.lemmas.Bool.{cases_lt}
use Rattle.std.proofs.lemmas.Bool.Decides.{nat_tests}
use Rattle.std.proofs.lemmas.Option.{get_or_from_slice_get}
use Rattle.std.proofs.lemmas.Int.{ints}
use Rattle.std.proofs.lemmas.List.{length-map}
use Rattle.tl_types.specs.declared.answers.Field.{Field}
use Rattle.tl_types.specs.declared.events.Event.{Event}
use Rattle.tl_types.specs.declared.runs.Run.{Run}
use Rattle.tl_types.specs.Plain as plain
use Rattle.tl_types.specs.Walks.{standing, after_event, IsQuiet}
use Rattle.tl_types.specs.WellFormed.{AreWellFormed}
use Rattle.tl_types.specs.Runs.{add_stretch, stretch_of, runs_of}
use Rattle.tl_types.proofs.RunLemmas.{runs_more}
use Rattle.tl_types.proofs.WalkLemmas.{quiet_stays}
use Rattle.tl_bits.specs.Sets.{is_member}
use Rattle.tl_query.specs.declared.ast.AggKind.{AggKind}
use Rattle.tl_query.specs.Aggregates.{aggregate_of}
use Rattle.tl_running.specs.Standing.{Kept, number_in, Suits, StandsFor, Inserts, Changes, CanChange, IsShort}
use Rattle.tl_running.specs.Touching.{add_touching}
use Rattle.tl_running.proofs.TellLemmas.{has_told, Turn, changes_kind, stands_then, suits_then, can_then}
use Rattle.tl_running.proofs.TouchLemmas.{left_touching, cover_runs}
use Rattle.tl_agg.specs.Kept.{picked}
use Rattle.tl_agg.specs.Groups.{Wanted, kept_in, kept_value, runs_to, State, put_stretch, stretch_to, advanced_runs, Advances, Shifts, Moves, MovesRow, CanMoveRow, Tracks}
use Rattle.tl_running.specs.Telling.{has_rows}
use Rattle.tl_agg.proofs.KeptLemmas.{row_in, row_out, row_left, picked_few}

-- A STRETCH MORE

stays : (wanted : Wanted) (since at : ℕ) (rows : List plain.Row) → since < at → ((v : ℕ) → since ≤ v → v < at → kept_in wanted (standing wanted.rows v) ≡ rows)
    → (moment : ℤ) → pos since ≤ℤ moment → moment <ℤ pos at → kept_value wanted moment ≡ kept_value wanted (pos since)
stays wanted since at rows l same (pos v) after before =
    ap (aggregate_of wanted.kind wanted.column) (same v (omega (arith, ints)) (omega (arith, ints)) ∙ sym (same since (omega arith) l))
stays wanted since at rows l same (negsuc n) after before = absurd (omega (arith, ints))

pub plain_more : (wanted : Wanted) (since at : ℕ) (rows : List plain.Row) → wanted.from ≤ since → since < at → ((v : ℕ) → since ≤ v → v < at → kept_in wanted (standing wanted.rows v) ≡ rows)
    → add_stretch (runs_of (kept_value wanted) (pos wanted.from) (pos since)) (stretch_of (pos since) (pos at) (aggregate_of wanted.kind wanted.column rows)) ≡ runs_of (kept_value wanted) (pos wanted.from) (pos at)
plain_more wanted since at rows past l same =
    let value : aggregate_of wanted.kind wanted.column rows ≡ kept_value wanted (pos since) = ap (aggregate_of wanted.kind wanted.column) (sym (same since (omega arith) l)) in
    ap (λ v. add_stretch (runs_of (kept_value wanted) (pos wanted.from) (pos since)) (stretch_of (pos since) (pos at) v)) value
    ∙ sym (runs_more (kept_value wanted) (pos wanted.from) (pos since) (pos at) (omega (arith, ints)) (omega (arith, ints)) (stays wanted since at rows l same))

by_count : (empty : Bool) (has : Bool) (xs ys : List Run) → has ≡ not empty → cond empty ys xs ≡ cond has xs ys
by_count true has xs ys e = rw e refl
by_count false has xs ys e = rw e refl

pub made_more : (wanted : Wanted) (since at count : ℕ) (rows : List plain.Row) → wanted.from ≤ since → since < at → ((v : ℕ) → since ≤ v → v < at → kept_in wanted (standing wanted.rows v) ≡ rows)
    → count ≡ length rows → Suits wanted.kind wanted.column rows
    → put_stretch wanted.gaps count (runs_to wanted since) (stretch_of (pos since) (pos at) (aggregate_of wanted.kind wanted.column rows)) ≡ runs_to wanted at
made_more wanted since at count rows past l same count_is suits = by_gaps (wanted.gaps) where
  value : Field
  value = aggregate_of wanted.kind wanted.column rows

  made : List Run
  made = runs_of (kept_value wanted) (pos wanted.from) (pos since)

  P : Field → Bool
  P = has_rows wanted.kind

  stretch : Run
  stretch = stretch_of (pos since) (pos at) value

  left : List Run → List Run
  left runs = filter (λ (r : Run). P r.value) runs

  has : P value ≡ not (count == 0)
  has = has_told wanted.kind wanted.column rows suits ∙ ap (λ n. not (n == 0)) (sym count_is)

  by_gaps : (gaps : Bool) → cond gaps (cond (count == 0) (cond gaps (left made) made) (add_touching (cond gaps (left made) made) stretch)) (add_stretch (cond gaps (left made) made) stretch)
      ≡ cond gaps (left (runs_of (kept_value wanted) (pos wanted.from) (pos at))) (runs_of (kept_value wanted) (pos wanted.from) (pos at))
  by_gaps false = plain_more wanted since at rows past l same
  by_gaps true =
      by_count (count == 0) (P value) (add_touching (left made) stretch) (left made) has
      ∙ sym (left_touching P (pos wanted.from) made stretch (cover_runs (kept_value wanted) (pos wanted.from) (pos since) (omega (arith, ints))))
      ∙ ap left (plain_more wanted since at rows past l same)

-- the runs up to a version to which nothing changed
pub advanced_made : (wanted : Wanted) (set : List Bool) (at : ℕ) (old : State) → Tracks wanted set at old → advanced_runs old at wanted.column (kept_in wanted set) ≡ runs_to wanted at
advanced_made wanted set at old tracks = by_test (nat_lt old.since at) refl where
  count_is : old.running.count ≡ length (kept_in wanted set)
  count_is = tracks.stands.count ∙ length-map (kept_in wanted set) (number_in wanted.column)

  stretch : AggKind → Run
  stretch k = stretch_of (pos old.since) (pos at) (aggregate_of k wanted.column (kept_in wanted set))

  by_test : (b : Bool) → nat_lt old.since at ≡ b → cond b (put_stretch old.gaps old.running.count old.runs (stretch old.running.kind)) old.runs ≡ runs_to wanted at
  by_test true e =
      let l : old.since < at = grind (arith, nat_tests) in
      ap (λ k. put_stretch old.gaps old.running.count old.runs (stretch k)) tracks.kind
      ∙ ap (λ g. put_stretch g old.running.count old.runs (stretch wanted.kind)) tracks.gaps
      ∙ ap (λ rs. put_stretch wanted.gaps old.running.count rs (stretch wanted.kind)) tracks.made
      ∙ made_more wanted old.since at old.running.count (kept_in wanted set) tracks.after l tracks.same count_is tracks.suits
  by_test false e =
      let b = tracks.before in
      let same : old.since ≡ at = grind (arith, nat_tests) in
      tracks.made ∙ ap (runs_to wanted) same

pub advances_made : (wanted : Wanted) (set : List Bool) (at : ℕ) (old new : State) → Tracks wanted set at old → Advances old new at → new.runs ≡ runs_to wanted at
advances_made wanted set at old new tracks advances =
    advances.runs wanted.column (kept_in wanted set) tracks.stands (subst (λ k. Suits k wanted.column (kept_in wanted set)) (sym tracks.kind) tracks.suits)
    ∙ advanced_made wanted set at old tracks

-- ONE EVENT

pub turn_of : (wanted : Wanted) (set : List Bool) (event : Event) (r : plain.Row) → length set ≡ length wanted.rows → slice_get wanted.rows event.row ≡ Some r → slice_get set event.row ≡ Some (not event.opens) → is_member wanted.keep event.row ≡ true
    → Turn event.opens r (kept_in wanted set) (kept_in wanted (after_event set event))
turn_of wanted set event r long is turn kept =
    let member : is_member set event.row ≡ not event.opens = get_or_from_slice_get set event.row (not event.opens) false turn in record {
      comes = λ opens. subst (λ b. Inserts r (kept_in wanted set) (kept_in wanted (slice_set set event.row b))) (sym opens)
          (row_in set wanted.keep wanted.rows event.row r long is (member ∙ ap not opens) kept);
      goes = λ closes. subst (λ b. Inserts r (kept_in wanted (slice_set set event.row b)) (kept_in wanted set)) (sym closes)
          (row_out set wanted.keep wanted.rows event.row r long is (member ∙ ap not closes) kept);
    }

-- the row can come or go
pub can_move : (wanted : Wanted) (set : List Bool) (at : ℕ) (old : State) (event : Event) (r : plain.Row) → length set ≡ length wanted.rows → length wanted.rows ≤ 16777216 → slice_get wanted.rows event.row ≡ Some r → slice_get set event.row ≡ Some (not event.opens) → is_member wanted.keep event.row ≡ true
    → Tracks wanted set at old → CanMoveRow wanted.kind wanted.column wanted.rows old event
can_move wanted set at old event r long few is turn kept tracks = λ number told.
    let n_is = (told r is).0 in
    let short = picked_few set wanted.keep wanted.rows in
    subst (CanChange event.opens old.running) n_is
    (can_then event.opens old.running wanted.column r (kept_in wanted set) (kept_in wanted (after_event set event)) (omega arith) tracks.stands (turn_of wanted set event r long is turn kept))

-- at each version before this one the kept rows have numbers
pub past_more : (wanted : Wanted) (set : List Bool) (at : ℕ) (group : State) → Tracks wanted set at group → (v : ℕ) → wanted.from ≤ v → v < at → Suits wanted.kind wanted.column (kept_in wanted (standing wanted.rows v))
past_more wanted set at group tracks v l h = by_place (cases_lt v group.since) where
  by_place : (v < group.since) ⊎ (group.since ≤ v) → Suits wanted.kind wanted.column (kept_in wanted (standing wanted.rows v))
  by_place (inl early) = tracks.past v l early
  by_place (inr late) = subst (Suits wanted.kind wanted.column) (sym (tracks.same v late h)) tracks.suits

-- and then the group is that of the rows after it
pub tracks_moved : (wanted : Wanted) (set : List Bool) (at : ℕ) (old new : State) (event : Event) (r : plain.Row) → length set ≡ length wanted.rows → slice_get wanted.rows event.row ≡ Some r → slice_get set event.row ≡ Some (not event.opens) → is_member wanted.keep event.row ≡ true
    → Tracks wanted set at old → MovesRow wanted.kind wanted.column wanted.rows old new at event → Tracks wanted (after_event set event) at new
tracks_moved wanted set at old new event r long is turn kept tracks moved =
    let moves = moved.moves in
    let middle = moves.middle in
    let n_is = (moved.told r is).0 in
    let turns = turn_of wanted set event r long is turn kept in
    let changes : Changes event.opens old.running new.running (number_in wanted.column r) =
    subst (λ n. Changes event.opens old.running new.running n) (sym n_is) (subst (λ (k : Kept). Changes event.opens k new.running moved.number) moves.advances.running moves.changes) in
    let short : IsShort (number_in wanted.column r) = subst IsShort (sym n_is) moved.short in
    let since : new.since ≡ at = moves.since ∙ moves.advances.since tracks.before in
    let after = tracks.after in
    let before = tracks.before in record {
      kind = changes_kind event.opens old.running new.running (number_in wanted.column r) changes ∙ tracks.kind;
      gaps = moves.gaps ∙ moves.advances.gaps ∙ tracks.gaps;
      stands = stands_then event.opens old.running new.running wanted.column r (kept_in wanted set) (kept_in wanted (after_event set event)) short tracks.stands turns changes;
      suits = suits_then event.opens wanted.kind wanted.column r (kept_in wanted set) (kept_in wanted (after_event set event)) (moved.told r is).1 tracks.suits turns;
      after = omega arith;
      before = omega arith;
      made = moves.runs ∙ advances_made wanted set at old middle tracks moves.advances ∙ ap (runs_to wanted) (sym since);
      same = λ v l h. absurd (omega arith);
      past = λ v l h. past_more wanted set at old tracks v l (omega arith);
    }

-- OTHER STEPS

-- a change at the version up to which the runs reach
pub shift_moves : (old new : State) (at : ℕ) (opens : Bool) (n : ℤ) → old.since ≡ at → Shifts old new opens n → Moves old new at opens n
shift_moves old new at opens n since shifts = record {
  middle = old;
  advances = record { running = refl; gaps = refl; since = λ l. since; runs = λ column rows stands suits. no_more (put_stretch old.gaps old.running.count old.runs (stretch_to old at column rows)) };
  changes = shifts.changes;
  since = shifts.since;
  runs = shifts.runs;
  gaps = shifts.gaps;
} where
  no_more : (more : List Run) → old.runs ≡ cond (nat_lt old.since at) more old.runs
  no_more more = let e : nat_lt old.since at ≡ false = grind (arith, nat_tests) in sym (ap (λ b. cond b more old.runs) e)

-- the runs are made to reach up to a version
pub tracks_advanced : (wanted : Wanted) (set : List Bool) (at : ℕ) (old new : State) → Tracks wanted set at old → Advances old new at → Tracks wanted set at new
tracks_advanced wanted set at old new tracks advances =
    let since : new.since ≡ at = advances.since tracks.before in
    let after = tracks.after in
    let before = tracks.before in record {
      kind = ap (λ (k : Kept). k.kind) advances.running ∙ tracks.kind;
      gaps = advances.gaps ∙ tracks.gaps;
      stands = subst (λ k. StandsFor k wanted.column (kept_in wanted set)) (sym advances.running) tracks.stands;
      suits = tracks.suits;
      after = omega arith;
      before = omega arith;
      made = advances_made wanted set at old new tracks advances ∙ ap (runs_to wanted) (sym since);
      same = λ v l h. absurd (omega arith);
      past = λ v l h. past_more wanted set at old tracks v l (omega arith);
    }

-- a group depends on the kept rows of a set alone
pub tracks_same : (wanted : Wanted) (set other : List Bool) (at : ℕ) (group : State) → kept_in wanted set ≡ kept_in wanted other → Tracks wanted set at group → Tracks wanted other at group
tracks_same wanted set other at group e tracks = record {
  kind = tracks.kind;
  gaps = tracks.gaps;
  stands = subst (StandsFor group.running wanted.column) e tracks.stands;
  suits = subst (Suits wanted.kind wanted.column) e tracks.suits;
  after = tracks.after;
  before = tracks.before;
  made = tracks.made;
  same = λ v l h. tracks.same v l h ∙ e;
  past = tracks.past;
}

-- the row of an event is not kept
pub tracks_left : (wanted : Wanted) (set : List Bool) (at : ℕ) (group : State) (event : Event) → is_member wanted.keep event.row ≡ false → Tracks wanted set at group → Tracks wanted (after_event set event) at group
tracks_left wanted set at group event left tracks =
    tracks_same wanted set (after_event set event) at group (ap (λ s. picked s wanted.rows) (sym (row_left set wanted.keep event.opens event.row left))) tracks

-- versions without events go by
pub tracks_later : (wanted : Wanted) (last at next : ℕ) (group : State) → AreWellFormed last wanted.rows → IsQuiet wanted.rows at next → at ≤ next → Tracks wanted (standing wanted.rows at) at group → Tracks wanted (standing wanted.rows at) next group
tracks_later wanted last at next group formed quiet l tracks =
    let before = tracks.before in record {
      kind = tracks.kind;
      gaps = tracks.gaps;
      stands = tracks.stands;
      suits = tracks.suits;
      after = tracks.after;
      before = omega arith;
      made = tracks.made;
      same = λ v a b. by_place v a b (cases_lt v at);
      past = tracks.past;
    } where
      by_place : (v : ℕ) → group.since ≤ v → v < next → (v < at) ⊎ (at ≤ v) → kept_in wanted (standing wanted.rows v) ≡ kept_in wanted (standing wanted.rows at)
      by_place v a b (inl early) = tracks.same v a early
      by_place v a b (inr late) = ap (kept_in wanted) (quiet_stays last wanted.rows formed at next v quiet late b)

-- The steps of a walk along the events of a table.
use Rattle.std.proofs.Common.{◌≡◌, ℕ, zero, suc, ◌+◌, ◌-◌, ◌<◌, ◌≤◌, ℤ, Bool, true, false, not, List, [], ◌∷◌, length, take, drop, map, cond, Option, None, Some, refl, sym, ap, ◌∙◌, arith, subst, slice_get, length-append}
use Rattle.std.proofs.lemmas.List.{length-map}
use Rattle.std.proofs.lemmas.Option.{slice_get_within}
use Rattle.tl_types.specs.declared.events.Event.{Event}
use Rattle.tl_types.specs.Plain as plain
use Rattle.tl_types.specs.History.{is_visible, same_cell, cell_at}
use Rattle.tl_types.specs.Events.{events_at, events_of, place_of, activation}
use Rattle.tl_types.specs.Walks.{standing, after_event, after_events, ChangesEach, IsQuiet}
use Rattle.tl_types.specs.WellFormed.{AreWellFormed}
use Rattle.tl_types.proofs.EventLemmas.{events_before}
use Rattle.tl_types.proofs.WalkLemmas.{events_lead, events_change, length_after, quiet_events, quiet_stays}
use Rattle.tl_events.specs.declared.version_maps.VersionEnd.{VersionEnd}
use Rattle.tl_events.specs.Timeline.{ends_of, Follow}
use Rattle.tl_events.proofs.FollowLemmas.{drop_get}
use Rattle.tl_bits.specs.Sets.{is_member, IsNext, IsFree}
use Rattle.tl_agg.specs.Kept.{both, below}
use Rattle.tl_agg.proofs.KeptLemmas.{both_again, both_less, both_out, both_tested}
use Rattle.tl_query.proofs.CellOrder.{cell_itself, cell_symm, cell_equal}
use Rattle.std.specs.Prelude.{is_some}
use Rattle.tl_types.specs.declared.cells.Cell.{Cell}
use Rattle.tl_types.specs.declared.cells.Cell.TheVariants as cell
use Rattle.tl_types.specs.declared.cells.Cmp.TheVariants as cmp
use Rattle.tl_query.specs.Aggregates.{has_value}
use Rattle.tl_query.specs.Passing.{compare_cells}
use Rattle.tl_agg.proofs.StartLemmas.{next_turns, next_below, rest_below}
use Rattle.tl_running.specs.Standing.{IsShort}
use Rattle.tl_agg.specs.Columns.{HasKey}
use Rattle.tl_keys.specs.Numbered.{AreNumbered}
use Rattle.tl_agg.specs.Scans.{IsNextEntry, ScanOf, IsScan, wanted_of, keep_with, Turns, set_after, Groups, group_of, HasPlace, CanMoveAt, MovesAt, TrackBy, AllTrack, IsReady, TakesEvent}
use Rattle.tl_index.specs.Tables.{TableOf, rows_in}
use Rattle.tl_running.specs.Telling.{TellsNumber}
use Rattle.tl_agg.specs.Groups.{Wanted, State, IsNone, IsOne, HoldsIn, Tracks, Advances, Shifts, MovesRow, CanMoveRow}
use Rattle.tl_agg.proofs.GroupLemmas.{can_move, tracks_moved, tracks_advanced, shift_moves, tracks_left, tracks_later}
use Rattle.tl_agg.proofs.PlaceLemmas.{moved_place}

-- ONE EVENT

pub row_with : (rows : List plain.Row) (id : ℕ) → id < length rows → (r : plain.Row) × (slice_get rows id ≡ Some r)
row_with [] id l = absurd (omega arith)
row_with (r ∷ rows) zero l = (r, refl)
row_with (r ∷ rows) (suc id) l = row_with rows id (omega arith)

pub turn_inside : (rows : List plain.Row) (set : List Bool) (event : Event) → Turns rows set event → event.row < length rows
turn_inside rows set event turns = subst (λ n. event.row < n) turns.long (slice_get_within set event.row (not event.opens) turns.turn)

-- GROUPS

-- a part of the kept rows
pub record IsPart (scan : ScanOf) (keep : List Bool) : Type 0 where
  pub out : (row : ℕ) → is_member scan.keep row ≡ false → is_member keep row ≡ false
  pub again : (set : List Bool) → both (both set scan.keep) keep ≡ both set keep

holds_map : (wanted : Wanted) (set other : List Bool) (at next : ℕ) (found : Option State) → ((group : State) → Tracks wanted set at group → Tracks wanted other next group) → HoldsIn wanted set at found → HoldsIn wanted other next found
holds_map wanted set other at next None step holds = λ group none. step group (holds group none)
holds_map wanted set other at next (Some group) step holds = step group holds

-- what holds of each group when the set or the version goes on
pub all_map : (by : Option ℕ) (scan : ScanOf) (set other : List Bool) (at next : ℕ) (groups : Groups)
    → ((keep : List Bool) → IsPart scan keep → (group : State) → Tracks (wanted_of scan keep) set at group → Tracks (wanted_of scan keep) other next group)
    → TrackBy by scan set at groups → TrackBy by scan other next groups
all_map None scan set other at next groups step tracks = step scan.keep (record { out = λ row h. h; again = λ set. both_again set scan.keep }) groups.all tracks
all_map (Some by) scan set other at next groups step tracks = (
  tracks.0,
  λ value.
      let keep = keep_with scan by value in
      let test = map (has_value by value) (rows_in scan.table) in
      holds_map (wanted_of scan keep) set other at next (group_of groups value)
      (step keep (record { out = λ row h. both_out scan.keep test row h; again = λ set. both_less set scan.keep test }))
      (tracks.1 value),
)

-- ONE EVENT OF ALL ROWS

can_by : (by : Option ℕ) (scan : ScanOf) (at : ℕ) (set : List Bool) (event : Event) (groups : Groups) → by ≡ None → length (rows_in scan.table) ≤ 16777216 → is_member scan.keep event.row ≡ true → Turns (rows_in scan.table) set event → TrackBy by scan set at groups
    → CanMoveRow scan.plan.kind scan.plan.column (rows_in scan.table) groups.all event
can_by (Some b) scan at set event groups is few kept turns tracks = absurd (cc)
can_by None scan at set event groups is few kept turns tracks =
    let r = row_with (rows_in scan.table) event.row (turn_inside (rows_in scan.table) set event turns) in
    can_move (wanted_of scan scan.keep) set at groups.all event r.0 turns.long few r.1 turns.turn kept tracks

pub can_take : (scan : ScanOf) (at : ℕ) (event : Event) (groups : Groups) → scan.plan.by ≡ None → length (rows_in scan.table) ≤ 16777216 → is_member scan.keep event.row ≡ true → IsReady scan at event groups
    → CanMoveRow scan.plan.kind scan.plan.column (rows_in scan.table) groups.all event
can_take scan at event groups is few kept ready = can_by scan.plan.by scan at ready.set event groups is few kept ready.turns ready.tracks

taken_by : (by : Option ℕ) (scan : ScanOf) (at : ℕ) (set : List Bool) (event : Event) (old new : Groups) → by ≡ None → is_member scan.keep event.row ≡ true → Turns (rows_in scan.table) set event
    → MovesRow scan.plan.kind scan.plan.column (rows_in scan.table) old.all new.all at event → TrackBy by scan set at old → TrackBy by scan (after_event set event) at new
taken_by (Some b) scan at set event old new is kept turns moved tracks = absurd (cc)
taken_by None scan at set event old new is kept turns moved tracks =
    let r = row_with (rows_in scan.table) event.row (turn_inside (rows_in scan.table) set event turns) in
    tracks_moved (wanted_of scan scan.keep) set at old.all new.all event r.0 turns.long r.1 turns.turn kept tracks moved

pub takes_shifted : (scan : ScanOf) (at : ℕ) (event : Event) (old new : Groups) (n : ℤ) → scan.plan.by ≡ None → is_member scan.keep event.row ≡ true → TellsNumber scan.plan.kind scan.plan.column (rows_in scan.table) event.row n → IsShort n
    → old.all.since ≡ at → Shifts old.all new.all event.opens n → TakesEvent scan at event old new
takes_shifted scan at event old new n is kept told short since shifts = λ set turns tracks.
    taken_by scan.plan.by scan at set event old new is kept turns (record { number = n; told = told; short = short; moves = shift_moves old.all new.all at event.opens n since shifts }) tracks

-- before the events of a version the runs of the group of all rows are made to reach up to it
advanced_by : (by : Option ℕ) (scan : ScanOf) (at : ℕ) (set : List Bool) (old new : Groups) → by ≡ None → Advances old.all new.all at → TrackBy by scan set at old → TrackBy by scan set at new × (new.all.since ≡ at)
advanced_by (Some b) scan at set old new is advances tracks = absurd (cc)
advanced_by None scan at set old new is advances tracks = (tracks_advanced (wanted_of scan scan.keep) set at old.all new.all tracks advances, advances.since tracks.before)

pub all_advanced : (scan : ScanOf) (at : ℕ) (set : List Bool) (old new : Groups) → scan.plan.by ≡ None → Advances old.all new.all at → AllTrack scan set at old → AllTrack scan set at new × (new.all.since ≡ at)
all_advanced scan at set old new is advances tracks = advanced_by scan.plan.by scan at set old new is advances tracks

-- at the first version these reach up to it
first_by : (by : Option ℕ) (scan : ScanOf) (set : List Bool) (groups : Groups) → by ≡ None → TrackBy by scan set scan.from groups → groups.all.since ≡ scan.from
first_by (Some b) scan set groups is tracks = absurd (cc)
first_by None scan set groups is tracks = let after = tracks.after in let before = tracks.before in omega arith

pub first_since : (scan : ScanOf) (set : List Bool) (groups : Groups) → AllTrack scan set scan.from groups → scan.plan.by ≡ None → groups.all.since ≡ scan.from
first_since scan set groups tracks is = first_by scan.plan.by scan set groups is tracks

-- ONE EVENT OF A GROUP

-- a group that is found, or one of no rows
one_tracks : (wanted : Wanted) (set : List Bool) (at : ℕ) (found : Option State) (group : State) → wanted.gaps ≡ true → HoldsIn wanted set at found → IsOne found wanted.kind wanted.from group → Tracks wanted set at group
one_tracks wanted set at None group gaps holds one = holds group (subst (λ g. IsNone group wanted.kind g wanted.from) (sym gaps) one)
one_tracks wanted set at (Some found) group gaps holds one = subst (Tracks wanted set at) (sym one) holds

-- the row has the value in the column
has_key : (by : ℕ) (value key : Cell) (r : plain.Row) → cell_at r.cells by ≡ Some key → has_value by value r ≡ same_cell key value
has_key by value key r is = rw is (same key value) where
  same : (x y : Cell) → compare_cells cmp.Eq x y ≡ same_cell x y
  same (cell.Int i) (cell.Int j) = refl
  same (cell.Int i) (cell.Text t) = refl
  same (cell.Text s) (cell.Int j) = refl
  same (cell.Text s) (cell.Text t) = refl

can_with : (scan : ScanOf) (by at : ℕ) (set : List Bool) (event : Event) (groups : Groups) (r : plain.Row) (key : Cell) (group : State) → is_some scan.plan.by ≡ true → length scan.keep ≡ length (rows_in scan.table) → length (rows_in scan.table) ≤ 16777216
    → is_member scan.keep event.row ≡ true → Turns (rows_in scan.table) set event → slice_get (rows_in scan.table) event.row ≡ Some r → cell_at r.cells by ≡ Some key → IsOne (group_of groups key) scan.plan.kind scan.from group
    → TrackBy (Some by) scan set at groups → CanMoveRow scan.plan.kind scan.plan.column (rows_in scan.table) group event
can_with scan by at set event groups r key group gaps long few kept turns is key_is one tracks =
    let keep = keep_with scan by key in
    let member : is_member keep event.row ≡ true = both_tested scan.keep (has_value by key) (rows_in scan.table) event.row r long is kept ∙ has_key by key key r key_is ∙ cell_itself key in
    can_move (wanted_of scan keep) set at group event r turns.long few is turns.turn member
    (one_tracks (wanted_of scan keep) set at (group_of groups key) group gaps (tracks.1 key) one)

taken_with : (scan : ScanOf) (by at : ℕ) (set : List Bool) (event : Event) (old new : Groups) (r : plain.Row) (key : Cell) (group moved : State) → is_some scan.plan.by ≡ true → length scan.keep ≡ length (rows_in scan.table)
    → is_member scan.keep event.row ≡ true → Turns (rows_in scan.table) set event → slice_get (rows_in scan.table) event.row ≡ Some r → cell_at r.cells by ≡ Some key → IsOne (group_of old key) scan.plan.kind scan.from group
    → MovesRow scan.plan.kind scan.plan.column (rows_in scan.table) group moved at event
    → AreNumbered new.keys new.by × ((x : Cell) → group_of new x ≡ cond (same_cell x key) (Some moved) (group_of old x))
    → TrackBy (Some by) scan set at old → TrackBy (Some by) scan (after_event set event) at new
taken_with scan by at set event old new r key group moved gaps long kept turns is key_is one moves puts tracks = (puts.0, λ value. by_test value (same_cell value key) refl) where
  member : (value : Cell) → is_member (keep_with scan by value) event.row ≡ same_cell key value
  member value = both_tested scan.keep (has_value by value) (rows_in scan.table) event.row r long is kept ∙ has_key by value key r key_is

  by_test : (value : Cell) (t : Bool) → same_cell value key ≡ t → HoldsIn (wanted_of scan (keep_with scan by value)) (after_event set event) at (group_of new value)
  by_test value true e =
      let same : value ≡ key = cell_equal value key e in
      let keep = keep_with scan by value in
      let holds = subst (λ x. IsOne (group_of old x) scan.plan.kind scan.from group) (sym same) one in
      let before = one_tracks (wanted_of scan keep) set at (group_of old value) group gaps (tracks.1 value) holds in
      let after = tracks_moved (wanted_of scan keep) set at group moved event r turns.long is turns.turn (member value ∙ cell_symm key value ∙ e) before moves in
      subst (HoldsIn (wanted_of scan keep) (after_event set event) at) (sym (puts.1 value ∙ ap (λ b. cond b (Some moved) (group_of old value)) e)) after
  by_test value false e =
      let keep = keep_with scan by value in
      let left : is_member keep event.row ≡ false = member value ∙ cell_symm key value ∙ e in
      subst (HoldsIn (wanted_of scan keep) (after_event set event) at) (sym (puts.1 value ∙ ap (λ b. cond b (Some moved) (group_of old value)) e))
      (holds_map (wanted_of scan keep) set (after_event set event) at at (group_of old value) (λ g t. tracks_left (wanted_of scan keep) set at g event left t) (tracks.1 value))

-- the groups are numbered
numbered_by : (b : Option ℕ) (by : ℕ) (scan : ScanOf) (set : List Bool) (at : ℕ) (groups : Groups) → b ≡ Some by → TrackBy b scan set at groups → AreNumbered groups.keys groups.by
numbered_by None by scan set at groups is tracks = absurd (cc)
numbered_by (Some b) by scan set at groups is tracks = tracks.0

pub ready_numbered : (scan : ScanOf) (by at : ℕ) (event : Event) (groups : Groups) → scan.plan.by ≡ Some by → IsReady scan at event groups → AreNumbered groups.keys groups.by
ready_numbered scan by at event groups is ready = numbered_by scan.plan.by by scan ready.set at groups is ready.tracks

pub can_take_in : (scan : ScanOf) (by at : ℕ) (event : Event) (old middle : Groups) (key : Cell) (n : ℕ) → scan.plan.by ≡ Some by → IsScan scan → length (rows_in scan.table) ≤ 16777216 → is_member scan.keep event.row ≡ true → HasKey (rows_in scan.table) event.row by key
    → HasPlace old middle key scan.plan.kind scan.from n → IsReady scan at event old → (number : ℤ) → TellsNumber scan.plan.kind scan.plan.column (rows_in scan.table) event.row number → CanMoveAt middle.by n event.opens number
can_take_in scan by at event old middle key n by_is is few kept has place ready number told = record {
  value = key;
  group = place.group;
  there = place.there;
  can = can_with scan by at ready.set event old has.row key place.group (ap is_some by_is) is.keep few kept ready.turns has.there has.cell_is place.one
      (subst (λ b. TrackBy b scan ready.set at old) by_is ready.tracks) number told;
}

pub takes_in : (scan : ScanOf) (by at : ℕ) (event : Event) (old middle new : Groups) (key : Cell) (n : ℕ) (number : ℤ) → scan.plan.by ≡ Some by → IsScan scan → is_member scan.keep event.row ≡ true → HasKey (rows_in scan.table) event.row by key
    → HasPlace old middle key scan.plan.kind scan.from n → TellsNumber scan.plan.kind scan.plan.column (rows_in scan.table) event.row number → IsShort number → new.keys ≡ middle.keys → MovesAt middle.by new.by n at event.opens number
    → TakesEvent scan at event old new
takes_in scan by at event old middle new key n number by_is is kept has place told short keys moved = λ set turns tracks.
    let made = moved_place old middle new key scan.plan.kind scan.from n at event.opens number place moved keys in
    subst (λ b. TrackBy b scan (after_event set event) at new) (sym by_is)
    (taken_with scan by at set event old new has.row key place.group moved.moved (ap is_some by_is) is.keep kept turns has.there has.cell_is place.one (record { number = number; told = told; short = short; moves = made.0 }) made.1
    (subst (λ b. TrackBy b scan set at old) by_is tracks))

pub takes_left : (scan : ScanOf) (at : ℕ) (event : Event) (groups : Groups) → is_member scan.keep event.row ≡ false → TakesEvent scan at event groups groups
takes_left scan at event groups left = λ set turns tracks.
    all_map scan.plan.by scan set (after_event set event) at at groups (λ keep part group t. tracks_left (wanted_of scan keep) set at group event (part.out event.row left) t) tracks

-- THE EVENTS OF A TABLE

turn_at : (set : List Bool) (es : List Event) (i : ℕ) (e : Event) → ChangesEach set es → slice_get es i ≡ Some e → slice_get (after_events set (take i es)) e.row ≡ Some (not e.opens)
turn_at set [] i e changes is = absurd (cc)
turn_at set (x ∷ es) zero e changes is = let same : x ≡ e = cc in subst (λ (y : Event). slice_get set y.row ≡ Some (not y.opens)) same changes.0
turn_at set (x ∷ es) (suc i) e changes is = turn_at (after_event set x) es i e changes.1 is

pub step_at : (set : List Bool) (es : List Event) (i : ℕ) (e : Event) → slice_get es i ≡ Some e → after_events set (take (i + 1) es) ≡ after_event (after_events set (take i es)) e
step_at set [] i e is = absurd (cc)
step_at set (x ∷ es) zero e is = let same : x ≡ e = cc in ap (after_event set) same
step_at set (x ∷ es) (suc i) e is = let s : suc i + 1 ≡ suc (i + 1) = omega arith in ap (λ n. after_events set (take n (x ∷ es))) s ∙ step_at (after_event set x) es i e is

get_take : {X : Type 0} (n i : ℕ) (xs : List X) (x : X) → slice_get (take n xs) i ≡ Some x → slice_get xs i ≡ Some x
get_take zero i xs x is = absurd (cc)
get_take (suc n) i [] x is = absurd (cc)
get_take (suc n) zero (y ∷ xs) x is = is
get_take (suc n) (suc i) (y ∷ xs) x is = get_take n i xs x is

get_drop : {X : Type 0} (p i : ℕ) (xs : List X) (x : X) → slice_get (drop p xs) i ≡ Some x → slice_get xs (p + i) ≡ Some x
get_drop zero i xs x is = let e : 0 + i ≡ i = omega arith in ap (slice_get xs) e ∙ is
get_drop (suc p) i [] x is = absurd (cc)
get_drop (suc p) i (y ∷ xs) x is = let e : suc p + i ≡ suc (p + i) = omega arith in ap (slice_get (y ∷ xs)) e ∙ get_drop p i xs x is

pub event_here : (table : TableOf) (events : List Event) (place i : ℕ) (e : Event) → events ≡ take (length events) (drop place (events_of (rows_in table) table.db.version)) → slice_get events i ≡ Some e
    → slice_get (events_of (rows_in table) table.db.version) (place + i) ≡ Some e
event_here table events place i e are is =
    get_drop place i (events_of (rows_in table) table.db.version) e
    (get_take (length events) i (drop place (events_of (rows_in table) table.db.version)) e (ap (λ es. slice_get es i) (sym are) ∙ is))

pub run_turns : (table : TableOf) (place i : ℕ) (events : List Event) (e : Event) → AreWellFormed table.db.version (rows_in table)
    → events ≡ take (length events) (drop place (events_of (rows_in table) table.db.version)) → slice_get events i ≡ Some e → Turns (rows_in table) (set_after table (place + i)) e
run_turns table place i events e formed are is =
    let rows = rows_in table in
    let last = table.db.version in
    let here = event_here table events place i e are is in record {
      long = length_after (standing rows 0) (take (place + i) (events_of rows last)) ∙ length-map rows (is_visible 0);
      turn = turn_at (standing rows 0) (events_of rows last) (place + i) e (events_change last rows 0 last formed (omega arith)) here;
    }

-- an event of a run finds the set that it changes
pub run_ready : (scan : ScanOf) (at place i : ℕ) (events : List Event) (e : Event) (groups : Groups) → AreWellFormed scan.table.db.version (rows_in scan.table)
    → events ≡ take (length events) (drop place (events_of (rows_in scan.table) scan.table.db.version)) → slice_get events i ≡ Some e
    → AllTrack scan (set_after scan.table (place + i)) at groups → IsReady scan at e groups
run_ready scan at place i events e groups formed are is tracks = record {
  set = set_after scan.table (place + i);
  turns = run_turns scan.table place i events e formed are is;
  tracks = tracks;
}

-- and leads to the next
pub run_taken : (scan : ScanOf) (at place i : ℕ) (events : List Event) (e : Event) (old new : Groups) → AreWellFormed scan.table.db.version (rows_in scan.table)
    → events ≡ take (length events) (drop place (events_of (rows_in scan.table) scan.table.db.version)) → slice_get events i ≡ Some e
    → AllTrack scan (set_after scan.table (place + i)) at old → TakesEvent scan at e old new → AllTrack scan (set_after scan.table (place + (i + 1))) at new
run_taken scan at place i events e old new formed are is tracks takes =
    let rows = rows_in scan.table in
    let last = scan.table.db.version in
    let here = event_here scan.table events place i e are is in
    let turns = run_turns scan.table place i events e formed are is in
    let s : place + (i + 1) ≡ place + i + 1 = omega arith in
    let next : set_after scan.table (place + (i + 1)) ≡ after_event (set_after scan.table (place + i)) e = ap (set_after scan.table) s ∙ step_at (standing rows 0) (events_of rows last) (place + i) e here in
    subst (λ set. AllTrack scan set at new) (sym next) (takes (set_after scan.table (place + i)) turns tracks)

-- VERSIONS

-- how many events a version has
pub events_many : (rows : List plain.Row) (before version : ℕ) → before < version → IsQuiet rows before version → place_of rows version ≡ place_of rows before + length (events_at rows version)
events_many rows before version l quiet = ap length (quiet_events rows before version l quiet) ∙ length-append (events_of rows before) (events_at rows version)

-- the same rows stand at the last version of a quiet stretch
pub last_stands : (last : ℕ) (rows : List plain.Row) (at to : ℕ) → AreWellFormed last rows → at < to → IsQuiet rows at to → standing rows (to - 1) ≡ standing rows at
last_stands last rows at to formed l quiet = quiet_stays last rows formed at to (to - 1) quiet (omega arith) (omega arith)

-- the rows that stand after the events up to a version
pub set_at_version : (table : TableOf) (version : ℕ) → AreWellFormed table.db.version (rows_in table) → version ≤ table.db.version → set_after table (place_of (rows_in table) version) ≡ standing (rows_in table) version
set_at_version table version formed l =
    let rows = rows_in table in
    ap (after_events (standing rows 0)) (events_before rows version table.db.version l) ∙ events_lead table.db.version rows 0 version formed (omega arith)

-- before the events of a version, the groups are those of the version before it that has some
pub version_begins : (scan : ScanOf) (at next place : ℕ) (groups : Groups) → AreWellFormed scan.table.db.version (rows_in scan.table) → at < next → next ≤ scan.table.db.version → IsQuiet (rows_in scan.table) at next
    → place ≡ place_of (rows_in scan.table) at → AllTrack scan (standing (rows_in scan.table) at) at groups → AllTrack scan (set_after scan.table place) next groups
version_begins scan at next place groups formed l within quiet place_is tracks =
    let same : set_after scan.table place ≡ standing (rows_in scan.table) at = ap (set_after scan.table) place_is ∙ set_at_version scan.table at formed (omega arith) in
    subst (λ set. AllTrack scan set next groups) (sym same)
    (all_map scan.plan.by scan (standing (rows_in scan.table) at) (standing (rows_in scan.table) at) at next groups
    (λ keep part group t. tracks_later (wanted_of scan keep) scan.table.db.version at next group formed quiet (omega arith) t) tracks)

-- and after them those of the version
pub version_ends : (scan : ScanOf) (at place : ℕ) (groups : Groups) → AreWellFormed scan.table.db.version (rows_in scan.table) → at ≤ scan.table.db.version → place ≡ place_of (rows_in scan.table) at
    → AllTrack scan (set_after scan.table place) at groups → AllTrack scan (standing (rows_in scan.table) at) at groups
version_ends scan at place groups formed within place_is tracks =
    subst (λ set. AllTrack scan set at groups) (ap (set_after scan.table) place_is ∙ set_at_version scan.table at formed within) tracks

-- at the end of the piece
pub piece_ends : (scan : ScanOf) (at to : ℕ) (groups : Groups) → AreWellFormed scan.table.db.version (rows_in scan.table) → at < to → IsQuiet (rows_in scan.table) at to
    → AllTrack scan (standing (rows_in scan.table) at) at groups → AllTrack scan (standing (rows_in scan.table) (to - 1)) to groups
piece_ends scan at to groups formed l quiet tracks =
    subst (λ set. AllTrack scan set to groups) (sym (last_stands scan.table.db.version (rows_in scan.table) at to formed l quiet))
    (all_map scan.plan.by scan (standing (rows_in scan.table) at) (standing (rows_in scan.table) at) at to groups
    (λ keep part group t. tracks_later (wanted_of scan keep) scan.table.db.version at to group formed quiet (omega arith) t) tracks)

-- THE NEXT ENTRY

pub next_some : (rows : List plain.Row) (last at to i : ℕ) (entry : VersionEnd) → Follow rows last at (drop i (ends_of rows last)) → slice_get (ends_of rows last) i ≡ Some entry → entry.version < to
    → IsNextEntry rows last at to entry (drop (i + 1) (ends_of rows last))
next_some rows last at to i entry follow is before =
    let f : Follow rows last at (entry ∷ drop (i + 1) (ends_of rows last)) = subst (Follow rows last at) (drop_get (ends_of rows last) i entry is) follow in
    record { later = f.0; before = before; within = f.1; quiet = f.2; place = f.3; some = f.4; rest = f.5 }

pub next_later : (rows : List plain.Row) (last at to i : ℕ) (entry : VersionEnd) → Follow rows last at (drop i (ends_of rows last)) → slice_get (ends_of rows last) i ≡ Some entry → to ≤ entry.version → IsQuiet rows at to
next_later rows last at to i entry follow is later =
    let f : Follow rows last at (entry ∷ drop (i + 1) (ends_of rows last)) = subst (Follow rows last at) (drop_get (ends_of rows last) i entry is) follow in
    let q = f.2 in
    λ m l h. q m l (omega arith)

-- THE START

pub start_ready : (scan : ScanOf) (at from row : ℕ) (start : List Bool) (groups : Groups) → length start ≡ length (rows_in scan.table) → IsNext start from row → AllTrack scan (below from start) at groups → IsReady scan at (activation row) groups
start_ready scan at from row start groups long next tracks = record { set = below from start; turns = next_turns (rows_in scan.table) start from row long next; tracks = tracks }

pub start_taken : (scan : ScanOf) (at from row : ℕ) (start : List Bool) (old new : Groups) → length start ≡ length (rows_in scan.table) → IsNext start from row → AllTrack scan (below from start) at old → TakesEvent scan at (activation row) old new → AllTrack scan (below (row + 1) start) at new
start_taken scan at from row start old new long next tracks takes =
    subst (λ set. AllTrack scan set at new) (next_below start from row next) (takes (below from start) (next_turns (rows_in scan.table) start from row long next) tracks)

pub start_ends : (scan : ScanOf) (at from : ℕ) (start : List Bool) (groups : Groups) → from ≤ length start → IsFree start from (length start) → AllTrack scan (below from start) at groups → AllTrack scan start at groups
start_ends scan at from start groups l free tracks = subst (λ set. AllTrack scan set at groups) (rest_below start from l free) tracks

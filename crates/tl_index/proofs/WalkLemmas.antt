-- The walk along the events of a table.
use Rattle.std.proofs.Common.{◌≡◌, ℕ, zero, suc, ◌+◌, ◌-◌, ◌<◌, ◌≤◌, Bool, true, false, if◌then◌else◌, List, [], ◌∷◌, ◌++◌, length, take, drop, get_or, replicate, All, Some, refl, sym, ap, subst, ◌∙◌, arith, nat_le}
use Rattle.std.proofs.Math.Seq.{take-add}
use Rattle.std.proofs.lemmas.List.{length-map, length-take-le, take_more, drop_all, drop-append-le}
use Rattle.std.proofs.lemmas.List.Elements.{All-take, All-drop}
use Rattle.std.proofs.lemmas.List.Sums.{fold-append}
use Rattle.tl_types.specs.declared.events.Event.{Event}
use Rattle.tl_types.specs.Plain as plain
use Rattle.tl_types.specs.History.{is_visible, rows_of}
use Rattle.tl_types.specs.Events.{events_of, place_of, checkpoint_rows}
use Rattle.tl_types.specs.declared.events.ValidEvent.{ValidEvent}
use Rattle.tl_types.specs.Checkpoints.{Checkpoint, checkpoint_of, checkpoint_at, valid_events_in}
use Rattle.tl_store.specs.Reading.{has_periods, has_periods_table}
use Rattle.tl_types.specs.WellFormed.{AreWellFormed}
use Rattle.tl_types.specs.Walks.{standing, after_event, after_events}
use Rattle.tl_types.proofs.EventLemmas.{place_grows, events_before, events_within, ids_few}
use Rattle.tl_types.proofs.WalkLemmas.{events_lead, none_stand, grown_from, length_after}
use Rattle.tl_bits.specs.Sets.{members}
use Rattle.tl_index.specs.Walking.{IsStart}
use Rattle.tl_index.proofs.ReadLemmas.{There, there}

-- A RUN OF EVENTS

pub one_more : (set now new : List Bool) (events : List Event) (i : ℕ) (e : Event) → i < length events → e ≡ get_or events i e → now ≡ after_events set (take i events) → new ≡ after_event now e → new ≡ after_events set (take (i + 1) events)
one_more set now new events i e l at is step =
    step ∙ ap (λ s. after_event s e) is
    ∙ sym (ap (after_events set) (take_more events i e l ∙ ap (λ (f : Event). take i events ++ f ∷ []) (sym at)) ∙ fold-append after_event set (take i events) (e ∷ []))

pub row_in : (set now : List Bool) (events : List Event) (i : ℕ) (e : Event) → i < length events → e ≡ get_or events i e → now ≡ after_events set (take i events) → All (λ (event : Event). event.row < length set) events → e.row < length now
row_in set now events i e l at is all =
    let row = subst (λ (event : Event). event.row < length set) (sym at) (all i e l) in
    let same = ap length is ∙ length_after set (take i events) in
    omega (arith, row, same)

-- the events of a run are of rows of the set
pub run_in : (set now : List Bool) (events run : List Event) (from at n : ℕ) → run ≡ take n (drop at events) → now ≡ after_events set (drop from (take at events)) → All (λ (event : Event). event.row < length set) events → All (λ (event : Event). event.row < length now) run
run_in set now events run from at n run_is is all =
    let same : length set ≡ length now = sym (ap length is ∙ length_after set (drop from (take at events))) in
    subst (λ m. All (λ (event : Event). event.row < m) run) same
    (subst (All (λ (event : Event). event.row < length set)) (sym run_is)
    (All-take (λ (event : Event). event.row < length set) n (drop at events) (All-drop (λ (event : Event). event.row < length set) at events all)))

-- the events behind a place and up to one, with those of a run more
pub run_more : {X : Type 0} (events run : List X) (from at n : ℕ) → from ≤ at → at ≤ length events → run ≡ take n (drop at events) → drop from (take (at + n) events) ≡ drop from (take at events) ++ run
run_more {X} events run from at n o l run_is =
    let taken : length (take at events) ≡ at = length-take-le at events l in
    ap (drop from) (take-add at n events) ∙ drop-append-le from (take at events) (take n (drop at events)) (omega arith) ∙ ap (λ es. drop from (take at events) ++ es) (sym run_is)

pub walk_more : (set now new : List Bool) (events run : List Event) (from at n : ℕ) → from ≤ at → at ≤ length events → run ≡ take n (drop at events) → now ≡ after_events set (drop from (take at events)) → new ≡ after_events now run → new ≡ after_events set (drop from (take (at + n) events))
walk_more set now new events run from at n o l run_is is step =
    step ∙ ap (λ s. after_events s run) is ∙ sym (ap (after_events set) (run_more events run from at n o l run_is) ∙ fold-append after_event set (drop from (take at events)) run)

pub walk_begins : (set : List Bool) (events : List Event) (from : ℕ) → set ≡ after_events set (drop from (take from events))
walk_begins set events from = sym (ap (after_events set) (drop_all from (take from events) (few from events))) where
  few : {X : Type 0} (n : ℕ) (xs : List X) → length (take n xs) ≤ n
  few zero xs = omega arith
  few (suc n) [] = omega arith
  few (suc n) (x ∷ xs) = let h = few n xs in omega arith

-- FROM A START

-- what a walk from a start has to know, and makes
pub record Leads (rows : List plain.Row) (set : List Bool) (events : List Event) (from to version : ℕ) : Type 0 where
  pub ordered : from ≤ to
  pub within : to ≤ length events
  pub inside : All (λ (event : Event). event.row < length set) events
  pub set_is : after_events set (drop from (take to events)) ≡ standing rows version

pub leads : (rows : List plain.Row) (set : List Bool) (events : List Event) (from to version last : ℕ) → AreWellFormed last rows → IsStart rows set from version → version ≤ last → events ≡ events_of rows last → to ≡ place_of rows version → Leads rows set events from to version
leads rows set events from to version last formed start within is up =
    let up_is = ap (λ es. take (place_of rows version) es) is ∙ events_before rows version last within in
    let many = ap length is in
    let size = ap length start.set_is ∙ length-map rows (is_visible start.base) in
    record {
      ordered = omega (arith, place_grows rows start.base version start.not_after, up, start.place_is);
      within = omega (arith, place_grows rows version last within, up, many);
      inside = subst (λ n. All (λ (event : Event). event.row < n) events) (sym size) (subst (All (λ (event : Event). event.row < length rows)) (sym is) (events_within rows last));
      set_is =
          parts set (standing rows start.base) from (place_of rows start.base) to (place_of rows version) events start.set_is start.place_is up
          ∙ ap (λ es. after_events (standing rows start.base) (drop (place_of rows start.base) es)) up_is
          ∙ events_lead last rows start.base version formed start.not_after;
    } where
      parts : (a b : List Bool) (m n p q : ℕ) (es : List Event) → a ≡ b → m ≡ n → p ≡ q → after_events a (drop m (take p es)) ≡ after_events b (drop n (take q es))
      parts a b m n p q es e f g = rw (e, f, g) refl

-- the set of no row is that of version 0
pub none_starts : (last : ℕ) (rows : List plain.Row) (set : List Bool) (n version : ℕ) → AreWellFormed last rows → set ≡ replicate n false → n ≡ length rows → IsStart rows set 0 version
none_starts last rows set n version formed is many = record { base = 0; not_after = omega arith; set_is = is ∙ ap (λ k. replicate k false) many ∙ none_stand last rows formed; place_is = refl }

-- FROM A MARK

-- what a mark says of its table
pub record Says (mark : Checkpoint) (rows : List plain.Row) : Type 0 where
  pub place : mark.place ≡ place_of rows mark.version
  pub begun : mark.begun ≤ length rows
  pub ids : mark.rows ≡ checkpoint_rows rows mark.version

its_events : (valid : Bool) (rows : List plain.Row) (version : ℕ) (es : List ValidEvent) → es ≡ (if valid then valid_events_in rows version else []) → valid ≡ true → es ≡ valid_events_in rows version
its_events valid rows version es is v = is ∙ ap (λ b. if b then valid_events_in rows version else []) v

-- and of the events of valid time, where its rows have periods
pub says_valid : (db : plain.Database) (mark : Checkpoint) (number : ℕ) → number < length db.tables → mark ≡ checkpoint_at db number mark.version → has_periods db number ≡ true → mark.valid_events ≡ valid_events_in (rows_of db number) mark.version
says_valid db mark number l is valid = from (there db.tables number l) where
  from : There db.tables number → mark.valid_events ≡ valid_events_in (rows_of db number) mark.version
  from t =
      let own : checkpoint_at db number mark.version ≡ checkpoint_of number mark.version (Some t.table) = ap (checkpoint_of number mark.version) t.is in
      let rows : t.table.rows ≡ rows_of db number = (rw t.is refl) in
      let periods : t.table.schema.valid ≡ true = sym (ap has_periods_table t.is) ∙ valid in
      its_events t.table.schema.valid t.table.rows mark.version mark.valid_events (ap (λ (m : Checkpoint). m.valid_events) (is ∙ own)) periods
      ∙ ap (λ rs. valid_events_in rs mark.version) rows

pub says : (db : plain.Database) (mark : Checkpoint) (number : ℕ) → number < length db.tables → mark ≡ checkpoint_at db number mark.version → Says mark (rows_of db number)
says db mark number l is = from (there db.tables number l) where
  from : There db.tables number → Says mark (rows_of db number)
  from t =
      let own : checkpoint_at db number mark.version ≡ checkpoint_of number mark.version (Some t.table) = ap (checkpoint_of number mark.version) t.is in
      let rows : t.table.rows ≡ rows_of db number = (rw t.is refl) in
      let all = is ∙ own in
      subst (Says mark) rows (record {
        place = ap (λ (m : Checkpoint). m.place) all;
        begun = omega (arith, ap (λ (m : Checkpoint). m.begun) all, ids_few 0 (λ row. nat_le row.from mark.version) t.table.rows);
        ids = ap (λ (m : Checkpoint). m.rows) all;
      })

-- the set of a mark, grown to all rows
pub mark_grown : (set grown : List Bool) (rows : List plain.Row) (count : ℕ) (mark : Checkpoint) → Says mark rows → count ≡ length rows → members set ≡ mark.rows → length set ≡ mark.begun → grown ≡ set ++ replicate (count - length set) false → grown ≡ standing rows mark.version
mark_grown set grown rows count mark says many ids begun is =
    let few = says.begun in
    is ∙ grown_from 0 (count - length set) set (is_visible mark.version) rows (omega (arith, few, many, begun)) (ids ∙ says.ids)

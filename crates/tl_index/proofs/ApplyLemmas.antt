-- What a commit that fits asks of the timelines, and that it makes those of the longer history.
use Rattle.std.proofs.Common.{◌≡◌, ℕ, ℤ, suc, ◌+◌, ◌^◌, ◌<◌, ◌≤◌, true, ◌&&◌, nat_le, nat_lt, List, [], ◌∷◌, ◌++◌, length, map, set, Option, Some, None, refl, sym, ap, subst, ◌∙◌, arith, slice_get, get_or, length-append, IsTrue}
use Rattle.std.specs.List.{list_all, enumerate_from, range_with_len}
use Rattle.std.proofs.lemmas.Bool.{leb-true, ltb-true}
use Rattle.std.proofs.lemmas.List.{length-map}
use Rattle.std.proofs.lemmas.List.FromFn.{length-range_with_len}
use Rattle.std.proofs.lemmas.List.Sums.{fold-append}
use Rattle.std.proofs.lemmas.Option.{get_or_from_slice_get, slice_get_within, slice_get-map}
use Rattle.tl_types.proofs.Lists.{and_left, and_right, map-at_place-unseen}
use Rattle.tl_types.specs.Plain as plain
use Rattle.tl_types.specs.Facts.{IsChange}
use Rattle.tl_types.specs.declared.commits.Commit.{Commit}
use Rattle.tl_types.specs.declared.commits.Body.TheVariants as body
use Rattle.tl_types.specs.History.{open_end, is_open_at, row_after, table_after, new_row, at_place, with_floor, after_body, after_commit, nothing, database_of, fits, fits_table, fits_body, matches, rows_of}
use Rattle.tl_types.specs.Events.{invalidation, activation, events_of}
use Rattle.tl_types.specs.Limits.{standard_limits}
use Rattle.tl_types.specs.Legality.{FitInTurn}
use Rattle.tl_events.specs.Timeline.{version_events, IsAfter}
use Rattle.tl_types.proofs.WellFormedLemmas.{history_rows, table_formed}
use Rattle.tl_index.specs.declared.timelines.Timeline.{Timeline}
use Rattle.tl_index.specs.Timelines.{timeline_of, timelines_in, timelines_of, timeline_after}
use Rattle.tl_types.proofs.EventLemmas.{events_few}
use Rattle.tl_index.proofs.TimelineLemmas.{changed_timeline, changed_timelines, left_timelines, made_timelines, stands_after}

next : (v : ℕ) → v + 1 ≡ suc v
next v = omega arith

room : (db : plain.Database) (c : Commit) → fits standard_limits db c ≡ true → suc db.version < open_end
room db c f = let r = ltb-true db.version 16777215 (and_left (nat_lt db.version 16777215) (fits_body standard_limits db c.body) f) in omega (arith, r)

-- a commit that creates a table
pub create_after : (commits : List Commit) (c : Commit) (schema : plain.Schema) (ts : List Timeline) → FitInTurn standard_limits commits → IsTrue (fits standard_limits (database_of commits) c) → ts ≡ timelines_of commits → c.body ≡ body.Create schema
    → ts ++ (record { events = []; ends = [] }) ∷ [] ≡ timelines_of (commits ++ c ∷ [])
create_after commits c schema ts fitting fit is what =
    let db = database_of commits in
    ap (λ (xs : List Timeline). xs ++ (record { events = []; ends = [] }) ∷ []) is
    ∙ made_timelines db.version schema db.tables (room db c fit) (history_rows commits fitting).formed
    ∙ ap (λ w. map (timeline_of w) (db.tables ++ (record { schema = schema; floor = 0; rows = [] }) ∷ [])) (sym (next db.version))
    ∙ ap (λ b. map (timeline_of (db.version + 1)) (after_body (db.version + 1) b db.tables)) (sym what)
    ∙ ap timelines_in (sym (fold-append after_commit nothing commits (c ∷ [])))

-- a commit of which no timeline sees what it does
unseen_after : (commits : List Commit) (c : Commit) (ts : List Timeline) → FitInTurn standard_limits commits → IsTrue (fits standard_limits (database_of commits) c) → ts ≡ timelines_of commits
    → ((w : ℕ) → map (timeline_of w) (after_body w c.body (database_of commits).tables) ≡ map (timeline_of w) (database_of commits).tables) → ts ≡ timelines_of (commits ++ c ∷ [])
unseen_after commits c ts fitting fit is same =
    let db = database_of commits in
    is
    ∙ left_timelines db.version db.tables (room db c fit) (history_rows commits fitting).formed
    ∙ ap (λ w. map (timeline_of w) db.tables) (sym (next db.version))
    ∙ sym (same (db.version + 1))
    ∙ ap timelines_in (sym (fold-append after_commit nothing commits (c ∷ [])))

-- a commit that states a moment
pub stated_after : (commits : List Commit) (c : Commit) (moment : ℤ) (ts : List Timeline) → FitInTurn standard_limits commits → IsTrue (fits standard_limits (database_of commits) c) → ts ≡ timelines_of commits → c.body ≡ body.Moment moment → ts ≡ timelines_of (commits ++ c ∷ [])
stated_after commits c moment ts fitting fit is what =
    unseen_after commits c ts fitting fit is (λ w. ap (λ b. map (timeline_of w) (after_body w b (database_of commits).tables)) what)

-- a commit that sets a floor
pub floored_after : (commits : List Commit) (c : Commit) (number floor : ℕ) (ts : List Timeline) → FitInTurn standard_limits commits → IsTrue (fits standard_limits (database_of commits) c) → ts ≡ timelines_of commits → c.body ≡ body.Forget number floor → ts ≡ timelines_of (commits ++ c ∷ [])
floored_after commits c number floor ts fitting fit is what =
    unseen_after commits c ts fitting fit is (λ w.
    ap (λ b. map (timeline_of w) (after_body w b (database_of commits).tables)) what
    ∙ map-at_place-unseen (timeline_of w) (with_floor floor) (λ t. refl) (database_of commits).tables number)

-- the table that a change names
record Found (change : plain.Change) (o : Option plain.Table) : Type 0 where
  pub table : plain.Table
  pub is : o ≡ Some table
  pub current : list_all (is_open_at table.rows) change.closes ≡ true
  pub few : length table.rows + length change.opens ≤ 16777216

found : (change : plain.Change) (o : Option plain.Table) → fits_table standard_limits change o ≡ true → Found change o
found change None f = absurd (cc)
found change (Some t) f =
    let both = and_left (list_all (is_open_at t.rows) change.closes && list_all (matches t.schema) change.opens) (nat_le (length t.rows + length change.opens) 16777216) f in record {
      table = t;
      is = refl;
      current = and_left (list_all (is_open_at t.rows) change.closes) (list_all (matches t.schema) change.opens) both;
      few = leb-true (length t.rows + length change.opens) 16777216 (and_right (list_all (is_open_at t.rows) change.closes && list_all (matches t.schema) change.opens) (nat_le (length t.rows + length change.opens) 16777216) f);
    }

length-numbered : {X Y : Type 0} (f : (ℕ × X) → Y) (n : ℕ) (xs : List X) → length (map f (enumerate_from n xs)) ≡ length xs
length-numbered f n [] = refl
length-numbered f n (x ∷ xs) = ap suc (length-numbered f (n + 1) xs)

same_set : (ts us : List Timeline) (i : ℕ) (x y : Timeline) (v w : ℕ) (closes : List ℕ) (f g n : ℕ) → ts ≡ us → x ≡ y → v ≡ w → f ≡ g → set ts i (timeline_after x v closes f n) ≡ set us i (timeline_after y w closes g n)
same_set ts us i x y v w closes f g n a b c d = rw (a, b, c, d) refl

-- what a change asks of the timeline of its table, and what it makes
pub record Asks (commits : List Commit) (c : Commit) (change : plain.Change) (ts : List Timeline) (x : Timeline) (version first : ℕ) : Type 0 where
  pub ids : first + length change.opens < 2 ^ 32
  pub few : length x.events + (length change.closes + length change.opens) < 2 ^ 32
  pub later : 0 < length change.closes + length change.opens → IsAfter x.ends version (length x.events + (length change.closes + length change.opens))
  pub made : set ts change.table (timeline_after x version change.closes first (length change.opens)) ≡ timelines_of (commits ++ c ∷ [])

module _ (commits : List Commit) (c : Commit) (change : plain.Change) (ts : List Timeline) (fitting : FitInTurn standard_limits commits) (fit : IsTrue (fits standard_limits (database_of commits) c)) (is : ts ≡ timelines_of commits) (what : c.body ≡ body.Change change) where
  abbrev db : plain.Database
  db = database_of commits

  of_change : Found change (slice_get db.tables change.table)
  of_change = found change (slice_get db.tables change.table) (subst (λ b. fits_body standard_limits db b ≡ true) what (and_right (nat_lt db.version 16777215) (fits_body standard_limits db c.body) fit))

  pub table_there : change.table < length db.tables
  table_there = slice_get_within db.tables change.table of_change.table of_change.is

  pub timeline_there : change.table < length ts
  timeline_there = let e = ap length is ∙ length-map db.tables (timeline_of db.version) in omega (arith, e, table_there)

  pub asks : (x : Timeline) (version first : ℕ) → x ≡ get_or ts change.table x → IsChange change → first ≡ length (rows_of db change.table) → version ≡ db.version + 1 → Asks commits c change ts x version first
  asks x version first read kept many present =
      let t = of_change.table in
      let late = room db c fit in
      let all = (history_rows commits fitting).formed in
      let proper = table_formed db.version db.tables change.table t all of_change.is in
      let here : slice_get ts change.table ≡ Some (timeline_of db.version t) =
      ap (λ xs. slice_get xs change.table) is ∙ slice_get-map (timeline_of db.version) db.tables change.table ∙ (rw of_change.is refl) in
      let own : x ≡ timeline_of db.version t = read ∙ get_or_from_slice_get ts change.table (timeline_of db.version t) x here in
      let count : first ≡ length t.rows = many ∙ (rw of_change.is refl) in
      let now : version ≡ suc db.version = present ∙ next db.version in
      let size : length (version_events change.closes (length t.rows) (length change.opens)) ≡ length change.closes + length change.opens =
      length-append (map invalidation change.closes) (map activation (range_with_len (length t.rows) (length change.opens)))
      ∙ (let a = length-map change.closes invalidation in let b = length-map (range_with_len (length t.rows) (length change.opens)) activation in let d = length-range_with_len (length t.rows) (length change.opens) in omega (arith, a, b, d)) in
      let after = table_after (suc db.version) change t in
      let more = ap (λ (y : Timeline). length y.events) (changed_timeline db.version t change late proper kept.ascending of_change.current) in
      let grown = length-append (events_of t.rows db.version) (version_events change.closes (length t.rows) (length change.opens)) in
      let bound = events_few after.rows (suc db.version) in
      let rows = length-append (map (row_after (suc db.version) change.closes) (enumerate_from 0 t.rows)) (map (new_row (suc db.version)) change.opens) in
      let old = length-numbered (row_after (suc db.version) change.closes) 0 t.rows in
      let new = length-map change.opens (new_row (suc db.version)) in
      let few = of_change.few in
      let events = ap (λ (y : Timeline). length y.events) own in record {
        ids = omega (arith, few, count);
        few = omega (arith, events, more, grown, bound, rows, old, new, few, size);
        later = λ some. rw (own, now) (stands_after t.rows db.version (length change.closes + length change.opens) some);
        made =
            same_set ts (timelines_of commits) change.table x (timeline_of db.version t) version (suc db.version) change.closes first (length t.rows) (length change.opens) is own now count
            ∙ (changed_timelines db.version change.table change db.tables t late all kept.ascending of_change.is of_change.current
            ∙ ap (λ w. map (timeline_of w) (at_place change.table (table_after w change) db.tables)) (sym (next db.version))
            ∙ ap (λ b. map (timeline_of (db.version + 1)) (after_body (db.version + 1) b db.tables)) (sym what)
            ∙ ap timelines_in (sym (fold-append after_commit nothing commits (c ∷ []))));
      }

-- the same over what the code has read
pub record FollowsAt (commits : List Commit) (c : Commit) (ts : List Timeline) (x : Timeline) (i versions first : ℕ) (closes : List ℕ) (opens : List plain.Opened) : Type 0 where
  pub few : length x.events + (length closes + length opens) < 2 ^ 32
  pub later : 0 < length closes + length opens → IsAfter x.ends (versions + 1) (length x.events + (length closes + length opens))
  pub within : i < length ts
  pub made : set ts i (timeline_after x (versions + 1) closes first (length opens)) ≡ timelines_of (commits ++ c ∷ [])

pub asked : (commits : List Commit) (c : Commit) (change : plain.Change) (ts : List Timeline) (x y : Timeline) (i j versions first : ℕ) (closes : List ℕ) (opens : List plain.Opened)
    → FitInTurn standard_limits commits → IsTrue (fits standard_limits (database_of commits) c) → ts ≡ timelines_of commits → c.body ≡ body.Change change
    → y ≡ get_or ts i y → x ≡ y → i ≡ change.table → j ≡ change.table → closes ≡ change.closes → opens ≡ change.opens → IsChange change
    → first ≡ length (rows_of (database_of commits) j) → versions ≡ (database_of commits).version
    → FollowsAt commits c ts x i versions first closes opens
asked commits c change ts x y i j versions first closes opens fitting fit is what read same at at2 closed opened kept many present =
    let here : x ≡ get_or ts change.table x = same ∙ read ∙ ap (λ k. get_or ts k y) at ∙ ap (λ z. get_or ts change.table z) (sym same) in
    let all = asks commits c change ts fitting fit is what x (versions + 1) first here kept (many ∙ ap (λ k. length (rows_of (database_of commits) k)) at2) (ap (λ n. n + 1) present) in
    let there = timeline_there commits c change ts fitting fit is what in
    rw (at, closed, opened) (record { few = all.few; later = all.later; within = there; made = all.made })

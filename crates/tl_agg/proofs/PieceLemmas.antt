-- A piece from its start to its end.
use Rattle.std.proofs.Common.{◌≡◌, ℕ, zero, suc, ◌-◌, pos, Bool, true, false, ◌&&◌, cond, List, [], ◌∷◌, length, None, refl, sym, ap, ◌∙◌, arith, subst, Option, Some}
use Rattle.std.specs.Prelude.{is_some}
use Rattle.std.specs.List.{filter}
use Rattle.std.proofs.lemmas.Int.{ints}
use Rattle.std.proofs.lemmas.List.{length-map}
use Rattle.tl_types.specs.declared.runs.Run.{Run}
use Rattle.tl_types.specs.Plain as plain
use Rattle.tl_types.specs.History.{is_visible, same_cell}
use Rattle.tl_types.specs.Runs.{runs_of}
use Rattle.tl_types.specs.Walks.{standing}
use Rattle.tl_types.proofs.RunLemmas.{runs_none}
use Rattle.tl_bits.specs.Sets.{is_member}
use Rattle.tl_running.specs.Standing.{Suits, StandsFor}
use Rattle.tl_agg.specs.Kept.{both, picked, below, IsWithin}
use Rattle.tl_index.specs.Tables.{rows_in}
use Rattle.tl_agg.specs.Groups.{Wanted, kept_in, kept_value, runs_to, State, IsNone, IsAdvanced, Tracks, HoldsIn}
use Rattle.tl_running.specs.Telling.{has_rows}
use Rattle.tl_agg.specs.Scans.{ScanOf, IsScan, wanted_of, keep_with, Groups, AreNone, TrackBy, AllTrack}
use Rattle.tl_agg.specs.Runs.{runs_by, system_runs, start_set}
use Rattle.std.specs.Map.{lookup}
use Rattle.tl_agg.proofs.StepLemmas.{all_map}
use Rattle.tl_agg.proofs.KeptLemmas.{both_length}
use Rattle.tl_agg.proofs.GroupLemmas.{advances_made, tracks_same}
use Rattle.tl_running.proofs.TellLemmas.{suits_none}

-- THE START

pub none_below : (set keep : List Bool) (rows : List plain.Row) → picked (both (below 0 set) keep) rows ≡ []
none_below [] keep rows = refl
none_below (s ∷ set) [] rows = refl
none_below (s ∷ set) (k ∷ keep) [] = refl
none_below (s ∷ set) (k ∷ keep) (r ∷ rows) = none_below set keep rows

pub none_made : (wanted : Wanted) (at : ℕ) → at ≡ wanted.from → runs_to wanted at ≡ []
none_made wanted at is = by_gaps (wanted.gaps) where
  none : runs_of (kept_value wanted) (pos wanted.from) (pos at) ≡ []
  none = runs_none (kept_value wanted) (pos wanted.from) (pos at) (omega (arith, ints))

  by_gaps : (gaps : Bool) → cond gaps (filter (λ (r : Run). has_rows wanted.kind r.value) (runs_of (kept_value wanted) (pos wanted.from) (pos at))) (runs_of (kept_value wanted) (pos wanted.from) (pos at)) ≡ []
  by_gaps true = ap (filter (λ (r : Run). has_rows wanted.kind r.value)) none
  by_gaps false = none

-- a group of no rows is that of a set of none
pub none_tracks : (wanted : Wanted) (set : List Bool) (group : State) → kept_in wanted set ≡ [] → IsNone group wanted.kind wanted.gaps wanted.from → Tracks wanted set wanted.from group
none_tracks wanted set group empty none =
    let since = none.since_is in record {
      kind = none.kind_is;
      gaps = none.gaps_is;
      stands = subst (StandsFor group.running wanted.column) (sym empty) (none.stands wanted.column);
      suits = subst (Suits wanted.kind wanted.column) (sym empty) (suits_none wanted.kind wanted.column);
      after = omega arith;
      before = omega arith;
      made = none.none ∙ sym (none_made wanted group.since since);
      same = λ v l h. absurd (omega arith);
      past = λ v l h. absurd (omega arith);
    }

start_by : (by : Option ℕ) (scan : ScanOf) (start : List Bool) (groups : Groups) → AreNone groups scan.plan.kind (is_some scan.plan.by) scan.from → TrackBy by scan (below 0 start) scan.from groups
start_by None scan start groups none = none_tracks (wanted_of scan scan.keep) (below 0 start) groups.all (none_below start scan.keep (rows_in scan.table)) none.all
start_by (Some by) scan start groups none = (
  none.numbered,
  λ value.
      let keep = keep_with scan by value in
      subst (λ entries. HoldsIn (wanted_of scan keep) (below 0 start) scan.from (lookup (same_cell value) entries)) (sym none.by)
      (λ group is. none_tracks (wanted_of scan keep) (below 0 start) group (none_below start keep (rows_in scan.table)) is),
)

pub start_tracks : (scan : ScanOf) (start : List Bool) (groups : Groups) → AreNone groups scan.plan.kind (is_some scan.plan.by) scan.from → AllTrack scan (below 0 start) scan.from groups
start_tracks scan start groups none = start_by scan.plan.by scan start groups none

in_both : (set keep : List Bool) (row : ℕ) → is_member (both set keep) row ≡ true → is_member keep row ≡ true
in_both [] keep row h = absurd (cc)
in_both (s ∷ set) [] row h = absurd (cc)
in_both (s ∷ set) (k ∷ keep) zero h = second s k h where
  second : (s k : Bool) → (s && k) ≡ true → k ≡ true
  second true k h = h
  second false k h = absurd (cc)
in_both (s ∷ set) (k ∷ keep) (suc row) h = in_both set keep row h

both_rows : (set keep : List Bool) → length keep ≡ length set → length (both set keep) ≡ length keep
both_rows set keep e = both_length set keep e ∙ sym e

pub start_long : (rows : List plain.Row) (keep start : List Bool) (from : ℕ) → length keep ≡ length rows → start ≡ start_set rows keep from → length start ≡ length keep
start_long rows keep start from long start_is = ap length start_is ∙ both_rows (standing rows from) keep (long ∙ sym (length-map rows (is_visible from)))

pub start_within : (scan : ScanOf) (start : List Bool) → IsScan scan → start ≡ start_set (rows_in scan.table) scan.keep scan.from → IsWithin start scan.keep
start_within scan start is start_is =
    let rows = rows_in scan.table in record {
      rows = start_long rows scan.keep start scan.from is.keep start_is;
      members = λ row h. in_both (standing rows scan.from) scan.keep row (ap (λ s. is_member s row) (sym start_is) ∙ h);
    }

-- when the start set has entered, the groups are those of the first version
pub start_stands : (scan : ScanOf) (start : List Bool) (groups : Groups) → start ≡ start_set (rows_in scan.table) scan.keep scan.from → AllTrack scan start scan.from groups → AllTrack scan (standing (rows_in scan.table) scan.from) scan.from groups
start_stands scan start groups start_is tracks =
    let rows = rows_in scan.table in
    all_map scan.plan.by scan start (standing rows scan.from) scan.from scan.from groups (λ keep part group t.
    tracks_same (wanted_of scan keep) start (standing rows scan.from) scan.from group
    (ap (λ s. picked (both s keep) rows) start_is ∙ ap (λ s. picked s rows) (part.again (standing rows scan.from))) t) tracks

-- THE END

single_by : (by : Option ℕ) (scan : ScanOf) (groups : Groups) (runs : List Run) → by ≡ None → TrackBy by scan (standing (rows_in scan.table) (scan.to - 1)) scan.to groups → IsAdvanced groups.all scan.to runs → runs ≡ runs_to (wanted_of scan scan.keep) scan.to
single_by (Some b) scan groups runs is tracks advanced = absurd (cc)
single_by None scan groups runs is tracks advanced =
    advanced.runs_are ∙ advances_made (wanted_of scan scan.keep) (standing (rows_in scan.table) (scan.to - 1)) scan.to groups.all advanced.state tracks advanced.advances

pub piece_runs : (scan : ScanOf) (groups : Groups) (runs : List Run) → scan.plan.by ≡ None → AllTrack scan (standing (rows_in scan.table) (scan.to - 1)) scan.to groups → IsAdvanced groups.all scan.to runs
    → runs ≡ system_runs scan.plan (rows_in scan.table) scan.keep scan.from scan.to
piece_runs scan groups runs by_is tracks advanced =
    let rows = rows_in scan.table in
    single_by scan.plan.by scan groups runs by_is tracks advanced
    ∙ ap (λ by. cond (is_some by) (filter (λ (r : Run). has_rows scan.plan.kind r.value) (runs_of (kept_value (wanted_of scan scan.keep)) (pos scan.from) (pos scan.to))) (runs_of (kept_value (wanted_of scan scan.keep)) (pos scan.from) (pos scan.to))) by_is
    ∙ ap (λ by. runs_by scan.plan.kind scan.plan.column by rows scan.keep scan.from scan.to) (sym by_is)

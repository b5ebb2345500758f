-- Counting the kept rows of a run of events.
use Rattle.std.proofs.Common.{◌≡◌, ℕ, ◌+◌, ◌-◌, ◌^◌, ◌<◌, ◌≤◌, pos, Bool, true, false, List, cond, length, take, drop, None, Some, refl, sym, ap, ◌∙◌, arith, subst, slice_get, Option}
use Rattle.std.proofs.lemmas.Int.{ints}
use Rattle.tl_types.specs.declared.events.Event.{Event}
use Rattle.tl_types.specs.Events.{events_of}
use Rattle.tl_types.specs.WellFormed.{AreWellFormed}
use Rattle.tl_query.specs.declared.ast.AggKind.TheVariants as kind
use Rattle.tl_bits.specs.Sets.{is_member}
use Rattle.tl_running.specs.Standing.{Kept, counting, is_ordered, CanChange}
use Rattle.tl_agg.specs.Kept.{count_moved}
use Rattle.tl_index.specs.Tables.{rows_in}
use Rattle.tl_running.specs.Telling.{TellsNumber}
use Rattle.tl_agg.specs.Groups.{State, Shifts, recounted}
use Rattle.tl_agg.specs.Scans.{ScanOf, IsScan, Groups, TrackBy, AllTrack, IsReady, TakesEvent, set_after, all_recounted}
use Rattle.tl_running.proofs.TellLemmas.{none_tells}
use Rattle.tl_agg.proofs.StepLemmas.{turn_inside, can_take, takes_shifted, takes_left, run_ready, run_taken}

pub kind_by : (by : Option ℕ) (scan : ScanOf) (set : List Bool) (at : ℕ) (groups : Groups) → by ≡ None → TrackBy by scan set at groups → groups.all.running.kind ≡ scan.plan.kind
kind_by None scan set at groups is tracks = tracks.kind
kind_by (Some b) scan set at groups is tracks = absurd (cc)

-- a count has no column, and each of its numbers is 0
zero_told : (scan : ScanOf) (row : ℕ) → scan.plan.column ≡ None → IsScan scan → TellsNumber scan.plan.kind scan.plan.column (rows_in scan.table) row (pos 0)
zero_told scan row column_is is = subst (λ c. TellsNumber scan.plan.kind c (rows_in scan.table) row (pos 0)) (sym column_is) (none_tells scan.plan.kind (rows_in scan.table) row (is.plan.kind column_is))

room_for : (opens : Bool) (kept : Kept) → CanChange opens kept (pos 0) → (opens ≡ true → kept.count < 2 ^ 32 - 1) × (opens ≡ false → 0 < kept.count)
room_for true kept can = (λ is. can.count, λ is. absurd (cc))
room_for false kept can = (λ is. absurd (cc), λ is. can.count)

-- the row of an event may be kept
pub kept_inside : (scan : ScanOf) (at : ℕ) (e : Event) (groups : Groups) → IsScan scan → IsReady scan at e groups → e.row < length scan.keep
kept_inside scan at e groups is ready = subst (λ n. e.row < n) (sym is.keep) (turn_inside (rows_in scan.table) ready.set e ready.turns)

-- a kept row can come where there is room, and go where it is there
pub can_count : (scan : ScanOf) (at : ℕ) (e : Event) (groups : Groups) (count : ℕ) → scan.plan.by ≡ None → scan.plan.column ≡ None → IsScan scan → length (rows_in scan.table) ≤ 16777216 → is_member scan.keep e.row ≡ true
    → IsReady scan at e (all_recounted groups count) → (e.opens ≡ true → count < 2 ^ 32 - 1) × (e.opens ≡ false → 0 < count)
can_count scan at e groups count by_is column_is is few kept ready =
    room_for e.opens (counting groups.all.running count) (can_take scan at e (all_recounted groups count) by_is few kept ready (pos 0) (zero_told scan e.row column_is is))

shifts_counted : (opens : Bool) (group : State) (count next : ℕ) → group.running.kind ≡ kind.Count → (opens ≡ false → 0 < count) → next ≡ cond opens (count + 1) (count - 1) → Shifts (recounted group count) (recounted group next) opens (pos 0)
shifts_counted true group count next counts some is = record {
  changes = record { kind = refl; count = is; sum = omega (arith, ints); bag = λ ordered. absurd (let e = ap is_ordered counts in cc) };
  since = refl;
  runs = refl;
  gaps = refl;
}
shifts_counted false group count next counts some is = let l = some refl in record {
  changes = record { kind = refl; count = omega arith; sum = omega (arith, ints); bag = λ ordered. absurd (let e = ap is_ordered counts in cc) };
  since = refl;
  runs = refl;
  gaps = refl;
}

takes_counted : (kept : Bool) (scan : ScanOf) (at : ℕ) (e : Event) (groups : Groups) (count next : ℕ) → scan.plan.by ≡ None → scan.plan.column ≡ None → IsScan scan → length (rows_in scan.table) ≤ 16777216 → groups.all.since ≡ at
    → kept ≡ is_member scan.keep e.row → next ≡ count_moved kept e.opens count → IsReady scan at e (all_recounted groups count) → TakesEvent scan at e (all_recounted groups count) (all_recounted groups next)
takes_counted true scan at e groups count next by_is column_is is few since kept_is next_is ready =
    let can = can_count scan at e groups count by_is column_is is few (sym kept_is) ready in
    let counts : groups.all.running.kind ≡ kind.Count = kind_by scan.plan.by scan ready.set at (all_recounted groups count) by_is ready.tracks ∙ is.plan.kind column_is in
    takes_shifted scan at e (all_recounted groups count) (all_recounted groups next) (pos 0) by_is (sym kept_is) (zero_told scan e.row column_is is) (omega (arith, ints), omega (arith, ints)) since
    (shifts_counted e.opens groups.all count next counts can.1 next_is)
takes_counted false scan at e groups count next by_is column_is is few since kept_is next_is ready =
    subst (λ n. TakesEvent scan at e (all_recounted groups count) (all_recounted groups n)) (sym next_is) (takes_left scan at e (all_recounted groups count) (sym kept_is))

-- each event of a run counts its row, where it is kept
pub count_taken : (scan : ScanOf) (at place i : ℕ) (events : List Event) (e : Event) (groups : Groups) (count next : ℕ) (kept : Bool) → scan.plan.by ≡ None → scan.plan.column ≡ None → IsScan scan → length (rows_in scan.table) ≤ 16777216
    → AreWellFormed scan.table.db.version (rows_in scan.table) → events ≡ take (length events) (drop place (events_of (rows_in scan.table) scan.table.db.version)) → slice_get events i ≡ Some e → groups.all.since ≡ at
    → kept ≡ is_member scan.keep e.row → next ≡ count_moved kept e.opens count → AllTrack scan (set_after scan.table (place + i)) at (all_recounted groups count) → AllTrack scan (set_after scan.table (place + (i + 1))) at (all_recounted groups next)
count_taken scan at place i events e groups count next kept by_is column_is is few formed are here since kept_is next_is tracks =
    run_taken scan at place i events e (all_recounted groups count) (all_recounted groups next) formed are here tracks
    (takes_counted kept scan at e groups count next by_is column_is is few since kept_is next_is (run_ready scan at place i events e (all_recounted groups count) formed are here tracks))

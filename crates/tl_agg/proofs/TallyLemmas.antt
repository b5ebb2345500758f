-- Adding up the numbers of the rows of a run of events.
use Rattle.std.proofs.Common.{◌≡◌, ℕ, ◌+◌, ◌-◌, ◌*◌, ◌^◌, ◌<◌, ◌≤◌, ℤ, pos, neg_ℤ, ◌+ℤ◌, ◌-ℤ◌, ◌≤ℤ◌, Bool, true, false, List, length, map, take, drop, Option, None, Some, refl, sym, ap, ◌∙◌, arith, subst, slice_get, slice_index_or}
use Rattle.std.proofs.lemmas.Int.{ints}
use Rattle.tl_types.specs.declared.events.Event.{Event}
use Rattle.tl_types.specs.declared.cells.Cell.TheVariants as cell
use Rattle.tl_types.specs.Plain as plain
use Rattle.tl_types.specs.Events.{events_of}
use Rattle.tl_types.specs.WellFormed.{AreWellFormed}
use Rattle.tl_bits.specs.Sets.{is_member}
use Rattle.tl_store.specs.Reading.{column_cells, some_int}
use Rattle.tl_running.specs.Standing.{summing, is_ordered, HasRoom, CanChange}
use Rattle.tl_running.proofs.StandingLemmas.{has_room}
use Rattle.tl_agg.specs.declared.tallies.Tally.{Tally}
use Rattle.tl_agg.specs.Columns.{AreNumbers, AreKeys, HasKey}
use Rattle.tl_index.specs.Tables.{rows_in}
use Rattle.tl_agg.specs.Groups.{State, Shifts, summed, kept_in}
use Rattle.tl_agg.specs.Scans.{ScanOf, Groups, TrackBy, AllTrack, IsReady, TakesEvent, wanted_of, set_after, all_summed}
use Rattle.tl_agg.specs.Tallies.{IsFarFromEnds, total, count_with, IsTally, TalliesRow, TalliesWhere, tally_moved}
use Rattle.tl_agg.proofs.KeptLemmas.{picked_few}
use Rattle.tl_agg.proofs.NumberLemmas.{cell_there}
use Rattle.tl_agg.proofs.CountLemmas.{kind_by}
use Rattle.tl_agg.proofs.StepLemmas.{row_with, turn_inside, can_take, takes_shifted, takes_left, run_ready, run_taken}

-- THE KEYS OF ROWS

key_there : (rows : List plain.Row) (id column : ℕ) (ns : List ℤ) (n : ℤ) → map some_int ns ≡ column_cells rows column → id < length rows → n ≡ slice_index_or ns id (pos 0) → HasKey rows id column (cell.Int n)
key_there rows id column ns n are l at = let r = row_with rows id l in record {
  row = r.0;
  there = r.1;
  cell_is = cell_there rows id column ns r.0 are r.1 ∙ ap (λ i. Some (cell.Int i)) (sym at);
}

-- the numbers are those of the column
pub keys_are : (rows : List plain.Row) (by : Option ℕ) (keys : Option (List ℤ)) (ns : List ℤ) → AreKeys rows by keys → keys ≡ Some ns → AreNumbers rows by (Some ns)
keys_are rows by None ns are is = absurd (cc)
keys_are rows by (Some ms) ns are is = subst (λ k. AreNumbers rows by k) is are

-- a number that is read off the column is the key of the row
pub key_told : (rows : List plain.Row) (id column : ℕ) (by : Option ℕ) (keys : Option (List ℤ)) (ns : List ℤ) (n : ℤ) → by ≡ Some column → AreKeys rows by keys → keys ≡ Some ns → id < length rows → n ≡ slice_index_or ns id (pos 0) → HasKey rows id column (cell.Int n)
key_told rows id column by None ns n by_is are is l at = absurd (cc)
key_told rows id column None (Some ms) ns n by_is are is l at = absurd (cc)
key_told rows id column (Some b) (Some ms) ns n by_is are is l at =
    let same : ms ≡ ns = cc in
    let place : b ≡ column = cc in
    key_there rows id column ns n (subst (λ k. map some_int ns ≡ column_cells rows k) place (subst (λ l. map some_int l ≡ column_cells rows b) same are)) l at

-- ANY NUMBER OF EVENTS

room_by : (by : Option ℕ) (scan : ScanOf) (set : List Bool) (at : ℕ) (groups : Groups) → by ≡ None → length (rows_in scan.table) ≤ 16777216 → TrackBy by scan set at groups → HasRoom groups.all.running
room_by (Some b) scan set at groups is few tracks = absurd (cc)
room_by None scan set at groups is few tracks =
    let short = picked_few set scan.keep (rows_in scan.table) in
    has_room groups.all.running scan.plan.column (kept_in (wanted_of scan scan.keep) set) tracks.stands (omega arith)

wide_sum : (came kept : ℕ) (sum : ℤ) → came ≤ kept → kept < 2 ^ 64 → neg_ℤ (pos (2 ^ 96)) ≤ℤ (sum +ℤ (pos kept -ℤ pos came)) → (sum +ℤ (pos kept -ℤ pos came)) ≤ℤ pos (2 ^ 96) → IsFarFromEnds sum
wide_sum came kept sum l few low high = (omega (arith, ints), omega (arith, ints))

pub few_rows : (rows : List plain.Row) (count : ℕ) → count ≡ length rows → count ≤ 16777216 → length rows ≤ 16777216
few_rows rows count is few = omega arith

-- there are few rows, and their sum is small
pub tally_room : (scan : ScanOf) (set : List Bool) (at : ℕ) (groups : Groups) (before events : ℕ) (tally : Tally) → scan.plan.by ≡ None → length (rows_in scan.table) ≤ 16777216 → IsTally before events tally → tally.kept < 2 ^ 64
    → AllTrack scan set at (all_summed groups (count_with before tally) (total tally)) → (count_with before tally < 2 ^ 32) × IsFarFromEnds tally.sum
tally_room scan set at groups before events tally by_is few is small tracks =
    let room = room_by scan.plan.by scan set at (all_summed groups (count_with before tally) (total tally)) by_is few tracks in
    let c = room.count in
    (omega arith, wide_sum tally.came tally.kept tally.sum is.came small room.low room.high)

-- ONE EVENT

-- the row is kept, and was added
pub tallies_kept : (kept : Bool) (scan : ScanOf) (e : Event) (old new : Tally) → kept ≡ true → TalliesRow scan e old new → TalliesWhere kept scan e old new
tallies_kept true scan e old new is row = row
tallies_kept false scan e old new is row = absurd (cc)

-- it is not kept
pub tallies_left : (kept : Bool) (scan : ScanOf) (e : Event) (tally : Tally) → kept ≡ false → TalliesWhere kept scan e tally tally
tallies_left true scan e tally is = absurd (cc)
tallies_left false scan e tally is = refl

count_more : (before came kept : ℕ) → kept ≤ before + 2 * came → before + 2 * (came + 1) - (kept + 1) ≡ before + 2 * came - kept + 1
count_more before came kept l = omega arith

count_less : (before came kept : ℕ) → 0 < before + 2 * came - kept → before + 2 * came - kept ≡ before + 2 * came - (kept + 1) + 1
count_less before came kept l = omega arith

sum_more : (came kept : ℕ) (sum n : ℤ) → sum +ℤ n +ℤ (pos (kept + 1) -ℤ pos (came + 1)) ≡ sum +ℤ (pos kept -ℤ pos came) +ℤ n
sum_more came kept sum n = omega (arith, ints)

sum_less : (came kept : ℕ) (sum n : ℤ) → sum +ℤ (pos kept -ℤ pos came) ≡ sum +ℤ (pos 0 -ℤ pos 1 -ℤ n) +ℤ (pos (kept + 1) -ℤ pos came) +ℤ n
sum_less came kept sum n = omega (arith, ints)

shifts_tallied : (opens : Bool) (group : State) (before : ℕ) (tally : Tally) (n : ℤ) → is_ordered group.running.kind ≡ false → tally.kept ≤ before + 2 * tally.came → CanChange opens (summing group.running (count_with before tally) (total tally)) n
    → Shifts (summed group (count_with before tally) (total tally)) (summed group (count_with before (tally_moved opens n tally)) (total (tally_moved opens n tally))) opens n
shifts_tallied true group before tally n kind l can = record {
  changes = record { kind = refl; count = count_more before tally.came tally.kept l; sum = sum_more tally.came tally.kept tally.sum n; bag = λ ordered. absurd (cc) };
  since = refl;
  runs = refl;
  gaps = refl;
}
shifts_tallied false group before tally n kind l can = record {
  changes = record { kind = refl; count = count_less before tally.came tally.kept can.count; sum = sum_less tally.came tally.kept tally.sum n; bag = λ ordered. absurd (cc) };
  since = refl;
  runs = refl;
  gaps = refl;
}

moved_is : (opens : Bool) (group : State) (before events : ℕ) (tally : Tally) (n : ℤ) → IsTally before events tally → CanChange opens (summing group.running (count_with before tally) (total tally)) n → IsTally before (events + 1) (tally_moved opens n tally)
moved_is true group before events tally n is can =
    let a = is.came in
    let b = is.kept in
    let c = is.some in record { came = omega arith; kept = omega arith; some = omega arith }
moved_is false group before events tally n is can =
    let a = is.came in
    let b = is.kept in
    let c = can.count in record { came = omega arith; kept = omega arith; some = omega arith }

one_more : (before events : ℕ) (tally : Tally) → IsTally before events tally → IsTally before (events + 1) tally
one_more before events tally is = let b = is.kept in record { came = is.came; kept = omega arith; some = is.some }

takes_tallied : (kept : Bool) (scan : ScanOf) (at : ℕ) (e : Event) (groups : Groups) (before i : ℕ) (old new : Tally) → scan.plan.by ≡ None → is_ordered scan.plan.kind ≡ false → length (rows_in scan.table) ≤ 16777216 → groups.all.since ≡ at
    → is_member scan.keep e.row ≡ kept → TalliesWhere kept scan e old new → IsTally before i old → IsReady scan at e (all_summed groups (count_with before old) (total old))
    → TakesEvent scan at e (all_summed groups (count_with before old) (total old)) (all_summed groups (count_with before new) (total new)) × IsTally before (i + 1) new
takes_tallied true scan at e groups before i old new by_is kind few since kept tallies is ready =
    let olds = all_summed groups (count_with before old) (total old) in
    let can = can_take scan at e olds by_is few kept ready tallies.number tallies.told in
    let same : olds.all.running.kind ≡ scan.plan.kind = kind_by scan.plan.by scan ready.set at olds by_is ready.tracks in
    let unordered : is_ordered groups.all.running.kind ≡ false = ap is_ordered same ∙ kind in
    let goal : Tally → Type 0 = λ t. TakesEvent scan at e olds (all_summed groups (count_with before t) (total t)) × IsTally before (i + 1) t in
    subst goal (sym tallies.moved) (
      takes_shifted scan at e olds (all_summed groups (count_with before (tally_moved e.opens tallies.number old)) (total (tally_moved e.opens tallies.number old))) tallies.number by_is kept tallies.told tallies.short since (shifts_tallied e.opens groups.all before old tallies.number unordered is.some can),
      moved_is e.opens groups.all before i old tallies.number is can,
    )
takes_tallied false scan at e groups before i old new by_is kind few since kept tallies is ready =
    let olds = all_summed groups (count_with before old) (total old) in
    let goal : Tally → Type 0 = λ t. TakesEvent scan at e olds (all_summed groups (count_with before t) (total t)) × IsTally before (i + 1) t in
    subst goal (sym tallies) (takes_left scan at e olds kept, one_more before i old is)

-- each event of a run adds the number of its row, where it is kept
pub tally_taken : (scan : ScanOf) (at place i : ℕ) (events : List Event) (e : Event) (groups : Groups) (before : ℕ) (old new : Tally) → scan.plan.by ≡ None → is_ordered scan.plan.kind ≡ false → length (rows_in scan.table) ≤ 16777216
    → AreWellFormed scan.table.db.version (rows_in scan.table) → events ≡ take (length events) (drop place (events_of (rows_in scan.table) scan.table.db.version)) → slice_get events i ≡ Some e → groups.all.since ≡ at
    → TalliesWhere (is_member scan.keep e.row) scan e old new → IsTally before i old → AllTrack scan (set_after scan.table (place + i)) at (all_summed groups (count_with before old) (total old))
    → AllTrack scan (set_after scan.table (place + (i + 1))) at (all_summed groups (count_with before new) (total new)) × IsTally before (i + 1) new
tally_taken scan at place i events e groups before old new by_is kind few formed are here since tallies is tracks =
    let ready = run_ready scan at place i events e (all_summed groups (count_with before old) (total old)) formed are here tracks in
    let step = takes_tallied (is_member scan.keep e.row) scan at e groups before i old new by_is kind few since refl tallies is ready in
    (run_taken scan at place i events e (all_summed groups (count_with before old) (total old)) (all_summed groups (count_with before new) (total new)) formed are here tracks step.0, step.1)

-- the row of an event is there
pub event_inside : (scan : ScanOf) (at place i : ℕ) (events : List Event) (e : Event) (groups : Groups) → AreWellFormed scan.table.db.version (rows_in scan.table) → events ≡ take (length events) (drop place (events_of (rows_in scan.table) scan.table.db.version)) → slice_get events i ≡ Some e
    → AllTrack scan (set_after scan.table (place + i)) at groups → e.row < length (rows_in scan.table)
event_inside scan at place i events e groups formed are here tracks =
    let ready = run_ready scan at place i events e groups formed are here tracks in
    turn_inside (rows_in scan.table) ready.set e ready.turns

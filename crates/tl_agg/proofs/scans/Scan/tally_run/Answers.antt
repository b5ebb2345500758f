use Rattle.std.proofs.Common.{◌≡◌, ◌+◌, ◌≤◌, length, Some, ap, arith, sym, ◌∙◌, subst, slice_get}
use Rattle.std.proofs.lemmas.Option.{slice_get-get_or}
use Rattle.tl_types.specs.WellFormed.{AreWellFormed}
use Rattle.tl_index.specs.Tables.{rows_in}
use Rattle.tl_agg.specs.Scans.{ScanOf, set_after, all_summed}
use Rattle.tl_agg.specs.Tallies.{count_with, total}
use Rattle.tl_agg.proofs.TallyLemmas.{few_rows, event_inside, tally_room, tally_taken}
use Rattle.tl_agg.proofs.scans.Scan.tally_run.Goals as goal

pub tally_event-tally-requires-clause-row : goal.tally_event-tally-requires-clause-row
tally_event-tally-requires-clause-row g c =
    let formed = subst (λ (s : ScanOf). AreWellFormed s.table.db.version (rows_in s.table)) c.self.view_is c.rows.ensures.formed in
    let t = c.loop-packed-test.true in
    let is : slice_get c.args.events.now c.loop-packed.packed-index ≡ Some c.event.result = slice_get-get_or c.args.events.now c.loop-packed.packed-index c.packed-item.result (omega arith) ∙ ap Some (sym c.packed-item.is ∙ sym c.event.ensures) in
    let groups = all_summed c.args.groups.now (count_with c.args.groups.now.all.running.count c.loop-packed.tally) (total c.loop-packed.tally) in
    event_inside c.args.self.now c.args.at c.args.place c.loop-packed.packed-index c.args.events.now c.event.result groups formed c.requires.run.are is c.loop-packed.invariant.tracks

pub tally_event-tally-requires-clause-wide : goal.tally_event-tally-requires-clause-wide
tally_event-tally-requires-clause-wide g c =
    let few = subst (λ (s : ScanOf). length (rows_in s.table) ≤ 16777216) c.self.view_is (few_rows (rows_in c.self.inside.table) c.rows.result c.rows.ensures.number c.rows.ensures.few) in
    let t = c.loop-packed-test.true in
    let end = c.loop-packed.auto.packed-index-end in
    let kept = c.loop-packed.invariant.tally.kept in
    (tally_room c.args.self.now (set_after c.args.self.now.table (c.args.place + c.loop-packed.packed-index)) c.args.at c.args.groups.now c.args.groups.now.all.running.count c.loop-packed.packed-index c.loop-packed.tally c.requires.run.single few c.loop-packed.invariant.tally (omega arith) c.loop-packed.invariant.tracks).1

pub loop-packed-preserved : goal.loop-packed-preserved
loop-packed-preserved g c =
    let formed = subst (λ (s : ScanOf). AreWellFormed s.table.db.version (rows_in s.table)) c.self.view_is c.rows.ensures.formed in
    let few = subst (λ (s : ScanOf). length (rows_in s.table) ≤ 16777216) c.self.view_is (few_rows (rows_in c.self.inside.table) c.rows.result c.rows.ensures.number c.rows.ensures.few) in
    let t = c.loop-packed-test.true in
    let is : slice_get c.args.events.now c.loop-packed.packed-index ≡ Some c.event.result = slice_get-get_or c.args.events.now c.loop-packed.packed-index c.packed-item.result (omega arith) ∙ ap Some (sym c.packed-item.is ∙ sym c.event.ensures) in
    let step = tally_taken c.args.self.now c.args.at c.args.place c.loop-packed.packed-index c.args.events.now c.event.result c.args.groups.now c.args.groups.now.all.running.count c.loop-packed.tally c.tally_event-tally.result c.requires.run.single c.requires.kind few formed c.requires.run.are is c.requires.run.since
    c.tally_event-tally.ensures.tallies c.loop-packed.invariant.tally c.loop-packed.invariant.tracks in
    let s = c.loop-packed.invariant.steps in
    let u = c.tally_event-tally.ensures.steps in record {
      tracks = step.0;
      tally = step.1;
      steps = omega arith;
    }

use Rattle.std.proofs.Common.{◌≡◌, ◌+◌, Some, ap, arith, sym, ◌∙◌, subst, slice_get}
use Rattle.std.proofs.lemmas.Option.{slice_get-get_or}
use Rattle.tl_types.specs.WellFormed.{AreWellFormed}
use Rattle.tl_index.specs.Tables.{rows_in}
use Rattle.tl_agg.specs.Scans.{ScanOf}
use Rattle.tl_agg.specs.Extremes.{TracksAt}
use Rattle.tl_agg.proofs.ExtremeLemmas.{extreme_taken, event_inside}
use Rattle.tl_agg.proofs.scans.Scan.take_run.Goals as goal

pub take_event-requires-clause-row : goal.take_event-requires-clause-row
take_event-requires-clause-row g c =
    let formed = subst (λ (s : ScanOf). AreWellFormed s.table.db.version (rows_in s.table)) c.self.view_is c.rows.ensures.formed in
    let t = c.loop-packed-test.true in
    let is : slice_get c.args.events.now c.loop-packed.packed-index ≡ Some c.event.result = slice_get-get_or c.args.events.now c.loop-packed.packed-index c.packed-item.result (omega arith) ∙ ap Some (sym c.packed-item.is ∙ sym c.event.ensures) in
    event_inside c.args.self.now.table c.args.place c.loop-packed.packed-index c.args.events.now c.event.result formed c.requires.run.are is

pub loop-packed-init : goal.loop-packed-init
loop-packed-init g c =
    let s : c.args.place + 0 ≡ c.args.place = omega arith in record {
      tracks = subst (λ n. TracksAt c.args.self.now n c.args.at c.args.extremes.now) (sym s) (record { tracks = c.requires.run.tracks; since = c.requires.run.since });
      steps = omega arith;
    }

pub loop-packed-preserved : goal.loop-packed-preserved
loop-packed-preserved g c =
    let formed = subst (λ (s : ScanOf). AreWellFormed s.table.db.version (rows_in s.table)) c.self.view_is c.rows.ensures.formed in
    let t = c.loop-packed-test.true in
    let is : slice_get c.args.events.now c.loop-packed.packed-index ≡ Some c.event.result = slice_get-get_or c.args.events.now c.loop-packed.packed-index c.packed-item.result (omega arith) ∙ ap Some (sym c.packed-item.is ∙ sym c.event.ensures) in
    let s = c.loop-packed.invariant.steps in
    let u = c.take_event.ensures.steps in record {
      tracks = extreme_taken c.args.self.now c.args.at c.args.place c.loop-packed.packed-index c.args.events.now c.event.result c.loop-packed.extremes c.take_event.new.extremes formed c.requires.run.are c.requires.run.ends (omega arith) is c.in_ok-take_event.ensures.comes c.loop-packed.invariant.tracks;
      steps = omega arith;
    }

use Rattle.std.proofs.Common.{◌≡◌, Some, ap, arith, sym, ◌∙◌, subst, slice_get}
use Rattle.std.proofs.lemmas.Option.{slice_get-get_or}
use Rattle.tl_types.specs.WellFormed.{AreWellFormed}
use Rattle.tl_index.specs.Tables.{rows_in}
use Rattle.tl_agg.specs.Scans.{ScanOf}
use Rattle.tl_agg.proofs.StepLemmas.{run_ready, run_taken}
use Rattle.tl_agg.proofs.scans.Scan.run_in.Goals as goal

pub fold_event-requires-clause-ready : goal.fold_event-requires-clause-ready
fold_event-requires-clause-ready g c =
    let formed = subst (λ (s : ScanOf). AreWellFormed s.table.db.version (rows_in s.table)) c.self.view_is c.rows.ensures.formed in
    let t = c.loop-packed-test.true in
    let is : slice_get c.args.events.now c.loop-packed.packed-index ≡ Some c.event.result = slice_get-get_or c.args.events.now c.loop-packed.packed-index c.packed-item.result (omega arith) ∙ ap Some (sym c.packed-item.is ∙ sym c.event.ensures) in
    run_ready c.args.self.now c.args.at c.args.place c.loop-packed.packed-index c.args.events.now c.event.result c.loop-packed.groups formed c.requires.run.are is c.loop-packed.invariant.tracks

pub loop-packed-preserved : goal.loop-packed-preserved
loop-packed-preserved g c =
    let formed = subst (λ (s : ScanOf). AreWellFormed s.table.db.version (rows_in s.table)) c.self.view_is c.rows.ensures.formed in
    let t = c.loop-packed-test.true in
    let is : slice_get c.args.events.now c.loop-packed.packed-index ≡ Some c.event.result = slice_get-get_or c.args.events.now c.loop-packed.packed-index c.packed-item.result (omega arith) ∙ ap Some (sym c.packed-item.is ∙ sym c.event.ensures) in
    let s = c.loop-packed.invariant.steps in
    let u = c.fold_event.ensures.steps in record {
      tracks = run_taken c.args.self.now c.args.at c.args.place c.loop-packed.packed-index c.args.events.now c.event.result c.loop-packed.groups c.fold_event.new.groups formed c.requires.run.are is c.loop-packed.invariant.tracks c.in_ok-fold_event.ensures.takes;
      steps = omega arith;
    }

use Rattle.std.proofs.Common.{◌≡◌, ◌<◌, Some, ap, arith, sym, ◌∙◌, subst, slice_get, length}
use Rattle.std.proofs.lemmas.Option.{slice_get-get_or}
use Rattle.tl_types.specs.WellFormed.{AreWellFormed}
use Rattle.tl_bits.specs.Sets.{is_member}
use Rattle.tl_index.specs.Tables.{rows_in}
use Rattle.tl_agg.specs.Scans.{ScanOf, IsScan, all_recounted}
use Rattle.tl_agg.proofs.StepLemmas.{run_ready}
use Rattle.tl_agg.proofs.CountLemmas.{kept_inside, can_count, count_taken}
use Rattle.tl_agg.proofs.scans.Scan.count_run.Goals as goal

pub test-is_kept-requires : goal.test-is_kept-requires
test-is_kept-requires g c =
    let formed = subst (λ (s : ScanOf). AreWellFormed s.table.db.version (rows_in s.table)) c.self.view_is c.rows.ensures.formed in
    let t = c.loop-packed-test.true in
    let is : slice_get c.args.events.now c.loop-packed.packed-index ≡ Some c.event-event.result = slice_get-get_or c.args.events.now c.loop-packed.packed-index c.packed-item.result (omega arith) ∙ ap Some (sym c.packed-item.is ∙ sym c.event-event.ensures) in
    let groups = all_recounted c.args.groups.now c.loop-packed.count in
    let ready = run_ready c.args.self.now c.args.at c.args.place c.loop-packed.packed-index c.args.events.now c.event-event.result groups formed c.requires.run.are is c.loop-packed.invariant.tracks in
    let keep = ap (λ (s : ScanOf). length s.keep) c.self.view_is in
    subst (λ n. c.event-event.result.row < n) (sym keep) (kept_inside c.args.self.now c.args.at c.event-event.result groups (subst IsScan c.self.view_is c.self.invariant.is_scan) ready)

pub count_moved-count-requires-clause-more : goal.count_moved-count-requires-clause-more
count_moved-count-requires-clause-more g c =
    let formed = subst (λ (s : ScanOf). AreWellFormed s.table.db.version (rows_in s.table)) c.self.view_is c.rows.ensures.formed in
    let t = c.loop-packed-test.true in
    let is : slice_get c.args.events.now c.loop-packed.packed-index ≡ Some c.event-event.result = slice_get-get_or c.args.events.now c.loop-packed.packed-index c.packed-item.result (omega arith) ∙ ap Some (sym c.packed-item.is ∙ sym c.event-event.ensures) in
    let groups = all_recounted c.args.groups.now c.loop-packed.count in
    let ready = run_ready c.args.self.now c.args.at c.args.place c.loop-packed.packed-index c.args.events.now c.event-event.result groups formed c.requires.run.are is c.loop-packed.invariant.tracks in
    let table = ap (λ (s : ScanOf). length (rows_in s.table)) c.self.view_is in
    let n = c.rows.ensures.number in
    let m = c.rows.ensures.few in
    let keep = ap (λ (s : ScanOf). is_member s.keep c.event-event.result.row) c.self.view_is in
    λ kept. (can_count c.args.self.now c.args.at c.event-event.result c.args.groups.now c.loop-packed.count c.requires.run.single c.requires.counts (subst IsScan c.self.view_is c.self.invariant.is_scan) (omega arith) (sym keep ∙ sym c.test-is_kept.ensures.member ∙ kept) ready).0

pub count_moved-count-requires-clause-fewer : goal.count_moved-count-requires-clause-fewer
count_moved-count-requires-clause-fewer g c =
    let formed = subst (λ (s : ScanOf). AreWellFormed s.table.db.version (rows_in s.table)) c.self.view_is c.rows.ensures.formed in
    let t = c.loop-packed-test.true in
    let is : slice_get c.args.events.now c.loop-packed.packed-index ≡ Some c.event-event.result = slice_get-get_or c.args.events.now c.loop-packed.packed-index c.packed-item.result (omega arith) ∙ ap Some (sym c.packed-item.is ∙ sym c.event-event.ensures) in
    let groups = all_recounted c.args.groups.now c.loop-packed.count in
    let ready = run_ready c.args.self.now c.args.at c.args.place c.loop-packed.packed-index c.args.events.now c.event-event.result groups formed c.requires.run.are is c.loop-packed.invariant.tracks in
    let table = ap (λ (s : ScanOf). length (rows_in s.table)) c.self.view_is in
    let n = c.rows.ensures.number in
    let m = c.rows.ensures.few in
    let keep = ap (λ (s : ScanOf). is_member s.keep c.event-event.result.row) c.self.view_is in
    λ kept. (can_count c.args.self.now c.args.at c.event-event.result c.args.groups.now c.loop-packed.count c.requires.run.single c.requires.counts (subst IsScan c.self.view_is c.self.invariant.is_scan) (omega arith) (sym keep ∙ sym c.test-is_kept.ensures.member ∙ kept) ready).1

pub loop-packed-preserved : goal.loop-packed-preserved
loop-packed-preserved g c =
    let formed = subst (λ (s : ScanOf). AreWellFormed s.table.db.version (rows_in s.table)) c.self.view_is c.rows.ensures.formed in
    let t = c.loop-packed-test.true in
    let is : slice_get c.args.events.now c.loop-packed.packed-index ≡ Some c.event-event.result = slice_get-get_or c.args.events.now c.loop-packed.packed-index c.packed-item.result (omega arith) ∙ ap Some (sym c.packed-item.is ∙ sym c.event-event.ensures) in
    let table = ap (λ (s : ScanOf). length (rows_in s.table)) c.self.view_is in
    let n = c.rows.ensures.number in
    let m = c.rows.ensures.few in
    let keep = ap (λ (s : ScanOf). is_member s.keep c.event-event.result.row) c.self.view_is in
    let s = c.loop-packed.invariant.steps in
    let u = c.test-is_kept.ensures.steps in record {
      tracks = count_taken c.args.self.now c.args.at c.args.place c.loop-packed.packed-index c.args.events.now c.event-event.result c.args.groups.now c.loop-packed.count c.count_moved-count.result c.test-is_kept.result c.requires.run.single c.requires.counts
          (subst IsScan c.self.view_is c.self.invariant.is_scan) (omega arith) formed c.requires.run.are is c.requires.run.since (c.test-is_kept.ensures.member ∙ keep) c.count_moved-count.ensures c.loop-packed.invariant.tracks;
      steps = omega arith;
    }

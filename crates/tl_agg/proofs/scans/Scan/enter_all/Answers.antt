use Rattle.std.proofs.Common.{◌+◌, ap, arith, sym, ◌∙◌, subst, length}
use Rattle.tl_agg.specs.Kept.{below}
use Rattle.tl_index.specs.Tables.{rows_in}
use Rattle.tl_agg.specs.Scans.{ScanOf, IsScan, IsReady, TakesEvent}
use Rattle.tl_agg.proofs.StartLemmas.{size_none, next_size, size_below}
use Rattle.tl_agg.proofs.StepLemmas.{start_ready, start_taken, start_ends, first_since}
use Rattle.tl_types.specs.Events.{activation}
use Rattle.tl_agg.proofs.scans.Scan.enter_all.Goals as goal

pub members-init : goal.members-init
members-init g c =
    let none = size_none c.args.start.now in record {
      within = omega arith;
      tracks = c.requires.tracks;
      steps = omega arith;
    }

pub move_row-requires-clause-ready : goal.move_row-requires-clause-ready
move_row-requires-clause-ready g c =
    let scan = subst IsScan c.self.view_is c.self.invariant.is_scan in
    let from = ap (λ (s : ScanOf). s.from) c.self.view_is in
    subst (λ at. IsReady c.args.self.now at (activation c.in-Some.row) c.members.groups) (sym from)
    (start_ready c.args.self.now c.args.self.now.from c.members.from c.in-Some.row c.args.start.now c.members.groups (c.requires.members.rows ∙ scan.keep) c.in-Some.ensures.found c.members.invariant.tracks)

pub move_row-requires-clause-since : goal.move_row-requires-clause-since
move_row-requires-clause-since g c =
    let from = ap (λ (s : ScanOf). s.from) c.self.view_is in
    λ single. first_since c.args.self.now (below c.members.from c.args.start.now) c.members.groups c.members.invariant.tracks single ∙ sym from

pub returns-in_err-move_row-clause-steps : goal.returns-in_err-move_row-clause-steps
returns-in_err-move_row-clause-steps g c =
    let next = c.in-Some.ensures.found in
    let inside = next.inside in
    let more = next_size c.args.start.now c.members.from c.in-Some.row next in
    let most = size_below (c.in-Some.row + 1) c.args.start.now in
    let s = c.members.invariant.steps in
    let t = c.in-Some.ensures.steps_found in
    let u = c.move_row.ensures.steps in
    omega arith

pub overflow_add-from : goal.overflow_add-from
overflow_add-from g c =
    let scan = subst IsScan c.self.view_is c.self.invariant.is_scan in
    let inside = c.in-Some.ensures.found.inside in
    let rows = c.requires.members.rows in
    let keep = scan.keep in
    let table = ap (λ (s : ScanOf). length (rows_in s.table)) c.self.view_is in
    let n = c.rows.ensures.number in
    let m = c.rows.ensures.few in
    omega arith

pub members-preserved : goal.members-preserved
members-preserved g c =
    let scan = subst IsScan c.self.view_is c.self.invariant.is_scan in
    let from = ap (λ (s : ScanOf). s.from) c.self.view_is in
    let next = c.in-Some.ensures.found in
    let inside = next.inside in
    let more = next_size c.args.start.now c.members.from c.in-Some.row next in
    let s = c.members.invariant.steps in
    let t = c.in-Some.ensures.steps_found in
    let u = c.move_row.ensures.steps in record {
      within = omega arith;
      tracks = start_taken c.args.self.now c.args.self.now.from c.members.from c.in-Some.row c.args.start.now c.members.groups c.move_row.new.groups (c.requires.members.rows ∙ scan.keep) next c.members.invariant.tracks
          (subst (λ at. TakesEvent c.args.self.now at (activation c.in-Some.row) c.members.groups c.move_row.new.groups) from c.in_ok-move_row.ensures.takes);
      steps = omega arith;
    }

pub returns-clause-tracks : goal.returns-clause-tracks
returns-clause-tracks g c = start_ends c.args.self.now c.args.self.now.from c.members.from c.args.start.now c.members.groups c.members.invariant.within c.in_default.ensures.none c.members.invariant.tracks

pub returns-clause-steps : goal.returns-clause-steps
returns-clause-steps g c =
    let most = size_below c.members.from c.args.start.now in
    let s = c.members.invariant.steps in
    let w = c.members.invariant.within in
    let t = c.in_default.ensures.steps_none in
    omega arith

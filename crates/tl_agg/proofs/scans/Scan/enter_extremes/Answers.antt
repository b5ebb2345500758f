use Rattle.std.proofs.Common.{◌+◌, ap, arith, ◌∙◌, subst, length}
use Rattle.tl_index.specs.Tables.{rows_in}
use Rattle.tl_agg.specs.Scans.{ScanOf, IsScan}
use Rattle.tl_agg.proofs.StartLemmas.{size_none, next_size, size_below}
use Rattle.tl_agg.proofs.ExtremeLemmas.{extreme_entered, extreme_start}
use Rattle.tl_agg.proofs.scans.Scan.enter_extremes.Goals as goal

pub members-init : goal.members-init
members-init g c =
    let none = size_none c.args.start.now in record {
      within = omega arith;
      tracks = c.requires.tracks;
      steps = omega arith;
    }

pub come-requires-clause-row : goal.come-requires-clause-row
come-requires-clause-row g c =
    let scan = subst IsScan c.self.view_is c.self.invariant.is_scan in
    let inside = c.in-Some.ensures.found.inside in
    let rows = c.requires.members.rows in
    let keep = scan.keep in
    omega arith

pub returns-in_err-come-clause-steps : goal.returns-in_err-come-clause-steps
returns-in_err-come-clause-steps g c =
    let next = c.in-Some.ensures.found in
    let inside = next.inside in
    let more = next_size c.args.start.now c.members.from c.in-Some.row next in
    let most = size_below (c.in-Some.row + 1) c.args.start.now in
    let s = c.members.invariant.steps in
    let t = c.in-Some.ensures.steps_found in
    let u = c.come.ensures.steps in
    omega arith

pub overflow_add-from : goal.overflow_add-from
overflow_add-from g c =
    let scan = subst IsScan c.self.view_is c.self.invariant.is_scan in
    let inside = c.in-Some.ensures.found.inside in
    let rows = c.requires.members.rows in
    let keep = scan.keep in
    let table = ap (λ (s : ScanOf). length (rows_in s.table)) c.self.view_is in
    let n = c.rows.ensures.number in
    let m = c.rows.ensures.few in
    omega arith

pub members-preserved : goal.members-preserved
members-preserved g c =
    let scan = subst IsScan c.self.view_is c.self.invariant.is_scan in
    let next = c.in-Some.ensures.found in
    let inside = next.inside in
    let more = next_size c.args.start.now c.members.from c.in-Some.row next in
    let s = c.members.invariant.steps in
    let t = c.in-Some.ensures.steps_found in
    let u = c.come.ensures.steps in record {
      within = omega arith;
      tracks = extreme_entered c.args.self.now c.members.from c.in-Some.row c.args.start.now c.members.extremes c.come.new.extremes (c.requires.members.rows ∙ scan.keep) next (c.requires.members.members c.in-Some.row next.member) c.in_ok-come.ensures.comes c.members.invariant.tracks;
      steps = omega arith;
    }

pub returns-clause-tracks : goal.returns-clause-tracks
returns-clause-tracks g c = extreme_start c.args.self.now c.members.from c.args.start.now c.members.extremes c.members.invariant.within c.in_default.ensures.none c.members.invariant.tracks

pub returns-clause-steps : goal.returns-clause-steps
returns-clause-steps g c =
    let most = size_below c.members.from c.args.start.now in
    let s = c.members.invariant.steps in
    let w = c.members.invariant.within in
    let t = c.in_default.ensures.steps_none in
    omega arith

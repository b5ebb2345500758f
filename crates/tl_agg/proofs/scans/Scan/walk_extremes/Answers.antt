use Rattle.std.proofs.Common.{◌-◌, arith, subst}
use Rattle.tl_types.specs.WellFormed.{AreWellFormed}
use Rattle.tl_types.proofs.EventLemmas.{place_grows}
use Rattle.tl_index.specs.Tables.{rows_in}
use Rattle.tl_agg.specs.Scans.{ScanOf}
use Rattle.tl_agg.proofs.StepLemmas.{events_many}
use Rattle.tl_agg.proofs.ExtremeLemmas.{ends_there, extreme_begins, extreme_ends, extreme_piece}
use Rattle.tl_agg.proofs.scans.Scan.walk_extremes.Goals as goal

pub take_version-requires-clause-ordered : goal.take_version-requires-clause-ordered
take_version-requires-clause-ordered g c =
    let next = c.in-Some.ensures.some in
    let was = c.versions.invariant.place in
    let place = next.place in
    let l = next.later in
    let grows = place_grows (rows_in c.args.self.now.table) c.versions.at c.in-Some.entry.version (omega arith) in
    omega arith

pub take_version-requires-clause-within : goal.take_version-requires-clause-within
take_version-requires-clause-within g c =
    let next = c.in-Some.ensures.some in
    let place = next.place in
    let grows = place_grows (rows_in c.args.self.now.table) c.in-Some.entry.version c.args.self.now.table.db.version next.within in
    omega arith

pub take_version-requires-clause-ends : goal.take_version-requires-clause-ends
take_version-requires-clause-ends g c =
    let next = c.in-Some.ensures.some in
    ends_there (rows_in c.args.self.now.table) c.args.self.now.table.db.version c.versions.at c.in-Some.entry.version c.versions.place c.in-Some.entry.end next.later next.within next.quiet c.versions.invariant.place next.place

pub take_version-requires-clause-tracks : goal.take_version-requires-clause-tracks
take_version-requires-clause-tracks g c =
    let formed = subst (λ (s : ScanOf). AreWellFormed s.table.db.version (rows_in s.table)) c.self.view_is c.rows.ensures.formed in
    let next = c.in-Some.ensures.some in
    extreme_begins c.args.self.now c.versions.at c.in-Some.entry.version c.versions.place c.versions.extremes formed next.later next.within next.quiet c.versions.invariant.place c.versions.invariant.tracks

pub returns-in_err-take_version-clause-steps : goal.returns-in_err-take_version-clause-steps
returns-in_err-take_version-clause-steps g c =
    let next = c.in-Some.ensures.some in
    let many = events_many (rows_in c.args.self.now.table) c.versions.at c.in-Some.entry.version next.later next.quiet in
    let some = next.some in
    let place = next.place in
    let was = c.versions.invariant.place in
    let s = c.versions.invariant.steps in
    let t = c.in-Some.ensures.steps in
    let u = c.take_version.ensures.steps in
    let b = next.before in
    let f = c.requires.from in
    let grows = place_grows (rows_in c.args.self.now.table) c.in-Some.entry.version (c.args.self.now.to - 1) (omega arith) in
    let begun = place_grows (rows_in c.args.self.now.table) c.args.self.now.from c.versions.at c.versions.invariant.after in
    omega arith

pub versions-preserved : goal.versions-preserved
versions-preserved g c =
    let formed = subst (λ (s : ScanOf). AreWellFormed s.table.db.version (rows_in s.table)) c.self.view_is c.rows.ensures.formed in
    let next = c.in-Some.ensures.some in
    let many = events_many (rows_in c.args.self.now.table) c.versions.at c.in-Some.entry.version next.later next.quiet in
    let some = next.some in
    let place = next.place in
    let was = c.versions.invariant.place in
    let s = c.versions.invariant.steps in
    let t = c.in-Some.ensures.steps in
    let u = c.take_version.ensures.steps in
    let a = c.versions.invariant.after in
    let l = next.later in record {
      after = omega arith;
      before = next.before;
      tracks = extreme_ends c.args.self.now c.in-Some.entry.version c.in-Some.entry.end c.take_version.new.extremes formed next.within next.place c.in_ok-take_version.ensures.tracks;
      place = next.place;
      follow = next.rest;
      steps = omega arith;
    }

pub returns-clause-tracks : goal.returns-clause-tracks
returns-clause-tracks g c =
    let formed = subst (λ (s : ScanOf). AreWellFormed s.table.db.version (rows_in s.table)) c.self.view_is c.rows.ensures.formed in
    extreme_piece c.args.self.now c.versions.at c.args.self.now.to c.versions.extremes formed c.versions.invariant.before c.in_default.ensures.none c.versions.invariant.tracks

pub returns-clause-steps : goal.returns-clause-steps
returns-clause-steps g c =
    let b = c.versions.invariant.before in
    let f = c.requires.from in
    let grows = place_grows (rows_in c.args.self.now.table) c.versions.at (c.args.self.now.to - 1) (omega arith) in
    let begun = place_grows (rows_in c.args.self.now.table) c.args.self.now.from c.versions.at c.versions.invariant.after in
    let s = c.versions.invariant.steps in
    let t = c.in_default.ensures.steps in
    omega arith

use Rattle.std.proofs.Common.{◌-◌, ap, arith, ◌∙◌, subst}
use Rattle.tl_types.specs.Walks.{standing}
use Rattle.tl_events.specs.Timeline.{IsSplit}
use Rattle.tl_events.proofs.FollowLemmas.{split_follow}
use Rattle.tl_index.specs.Tables.{rows_in, ends_in}
use Rattle.tl_agg.specs.Scans.{ScanOf, IsScan}
use Rattle.tl_agg.specs.Extremes.{AreExtremeRuns}
use Rattle.tl_agg.proofs.PieceLemmas.{start_within}
use Rattle.tl_agg.proofs.ExtremeLemmas.{extreme_none, extreme_stands, extreme_told}
use Rattle.tl_agg.proofs.scans.Scan.extreme_runs.Goals as goal

pub enter_extremes-requires-clause-members : goal.enter_extremes-requires-clause-members
enter_extremes-requires-clause-members g c = start_within c.args.self.now c.args.start.now (subst IsScan c.self.view_is c.self.invariant.is_scan) c.requires.start

pub enter_extremes-requires-clause-tracks : goal.enter_extremes-requires-clause-tracks
enter_extremes-requires-clause-tracks g c =
    let none = c.none-extremes.ensures in
    extreme_none c.args.self.now c.args.start.now c.none-extremes.result (none.kind ∙ ap (λ (s : ScanOf). s.plan.kind) c.self.view_is) (none.since ∙ ap (λ (s : ScanOf). s.from) c.self.view_is) none.runs none.stands

pub walk_extremes-requires-clause-follow : goal.walk_extremes-requires-clause-follow
walk_extremes-requires-clause-follow g c =
    let scan = subst IsScan c.self.view_is c.self.invariant.is_scan in
    let within = scan.within in
    let later = scan.later in
    let from = ap (λ (s : ScanOf). s.from) c.self.view_is in
    let split = subst (λ (s : ScanOf). IsSplit (ends_in s.table) s.from c.entries_to-first.result) c.self.view_is c.entries_to-first.ensures.split in
    split_follow (rows_in c.args.self.now.table) c.args.self.now.table.db.version c.args.self.now.from c.entries_to-first.result (omega arith) split

pub walk_extremes-requires-clause-tracks : goal.walk_extremes-requires-clause-tracks
walk_extremes-requires-clause-tracks g c = extreme_stands c.args.self.now c.args.start.now c.enter_extremes.new.extremes c.requires.start c.in_ok-enter_extremes.ensures.tracks

pub returns-clause-runs : goal.returns-clause-runs
returns-clause-runs g c =
    let to = ap (λ (s : ScanOf). s.to) c.self.view_is in
    extreme_told c.args.self.now (standing (rows_in c.args.self.now.table) (c.args.self.now.to - 1)) c.walk_extremes.new.extremes c.in_ok-runs.runs.items c.requires.scan c.in_ok-walk_extremes.ensures.tracks
    (subst (λ t. AreExtremeRuns c.walk_extremes.new.extremes t c.in_ok-runs.runs.items) to c.in_ok-runs.ensures)

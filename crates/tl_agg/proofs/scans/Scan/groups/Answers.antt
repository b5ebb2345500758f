use Rattle.std.proofs.Common.{ap, arith, ◌∙◌, subst}
use Rattle.std.specs.Prelude.{is_some}
use Rattle.tl_events.specs.Timeline.{IsSplit}
use Rattle.tl_events.proofs.FollowLemmas.{split_follow}
use Rattle.tl_index.specs.Tables.{rows_in, ends_in}
use Rattle.tl_agg.specs.Scans.{ScanOf, IsScan}
use Rattle.tl_agg.proofs.PieceLemmas.{start_tracks, start_within, start_stands}
use Rattle.tl_agg.proofs.scans.Scan.groups.Goals as goal

pub enter_all-requires-clause-members : goal.enter_all-requires-clause-members
enter_all-requires-clause-members g c = start_within c.args.self.now c.args.start.now (subst IsScan c.self.view_is c.self.invariant.is_scan) c.requires.start

pub enter_all-requires-clause-tracks : goal.enter_all-requires-clause-tracks
enter_all-requires-clause-tracks g c =
    let none = c.none-groups.ensures.all in
    start_tracks c.args.self.now c.args.start.now c.none-groups.result (record {
      all = record {
        kind_is = none.kind_is ∙ ap (λ (s : ScanOf). s.plan.kind) c.self.view_is;
        gaps_is = none.gaps_is ∙ c.is_some-gaps.ensures ∙ ap (λ (s : ScanOf). is_some s.plan.by) c.self.view_is;
        since_is = none.since_is ∙ ap (λ (s : ScanOf). s.from) c.self.view_is;
        none = none.none;
        stands = none.stands;
      };
      numbered = c.none-groups.ensures.numbered;
      by = c.none-groups.ensures.by;
    })

pub walk-requires-clause-follow : goal.walk-requires-clause-follow
walk-requires-clause-follow g c =
    let scan = subst IsScan c.self.view_is c.self.invariant.is_scan in
    let within = scan.within in
    let later = scan.later in
    let from = ap (λ (s : ScanOf). s.from) c.self.view_is in
    let split = subst (λ (s : ScanOf). IsSplit (ends_in s.table) s.from c.entries_to-first.result) c.self.view_is c.entries_to-first.ensures.split in
    split_follow (rows_in c.args.self.now.table) c.args.self.now.table.db.version c.args.self.now.from c.entries_to-first.result (omega arith) split

pub walk-requires-clause-tracks : goal.walk-requires-clause-tracks
walk-requires-clause-tracks g c = start_stands c.args.self.now c.args.start.now c.enter_all.new.groups c.requires.start c.in_ok-enter_all.ensures.tracks

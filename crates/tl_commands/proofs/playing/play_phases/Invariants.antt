use Rattle.std.proofs.Common.{Option}
use Rattle.tl_group.specs.Keeping.{commits_in}
use Rattle.tl_watch.specs.declared.plans.WatchPlan.{WatchPlan}
use Rattle.tl_commands.specs.Playing.{KeepsDisk, Played}
use Rattle.tl_commands.specs.Telling.{WatchesFor}
use Rattle.tl_commands.proofs.playing.play_phases.Given as goal

-- the phases that have come were played, and the disk keeps what it had
abbrev pub invariant-phases : goal.invariant-phases
invariant-phases g l =
    let source = g.S.Source in
    let coming = g.P.Phases.coming in
    record {
      played : (plan : Option WatchPlan) → WatchesFor plan (commits_in l.fn.playing.group) l.fn.playing.watching → Played l.fn.means.stops_at_refusal plan (coming l.fn.phases) (commits_in l.fn.playing.group) (source.left l.fn.source) (source.faults l.fn.source) (coming l.phases) (commits_in l.playing.group) l.playing.replies.text.items l.playing.replies.count l.playing.watching (source.left l.source) (source.faults l.source);
      keeps : KeepsDisk g.D.Disk l.fn.playing.group l.playing.group;
    }

use Rattle.std.proofs.Common.{List, ℕ, subst, sym}
use Rattle.tl_group.specs.Keeping.{commits_in}
use Rattle.tl_group.specs.Plain as group
use Rattle.tl_command.specs.Outside.{outside}
use Rattle.tl_commands.specs.Appending.{AppendsAndWrites}
use Rattle.tl_commands.specs.Grouping.{Plays}
use Rattle.tl_commands.proofs.GroupEndLemmas.{appended, as_group, given_up}
use Rattle.tl_commands.proofs.grouping.play_group.Goals as goal

pub returns-in-Ok : goal.returns-in-Ok
returns-in-Ok g c = λ plan begun watches attached.
    let source = g.S.Source in
    let sink = g.K.Sink in
    let disks = g.D.Disk in
    let stops = c.args.means.now.stops_at_refusal in
    let reads = (g.P.Phases.coming c.args.phases).reads in
    let opening = commits_in c.args.playing.group in
    let later = c.in-Ok.field-0.group in
    let before = outside source sink disks c.args.source.now c.args.sink.now begun in
    let after = outside source sink disks c.play_phases.new.source c.append.new.sink c.append.result.disk in
    as_group stops plan reads opening before after c.append.result.status
    (appended sink disks (λ all text. Plays stops plan reads opening all text before after) begun c.args.playing.group later c.as_slice.result.now (source.left c.args.source.now) (source.left c.play_phases.new.source) (source.faults c.args.source.now) (source.faults c.play_phases.new.source) c.args.sink.now c.append.new.sink c.append.result.disk c.append.result.status attached c.in-Ok.ensures.keeps
    (subst (λ (t : List ℕ). Plays stops plan reads opening (commits_in later) t before after) (sym c.as_slice.ensures.value) (c.in-Ok.ensures.plays plan watches, c.in-Ok.ensures.sure))
    (subst (λ (w : group.Group g.row.D.Denot). AppendsAndWrites sink disks w c.as_slice.result.now c.args.sink.now c.append.new.sink c.append.result.disk c.append.result.status) c.without_keys.ensures c.append.ensures))

pub returns : goal.returns
returns g c = λ plan begun watches attached.
    let source = g.S.Source in
    let stopped = c.in-Err.field-0 in
    given_up g.K.Sink g.D.Disk c.args.means.now.stops_at_refusal plan (g.P.Phases.coming c.args.phases).reads begun c.args.playing.group (source.left c.args.source.now) (source.left c.play_phases.new.source) (source.faults c.args.source.now) (source.faults c.play_phases.new.source) c.args.sink.now c.close_play.new.sink stopped.disk stopped.cause c.close_play.result attached c.in-Err.ensures.back (c.in-Err.ensures.stops plan watches) c.close_play.ensures

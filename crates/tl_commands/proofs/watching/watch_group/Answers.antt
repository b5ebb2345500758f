use Rattle.std.proofs.Common.{◌∙◌, Bool, Err, false, Ok, Some, arith, ap, refl, subst, sym}
use Rattle.tl_types.specs.Entries.{commits_of}
use Rattle.tl_types.specs.Limits.{standard_limits}
use Rattle.tl_script.specs.Reader.{ScriptState, new_state}
use Rattle.tl_group.specs.Keeping.{commits_in}
use Rattle.tl_command.specs.Coming.{script_coming, script_reads, HasNotBegun}
use Rattle.tl_command.specs.Outside.{outside}
use Rattle.tl_command.proofs.ScriptComing.{new_script_fresh}
use Rattle.tl_commands.specs.Plans.{plan_reading}
use Rattle.tl_commands.specs.Grouping.{GroupEndsBy}
use Rattle.tl_commands.proofs.DiskLemmas.{back_held}
use Rattle.tl_commands.proofs.PlayLemmas.{back_itself}
use Rattle.tl_commands.proofs.WatchLemmas.{begun_over, watch_played, watch_refused, watch_starved}
use Rattle.tl_commands.proofs.watching.watch_group.Goals as goal

pub play_group-requires-clause-fresh : goal.play_group-requires-clause-fresh
play_group-requires-clause-fresh g c κs within = subst (λ (s : ScriptState). HasNotBegun (script_coming s)) (sym (c.new-phases.ensures ∙ ap new_state c.standard.ensures)) (new_script_fresh standard_limits (omega arith))

pub play_group-requires-clause-watched : goal.play_group-requires-clause-watched
play_group-requires-clause-watched g c κs within =
    let begins = begun_over (commits_of c.snapshot.result.now) (commits_in c.args.group) c.args.text.now c.in-Ok-Ok.field-0 (Ok c.in-Ok-Ok.watching) c.in-Ok-Ok.ensures (ap commits_of c.snapshot.ensures.value) c.in-Ok-Ok.field-0-is in
    (Some begins.0, begins.2)

pub returns-in-Ok-Ok : goal.returns-in-Ok-Ok
returns-in-Ok-Ok g c = λ begun attached.
    let source = g.S.Source in
    let sink = g.K.Sink in
    let disks = g.D.Disk in
    let opening = commits_in c.args.group in
    let begins = begun_over (commits_of c.snapshot.result.now) opening c.args.text.now c.in-Ok-Ok.field-0 (Ok c.in-Ok-Ok.watching) c.in-Ok-Ok.ensures (ap commits_of c.snapshot.ensures.value) c.in-Ok-Ok.field-0-is in
    let before = outside source sink disks c.args.source.now c.args.sink.now begun in
    let after = outside source sink disks c.play_group.new.source c.play_group.new.sink c.play_group.result.disk in
    watch_played (plan_reading opening c.args.text.now) begins.0 script_reads opening before after c.play_group.result.status begins.1
    (subst (λ (s : ScriptState). GroupEndsBy false (Some begins.0) (script_coming s).reads opening before after c.play_group.result.status) (c.new-phases.ensures ∙ ap new_state c.standard.ensures)
    (subst (λ (b : Bool). GroupEndsBy b (Some begins.0) (script_coming c.new-phases.result).reads opening before after c.play_group.result.status) c.requires.goes_on
    (c.play_group.ensures (Some begins.0) begun begins.2 attached)))

pub returns-in-Ok-Err : goal.returns-in-Ok-Err
returns-in-Ok-Err g c = λ begun attached.
    let source = g.S.Source in
    let sink = g.K.Sink in
    let disks = g.D.Disk in
    let group = c.args.group in
    let opening = commits_in group in
    let begins = begun_over (commits_of c.snapshot.result.now) opening c.args.text.now c.in-Ok-Err.field-0 (Err c.in-Ok-Err.refusal) c.in-Ok-Err.ensures (ap commits_of c.snapshot.ensures.value) c.in-Ok-Err.field-0-is in
    let disk = c.into_disk.result in
    let left = source.left c.args.source.now in
    let faults = source.faults c.args.source.now in
    watch_refused (plan_reading opening c.args.text.now) c.in-Ok-Err.refusal script_reads opening (outside source sink disks c.args.source.now c.args.sink.now begun) (outside source sink disks c.args.source.now c.close.new.sink disk) c.close.result begins (refl, refl) c.close.ensures
    (back_held disks begun disk group left left (sink.written c.args.sink.now) (sink.written c.close.new.sink) faults faults (sink.faults c.args.sink.now) (sink.faults c.close.new.sink) attached (back_itself disks group disk c.into_disk.ensures))

pub returns-in-Err : goal.returns-in-Err
returns-in-Err g c = λ begun attached.
    let source = g.S.Source in
    let sink = g.K.Sink in
    let disks = g.D.Disk in
    let group = c.args.group in
    let opening = commits_in group in
    let disk = c.into_disk-in-Err.result in
    let left = source.left c.args.source.now in
    let faults = source.faults c.args.source.now in
    let written = sink.written c.args.sink.now in
    let failed = sink.faults c.args.sink.now in
    watch_starved (plan_reading opening c.args.text.now) script_reads opening (outside source sink disks c.args.source.now c.args.sink.now begun) (outside source sink disks c.args.source.now c.args.sink.now disk) (refl, refl) (refl, refl, refl)
    (back_held disks begun disk group left left written written faults faults failed failed attached (back_itself disks group disk c.into_disk-in-Err.ensures))

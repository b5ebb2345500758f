use Rattle.std.proofs.Common.{ℕ, List, Some, subst, sym}
use Rattle.std.specs.declared.option.Option.{Option}
use Rattle.tl_program.specs.declared.commands.Command.{Command}
use Rattle.tl_commands.specs.Runs.{put_text, RunEnds}
use Rattle.tl_command.specs.Coming.{block_reads, script_reads}
use Rattle.tl_commands.specs.Watching.{WatchEnds}
use Rattle.tl_program.specs.Ending.{EndsBy}
use Rattle.tl_command.specs.Outside.{outside}
use Rattle.tl_program.proofs.top.do_command.Goals as goal

pub returns-in-Some-Load-clause-ends : goal.returns-in-Some-Load-clause-ends
returns-in-Some-Load-clause-ends g c =
    let source = g.S.Source in
    let sink = g.K.Sink in
    let disk = g.D.Disk in
    let before = outside source sink disk c.args.source.now c.args.sink.now c.args.disk in
    let after = outside source sink disk c.load.new.source c.load.new.sink c.load.result.disk in
    subst (λ (o : Option Command). EndsBy o before after c.load.result.status) (sym c.in-Some-Load.is)
    (subst (λ (x : Command). EndsBy (Some x) before after c.load.result.status) (sym c.in-Some-Load.field-0-is)
    (subst (λ (t : List ℕ). RunEnds (block_reads (put_text t)) before after c.load.result.status) c.as_str-of.ensures.bytes c.load.ensures))

pub returns-in-Some-Watch-clause-ends : goal.returns-in-Some-Watch-clause-ends
returns-in-Some-Watch-clause-ends g c =
    let source = g.S.Source in
    let sink = g.K.Sink in
    let disk = g.D.Disk in
    let before = outside source sink disk c.args.source.now c.args.sink.now c.args.disk in
    let after = outside source sink disk c.watch.new.source c.watch.new.sink c.watch.result.disk in
    subst (λ (o : Option Command). EndsBy o before after c.watch.result.status) (sym c.in-Some-Watch.is)
    (subst (λ (x : Command). EndsBy (Some x) before after c.watch.result.status) (sym c.in-Some-Watch.field-0-is)
    (subst (λ (t : List ℕ). WatchEnds t script_reads before after c.watch.result.status) c.as_str-word.ensures.bytes c.watch.ensures))

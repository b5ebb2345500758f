use Rattle.std.proofs.Common.{ap, refl, subst}
use Rattle.std.specs.declared.option.Option.{Option}
use Rattle.tl_program.specs.declared.commands.Settings.{Settings}
use Rattle.tl_program.specs.declared.commands.Command.{Command}
use Rattle.tl_program.specs.Commands.{command_of, texts_of}
use Rattle.tl_program.specs.Headline.{CompletesBy, HeadlineBy}
use Rattle.tl_command.specs.Outside.{outside}
use Rattle.tl_program.proofs.HeadlineLemmas.{command_tells, memory_tells}
use Rattle.tl_program.proofs.TopLemmas.{command_completes, memory_completes}
use Rattle.tl_program.proofs.top.timeline.Goals as goal

pub returns-in-Ok-clause-headline : goal.returns-in-Ok-clause-headline
returns-in-Ok-clause-headline g c =
    let source = g.S.Source in
    let sink = g.K.Sink in
    let disk = g.D.Disk in
    let before = outside source sink disk c.args.source.now c.args.sink.now c.args.disk in
    let after = outside source sink disk c.do_command.new.source c.do_command.new.sink c.do_command.result.disk in
    subst (λ (o : Option Command). HeadlineBy o before after c.do_command.result.status) (ap (λ (a : Settings). a.command) c.in-Ok.ensures) (command_tells c.in-Ok.settings.command before after c.do_command.result.status c.do_command.ensures.ends)

pub returns-in-Ok-clause-complete : goal.returns-in-Ok-clause-complete
returns-in-Ok-clause-complete g c =
    let source = g.S.Source in
    let sink = g.K.Sink in
    let disk = g.D.Disk in
    let before = outside source sink disk c.args.source.now c.args.sink.now c.args.disk in
    let after = outside source sink disk c.do_command.new.source c.do_command.new.sink c.do_command.result.disk in
    subst (λ (o : Option Command). CompletesBy o before after c.do_command.result.status) (ap (λ (a : Settings). a.command) c.in-Ok.ensures) (command_completes c.in-Ok.settings.command before after c.do_command.result.status c.do_command.ensures.ends)

pub returns-in-Err-clause-headline : goal.returns-in-Err-clause-headline
returns-in-Err-clause-headline g c = memory_tells (command_of (texts_of c.args.words.now)) _ _ refl

pub returns-in-Err-clause-complete : goal.returns-in-Err-clause-complete
returns-in-Err-clause-complete g c = memory_completes (command_of (texts_of c.args.words.now)) _ _ _ refl

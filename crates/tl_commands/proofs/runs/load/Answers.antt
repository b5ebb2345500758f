use Rattle.std.proofs.Common.{◌∙◌, ℕ, List, subst}
use Rattle.tl_command.specs.Coming.{block_reads}
use Rattle.tl_commands.specs.Runs.{RunEnds}
use Rattle.tl_command.specs.Outside.{outside}
use Rattle.tl_commands.proofs.runs.load.Goals as goal

pub returns : goal.returns
returns g c =
    let source = g.S.Source in
    let sink = g.K.Sink in
    let disk = g.D.Disk in
    let before = outside source sink disk c.args.source.now c.args.sink.now c.args.disk in
    let after = outside source sink disk c.run.new.source c.run.new.sink c.run.result.disk in
    subst (λ (t : List ℕ). RunEnds (block_reads t) before after c.run.result.status) (c.as_str.ensures.value ∙ c.in-Ok.ensures) c.run.ensures

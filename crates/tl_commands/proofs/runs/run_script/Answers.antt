use Rattle.std.proofs.Common.{◌∙◌, arith, ap, sym, subst}
use Rattle.tl_types.specs.Limits.{standard_limits}
use Rattle.tl_script.specs.Reader.{ScriptState, new_state}
use Rattle.tl_command.specs.Coming.{script_coming, HasNotBegun}
use Rattle.tl_commands.specs.Runs.{RunEnds}
use Rattle.tl_command.specs.Outside.{outside}
use Rattle.tl_command.proofs.ScriptComing.{new_script_fresh}
use Rattle.tl_commands.proofs.runs.run_script.Goals as goal

pub run-requires-after_bounds : goal.run-requires-after_bounds
run-requires-after_bounds g c κs within = subst (λ (s : ScriptState). HasNotBegun (script_coming s)) (sym (c.new-script.ensures ∙ ap new_state c.standard.ensures)) (new_script_fresh standard_limits (omega arith))

pub returns : goal.returns
returns g c =
    let source = g.S.Source in
    let sink = g.K.Sink in
    let disk = g.D.Disk in
    let before = outside source sink disk c.args.source.now c.args.sink.now c.args.disk in
    let after = outside source sink disk c.run.new.source c.run.new.sink c.run.result.disk in
    subst (λ (s : ScriptState). RunEnds (script_coming s).reads before after c.run.result.status) (c.new-script.ensures ∙ ap new_state c.standard.ensures) c.run.ensures

use Rattle.std.proofs.Common.{◌∙◌, arith, ap, refl, sym, subst}
use Rattle.tl_types.specs.Entries.{commits_of}
use Rattle.tl_types.specs.Limits.{standard_limits}
use Rattle.tl_script.specs.Reader.{ScriptState, new_state}
use Rattle.tl_command.specs.Coming.{script_coming, HasNotBegun}
use Rattle.tl_command.specs.Outside.{streams}
use Rattle.tl_command.proofs.ScriptComing.{new_script_fresh}
use Rattle.tl_commands.specs.Stopping.{RunStops}
use Rattle.tl_asking.specs.Answers.{AreAnswered}
use Rattle.tl_asking.proofs.asking.ask_over.Goals as goal

pub answer_phases-stop-requires-clause-fresh : goal.answer_phases-stop-requires-clause-fresh
answer_phases-stop-requires-clause-fresh g c κs within = subst (λ (s : ScriptState). HasNotBegun (script_coming s)) (sym (c.new-script.ensures ∙ ap new_state c.standard.ensures)) (new_script_fresh standard_limits (omega arith))

pub returns : goal.returns
returns g c =
    let source = g.S.Source in
    let sink = g.K.Sink in
    let before = streams source sink c.args.source.now c.args.sink.now in
    let at = streams source sink c.answer_phases-stop.new.source c.answer_phases-stop.new.sink in
    record {
      why = c.answer_phases-stop.result;
      at = at;
      stops = subst (λ (s : ScriptState). RunStops (AreAnswered (commits_of c.args.snapshot.now)) (script_coming s).reads c.answer_phases-stop.result before at) (c.new-script.ensures ∙ ap new_state c.standard.ensures) c.answer_phases-stop.ensures;
      left_same = refl {a = source.left c.answer_phases-stop.new.source};
      source_same = refl {a = source.faults c.answer_phases-stop.new.source};
      closes = c.close_run.ensures;
    }

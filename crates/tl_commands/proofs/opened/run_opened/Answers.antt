use Rattle.std.proofs.Common.{◌≡◌, ◌∙◌, ◌+◌, ℕ, List, subst}
use mathlib.Core.List.{IsPrefix}
use Rattle.tl_types.specs.declared.commits.Entry.{Entry}
use Rattle.tl_engine.specs.Counting.{news}
use Rattle.tl_command.specs.Outside.{streams}
use Rattle.tl_commands.proofs.FinishLemmas.{finished}
use Rattle.tl_commands.proofs.opened.run_opened.Goals as goal

pub returns : goal.returns
returns g c =
    let source = g.S.Source in
    let sink = g.K.Sink in
    let disk = g.D.Disk in
    let named = g.J.Named in
    let shared = c.run_phases-stop.new.running.shared in
    let last = c.close-closed.result.snapshot in
    let before = streams source sink c.args.source.now c.args.sink.now in
    let after = streams source sink c.run_phases-stop.new.source c.run_phases-stop.new.sink in
    rw (c.finish.ensures.stop, c.finish.ensures.disk)
    (finished disk c.args.attached.begun.value c.close-closed.result.disk c.args.attached.opening.history.entries named.first_entries c.new.result.seen shared.seen last c.args.attached.opening.history.first_count named.first_count shared.amount named.told (g.P.Phases.coming c.args.phases).reads before after c.run_phases-stop.result c.finish.result.broke
    c.requires.names.entries_are c.requires.names.count_is c.requires.told c.requires.whole c.sessions_make_a_transcript.ensures c.lone_sessions_play.ensures (c.new.ensures.seen ∙ c.start-engine.ensures.pass.1)
    (subst (λ (es : List Entry). IsPrefix es last) c.into_parts-pass.ensures.seen c.close-closed.ensures.seen) c.close-closed.ensures.first_entries
    (subst (λ (n : ℕ). news named.first_entries + n ≡ news last) c.into_parts-pass.ensures.amount c.close-closed.ensures.counted)
    c.close-closed.ensures.legal c.close-closed.ensures.whole c.close-closed.ensures.leaves c.close-closed.ensures.reads c.close-closed.ensures.count c.finish.ensures.broke c.run_phases-stop.ensures.stops)

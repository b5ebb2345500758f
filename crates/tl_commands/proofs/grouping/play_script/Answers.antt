use Rattle.std.proofs.Common.{◌∙◌, arith, ap, None, sym, subst, inl, inr}
use Rattle.tl_types.specs.Limits.{standard_limits}
use Rattle.tl_script.specs.Reader.{ScriptState, new_state}
use Rattle.tl_group.specs.Attaching.{as_history, history_of}
use Rattle.tl_group.specs.Keeping.{commits_in}
use Rattle.tl_command.specs.Coming.{script_coming, HasNotBegun}
use Rattle.tl_command.specs.Outside.{outside}
use Rattle.tl_command.proofs.ScriptComing.{new_script_fresh}
use Rattle.tl_commands.specs.Grouping.{GroupEndsBy}
use Rattle.tl_commands.proofs.DiskLemmas.{none_waiting}
use Rattle.tl_command.proofs.OpenedLemmas.{ends_refused, opens_with}
use Rattle.tl_commands.proofs.grouping.play_script.Goals as goal

pub play_group-requires-clause-fresh : goal.play_group-requires-clause-fresh
play_group-requires-clause-fresh g c κs within = subst (λ (s : ScriptState). HasNotBegun (script_coming s)) (sym (c.new-phases.ensures ∙ ap new_state c.standard-limits.ensures)) (new_script_fresh standard_limits (omega arith))

pub returns-in-Err : goal.returns-in-Err
returns-in-Err g c =
    let source = g.S.Source in
    let sink = g.K.Sink in
    let disks = g.D.Disk in
    inl (ends_refused disks c.args.disk c.standard-limits.result (as_history disks.faults c.attach.result) c.in-Err.field-0 (source.left c.args.source.now) (sink.written c.args.sink.now) (sink.written c.end_refused.new.sink) (source.faults c.args.source.now) (sink.faults c.args.sink.now) (sink.faults c.end_refused.new.sink) c.end_refused.result c.attach.ensures.opens (ap (as_history disks.faults) c.in-Err.is) c.standard-limits.ensures c.end_refused.ensures)

pub returns-in-Ok : goal.returns-in-Ok
returns-in-Ok g c =
    let source = g.S.Source in
    let sink = g.K.Sink in
    let disks = g.D.Disk in
    let group = c.in-Ok.group in
    let before = outside source sink disks c.args.source.now c.args.sink.now c.args.disk in
    let after = outside source sink disks c.play_group.new.source c.play_group.new.sink c.play_group.result.disk in
    inr (
      commits_in group,
      record {
        opens = opens_with disks c.args.disk c.standard-limits.result (history_of disks.faults group) (source.left c.args.source.now) (sink.written c.args.sink.now) (source.faults c.args.source.now) (sink.faults c.args.sink.now) c.in-Ok.ensures.opens c.standard-limits.ensures;
        ends = subst (λ (s : ScriptState). GroupEndsBy c.args.means.now.stops_at_refusal None (script_coming s).reads (commits_in group) before after c.play_group.result.status) (c.new-phases.ensures ∙ ap new_state c.standard-limits.ensures)
            (c.play_group.ensures None c.args.disk tt (record {
              journal_is = none_waiting group c.in-Ok.ensures.none_waits;
              count_same = c.in-Ok.ensures.opens.count.1;
              stands = c.in-Ok.ensures.stands;
            }));
      },
    )

use Rattle.std.proofs.Common.{◌∙◌, sym, subst, IfSome, inl, inr, refl, le_refl}
use Rattle.tl_types.specs.declared.limits.Limits.{Limits}
use Rattle.tl_types.specs.Entries.{commits_of}
use Rattle.tl_types.specs.Legality.{FitInTurn}
use Rattle.tl_replay.specs.Fitting.{IsDamaged}
use Rattle.tl_command.specs.Outside.{outside, OpensWith}
use Rattle.tl_commands.proofs.RunEndLemmas.{opened_ends}
use Rattle.tl_command.proofs.OpeningLemmas.{either_of, refused_by}
use Rattle.tl_commands.proofs.runs.run.Goals as goal

pub returns-in-Err : goal.returns-in-Err
returns-in-Err g c =
    let source = g.S.Source in
    let sink = g.K.Sink in
    let disk = g.D.Disk in
    let before = outside source sink disk c.args.source.now c.args.sink.now c.args.disk in
    let after = outside source sink disk c.args.source.now c.end_refused.new.sink c.in-Err.field-0.disk in
    inl (record {
      fault = c.in-Err.field-0.fault;
      refused = refused_by c.in-Err.field-0.fault before after
          (λ e. either_of (c.in-Err.ensures.opens.no_memory e)
          (λ h. (record { reads_same = h.0.reads_same; no_more = h.0.no_more }, h.1))
          (λ h b told. let k = h b told in (k.0, k.1, k.2.reads_as, k.2.only)))
          (λ len e. let h = c.in-Err.ensures.opens.too_short len e in (h.0, h.1, record { reads_same = h.2.reads_same; no_more = h.2.no_more }, c.in-Err.ensures.opens.no_less len e))
          (λ len e. c.in-Err.ensures.opens.not_long len e)
          (λ at e.
          let h = c.in-Err.ensures.opens.damaged at e in (
            subst (λ (l : Limits). IfSome (disk.reads c.args.disk) (IsDamaged l at)) c.standard.ensures h.0,
            record { reads_same = h.1.reads_same; no_more = h.1.no_more },
            λ b told. let s = c.in-Err.ensures.opens.durable at e b told in (s.reads_as, s.only),
          ));
      counts = c.in-Err.ensures.opens.faults;
      unread = (refl, refl);
      keeps = record {
        same_or_trimmed = c.in-Err.ensures.opens.reads;
        leaves = c.in-Err.ensures.opens.now;
      };
      honest = λ b cs told stands fit.
          c.in-Err.ensures.opens.honest b cs c.standard.result told stands (record { tables = le_refl _; rows = le_refl _; versions = le_refl _ }) (subst (λ (l : Limits). FitInTurn l cs) (sym c.standard.ensures) fit);
      ends = c.end_refused.ensures;
    })

pub returns-in-Ok : goal.returns-in-Ok
returns-in-Ok g c =
    let source = g.S.Source in
    let sink = g.K.Sink in
    let disk = g.D.Disk in
    let opening = c.in-Ok.opening in
    let entries = opening.history.entries in
    let before = outside source sink disk c.args.source.now c.args.sink.now c.args.disk in
    let opens : OpensWith (commits_of entries) before =
    record {
      fitting = subst (λ (l : Limits). FitInTurn l (commits_of entries)) (c.in-Ok.ensures.opens.limits ∙ c.standard.ensures) c.in-Ok.ensures.opens.opened.fitting;
      stands = λ b told. c.in-Ok.ensures.opens.image b told;
    } in
    inr (
      commits_of entries,
      opened_ends disk c.args.disk c.run_opened-stop.result.disk entries opening.history.first_count (g.P.Phases.coming c.args.paced.of).reads
          (source.left c.args.source.now) (source.left c.run_opened-stop.new.source) (source.faults c.args.source.now) (source.faults c.run_opened-stop.new.source) (sink.written c.args.sink.now) (sink.written c.run_opened-stop.new.sink) (sink.written c.close_run.new.sink) (sink.faults c.args.sink.now) (sink.faults c.run_opened-stop.new.sink) (sink.faults c.close_run.new.sink)
          c.run_opened-stop.result.stop c.run_opened-stop.result.broke c.faults-faults.result c.close_run.result c.in-Ok.ensures.opens.count.0 c.faults-faults.ensures opens (rw c.of-begun.ensures at c.run_opened-stop.ensures) c.close_run.ensures,
    )

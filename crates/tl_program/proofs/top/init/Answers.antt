use Rattle.std.proofs.Common.{◌∙◌, ap, Err, refl, inl, inr}
use Rattle.tl_command.specs.Outside.{outside_from}
use Rattle.tl_command.proofs.OpeningLemmas.{not_made}
use Rattle.tl_program.proofs.top.init.Goals as goal

pub returns-in-Ok : goal.returns-in-Ok
returns-in-Ok g c = λ left faults. inl (record {
  ends = (refl, refl, refl);
  sure = rw c.in-Ok.is at c.init-done.ensures.sure;
  made = λ b told.
      let stored = rw c.in-Ok.is at (c.init-done.ensures.stored b told) in
      (rw c.in-Ok.is at (c.init-done.ensures.short b told), stored.reads_as, stored.only);
})

pub returns-in-Err : goal.returns-in-Err
returns-in-Err g c = λ left faults.
    let sink = g.K.Sink in
    let disk = g.D.Disk in
    let before = outside_from sink disk left faults c.args.sink.now c.args.disk in
    let after = outside_from sink disk left faults c.end_refused.new.sink c.init-done.result.disk in
    inr (record {
      fault = c.in-Err.fault;
      refused = not_made c.in-Err.fault before after c.init-done.ensures.now
          (λ e.
          let kept = c.init-done.ensures.no_memory (c.in-Err.is ∙ ap Err e) in
          (record { reads_same = kept.0.reads_same; no_more = kept.0.no_more }, kept.1))
          (λ len e. c.init-done.ensures.not_short len (c.in-Err.is ∙ ap Err e))
          (λ at e. c.init-done.ensures.not_damaged at (c.in-Err.is ∙ ap Err e))
          (λ len e. (
            c.init-done.ensures.too_long len (c.in-Err.is ∙ ap Err e),
            let kept = c.init-done.ensures.kept len (c.in-Err.is ∙ ap Err e) in
                record { reads_same = kept.reads_same; no_more = kept.no_more },
            c.init-done.ensures.no_less len (c.in-Err.is ∙ ap Err e),
          ));
      counts = rw c.in-Err.is at c.init-done.ensures.faults;
      ends = c.end_refused.ensures;
    })

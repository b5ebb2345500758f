use Rattle.std.proofs.Common.{rules, ◌∙◌, ap, refl, arith, map, subst}
use Rattle.tl_head.specs.Passes.{PassValue}
use Rattle.tl_jobs.specs.Jobs.{job_of}
use Rattle.tl_session.specs.Phases.{AllTendOn}
use Rattle.tl_session.proofs.SharedLemmas.{none_run, parts_back, phase_done, written_back}
use Rattle.tl_session.proofs.phases.run_phase.Goals as goal

pub returns-in_default : goal.returns-in_default
returns-in_default g c = record {
  runs = none_run (map job_of c.args.jobs.now) _ c.args.shared.now _ c.shared.view_is (ap (λ (p : PassValue). p.table) c.sessions_of.ensures.pass) (ap (λ (p : PassValue). p.seen) c.sessions_of.ensures.pass) (search rules) c.sessions_of.ensures.amount refl;
  tended = tt;
}

pub invariant_of-shared-2 : goal.invariant_of-shared-2
invariant_of-shared-2 g c =
    let back = parts_back (map job_of c.args.jobs.now) c.in-Ok.sessions.items c.run_all.new.sessions.items _ c.hand_out-replies.new.sessions _ c.sessions_of.new.share.parts c.shared.inside.share.parts c.take_in.new.share.parts c.run_all.ensures.count c.run_all.ensures.each (search rules) c.hand_out-replies.ensures.kept (written_back c.run_all.new.sessions.len c.hand_out-replies.new.sessions _ c.run_all.new.sessions.items c.hand_out-replies.ensures.kept.count c.as_mut_slice.ensures.len) c.in-Ok.ensures.parts c.take_in.ensures.parts in
    (c.take_in.ensures.own ∙ ap (λ (p : PassValue). p.table) c.sessions_of.ensures.pass ∙ c.shared.invariant.0, omega (arith, back, c.shared.invariant.1))

pub returns : goal.returns
returns g c =
    let back = parts_back (map job_of c.args.jobs.now) c.in-Ok.sessions.items c.run_all.new.sessions.items _ c.hand_out-replies.new.sessions _ c.sessions_of.new.share.parts c.shared.inside.share.parts c.take_in.new.share.parts c.run_all.ensures.count c.run_all.ensures.each (search rules) c.hand_out-replies.ensures.kept (written_back c.run_all.new.sessions.len c.hand_out-replies.new.sessions _ c.run_all.new.sessions.items c.hand_out-replies.ensures.kept.count c.as_mut_slice.ensures.len) c.in-Ok.ensures.parts c.take_in.ensures.parts in
    let same = c.sessions_of.ensures.pass in
    let done = phase_done c.args.pace.now.every c.args.jobs.now _ c.args.shared.now _ c.in-Ok.sessions.items c.run_all.new.sessions.items _ c.hand_out-replies.new.sessions _ c.hand_out-replies.result c.shared.view_is c.in-Ok.ensures.fresh c.in-Ok.ensures.count c.run_all.ensures.count c.requires.sessions c.run_all.ensures.each (search rules) c.hand_out-replies.ensures.kept (written_back c.run_all.new.sessions.len c.hand_out-replies.new.sessions _ c.run_all.new.sessions.items c.hand_out-replies.ensures.kept.count c.as_mut_slice.ensures.len) c.hand_out-replies.ensures.whole c.hand_out-replies.ensures.told (c.take_in.ensures.own ∙ ap (λ (p : PassValue). p.table) same) back refl (search rules) c.take_in.ensures.seen (omega (arith, c.take_in.ensures.amount, c.sessions_of.ensures.amount)) (subst (λ k. AllTendOn k c.in-Ok.sessions.items c.run_all.new.sessions.items) c.every-k.ensures c.run_all.ensures.tends) in
    record { runs = done.0; tended = done.1 }
